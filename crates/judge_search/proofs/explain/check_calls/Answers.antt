-- If nothing comes of the start, nothing explains the events; what the search reaches is explained.
use Rattle.std.proofs.Common.{◌≡◌, refl, sym, ◌∙◌, subst}
use Rattle.flume_model.specs.Log.{opens}
use Rattle.judge_search.specs.Search.{AreExplained}
use Rattle.judge_search.proofs.explain.check_calls.Goals as goal
use Rattle.judge_search.proofs.explain.check_calls.Goals.{in-Path, in-Nothing, in-NoMemory, in-GaveUp}

pub find_break-requires : goal.find_break-requires
find_break-requires g c =
    c.in-Nothing.ensures.nothing c.in-Nothing.place refl

pub returns-clause-explained : goal.returns-clause-explained
returns-clause-explained g c = λ is. elim c.match-find_choices.branch [
  | in-Path w ↦ w.in-Path.ensures.path w.in-Path.field-0 refl
  | in-Nothing w ↦ absurd (w.find_break.ensures.found (sym w.result-is ∙ is))
  | in-NoMemory w ↦ let k = w.result-is in absurd (let none : ⊥ = cc in none)
  | in-GaveUp w ↦ let k = w.result-is in absurd (let none : ⊥ = cc in none)
]

pub returns-clause-breaks : goal.returns-clause-breaks
returns-clause-breaks g c = λ count is. elim c.match-find_choices.branch [
  | in-Path w ↦ let k = w.result-is in absurd (let none : ⊥ = cc in none)
  | in-Nothing w ↦ w.find_break.ensures.breaks count (sym w.result-is ∙ is)
  | in-NoMemory w ↦ let k = w.result-is in absurd (let none : ⊥ = cc in none)
  | in-GaveUp w ↦ let k = w.result-is in absurd (let none : ⊥ = cc in none)
]

pub returns-clause-unexplained : goal.returns-clause-unexplained
returns-clause-unexplained g c = λ count is. elim c.match-find_choices.branch [
  | in-Path w ↦ let k = w.result-is in absurd (let none : ⊥ = cc in none)
  | in-Nothing w ↦ w.find_break.ensures.unexplained count (sym w.result-is ∙ is)
  | in-NoMemory w ↦ let k = w.result-is in absurd (let none : ⊥ = cc in none)
  | in-GaveUp w ↦ let k = w.result-is in absurd (let none : ⊥ = cc in none)
]

pub returns-clause-gave_up : goal.returns-clause-gave_up
returns-clause-gave_up g c = λ count is. elim c.match-find_choices.branch [
  | in-Path w ↦ let k = w.result-is in absurd (let none : ⊥ = cc in none)
  | in-Nothing w ↦ absurd (w.find_break.ensures.decided count (sym w.result-is ∙ is))
  | in-NoMemory w ↦ let k = w.result-is in absurd (let none : ⊥ = cc in none)
  | in-GaveUp w ↦
      let k = w.result-is in
      let same : count ≡ w.in-GaveUp.place = cc in
      subst (AreExplained g.T.PartialEq.eq (opens c.args.capacity 1) c.args.events.now) (sym same)
      (w.in-GaveUp.ensures.gave_up w.in-GaveUp.place refl)
]
