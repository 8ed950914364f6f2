-- The start is dead if the level is, and each level if the next one is; one with no configuration is dead.
use Rattle.std.proofs.Common.{◌≡◌, ◌++◌, ◌∷◌, [], length, refl, sym, ap, ◌∙◌, arith, vec_len}
use Rattle.std.proofs.lemmas.Bool.{eqb-true}
use Rattle.judge_search.specs.Search.{configuration_at}
use Rattle.judge_search.proofs.LevelLemmas.{only_start, no_more}
use Rattle.judge_search.proofs.levels.find_path.Goals as goal

pub loop-place-init : goal.loop-place-init
loop-place-init g c = record {
  dead = λ all. only_start g.T.PartialEq.eq c.args.events.now c.add.new.self.seen.list.items c.args.start
      (c.add.ensures.added c.if-not-add.false ∙ ap (λ l. l ++ configuration_at 0 c.args.start ∷ []) c.new-level.ensures.none) all;
}

pub returns-in-Next : goal.returns-in-Next
returns-in-Next g c = record {
  nothing = λ place is.
      let none = eqb-true (vec_len c.in-Next.next.seen.list) 0 (sym c.is_empty.ensures ∙ c.if-is_empty.true) in
      let empty : length c.in-Next.next.seen.list.items ≡ 0 = omega (arith, none, c.in-Next.next.seen.list.ok) in
      c.loop-place.invariant.dead (c.in-Next.ensures.next c.in-Next.next refl
      (no_more g.T.PartialEq.eq c.args.events.now c.in-Next.next.seen.list.items empty));
}

pub returns-in-AtEnd : goal.returns-in-AtEnd
returns-in-AtEnd g c = record { nothing = λ place is. absurd (c.path_result.ensures.some place is) }

pub returns-in-GaveUp : goal.returns-in-GaveUp
returns-in-GaveUp g c = record { nothing = λ place is. absurd (c.gave_up.ensures.some place is) }

pub loop-place-preserved : goal.loop-place-preserved
loop-place-preserved g c = record {
  dead = λ all. c.loop-place.invariant.dead (c.in-Next.ensures.next c.in-Next.next refl all);
}
