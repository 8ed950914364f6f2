-- A list of steps that is done in part, and what one that is done leaves.
use Rattle.std.proofs.Common.{◌≡◌, ◌≤◌, List, [], ◌∷◌, ◌++◌, refl, sym, ap, subst, append_assoc, arith}
use Rattle.std.proofs.lemmas.List.{append-nil}
use Rattle.flume_model.specs.declared.step.Step.{Step}
use Rattle.flume_model.specs.declared.step.Reply.{Reply}
use Rattle.flume_model.specs.Log.{Log, Opening}
use Rattle.flume_model.specs.Offers.{after}
use Rattle.flume_state.specs.State.{State}
use Rattle.flume_core.specs.Represents.{Represents}
use Rattle.flume_core.specs.Transitions.{IsTransition, AreTransitions}

module _ {T A S : Type 0} where
  -- of these steps, those before the rest are done and had these replies: once the rest is done too, all are
  abbrev pub DoneUpTo : State T S → State T S → List (Step T) → List (Step T) → List (Reply T A) → Type 0
  DoneUpTo old now steps rest replies =
      (later : List (Reply T A)) (new : State T S) → AreTransitions now rest later new
      → AreTransitions old steps (replies ++ later) new

  -- none is done yet
  pub none_done : (s : State T S) (steps : List (Step T)) → DoneUpTo s s steps steps []
  none_done s steps later new chain = chain

  -- one more is done
  pub one_more : (old now next : State T S) (steps rest : List (Step T)) (replies : List (Reply T A)) (step : Step T) (reply : Reply T A)
      → DoneUpTo old now steps (step ∷ rest) replies → IsTransition now step reply next
      → DoneUpTo old next steps rest (replies ++ reply ∷ [])
  one_more old now next steps rest replies step reply done made later new chain =
      subst (λ all. AreTransitions old steps all new) (sym (append_assoc replies (reply ∷ []) later))
      (done (reply ∷ later) new (next, made, chain))

  -- all are done
  pub all_done : (old now : State T S) (steps rest : List (Step T)) (replies : List (Reply T A)) → DoneUpTo old now steps rest replies
      → rest ≡ [] → AreTransitions old steps replies now
  all_done old now steps rest replies done none =
      let whole : DoneUpTo old now steps [] replies = subst (λ left. DoneUpTo old now steps left replies) none done in
      subst (λ all. AreTransitions old steps all now) (append-nil replies) (whole [] now refl)

  -- what represented a log before them represents the longer log after them
  pub extended : (old new : State T S) (steps : List (Step T)) (replies : List (Reply T A)) → AreTransitions old steps replies new
      → (o : Opening) (log : Log T A) → Represents o log old → Represents o (after log steps replies) new
  extended old new [] [] is o log h = subst (λ s. Represents o log s) (sym is) h
  extended old new [] (reply ∷ replies) is o log h = absurd is
  extended old new (step ∷ steps) [] is o log h = absurd is
  extended old new (step ∷ steps) (reply ∷ replies) is o log h =
      extended is.0 new steps replies is.2 o ((step, reply) ∷ log) (is.1.extends o log h)

  -- the space never shrinks
  pub spacious : (old new : State T S) (steps : List (Step T)) (replies : List (Reply T A)) → AreTransitions old steps replies new
      → old.space ≤ new.space
  spacious old new [] [] is = let same = ap (λ (s : State T S). s.space) is in omega (arith, same)
  spacious old new [] (reply ∷ replies) is = absurd is
  spacious old new (step ∷ steps) [] is = absurd is
  spacious old new (step ∷ steps) (reply ∷ replies) is =
      let later = spacious is.0 new steps replies is.2 in
      let first = is.1.space in
      omega (arith, later, first)

  -- those after others are done with them
  pub joined : (old mid new : State T S) (steps later : List (Step T)) (replies answers : List (Reply T A))
      → AreTransitions old steps replies mid → AreTransitions mid later answers new
      → AreTransitions old (steps ++ later) (replies ++ answers) new
  joined old mid new [] later [] answers is next = subst (λ s. AreTransitions s later answers new) is next
  joined old mid new [] later (reply ∷ replies) answers is next = absurd is
  joined old mid new (step ∷ steps) later [] answers is next = absurd is
  joined old mid new (step ∷ steps) later (reply ∷ replies) answers is next =
      (is.0, is.1, joined is.0 mid new steps later replies answers is.2 next)
