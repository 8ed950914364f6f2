-- What is shown to a receiver stays so to the end of a run, and what it was handed before a fill.
use Rattle.std.proofs.Common.{◌≡◌, ℕ, ◌||◌, Bool, true, false, List, [], ◌∷◌, Option, Some}
use Rattle.std.proofs.Common.{None, refl, ap, arith}
use Rattle.std.proofs.lemmas.Bool.Decides.{nat_tests}
use Rattle.std.proofs.lemmas.Grind.{common_steps}
use Rattle.std.specs.Option.{option_or}
use mathlib.Core.List.{reverse_aux}
use Rattle.flume_model.specs.Log.{Log, Opening, is_ticket}
use Rattle.flume_model.specs.Counts.{is_over}
use Rattle.flume_model.specs.Fills.{shows_to, shown}
use Rattle.flume_model.specs.Replies.{IsRun}
use Rattle.flume_model.proofs.EntryShapeLemmas.{filled_if_named}
use Rattle.flume_model.proofs.LawfulReplyLemmas.{not_over_yet}
use Rattle.flume_model.proofs.fills.FillsShownLemmas.{shows_stood, unshown}
use Rattle.flume_actions.specs.Actions.{Action}
use Rattle.flume_laws.proofs.GotEffectLemmas.{as_list, in_hand}

module _ {T : Type 0} where
  -- another receiver than the one that is filled now was handed the same before
  pub in_hand_else : (shown : ℕ → Option T) (was : ℕ → Bool) (t : ℕ) (parked : Option ℕ)
      → is_ticket t parked ≡ false
      → in_hand shown (λ u. is_ticket u (Some t) || was u) parked ≡ in_hand shown was parked
  in_hand_else shown was t parked other = grind (arith, common_steps, nat_tests)

  -- the one that is filled was handed nothing
  pub in_hand_filled : (shown : ℕ → Option T) (was : ℕ → Bool) (t : ℕ) (parked : Option ℕ)
      → was t ≡ false → is_ticket t parked ≡ true
      → (in_hand shown (λ u. is_ticket u (Some t) || was u) parked ≡ as_list (shown t))
      × (in_hand shown was parked ≡ [])
  in_hand_filled shown was t parked empty is =
      (grind (arith, common_steps, nat_tests), grind (arith, common_steps, nat_tests))

module _ {T A : Type 0} where
  -- before a run came so far it was a run
  pub run_before : (o : Opening) (rest : List (Action T A)) (past : Log T A)
      → IsRun o (reverse_aux rest past) → IsRun o past
  run_before o [] past run = run
  run_before o (p ∷ rest) past run = (run_before o rest (p ∷ past) run).1

  -- and if it isn't over it wasn't
  pub open_before : (o : Opening) (rest : List (Action T A)) (past : Log T A)
      → IsRun o (reverse_aux rest past) → is_over (reverse_aux rest past) ≡ false
      → is_over past ≡ false
  open_before o [] past run still = still
  open_before o (p ∷ rest) past run still =
      let now = run_before o rest (p ∷ past) run in
      not_over_yet o past p (filled_if_named o past now.1) now
      (open_before o rest (p ∷ past) run still)

  -- what was shown to a receiver stays so after one more step
  shown_stays : (o : Opening) (past : Log T A) (p : Action T A) (t : ℕ) (m : T)
      → IsRun o (p ∷ past) → shown past t ≡ Some m → shown (p ∷ past) t ≡ Some m
  shown_stays o past p t m run was = by_now (shows_to t p.0 p.1) refl
    where
      by_now : (now : Option T) → shows_to t p.0 p.1 ≡ now
          → option_or now (shown past t) ≡ Some m
      by_now None is = was
      by_now (Some x) is =
          let stood = shows_stood o past p t x run is in
          let nothing = (unshown o past run.1).parked t stood.0 stood.1 in
          absurd (let none : ⊥ = cc in none)

  -- and to the end
  shown_to_end : (o : Opening) (rest : List (Action T A)) (past : Log T A) (t : ℕ) (m : T)
      → IsRun o (reverse_aux rest past) → shown past t ≡ Some m
      → shown (reverse_aux rest past) t ≡ Some m
  shown_to_end o [] past t m run was = was
  shown_to_end o (p ∷ rest) past t m run was =
      shown_to_end o rest (p ∷ past) t m run
      (shown_stays o past p t m (run_before o rest (p ∷ past) run) was)

  -- what a step shows is shown in the end
  pub shown_now : (o : Opening) (rest : List (Action T A)) (past : Log T A) (p : Action T A) (t : ℕ)
      (m : T) → IsRun o (reverse_aux rest (p ∷ past)) → shows_to t p.0 p.1 ≡ Some m
      → shown (reverse_aux rest (p ∷ past)) t ≡ Some m
  shown_now o rest past p t m run is =
      shown_to_end o rest (p ∷ past) t m run (ap (λ now. option_or now (shown past t)) is)
