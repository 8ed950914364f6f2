-- Beginnings of events.
use Rattle.std.proofs.Common.{◌≡◌, ◌<◌, max, sym, ◌+◌, ℕ, Bool, List, [], ◌∷◌, refl, subst, length, take, take-take, length-take, arith, true, false, leb}
use Rattle.std.proofs.lemmas.Bool.{leb-true, leb-false}
use Rattle.std.proofs.lemmas.List.{take_all}
use Rattle.flume_model.specs.Log.{Opening}
use Rattle.judge_calls.specs.declared.event.Event.{Event}
use Rattle.judge_calls.specs.Explanations.{IsExplained}
use Rattle.judge_search.specs.Search.{AreExplained, UnexplainedAfter}

module _ {T A : Type 0} (equal : T → T → Bool) where
  -- no events are explained
  pub none_explained : (o : Opening) → IsExplained {T = T} {A = A} equal o []
  none_explained o = ([], refl, record { calls = tt; run = tt })

  pub none_of : (o : Opening) (events : List (Event T A)) (count : ℕ) → count ≡ 0 → AreExplained equal o events count
  none_of o events count is = subst (AreExplained equal o events) (sym is)
      (record { within = omega arith; explained = none_explained o })

  -- so there are some, if they aren't
  pub some_events : (o : Opening) (events : List (Event T A)) → (IsExplained equal o events → ⊥) → 0 < length events
  some_events o [] not_with_next = absurd (not_with_next (none_explained o))
  some_events o (event ∷ events) not_with_next = omega arith

  -- all of them aren't
  pub all_not_on : (o : Opening) (events : List (Event T A)) → (IsExplained equal o events → ⊥)
      → IsExplained equal o (take (length events) events) → ⊥
  all_not_on o events not_with_next explained = not_with_next
      (subst (IsExplained equal o) (take_all (length events) events (omega arith)) explained)

  -- so many of a beginning of the events are so many of the events
  pub explained_on : (o : Opening) (events : List (Event T A)) (n count : ℕ) → AreExplained equal o (take n events) count
      → AreExplained equal o events count
  explained_on o events n count current =
      let size = length-take n events in
      let within = current.within in
      record {
        within = omega arith;
        explained = subst (IsExplained equal o) (take-take count n events (omega arith)) current.explained;
      }

  -- all events
  pub all_of : (o : Opening) (events : List (Event T A)) → IsExplained equal o events → AreExplained equal o events (length events)
  all_of o events explained = record {
    within = omega arith;
    explained = subst (IsExplained equal o) (sym (take_all (length events) events (omega arith))) explained;
  }

  -- the further one of two beginnings that are explained
  further_explained : (o : Opening) (events : List (Event T A)) (n m : ℕ) → AreExplained equal o events n → AreExplained equal o events m
      → AreExplained equal o events (max n m)
  further_explained o events n m one other = by (leb n m) refl
    where
      by : (b : Bool) → leb n m ≡ b → AreExplained equal o events (max n m)
      by true is = subst (AreExplained equal o events) (let less = leb-true n m is in let same : m ≡ max n m = omega arith in same) other
      by false is = subst (AreExplained equal o events) (let less = leb-false n m is in let same : n ≡ max n m = omega arith in same) one

  -- the further one of two beginnings that are explained, of events that aren't
  pub unexplained_after : (o : Opening) (events : List (Event T A)) (low count place : ℕ) → low < length events → count < length events
      → IsExplained equal o (take low events) → AreExplained equal o (take count events) place → (IsExplained equal o events → ⊥)
      → UnexplainedAfter equal o events (max low place)
  unexplained_after o events low count place few fewer low_is place_is not_all =
      let size = length-take count events in
      let within = place_is.within in
      let both = further_explained o events low place (record { within = omega arith; explained = low_is })
      (explained_on o events count place place_is) in
      record { is_within = omega arith; before = both.explained; not_all = not_all }
