-- What a change of the entries does to whether some receiver waits.
use Rattle.flume_model.proofs.Common.{◌≡◌, ℕ, Bool, true, false, List, [], ◌∷◌, Option, Some, None, refl, sym, ◌∙◌, ◌⊎◌, inl, inr, ap}
use Rattle.flume_model.proofs.Common.{is_woken, some_wait, round_fills, round_for_fills, entry_of, without_ticket, again_as}
use Rattle.flume_model.proofs.Common.{again, leave_fills, Entry, arith, common_steps}
use Rattle.flume_model.proofs.WaitingCountLemmas.{wait_without}

module _ {T N : Type 0} where
  -- a round fills only if one waits
  pub fills_waiting : (es : List (Entry T N)) (u : ℕ) → round_fills es ≡ Some u → some_wait es ≡ true
  fills_waiting [] u h = absurd (let none : ⊥ = cc in none)
  fills_waiting (e ∷ es) u h = grind (arith, common_steps, fills_waiting es u)

  -- a round for a queue fills only if one waits
  pub fills_waiting_for : (queue : List T) (es : List (Entry T N)) (u : ℕ) → round_for_fills queue es ≡ Some u → some_wait es ≡ true
  fills_waiting_for queue es u h = grind (arith, common_steps, fills_waiting es u)

  -- one that leaves fills another only if one waits
  pub leave_fills_waiting : (t : ℕ) (queue : List T) (es : List (Entry T N)) (u : ℕ) → leave_fills t queue es ≡ Some u
      → some_wait es ≡ true
  leave_fills_waiting t queue es u h = grind (arith, common_steps, wait_without t es, fills_waiting_for queue (without_ticket t es) u)

  -- if one waits after one asked again, one waited, or the one that asked was woken
  pub wait_again : (t : ℕ) (es : List (Entry T N)) → some_wait (again t es) ≡ true
      → (some_wait es ≡ true) ⊎ ((e : Entry T N) × (entry_of t es ≡ Some e) × (is_woken e.mark ≡ true))
  wait_again t es h = by_entry (entry_of t es) refl
    where
      by_entry : (found : Option (Entry T N)) → entry_of t es ≡ found
          → (some_wait es ≡ true) ⊎ ((e : Entry T N) × (entry_of t es ≡ Some e) × (is_woken e.mark ≡ true))
      by_entry None is = inl (sym (ap (λ found. some_wait (again_as t found es)) is) ∙ h)
      by_entry (Some e) is = by_case (is_woken e.mark) refl
        where
          by_case : (b : Bool) → is_woken e.mark ≡ b
              → (some_wait es ≡ true) ⊎ ((e : Entry T N) × (entry_of t es ≡ Some e) × (is_woken e.mark ≡ true))
          by_case true woken = inr (e, is, woken)
          by_case false not_woken =
              let same : again t es ≡ es = rw (is, not_woken) refl in
              inl (sym (ap some_wait same) ∙ h)
