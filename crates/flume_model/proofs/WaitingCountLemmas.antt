-- No more receivers wait after a wake round, nor after one leaves, nor once all are woken. So if
-- one waits then, one waited before.
use Rattle.flume_model.proofs.Common.{◌≡◌, ℕ, ◌≤◌, true, false, List, [], ◌∷◌, refl, arith, some_wait, waiting_count, round, round_for}
use Rattle.flume_model.proofs.Common.{without_ticket, after_leave, all_woken, Entry, common_steps}
use Rattle.flume_model.proofs.EntryCountLemmas.{counted_none, counted_some, round_counts}

module _ {T N : Type 0} where
  -- once all are woken none waits
  pub wait_woken : (notify : N → N) (es : List (Entry T N)) → some_wait (all_woken notify es) ≡ false
  wait_woken notify [] = refl
  wait_woken notify (e ∷ es) = grind (arith, common_steps, wait_woken notify es)

  -- after a wake round
  pub fewer_rounded : (notify : N → N) (queue : List T) (es : List (Entry T N))
      → waiting_count (round_for notify queue es) ≤ waiting_count es
  fewer_rounded notify [] es = omega arith
  fewer_rounded notify (m ∷ queue) es = (round_counts notify m es).no_more

  -- without the one with a ticket
  pub fewer_without : (t : ℕ) (es : List (Entry T N)) → waiting_count (without_ticket t es) ≤ waiting_count es
  fewer_without t [] = omega arith
  fewer_without t (e ∷ es) = grind (arith, common_steps, fewer_without t es)

  -- once that one has left
  pub fewer_after_leave : (notify : N → N) (t : ℕ) (queue : List T) (es : List (Entry T N))
      → waiting_count (after_leave notify t queue es) ≤ waiting_count es
  fewer_after_leave notify t queue es = grind (arith, common_steps, fewer_rounded notify queue (without_ticket t es), fewer_without t es)

  -- once all are woken
  pub fewer_woken : (notify : N → N) (es : List (Entry T N)) → waiting_count (all_woken notify es) ≤ waiting_count es
  fewer_woken notify es = let none = counted_none (all_woken notify es) (wait_woken notify es) in omega arith

  -- if one waits and no more waited before, one waited before
  wait_by : (after es : List (Entry T N)) → waiting_count after ≤ waiting_count es → some_wait after ≡ true → some_wait es ≡ true
  wait_by after es fewer some = grind (arith, common_steps, counted_some after, counted_none es)

  -- if one waits after a round, one waited before
  pub wait_round : (notify : N → N) (front : T) (es : List (Entry T N)) → some_wait (round notify front es) ≡ true → some_wait es ≡ true
  wait_round notify front es = wait_by (round notify front es) es (round_counts notify front es).no_more

  -- if one waits after a round for a queue, one waited before
  pub wait_round_for : (notify : N → N) (queue : List T) (es : List (Entry T N)) → some_wait (round_for notify queue es) ≡ true
      → some_wait es ≡ true
  wait_round_for notify queue es = wait_by (round_for notify queue es) es (fewer_rounded notify queue es)

  -- if one of the others waits
  pub wait_without : (t : ℕ) (es : List (Entry T N)) → some_wait (without_ticket t es) ≡ true → some_wait es ≡ true
  wait_without t es = wait_by (without_ticket t es) es (fewer_without t es)

  -- if one waits after another leaves, one waited before
  pub wait_after_leave : (notify : N → N) (t : ℕ) (queue : List T) (es : List (Entry T N))
      → some_wait (after_leave notify t queue es) ≡ true
      → some_wait es ≡ true
  wait_after_leave notify t queue es = wait_by (after_leave notify t queue es) es (fewer_after_leave notify t queue es)
