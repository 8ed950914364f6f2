-- If all receivers block, no more is queued than the greatest capacity so far.
use Rattle.flume_model.proofs.Common.{◌≡◌, ℕ, ◌+◌, ◌-◌, ◌≤◌, Bool, true, false, not, ◌&&◌, [], ◌∷◌, Option, Some, None, refl, sym, arith}
use Rattle.flume_model.proofs.Common.{max}
use Rattle.flume_model.proofs.Common.{subst, cond-true, cond-false, All-head, All-tail, parks_blocking, OnlyBlockingReceivers}
use Rattle.flume_model.proofs.Common.{IsAtMostCapacity, Channel, channel, is_over, some_wait, round_fills, HasRoom, queue_len, greater}
use Rattle.flume_model.proofs.Common.{greatest}
use Rattle.flume_model.proofs.Common.{queue_len_after, capacity_after, queue, fill_count, Log, Opening, Change, Queues, Takes, Drains}
use Rattle.flume_model.proofs.Common.{Leaves, Resizes, change, capped}
use Rattle.flume_model.proofs.Common.{entries, is_closed_after, IsRun, Reply, Step, common_steps}
use Rattle.flume_model.proofs.LawfulReplyLemmas.{Fits}
use Rattle.flume_model.proofs.waits.WaitingStepLemmas.{stepped}
use Rattle.flume_model.proofs.waits.WaitingLaws.{covered, waits_while_open, woken_block_while_closed}
use Rattle.flume_model.proofs.users.BlockEntryLemmas.{AllBlock, round_fills_one, none_woken, parks_block, block_after}

-- less is at most the greatest capacity too
less_within : (g c : Option ℕ) (n m : ℕ) → n ≤ m → IsAtMostCapacity g m → IsAtMostCapacity (greater g c) n
less_within g c n m le h = grind (arith, common_steps)

-- if there is room for one more, it is within the capacity
room_within : (g c : Option ℕ) (n m : ℕ) → m ≤ n + 1 → HasRoom c n → IsAtMostCapacity (greater g c) m
room_within g c n m le h = grind (arith, common_steps)

-- what is queued if one was taken
taken_within : (g c : Option ℕ) (n long : ℕ) → IsAtMostCapacity g n → IsAtMostCapacity (greater g c) (max (n - 1) (capped c long))
taken_within g c n long h = grind (arith, common_steps)

-- what is queued if the capacity was set
resized_within : (g : Option ℕ) (new n long : ℕ) → IsAtMostCapacity g n
    → IsAtMostCapacity (greater g (Some new)) (max n (capped (Some new) long))
resized_within None new n long h = tt
resized_within (Some g) new n long h = omega arith

-- what is queued after a drain
drained_within : (g c : Option ℕ) (long : ℕ) → IsAtMostCapacity (greater g c) (capped c long)
drained_within g c long = grind (arith, common_steps)

-- nothing is within each capacity
none_within : (c : Option ℕ) (n : ℕ) → n ≡ 0 → IsAtMostCapacity c n
none_within c n e = grind (arith, common_steps)

module _ {T : Type 0} where
  -- if a message joins the queue
  queues_within : (g : Option ℕ) (c : Channel T) (m : T) → (some_wait c.entries ≡ true → c.queue_len ≡ 0) → AllBlock c.entries
      → (some_wait c.entries ≡ false → HasRoom c.capacity c.queue_len)
      → IsAtMostCapacity (greater g c.capacity) (c.queue_len + 1 - fill_count (round_fills c.entries))
  queues_within g c m empty block room = by_case (some_wait c.entries) refl
    where
      by_case : (b : Bool) → some_wait c.entries ≡ b
          → IsAtMostCapacity (greater g c.capacity) (c.queue_len + 1 - fill_count (round_fills c.entries))
      by_case true some =
          let one = round_fills_one c.entries block some in
          let none = empty some in
          none_within (greater g c.capacity) _ (omega arith)
      by_case false none = room_within g c.capacity c.queue_len _ (omega arith) (room none)

  -- after a change that fits
  within_by : (g : Option ℕ) (c : Channel T) (n : ℕ) (done : Change T) → (some_wait c.entries ≡ true → c.queue_len ≡ 0)
      → AllBlock c.entries → Fits c done → IsAtMostCapacity g c.queue_len
      → IsAtMostCapacity (greater g (capacity_after c.capacity done)) (queue_len_after (capacity_after c.capacity done) n c.queue_len done)
  within_by g c n (Queues m filled) empty block h before =
      let Within : Option ℕ → Type 0 = λ f. IsAtMostCapacity (greater g c.capacity) (c.queue_len + 1 - fill_count f) in
      subst Within (sym h.1) (queues_within g c m empty block h.0.1)
  within_by g c n (Takes m receiver) empty block h before = taken_within g c.capacity c.queue_len n before
  within_by g c n (Drains list) empty block h before = drained_within g c.capacity n
  within_by g c n (Leaves t filled) empty block h before = less_within g c.capacity _ c.queue_len (omega arith) before
  within_by g c n (Resizes new) empty block h before = resized_within g new c.queue_len n before
  within_by g c n _ empty block h before = less_within g c.capacity _ c.queue_len (omega arith) before

module _ {T A : Type 0} where
  -- a step that parks none of another kind makes such a change
  change_parks : (past : Log T A) (step : Step T) (reply : Reply T A) → parks_blocking step ≡ true
      → parks_block (change past step reply) ≡ true
  change_parks past step reply e = grind (arith, common_steps)

  -- all entries block
  entries_block : (o : Opening) (log : Log T A) → OnlyBlockingReceivers log → AllBlock (entries o log)
  entries_block o [] only = tt
  entries_block o (p ∷ past) only =
      by_case (is_over (p ∷ past)) refl (entries_block o past (All-tail (λ q. parks_blocking q.0 ≡ true) p past only))
    where
      by_case : (b : Bool) → is_over (p ∷ past) ≡ b → AllBlock (entries o past) → AllBlock (entries o (p ∷ past))
      by_case true over rest = subst AllBlock (sym (cond-true (is_over (p ∷ past)) [] _ over)) tt
      by_case false still rest =
          subst AllBlock (sym (cond-false (is_over (p ∷ past)) [] _ still))
          (block_after (queue o past) (not (is_closed_after past) && is_closed_after (p ∷ past)) (entries o past) (change past p.0 p.1) rest
          (change_parks past p.0 p.1 (All-head (λ q. parks_blocking q.0 ≡ true) p past only)))

  -- while one of them waits nothing is queued
  none_queued : (o : Opening) (log : Log T A) → IsRun o log → OnlyBlockingReceivers log → some_wait (entries o log) ≡ true
      → queue_len o log ≡ 0
  none_queued o log run only some =
      grind (
        arith,
        common_steps,
        woken_block_while_closed o log run,
        waits_while_open o log run some,
        none_woken (entries o log) (entries_block o log only),
        covered o log run some,
      )

  -- after one more pair of a run
  within_more : (o : Opening) (past : Log T A) (p : Step T × Reply T A) → IsRun o (p ∷ past) → OnlyBlockingReceivers past
      → IsAtMostCapacity (greatest o past) (queue_len o past) → IsAtMostCapacity (greatest o (p ∷ past)) (queue_len o (p ∷ past))
  within_more o past p run only before = by_case (is_over (p ∷ past)) refl
    where
      by_case : (b : Bool) → is_over (p ∷ past) ≡ b → IsAtMostCapacity (greatest o (p ∷ past)) (queue_len o (p ∷ past))
      by_case true over = none_within (greatest o (p ∷ past)) _ (cond-true (is_over (p ∷ past)) 0 _ over)
      by_case false still =
          let s = stepped o past p run still in
          subst (IsAtMostCapacity (greatest o (p ∷ past))) (sym s.queue_len_is)
          (within_by (greatest o past) (channel o past) s.long (change past p.0 p.1) (none_queued o past run.1 only)
          (entries_block o past only) s.fit before)

  -- no more is queued than the greatest capacity so far
  pub within_capacity : (o : Opening) (log : Log T A) → IsRun o log → OnlyBlockingReceivers log
      → IsAtMostCapacity (greatest o log) (queue_len o log)
  within_capacity o [] run only = none_within o.capacity 0 refl
  within_capacity o (p ∷ past) run only =
      let others = All-tail (λ q. parks_blocking q.0 ≡ true) p past only in
      within_more o past p run others (within_capacity o past run.1 others)

  -- if the capacity was never above 0 nothing is queued
  pub rendezvous : (o : Opening) (log : Log T A) → IsRun o log → OnlyBlockingReceivers log → greatest o log ≡ Some 0 → queue_len o log ≡ 0
  rendezvous o log run only none =
      let Within : Option ℕ → Type 0 = λ c. IsAtMostCapacity c (queue_len o log) in
      let le : queue_len o log ≤ 0 = subst Within none (within_capacity o log run only) in
      omega arith
