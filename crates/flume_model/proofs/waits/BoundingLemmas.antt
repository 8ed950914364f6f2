-- Queued messages and waiting receivers are together at most the greater of the greatest capacity
-- and the most that waited at once.
use Rattle.flume_model.proofs.Common.{◌≡◌, ℕ, ◌+◌, ◌-◌, ◌≤◌, Bool, true, false, if◌then◌else◌, List, [], ◌∷◌, length, Option, Some, None}
use Rattle.flume_model.proofs.Common.{refl, sym, ◌∙◌, ap, arith, max, subst, subst₂, cond-true, Channel, channel, is_over, is_woken}
use Rattle.flume_model.proofs.Common.{some_wait, waiting_count, round, round_fills, all_woken, entry_of, without_ticket, HasRoom, queue_len}
use Rattle.flume_model.proofs.Common.{capacity}
use Rattle.flume_model.proofs.Common.{queue_len_after, capacity_after, greater, greatest, fill_count, Log, Opening, Change, Queues, Takes}
use Rattle.flume_model.proofs.Common.{Drains, Parks, Asks, Collects, Leaves}
use Rattle.flume_model.proofs.Common.{SenderLeaves, ReceiverLeaves, Resizes, change, capped, LogEntry, same_notice, entries_after, entries}
use Rattle.flume_model.proofs.Common.{peak, IsRun}
use Rattle.flume_model.proofs.Common.{IsWithinCapacity, Bounded, Reply, Step, common_steps}
use Rattle.flume_model.proofs.LawfulReplyLemmas.{Fits}
use Rattle.flume_model.proofs.WaitingCountLemmas.{wait_woken}
use Rattle.flume_model.proofs.WaitListLemmas.{fills_waiting}
use Rattle.flume_model.proofs.EntryListLemmas.{round_for_push, again_cases, leave_cases}
use Rattle.flume_model.proofs.EntryCountLemmas.{round_counts, without_counts, counted_none}
use Rattle.flume_model.proofs.waits.WaitingStepLemmas.{Stood, Long, stepped, nobody_once_over}

-- how many are queued and how many wait after a change, if both together were this many before
data LeavesWithin (capacity : Option ℕ) (was queued waits : ℕ) : Type 0 where
  -- no more of both together than before
  NoMore : queued + waits ≤ was → LeavesWithin capacity was queued waits
  -- nothing is queued
  OnlyWaits : queued ≡ 0 → LeavesWithin capacity was queued waits
  -- nobody waits, and no more is queued than the capacity, or than before
  NoneWaits : waits ≡ 0 → IsWithinCapacity capacity was queued → LeavesWithin capacity was queued waits

-- queued messages and waiting receivers, left within the bound so, are within it
within_after : (most capacity : Option ℕ) (highest was queued waits : ℕ) → IsWithinCapacity most highest was
    → LeavesWithin capacity was queued waits → IsWithinCapacity (greater most capacity) (max highest waits) (queued + waits)
within_after None capacity highest was queued waits before leaves = tt
within_after (Some n) None highest was queued waits before leaves = tt
within_after (Some n) (Some c) highest was queued waits before (NoMore le) = omega arith
within_after (Some n) (Some c) highest was queued waits before (OnlyWaits none) = omega arith
within_after (Some n) (Some c) highest was queued waits before (NoneWaits none le) = omega arith

-- if the queue has room, one more is within the capacity
room_within : (capacity : Option ℕ) (was n : ℕ) → HasRoom capacity n → IsWithinCapacity capacity was (n + 1)
room_within capacity was n room = grind (arith, common_steps)

-- if one was taken, what is queued is within the capacity, or was queued before
taken_within : (capacity : Option ℕ) (long n was : ℕ) → n ≤ was → IsWithinCapacity capacity was (max (n - 1) (capped capacity long))
taken_within capacity long n was le = grind (arith, common_steps)

-- if the capacity was set, what is queued is within it, or was queued before
resized_within : (new long n was : ℕ) → n ≤ was → IsWithinCapacity (Some new) was (max n (capped (Some new) long))
resized_within new long n was le = omega arith

-- if all that was queued was drained, what is queued then is within the capacity
drained_within : (capacity : Option ℕ) (long was : ℕ) → IsWithinCapacity capacity was (capped capacity long)
drained_within capacity long was = grind (arith, common_steps)

module _ {T : Type 0} where
  -- if none waits a round fills none
  fills_nobody : (es : List (LogEntry T)) → some_wait es ≡ false → fill_count (round_fills es) ≡ 0
  fills_nobody es none = grind (arith, common_steps, fills_waiting es)

  -- once all are woken none is counted
  woken_uncounted : (es : List (LogEntry T)) → waiting_count (all_woken same_notice es) ≡ 0
  woken_uncounted es = counted_none (all_woken same_notice es) (wait_woken same_notice es)

  -- if an entry leaves, no more wait
  fewer_without : (t : ℕ) (e : LogEntry T) (es : List (LogEntry T)) → entry_of t es ≡ Some e
      → waiting_count (without_ticket t es) ≤ waiting_count es
  fewer_without t e es found = let counts = without_counts t e es found in let waiting = counts.waiting in omega arith

  -- if an end leaves
  leaves_close : (c : Channel T) (closes : Bool) → LeavesWithin c.capacity (c.queue_len + waiting_count c.entries) c.queue_len
      (waiting_count (if closes then all_woken same_notice c.entries else c.entries))
  leaves_close c true = NoMore (let none = woken_uncounted c.entries in omega arith)
  leaves_close c false = NoMore (omega arith)

  -- if nobody more waits, and no more is queued than the capacity and, while a receiver waits, than
  -- before
  leaves_fewer : (c : Channel T) (queued waits : ℕ) → waits ≤ waiting_count c.entries → (some_wait c.entries ≡ true → queued ≤ c.queue_len)
      → IsWithinCapacity c.capacity (c.queue_len + waiting_count c.entries) queued
      → LeavesWithin c.capacity (c.queue_len + waiting_count c.entries) queued waits
  leaves_fewer c queued waits few some within = by_case (some_wait c.entries) refl
    where
      by_case : (b : Bool) → some_wait c.entries ≡ b → LeavesWithin c.capacity (c.queue_len + waiting_count c.entries) queued waits
      by_case true e = let le = some e in NoMore (omega arith)
      by_case false e = let none = counted_none c.entries e in NoneWaits (omega arith) within

  -- if a message joined the queue
  leaves_queued : (c : Channel T) (front : T) → (some_wait c.entries ≡ false → HasRoom c.capacity c.queue_len)
      → LeavesWithin c.capacity (c.queue_len + waiting_count c.entries) (c.queue_len + 1 - fill_count (round_fills c.entries))
      (waiting_count (round same_notice front c.entries))
  leaves_queued c front room = by_case (some_wait c.entries) refl
    where
      by_case : (b : Bool) → some_wait c.entries ≡ b
          → LeavesWithin c.capacity (c.queue_len + waiting_count c.entries) (c.queue_len + 1 - fill_count (round_fills c.entries))
          (waiting_count (round same_notice front c.entries))
      by_case true e = let fewer = (round_counts same_notice front c.entries).fewer e in NoMore (omega arith)
      by_case false e =
          let none = counted_none c.entries e in
          let no_more = (round_counts same_notice front c.entries).no_more in
          let fills = fills_nobody c.entries e in
          let same : c.queue_len + 1 ≡ c.queue_len + 1 - fill_count (round_fills c.entries) = omega arith in
          let Within : ℕ → Type 0 = λ n. IsWithinCapacity c.capacity (c.queue_len + waiting_count c.entries) n in
          NoneWaits (omega arith) (subst Within same (room_within c.capacity (c.queue_len + waiting_count c.entries) c.queue_len (room e)))

  -- after a change that fits
  leaves_step : (c : Channel T) (closes : Bool) (done : Change T) (n : ℕ) → Stood c → Fits c done → Long c done n
      → queue_len_after (capacity_after c.capacity done) n c.queue_len done ≤ n
      → LeavesWithin (capacity_after c.capacity done) (c.queue_len + waiting_count c.entries)
      (queue_len_after (capacity_after c.capacity done) n c.queue_len done)
      (waiting_count (entries_after c.queue closes c.entries done))
  leaves_step c closes (Queues m filled) n stood h long within =
      let LeavesBy : Option ℕ → Type 0 = λ f. LeavesWithin c.capacity (c.queue_len + waiting_count c.entries)
      (c.queue_len + 1 - fill_count f) (waiting_count (entries_after c.queue closes c.entries (Queues m filled))) in
      subst LeavesBy (sym h.1) (round_for_push
      (λ es. LeavesWithin c.capacity (c.queue_len + waiting_count c.entries) (c.queue_len + 1 - fill_count (round_fills c.entries))
      (waiting_count es)) same_notice c.queue m c.entries (λ front. leaves_queued c front h.0.1))
  leaves_step c closes (Takes m None) n stood h long within =
      leaves_fewer c _ (waiting_count c.entries) (omega arith) (λ some. (let whole = stood.whole some in omega arith))
      (taken_within c.capacity n c.queue_len _ (omega arith))
  leaves_step c closes (Takes m (Some t)) n stood h long within =
      leaves_fewer c _ (waiting_count (without_ticket t c.entries)) (fewer_without t h.1.entry c.entries h.1.found)
      (λ some. (let whole = stood.whole some in omega arith)) (taken_within c.capacity n c.queue_len _ (omega arith))
  leaves_step c closes (Drains list) n stood h long within =
      leaves_fewer c _ (waiting_count c.entries) (omega arith) (λ some. (let whole = stood.whole some in omega arith))
      (drained_within c.capacity n _)
  leaves_step c closes (Parks t kind) n stood h long within =
      OnlyWaits (let empty = ap length h.0 in let in_line = stood.within in omega arith)
  leaves_step c closes (Asks t) n stood h long within =
      again_cases (λ es. LeavesWithin c.capacity (c.queue_len + waiting_count c.entries) c.queue_len (waiting_count es)) t c.entries
      (NoMore (omega arith))
      (λ e found woken.
      (let same : h.0 ≡ e = cc in
      let empty = ap length (h.2 (ap (λ x. is_woken x.mark) same ∙ woken)).0 in
      let in_line = stood.within in
      OnlyWaits (omega arith)))
  leaves_step c closes (Collects t) n stood h long within =
      NoMore (let fewer = fewer_without t h.0 c.entries h.2 in omega arith)
  leaves_step c closes (Leaves t filled) n stood h long within =
      let fewer = fewer_without t h.0.entry c.entries h.0.found in
      NoMore (leave_cases (λ es f. c.queue_len - fill_count filled + waiting_count es ≤ c.queue_len + waiting_count c.entries)
      same_notice t c.queue c.entries (λ none. omega arith)
      (λ passes front rest e.
      (let no_more = (round_counts same_notice front (without_ticket t c.entries)).no_more in omega arith)))
  leaves_step c closes SenderLeaves n stood h long within = leaves_close c closes
  leaves_step c closes ReceiverLeaves n stood h long within = leaves_close c closes
  leaves_step c closes (Resizes new) n stood h long within =
      leaves_fewer (record c { capacity = Some new }) _ (waiting_count c.entries) (omega arith)
      (λ some. (let whole = stood.whole some in omega arith)) (resized_within new n c.queue_len _ (omega arith))
  leaves_step c closes _ n stood h long within = NoMore (omega arith)

-- nothing is within each bound
none_within : (capacity : Option ℕ) (other n : ℕ) → n ≡ 0 → IsWithinCapacity capacity other n
none_within capacity other n e = grind (arith, common_steps)

module _ {T A : Type 0} where
  -- after one more pair of a run
  bounded_more : (o : Opening) (past : Log T A) (p : Step T × Reply T A) → IsRun o (p ∷ past) → Bounded o past → Bounded o (p ∷ past)
  bounded_more o past p run before = by_case (is_over (p ∷ past)) refl
    where
      by_case : (b : Bool) → is_over (p ∷ past) ≡ b → Bounded o (p ∷ past)
      by_case true over =
          let nobody = ap waiting_count (nobody_once_over o (p ∷ past) over) in
          let none : queue_len o (p ∷ past) ≡ 0 = cond-true (is_over (p ∷ past)) 0 _ over in
          none_within (greatest o (p ∷ past)) _ _ (omega arith)
      by_case false still =
          let s = stepped o past p run still in
          let leaves = leaves_step (channel o past) s.closes (change past p.0 p.1) s.long s.stood s.fit s.line_is s.in_line in
          let LeftBy : ℕ → ℕ → Type 0 = λ n waits. LeavesWithin (capacity o (p ∷ past))
          (queue_len o past + waiting_count (entries o past)) n waits in
          within_after (greatest o past) (capacity o (p ∷ past)) (peak o past) (queue_len o past + waiting_count (entries o past))
          (queue_len o (p ∷ past))
          (waiting_count (entries o (p ∷ past))) before
          (subst₂ LeftBy (sym s.queue_len_is) (sym (ap waiting_count s.entries_are)) leaves)

  -- queued messages and waiting receivers are together at most the greater of the greatest capacity
  -- and the most that waited at once
  pub bounded : (o : Opening) (log : Log T A) → IsRun o log → Bounded o log
  bounded o [] run = none_within o.capacity _ _ (omega arith)
  bounded o (p ∷ past) run = bounded_more o past p run (bounded o past run.1)
