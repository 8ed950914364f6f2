-- While a receiver waits, at least as many are woken as messages are queued.
use Rattle.flume_model.proofs.Common.{◌≡◌, ℕ, ◌+◌, ◌-◌, ◌≤◌, Bool, true, false, if◌then◌else◌, [], ◌∷◌, length, Some, None, refl, sym, ◌∙◌}
use Rattle.flume_model.proofs.Common.{◌⊎◌, inl, inr, ap, arith, Channel, channel, is_over, is_woken, some_wait, woken_count, round}
use Rattle.flume_model.proofs.Common.{round_fills, all_woken, entry_of, without_ticket, passes_on, after_leave, leave_fills, queue_len}
use Rattle.flume_model.proofs.Common.{queue_len_after, capacity_after, fill_count, Log, Opening, Change, Queues, Blocks, Takes, Drains}
use Rattle.flume_model.proofs.Common.{Parks, Asks, Collects}
use Rattle.flume_model.proofs.Common.{Leaves, SenderLeaves, ReceiverLeaves, Resizes, change, LogEntry, same_notice, entries_after, entries}
use Rattle.flume_model.proofs.Common.{IsRun}
use Rattle.flume_model.proofs.Common.{Covered, Mark, Filled, Reply, Step, common_steps}
use Rattle.flume_model.proofs.LawfulReplyLemmas.{Fits}
use Rattle.flume_model.proofs.WaitingCountLemmas.{wait_round, wait_round_for, wait_without, wait_woken}
use Rattle.flume_model.proofs.EntryListLemmas.{round_for_push, again_cases, leave_cases}
use Rattle.flume_model.proofs.EntryCountLemmas.{woken_one, round_counts, without_counts}
use Rattle.flume_model.proofs.waits.WaitingStepLemmas.{Stood, Long, stepped, nobody_once_over}

module _ {T : Type 0} where
  -- at most one entry leaves
  woken_at_most : (m : Mark T) → woken_one m ≤ 1
  woken_at_most m = grind (arith, common_steps)

  -- a filled entry isn't woken
  filled_not_woken : (m : Mark T) (held : T) → m ≡ Filled held → woken_one m ≡ 0
  filled_not_woken m held e = grind (arith, common_steps)

  -- one woken, or none
  woken_is : (m : Mark T) → (is_woken m ≡ true) ⊎ (woken_one m ≡ 0)
  woken_is m = grind (arith, common_steps)

  -- one that leaves with no wake to pass on, if nothing is queued if it was woken
  covered_left : (c : Channel T) (t : ℕ) (e : LogEntry T) → Stood c → entry_of t c.entries ≡ Some e
      → (passes_on (entry_of t c.entries) ≡ true → c.queue ≡ []) → c.queue_len ≤ woken_count c.entries
      → c.queue_len ≤ woken_count (without_ticket t c.entries)
  covered_left c t e stood found none le =
      let counts = without_counts t e c.entries found in
      let woken = counts.woken in
      elim (woken_is e.mark) as (λ _. c.queue_len ≤ woken_count (without_ticket t c.entries)) [
        | inl is ↦ (let empty = ap length (none (ap passes_on found ∙ is)) in let queued = stood.queued in omega arith)
        | inr is ↦ omega arith
      ]

  -- one that leaves and passes its wake on
  covered_passed : (c : Channel T) (t : ℕ) (e : LogEntry T) (front : T) → entry_of t c.entries ≡ Some e
      → c.queue_len ≤ woken_count c.entries → some_wait (round same_notice front (without_ticket t c.entries)) ≡ true
      → c.queue_len - fill_count (round_fills (without_ticket t c.entries)) ≤ woken_count
      (round same_notice front (without_ticket t c.entries))
  covered_passed c t e front found le some =
      let left_ = without_counts t e c.entries found in
      let woken = left_.woken in
      let one = woken_at_most e.mark in
      let rounded = round_counts same_notice front (without_ticket t c.entries) in
      let total = rounded.total in
      let fewer = rounded.fewer (wait_round same_notice front (without_ticket t c.entries) some) in
      omega arith

  -- if an end leaves
  covered_close : (c : Channel T) (closes : Bool) → (some_wait c.entries ≡ true → c.queue_len ≤ woken_count c.entries)
      → some_wait (if closes then all_woken same_notice c.entries else c.entries) ≡ true
      → c.queue_len ≤ woken_count (if closes then all_woken same_notice c.entries else c.entries)
  covered_close c closes before some = grind (arith, common_steps, wait_woken same_notice c.entries)

  -- after a change that fits
  covered_by : (c : Channel T) (closes : Bool) (done : Change T) (n : ℕ) → Stood c → Fits c done → Long c done n
      → queue_len_after (capacity_after c.capacity done) n c.queue_len done ≤ n
      → (some_wait c.entries ≡ true → c.queue_len ≤ woken_count c.entries)
      → some_wait (entries_after c.queue closes c.entries done) ≡ true
      → queue_len_after (capacity_after c.capacity done) n c.queue_len done ≤ woken_count (entries_after c.queue closes c.entries done)
  covered_by c closes (Queues m filled) n stood h long within before some =
      let le = before (wait_round_for same_notice _ c.entries some) in
      let waits = wait_round_for same_notice _ c.entries some in
      let fills = ap fill_count h.1 in
      round_for_push (λ es. c.queue_len + 1 - fill_count filled ≤ woken_count es) same_notice c.queue m c.entries
      (λ front. (let rounded = round_counts same_notice front c.entries in let total = rounded.total in let fewer = rounded.fewer waits in
      omega arith))
  covered_by c closes (Takes m None) n stood h long within before some =
      let le = before some in let whole = stood.whole some in omega arith
  covered_by c closes (Takes m (Some t)) n stood h long within before some =
      let waits = wait_without t c.entries some in
      let le = before waits in
      let whole = stood.whole waits in
      let unfilled = h.1 in
      let counts = without_counts t unfilled.entry c.entries unfilled.found in
      let woken = counts.woken in
      let one = woken_at_most unfilled.entry.mark in
      omega arith
  covered_by c closes (Drains list) n stood h long within before some = let whole = stood.whole some in omega arith
  covered_by c closes (Parks t kind) n stood h long within before some =
      let empty = ap length h.0 in let in_line = stood.within in omega arith
  covered_by c closes (Asks t) n stood h long within before some =
      again_cases (λ es. some_wait es ≡ true → c.queue_len ≤ woken_count es) t c.entries before
      (λ e found woken waits.
      (let same : h.0 ≡ e = cc in
      let empty = ap length (h.2 (ap (λ x. is_woken x.mark) same ∙ woken)).0 in
      let in_line = stood.within in
      omega arith)) some
  covered_by c closes (Collects t) n stood h long within before some =
      let le = before (wait_without t c.entries some) in
      let counts = without_counts t h.0 c.entries h.2 in
      let woken = counts.woken in
      let none = filled_not_woken h.0.mark h.1 h.3 in
      omega arith
  covered_by c closes (Leaves t filled) n stood h long within before some =
      let unfilled = h.0 in
      let fills = ap fill_count h.1 in
      let main : c.queue_len - fill_count (leave_fills t c.queue c.entries) ≤ woken_count (after_leave same_notice t c.queue c.entries) =
      leave_cases (λ es f. some_wait es ≡ true → c.queue_len - fill_count f ≤ woken_count es) same_notice t c.queue c.entries
      (λ none waits.
      (let le = covered_left c t unfilled.entry stood unfilled.found none (before (wait_without t c.entries waits)) in omega arith))
      (λ passes front rest e waits.
      covered_passed c t unfilled.entry front unfilled.found
      (before (wait_without t c.entries (wait_round same_notice front (without_ticket t c.entries) waits))) waits) some in
      omega arith
  covered_by c closes SenderLeaves n stood h long within before some = covered_close c closes before some
  covered_by c closes ReceiverLeaves n stood h long within before some = covered_close c closes before some
  covered_by c closes (Blocks m t) n stood h long within before some = absurd (let none = h.0.1 in let no : ⊥ = cc in no)
  covered_by c closes (Resizes new) n stood h long within before some =
      let le = before some in let whole = stood.whole some in omega arith
  covered_by c closes _ n stood h long within before some = before some

module _ {T A : Type 0} where
  -- after one more pair of a run
  covered_more : (o : Opening) (past : Log T A) (p : Step T × Reply T A) → IsRun o (p ∷ past) → Covered o past → Covered o (p ∷ past)
  covered_more o past p run before some = by_case (is_over (p ∷ past)) refl
    where
      by_case : (b : Bool) → is_over (p ∷ past) ≡ b → queue_len o (p ∷ past) ≤ woken_count (entries o (p ∷ past))
      by_case true over =
          let nobody = ap some_wait (nobody_once_over o (p ∷ past) over) in
          absurd (let none : ⊥ = cc in none)
      by_case false still =
          let s = stepped o past p run still in
          let waits = sym (ap some_wait s.entries_are) ∙ some in
          let main = covered_by (channel o past) s.closes (change past p.0 p.1) s.long s.stood s.fit s.line_is s.in_line before waits in
          let queued = s.queue_len_is in
          let woken = ap woken_count s.entries_are in
          omega arith

  -- while a receiver waits, at least as many are woken as messages are queued
  pub covered : (o : Opening) (log : Log T A) → IsRun o log → Covered o log
  covered o [] run some = absurd (let none : ⊥ = cc in none)
  covered o (p ∷ past) run some = covered_more o past p run (covered o past run.1) some
