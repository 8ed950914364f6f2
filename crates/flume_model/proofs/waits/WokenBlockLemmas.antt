-- A receiver that blocks is woken only in a closed channel, and only if no sender is blocked.
use Rattle.flume_model.proofs.Common.{◌≡◌, ℕ, ◌≤◌, Bool, true, false, not, ◌&&◌, if◌then◌else◌, List, [], ◌∷◌, ◌++◌, length, Some, refl}
use Rattle.flume_model.proofs.Common.{sym, ◌∙◌, ◌⊎◌, inl, inr, ap, arith, min, eqb-true, and_parts, list_any-append, Channel}
use Rattle.flume_model.proofs.Common.{channel, senders, receivers, senders_after, receivers_after, is_over, is_woken, some_wait, all_woken}
use Rattle.flume_model.proofs.Common.{without_ticket, round, IsClosed, is_closed, line, queue_len}
use Rattle.flume_model.proofs.Common.{queue_len_after, capacity_after, blocked, Log, Opening, Change}
use Rattle.flume_model.proofs.Common.{Queues, Blocks, Takes, Parks, Asks, Collects, Leaves, SenderLeaves}
use Rattle.flume_model.proofs.Common.{ReceiverLeaves, Resizes, change, LogEntry}
use Rattle.flume_model.proofs.Common.{same_notice, entries_after, entries, IsRun, block_woken, WokenBlockWhileClosed, Reply, Step}
use Rattle.flume_model.proofs.Common.{common_steps}
use Rattle.flume_model.proofs.LawfulReplyLemmas.{Fits}
use Rattle.flume_model.proofs.EntryListLemmas.{round_for_push, again_cases, leave_cases}
use Rattle.flume_model.proofs.waits.WaitingStepLemmas.{Stood, Long, stepped, nobody_once_over, line_long}
use Rattle.flume_model.proofs.waits.WaitingOpenLemmas.{whole_by, none_blocked_by}

-- what is shown of a channel that has this many ends: it is closed, and the queue is the whole line
abbrev ClosedWhole : ℕ → ℕ → ℕ → ℕ → Type 0
ClosedWhole s r long n = IsClosed s r × (long ≤ n)

module _ {T : Type 0} where
  -- a round wakes none that blocks
  block_round : (front : T) (es : List (LogEntry T)) → block_woken (round same_notice front es) ≡ true → block_woken es ≡ true
  block_round front [] h = h
  block_round front (x ∷ es) h = grind (arith, common_steps, block_round front es)

  -- one of the others
  block_without : (t : ℕ) (es : List (LogEntry T)) → block_woken (without_ticket t es) ≡ true → block_woken es ≡ true
  block_without t [] h = h
  block_without t (x ∷ es) h = grind (arith, common_steps, block_without t es)

  -- with one more that waits
  block_push : (es : List (LogEntry T)) (x : LogEntry T) → is_woken x.mark ≡ false → block_woken (es ++ x ∷ []) ≡ true
      → block_woken es ≡ true
  block_push es x e h = grind (arith, common_steps, list_any-append)

  -- if all that wait are woken, one that blocks was woken or one waited
  block_closes : (es : List (LogEntry T)) → block_woken (all_woken same_notice es) ≡ true → (block_woken es ≡ true) ⊎ (some_wait es ≡ true)
  block_closes [] h = inl h
  block_closes (x ∷ es) h = grind (arith, common_steps, block_closes es)

  -- if an end leaves
  closed_close : (c : Channel T) (s2 r2 n : ℕ) (closes : Bool) → Stood c → n ≡ length c.line
      → closes ≡ (not (is_closed c.senders c.receivers) && is_closed s2 r2) → (IsClosed c.senders c.receivers → IsClosed s2 r2)
      → (block_woken c.entries ≡ true → ClosedWhole c.senders c.receivers (length c.line) c.queue_len)
      → block_woken (if closes then all_woken same_notice c.entries else c.entries) ≡ true → ClosedWhole s2 r2 n c.queue_len
  closed_close c s2 r2 n true stood long e stays before some = (
    eqb-true (min s2 r2) 0 (and_parts (not (is_closed c.senders c.receivers)) (is_closed s2 r2) (sym e)).1,
    elim (block_closes c.entries some) as (λ _. n ≤ c.queue_len) [
      | inl stood_woken ↦ (let le = (before stood_woken).1 in omega arith)
      | inr waited ↦ (let whole = stood.whole waited in omega arith)
    ],
  )
  closed_close c s2 r2 n false stood long e stays before some = (stays (before some).0, let le = (before some).1 in omega arith)

  -- after a change that fits
  closed_by : (c : Channel T) (closes : Bool) (done : Change T) (n : ℕ) → Stood c → Fits c done → Long c done n
      → closes ≡ (not (is_closed c.senders c.receivers) && is_closed (senders_after c.senders done) (receivers_after c.receivers done))
      → (block_woken c.entries ≡ true → ClosedWhole c.senders c.receivers (length c.line) c.queue_len)
      → block_woken (entries_after c.queue closes c.entries done) ≡ true
      → ClosedWhole (senders_after c.senders done) (receivers_after c.receivers done) n
      (queue_len_after (capacity_after c.capacity done) n c.queue_len done)
  closed_by c closes (Queues m filled) n stood h long e before some =
      let was = before (round_for_push (λ es. block_woken es ≡ true → block_woken c.entries ≡ true) same_notice c.queue m c.entries
      (λ front. block_round front c.entries) some) in
      let closed = was.0 in
      let is_open = h.0.0 in
      absurd (omega arith)
  closed_by c closes (Blocks m t) n stood h long e before some =
      let closed = (before some).0 in
      let is_open = h.0.0 in
      absurd (omega arith)
  closed_by c closes (Takes m (Some t)) n stood h long e before some =
      let was = before (block_without t c.entries some) in (was.0, let le = was.1 in omega arith)
  closed_by c closes (Parks t kind) n stood h long e before some =
      let closed = (before (block_push c.entries _ refl some)).0 in
      let is_open = h.1 in
      absurd (omega arith)
  closed_by c closes (Asks t) n stood h long e before some =
      again_cases (λ es. block_woken es ≡ true → ClosedWhole c.senders c.receivers n c.queue_len) t c.entries
      (λ stays. (let was = before stays in (was.0, let le = was.1 in omega arith)))
      (λ x found woken goes.
      (let same : h.0 ≡ x = cc in
      let is_open = (h.2 (ap (λ y. is_woken y.mark) same ∙ woken)).1 in
      let closed = (before (block_without t c.entries (block_push (without_ticket t c.entries) _ refl goes))).0 in
      absurd (omega arith))) some
  closed_by c closes (Collects t) n stood h long e before some =
      let was = before (block_without t c.entries some) in (was.0, let le = was.1 in omega arith)
  closed_by c closes (Leaves t filled) n stood h long e before some =
      let was = before (leave_cases (λ es f. block_woken es ≡ true → block_woken c.entries ≡ true) same_notice t c.queue c.entries
      (λ none others. block_without t c.entries others)
      (λ passes front rest e2 others. block_without t c.entries (block_round front (without_ticket t c.entries) others)) some) in
      (was.0, let le = was.1 in omega arith)
  closed_by c closes SenderLeaves n stood h long e before some =
      closed_close c _ _ n closes stood long e (λ closed. omega arith) before some
  closed_by c closes ReceiverLeaves n stood h long e before some =
      closed_close c _ _ n closes stood long e (λ closed. omega arith) before some
  closed_by c closes (Resizes new) n stood h long e before some =
      let closed = (before some).0 in
      let is_open = h.1 in
      absurd (omega arith)
  closed_by c closes _ n stood h long e before some =
      let was = before some in let closed = was.0 in (omega arith, let le = was.1 in omega arith)

module _ {T A : Type 0} where
  -- after one more pair of a run
  closed_more : (o : Opening) (past : Log T A) (p : Step T × Reply T A) → IsRun o (p ∷ past) → WokenBlockWhileClosed o past
      → WokenBlockWhileClosed o (p ∷ past)
  closed_more o past p run before some = by_case (is_over (p ∷ past)) refl
    where
      whole_before : block_woken (entries o past) ≡ true
          → ClosedWhole (senders past) (receivers past) (length (channel o past).line) (queue_len o past)
      whole_before woken =
          let was = before woken in
          let whole = whole_by (queue_len o past) (line past) was.1 in
          let same = line_long o past in
          (was.0, omega arith)

      by_case : (b : Bool) → is_over (p ∷ past) ≡ b
          → IsClosed (senders (p ∷ past)) (receivers (p ∷ past)) × (blocked o (p ∷ past) ≡ [])
      by_case true over =
          let nobody = ap block_woken (nobody_once_over o (p ∷ past) over) in
          absurd (let none : ⊥ = cc in none)
      by_case false still =
          let s = stepped o past p run still in
          let main = closed_by (channel o past) s.closes (change past p.0 p.1) s.long s.stood s.fit s.line_is s.closes_is whole_before
          (sym (ap block_woken s.entries_are) ∙ some) in
          let queued = s.queue_len_is in
          let long = s.long_is in
          let le = main.1 in
          (main.0, none_blocked_by o (p ∷ past) (omega arith))

  -- a receiver that blocks is woken only in a closed channel, and only if no sender is blocked
  pub woken_block_while_closed : (o : Opening) (log : Log T A) → IsRun o log → WokenBlockWhileClosed o log
  woken_block_while_closed o [] run some = absurd (let none : ⊥ = cc in none)
  woken_block_while_closed o (p ∷ past) run some = closed_more o past p run (woken_block_while_closed o past run.1) some
