-- A receiver waits only in an open channel, and only while no sender is blocked; once both sides
-- have disconnected nothing is left.
use Rattle.flume_model.proofs.Common.{◌≡◌, ℕ, ◌≤◌, Bool, true, false, not, ◌&&◌, if◌then◌else◌, List, [], ◌∷◌, length, Some, refl, sym, ◌∙◌}
use Rattle.flume_model.proofs.Common.{ap, arith, drop, eqb-false, length-drop, drop_all, Channel, channel, senders, receivers}
use Rattle.flume_model.proofs.Common.{senders_after, receivers_after, is_over, is_woken, some_wait, all_woken, IsOpen, is_closed, line}
use Rattle.flume_model.proofs.Common.{queue_len, blocked, is_live, Log, Opening, Change, Queues, Takes, Parks, Asks, Collects, Leaves}
use Rattle.flume_model.proofs.Common.{SenderJoins, ReceiverJoins, SenderLeaves, ReceiverLeaves, change, same_notice, entries_after, entries}
use Rattle.flume_model.proofs.Common.{IsRun, Reply, Step, common_steps}
use Rattle.flume_model.proofs.LawfulReplyLemmas.{Fits}
use Rattle.flume_model.proofs.WaitingCountLemmas.{wait_without, wait_after_leave, wait_woken}
use Rattle.flume_model.proofs.EntryListLemmas.{again_cases}
use Rattle.flume_model.proofs.order.RunLemmas.{shape_of}
use Rattle.flume_model.proofs.order.LineStepLemmas.{line_over}
use Rattle.flume_model.proofs.waits.WaitingStepLemmas.{stepped, nobody_once_over}

module _ {X : Type 0} where
  -- if nothing is left behind a front, it is the whole list
  pub whole_by : (n : ℕ) (xs : List X) → drop n xs ≡ [] → length xs ≤ n
  whole_by n xs e = let long = sym (length-drop n xs) ∙ ap length e in omega arith

module _ {T A : Type 0} where
  -- if the queue is the whole line no sender is blocked
  pub none_blocked_by : (o : Opening) (log : Log T A) → length (line log) ≤ queue_len o log → blocked o log ≡ []
  none_blocked_by o log le = drop_all (queue_len o log) (line log) le

-- a channel that was open and doesn't close is open
open_still : (s r s2 r2 : ℕ) → IsOpen s r → (not (is_closed s r) && is_closed s2 r2) ≡ false → IsOpen s2 r2
open_still s r s2 r2 is_open e = grind (arith, common_steps, eqb-false)

module _ {T : Type 0} where
  -- if an end leaves
  open_close : (c : Channel T) (s2 r2 : ℕ) (closes : Bool) → closes ≡ (not (is_closed c.senders c.receivers) && is_closed s2 r2)
      → (some_wait c.entries ≡ true → IsOpen c.senders c.receivers)
      → some_wait (if closes then all_woken same_notice c.entries else c.entries) ≡ true → IsOpen s2 r2
  open_close c s2 r2 closes e before some =
      grind (arith, common_steps, wait_woken same_notice c.entries, open_still c.senders c.receivers s2 r2)

  -- after a change that fits
  open_by : (c : Channel T) (closes : Bool) (done : Change T) → Fits c done
      → closes ≡ (not (is_closed c.senders c.receivers) && is_closed (senders_after c.senders done) (receivers_after c.receivers done))
      → (some_wait c.entries ≡ true → IsOpen c.senders c.receivers) → some_wait (entries_after c.queue closes c.entries done) ≡ true
      → IsOpen (senders_after c.senders done) (receivers_after c.receivers done)
  open_by c closes (Queues m filled) h e before some = h.0.0
  open_by c closes (Takes m (Some t)) h e before some = before (wait_without t c.entries some)
  open_by c closes (Parks t kind) h e before some = h.1
  open_by c closes (Asks t) h e before some =
      again_cases (λ es. some_wait es ≡ true → IsOpen c.senders c.receivers) t c.entries before
      (λ x found woken waits. (let same : h.0 ≡ x = cc in (h.2 (ap (λ y. is_woken y.mark) same ∙ woken)).1)) some
  open_by c closes (Collects t) h e before some = before (wait_without t c.entries some)
  open_by c closes (Leaves t filled) h e before some = before (wait_after_leave same_notice t c.queue c.entries some)
  open_by c closes SenderJoins h e before some = let is_open = before some in omega arith
  open_by c closes ReceiverJoins h e before some = let is_open = before some in omega arith
  open_by c closes SenderLeaves h e before some = open_close c _ _ closes e before some
  open_by c closes ReceiverLeaves h e before some = open_close c _ _ closes e before some
  open_by c closes _ h e before some = before some

module _ {T A : Type 0} where
  -- after one more pair of a run
  open_more : (o : Opening) (past : Log T A) (p : Step T × Reply T A) → IsRun o (p ∷ past)
      → (some_wait (entries o past) ≡ true → IsOpen (senders past) (receivers past))
      → some_wait (entries o (p ∷ past)) ≡ true → IsOpen (senders (p ∷ past)) (receivers (p ∷ past))
  open_more o past p run before some = by_case (is_over (p ∷ past)) refl
    where
      by_case : (b : Bool) → is_over (p ∷ past) ≡ b → IsOpen (senders (p ∷ past)) (receivers (p ∷ past))
      by_case true over =
          let nobody = ap some_wait (nobody_once_over o (p ∷ past) over) in
          absurd (let none : ⊥ = cc in none)
      by_case false still =
          let s = stepped o past p run still in
          open_by (channel o past) s.closes (change past p.0 p.1) s.fit s.closes_is before (sym (ap some_wait s.entries_are) ∙ some)

  -- a receiver waits only in an open channel
  pub waits_open : (o : Opening) (log : Log T A) → IsRun o log → some_wait (entries o log) ≡ true → IsOpen (senders log) (receivers log)
  waits_open o [] run some = absurd (let none : ⊥ = cc in none)
  waits_open o (p ∷ past) run some = open_more o past p run (waits_open o past run.1) some

  -- while a receiver waits the queue is the whole line
  pub waits_whole : (o : Opening) (log : Log T A) → IsRun o log → some_wait (entries o log) ≡ true → queue_len o log ≡ length (line log)
  waits_whole o log run some = (shape_of o log run).waits some

  -- a receiver waits only in an open channel, and only while no sender is blocked
  pub waits_while_open : (o : Opening) (log : Log T A) → IsRun o log → some_wait (entries o log) ≡ true
      → IsOpen (senders log) (receivers log) × (blocked o log ≡ [])
  waits_while_open o log run some =
      let whole = waits_whole o log run some in
      (waits_open o log run some, none_blocked_by o log (omega arith))

  -- once both sides have disconnected, no ticket is live
  none_live_once_over : (log : Log T A) → is_over log ≡ true → (t : ℕ) → is_live log t ≡ false
  none_live_once_over [] over t = refl
  none_live_once_over (p ∷ past) over t = rw over refl

  -- once both sides have disconnected, nothing is left
  pub nothing_once_over : (o : Opening) (log : Log T A) → IsRun o log → is_over log ≡ true
      → (line log ≡ []) × (entries o log ≡ []) × ((t : ℕ) → is_live log t ≡ false)
  nothing_once_over o log run over = (line_over log over, nobody_once_over o log over, none_live_once_over log over)
