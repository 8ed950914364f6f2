-- A lawful reply makes a change that fits what is before it.
use Rattle.flume_model.proofs.Common.{◌≡◌, ℕ, ◌+◌, ◌<◌, true, false, if◌then◌else◌, List, [], ◌∷◌, Option, Some, None, refl, sym, ◌∙◌, ap}
use Rattle.flume_model.proofs.Common.{arith, cond, take, take-nil, IsPollReply, IsWithdrawReply, Channel, TakesIn}
use Rattle.flume_model.proofs.Common.{TakesNoneIn, IsAccepted, IsBlocked}
use Rattle.flume_model.proofs.Common.{IsFront, channel, senders, receivers, senders_after, receivers_after, is_over, is_filled, is_woken}
use Rattle.flume_model.proofs.Common.{entry_of, round_fills, leave_fills, passes_on, IsBounded, IsOpen, most, line, queue_len, queue}
use Rattle.flume_model.proofs.Common.{messages, Log}
use Rattle.flume_model.proofs.Common.{Opening, Offer, Change, Queues, Blocks, Accepts, Withdraws, Takes, Drains, Parks, Asks, Collects}
use Rattle.flume_model.proofs.Common.{Leaves, SenderJoins, ReceiverJoins, SenderLeaves, ReceiverLeaves, Resizes, Stays, was_filled, change}
use Rattle.flume_model.proofs.Common.{LogEntry}
use Rattle.flume_model.proofs.Common.{entries, IsReply, IsRun, FilledIfNamed, Entry, Filled, Reply, Accepted, Returned, Step, PollSend}
use Rattle.flume_model.proofs.Common.{Poll}
use Rattle.flume_model.proofs.Common.{Withdraw, common_steps}
use Rattle.flume_model.proofs.AskingCaseLemmas.{Unfilled, polled_cases, gone_cases}

module _ {T : Type 0} where
  -- what a change asks of the channel before it
  abbrev pub Fits : Channel T → Change T → Type 0
  Fits c (Queues m filled) = TakesIn c × (filled ≡ round_fills c.entries)
  Fits c (Blocks m t) = TakesNoneIn c × (c.next_ticket < most) × (t ≡ c.next_ticket)
  Fits c (Accepts t) = IsAccepted c t
  Fits c (Withdraws t) = (m : T) × IsBlocked c t m
  Fits c (Takes m None) = IsFront c m
  Fits c (Takes m (Some t)) = IsFront c m × Unfilled c t
  Fits c (Drains list) = list ≡ c.queue
  Fits c (Parks t kind) = (c.line ≡ []) × IsOpen c.senders c.receivers × (c.next_ticket < most) × (t ≡ c.next_ticket)
  Fits c (Asks t) =
      (e : LogEntry T) × (entry_of t c.entries ≡ Some e)
      × (is_woken e.mark ≡ true → (c.line ≡ []) × IsOpen c.senders c.receivers)
  Fits c (Collects t) = (e : LogEntry T) × (held : T) × (entry_of t c.entries ≡ Some e) × (e.mark ≡ Filled held)
  Fits c (Leaves t filled) = Unfilled c t × (filled ≡ leave_fills t c.queue c.entries)
  Fits c SenderJoins = 0 < c.senders
  Fits c ReceiverJoins = 0 < c.receivers
  Fits c SenderLeaves = 0 < c.senders
  Fits c ReceiverLeaves = 0 < c.receivers
  Fits c (Resizes n) = IsBounded c.capacity × IsOpen c.senders c.receivers
  Fits c Stays = Unit {0}

  -- an end of a line that has no message queues none
  none_taken : (n : ℕ) (xs : List (Offer T)) → messages xs ≡ [] → messages (take n xs) ≡ []
  none_taken n xs e = grind (arith, common_steps, take-nil)

  -- a receiver that leaves if nothing is queued fills nobody
  pub fills_none : {N : Type 0} (t : ℕ) (queue_ : List T) (es : List (Entry T N)) → queue_ ≡ [] → leave_fills t queue_ es ≡ None
  fills_none t queue_ es e =
      rw e (elim (passes_on (entry_of t es)) as (λ b. cond {A = Option ℕ} b None None ≡ None) [ true ↦ refl | false ↦ refl ])

module _ {T A : Type 0} where
  -- a filled receiver gets its message
  collects : (o : Opening) (past : Log T A) (t : ℕ) (m held : T) (e : LogEntry T) → FilledIfNamed o past
      → entry_of t (entries o past) ≡ Some e
      → e.mark ≡ Filled held → Fits (channel o past) (if was_filled past t then Collects t else Takes m (Some t))
  collects o past t m held e named found is =
      let was : was_filled past t ≡ true = named t e found ∙ ap is_filled is in
      rw was (e, held, found, is)

  -- one that isn't filled gets the front
  takes : (o : Opening) (past : Log T A) (t : ℕ) (m : T) (e : LogEntry T) → FilledIfNamed o past → entry_of t (entries o past) ≡ Some e
      → is_filled e.mark ≡ false → IsFront (channel o past) m
      → Fits (channel o past) (if was_filled past t then Collects t else Takes m (Some t))
  takes o past t m e named found not_filled front =
      let was : was_filled past t ≡ false = named t e found ∙ not_filled in
      rw was (front, record { entry = e; found = found; empty = not_filled })

  -- one that isn't filled leaves if the line is empty
  ends : (o : Opening) (past : Log T A) (t : ℕ) → Unfilled (channel o past) t → messages (line past) ≡ []
      → Fits (channel o past) (Leaves t None)
  ends o past t u empty =
      (u, sym (fills_none t (queue o past) (entries o past) (none_taken (queue_len o past) (line past) empty)))

  -- a parked receiver that asks
  polled : (o : Opening) (past : Log T A) (t : ℕ) (reply : Reply T A) → FilledIfNamed o past
      → IsPollReply (channel o past) (entry_of t (entries o past)) reply → Fits (channel o past) (change past (Poll t) reply)
  polled o past t reply named h =
      polled_cases (channel o past) t (λ r. Fits (channel o past) (change past (Poll t) r)) reply h (record {
        unknown = tt;
        collects = λ e held found is. collects o past t held held e named found is;
        takes = λ u m front. takes o past t m u.entry named u.found u.empty front;
        waits_on = λ u woken. (u.entry, u.found, woken);
        ends = λ u empty. ends o past t u empty;
        refused = λ back. tt;
      })

  -- a parked receiver that leaves
  gone : (o : Opening) (past : Log T A) (t : ℕ) (reply : Reply T A) → FilledIfNamed o past
      → IsWithdrawReply (channel o past) t (entry_of t (entries o past)) reply → Fits (channel o past) (change past (Withdraw t) reply)
  gone o past t reply named h =
      gone_cases (channel o past) t (λ r. Fits (channel o past) (change past (Withdraw t) r)) reply h (record {
        unknown = tt;
        collects = λ e held found is. collects o past t held held e named found is;
        takes = λ u m front. takes o past t m u.entry named u.found u.empty front;
        fills_none = λ u closed empty. ends o past t u empty;
        passes_on = λ u closed. (u, refl);
      })

  -- a lawful reply changes only what may change
  pub fits : (o : Opening) (past : Log T A) (step : Step T) (reply : Reply T A) → FilledIfNamed o past
      → IsReply (channel o past) step reply → Fits (channel o past) (change past step reply)
  fits o past (PollSend t) Accepted named h = h
  fits o past (PollSend t) (Returned m closed) named h = (m, h.0)
  fits o past (Poll t) reply named h = polled o past t reply named h
  fits o past (Withdraw t) reply named h = gone o past t reply named h
  fits o past step reply named h = grind (arith, common_steps)

  -- if both sides have disconnected, no change that fits brings one back
  over_stays : (o : Opening) (past : Log T A) (done : Change T) → Fits (channel o past) done → senders past + receivers past ≡ 0
      → senders_after (senders past) done + receivers_after (receivers past) done ≡ 0
  over_stays o past SenderJoins h e = absurd (omega arith)
  over_stays o past ReceiverJoins h e = absurd (omega arith)
  over_stays o past SenderLeaves h e = omega arith
  over_stays o past ReceiverLeaves h e = omega arith
  over_stays o past _ h e = e

  -- once over, over for good
  pub not_over_yet : (o : Opening) (past : Log T A) (p : Step T × Reply T A) → FilledIfNamed o past → IsRun o (p ∷ past)
      → is_over (p ∷ past) ≡ false → is_over past ≡ false
  not_over_yet o past p named run open_ =
      grind (arith, common_steps, over_stays o past (change past p.0 p.1) (fits o past p.0 p.1 named run.0))
