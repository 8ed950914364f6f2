-- For every contract: which tickets are due after a step.
use Rattle.std.specs.Prelude.{◌≡◌, ◌==◌, ℕ, Bool, false, not, ◌&&◌, ◌||◌, Option, Some, None}
use Rattle.std.specs.Option.{is_some}
use Rattle.std.specs.FinMap.{get}
use Rattle.flume_model.specs.declared.step.Step.{Step}
use Rattle.flume_model.specs.declared.step.Step.TheVariants.{Poll}
use Rattle.flume_model.specs.declared.step.Reply.{Reply}
use Rattle.flume_model.specs.declared.step.Reply.TheVariants.{Waiting}
use Rattle.flume_model.specs.declared.entry.Entry.{Entry}
use Rattle.flume_model.specs.Limits.{is_closed}
use Rattle.flume_model.specs.Entries.{is_waiting, entry_of}
use Rattle.flume_state.specs.declared.notice.Notice.{Notice}
use Rattle.flume_state.specs.declared.sends.LiveSend.{LiveSend}
use Rattle.flume_state.specs.Sends.{send_due_in}
use Rattle.flume_state.specs.State.{State}

module _ {T A : Type 0} where
  -- by this step the parked receiver with this ticket waits on, or again
  abbrev pub waits_by : Step T → Reply T A → ℕ → Bool
  waits_by (Poll ticket) Waiting t = ticket == t
  waits_by _ _ t = false

module _ {S : Type 0} where
  -- the live send that may be there is blocked
  abbrev pub blocked_in : Option (LiveSend S) → Bool
  blocked_in None = false
  blocked_in (Some send) = not send.accepted

  -- the message of the live send that may be there was accepted
  abbrev pub accepted_in : Option (LiveSend S) → Bool
  accepted_in None = false
  accepted_in (Some send) = send.accepted

  -- when a send is due: by the closing, and by the send as it was and as it is
  abbrev pub SendDue : Bool → Option (LiveSend S) → Option (LiveSend S) → Type 0
  SendDue closed old new =
      send_due_in new
      ≡ (is_some new && (send_due_in old || (blocked_in old && accepted_in new)
      || (closed && blocked_in old)))

module _ {T S : Type 0} where
  -- the parked receiver that may be there waits
  abbrev pub waits_in : Option (Entry T (Notice S)) → Bool
  waits_in None = false
  waits_in (Some e) = is_waiting e.mark

  -- the parked receiver that may be there is due
  abbrev pub receiver_due_in : Option (Entry T (Notice S)) → Bool
  receiver_due_in None = false
  receiver_due_in (Some e) = e.notice.due

  -- between these states the channel was closed
  abbrev pub closed_between : State T S → State T S → Bool
  closed_between old new =
      not (is_closed old.senders old.receivers) && is_closed new.senders new.receivers

  -- when a receiver is due: by whether it waits on or again, and as it was and as it is
  abbrev pub ReceiverDue : Bool → Option (Entry T (Notice S)) → Option (Entry T (Notice S)) → Type 0
  ReceiverDue waits old new =
      receiver_due_in new
      ≡ (is_some new && not waits && (receiver_due_in old || (waits_in old && not (waits_in new))))

  -- after the step a ticket is due exactly if it is live, doesn't wait on or again by the step, and
  -- was due before, or was accepted, woken or filled by it, or was blocked as it closed the channel
  pub record BecomesDue {A : Type 0} (old : State T S) (step : Step T) (reply : Reply T A)
      (new : State T S) : Type 0 where
    pub sends : (t : ℕ) → SendDue (closed_between old new) (get old.sends t) (get new.sends t)
    pub receivers : (t : ℕ)
        → ReceiverDue (waits_by step reply t) (entry_of t old.entries) (entry_of t new.entries)
