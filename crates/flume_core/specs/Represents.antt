-- What ties a state to a log, and what a step does to that.
use Rattle.std.specs.Prelude.{◌≡◌, ℕ, Bool, not, if◌then◌else◌, ◌∷◌, map, Option, Some, None}
use Rattle.flume_model.specs.declared.step.Step.{Step}
use Rattle.flume_model.specs.declared.step.Step.TheVariants.{Poll, Len, IsEmpty, IsFull, Capacity}
use Rattle.flume_model.specs.declared.step.Step.TheVariants.{SenderCount, ReceiverCount}
use Rattle.flume_model.specs.declared.step.Step.TheVariants.{IsDisconnected}
use Rattle.flume_model.specs.declared.step.Reply.{Reply}
use Rattle.flume_model.specs.declared.step.Reply.TheVariants.{Full, Closed, NoMemory, Spent}
use Rattle.flume_model.specs.declared.step.Reply.TheVariants.{NoTicket, Empty, Ended, NoEnd}
use Rattle.flume_model.specs.declared.step.Reply.TheVariants.{CountFull, Unbounded}
use Rattle.flume_model.specs.Log.{Log, Opening}
use Rattle.flume_model.specs.Counts.{senders, receivers}
use Rattle.flume_model.specs.Line.{capacity, greatest, queue, blocked, next_ticket, is_live}
use Rattle.flume_model.specs.Parked.{entries, peak}
use Rattle.flume_model.specs.Channel.{has_ticket}
use Rattle.flume_model.specs.Replies.{IsRun}
use Rattle.flume_state.specs.State.{State, accepted_at, offers_of, bare}

module _ {T A : Type 0} where
  -- the state of a send ticket: not live, or live and accepted, or live and not
  abbrev pub send_status : Opening → Log T A → ℕ → Option Bool
  send_status opening log t =
      if is_live log t then Some (not (has_ticket t (blocked opening log))) else None

  -- the log is a run, and the state is the one that it leads to
  pub record Represents {S : Type 0} (opening : Opening) (log : Log T A)
      (s : State T S) : Type 0 where
    pub run : IsRun opening log
    pub capacity_is : s.capacity ≡ capacity opening log
    pub greatest_is : s.greatest ≡ greatest opening log
    pub queue_is : s.queue ≡ queue opening log
    pub blocked_are : offers_of s.blocked ≡ blocked opening log
    pub sends_are : (t : ℕ) → accepted_at s t ≡ send_status opening log t
    pub entries_are : map bare s.entries ≡ entries opening log
    pub peak_is : s.peak ≡ peak opening log
    pub next_is : s.next_ticket ≡ next_ticket opening log
    pub senders_are : s.senders ≡ senders log
    pub receivers_are : s.receivers ≡ receivers log

  -- a reply by which nothing was done
  abbrev pub IsRefusal : Reply T A → Type 0
  IsRefusal (Full back) = Unit {0}
  IsRefusal (Closed back) = Unit {0}
  IsRefusal (NoMemory back) = Unit {0}
  IsRefusal (Spent back) = Unit {0}
  IsRefusal NoTicket = Unit {0}
  IsRefusal Empty = Unit {0}
  IsRefusal Ended = Unit {0}
  IsRefusal NoEnd = Unit {0}
  IsRefusal CountFull = Unit {0}
  IsRefusal Unbounded = Unit {0}
  IsRefusal _ = ⊥

  -- the step with this reply changes nothing: a query, or any refusal but a poll's `Ended`
  abbrev pub ChangesNothing : Step T → Reply T A → Type 0
  ChangesNothing (Poll ticket) Ended = ⊥
  ChangesNothing Len reply = Unit {0}
  ChangesNothing IsEmpty reply = Unit {0}
  ChangesNothing IsFull reply = Unit {0}
  ChangesNothing Capacity reply = Unit {0}
  ChangesNothing SenderCount reply = Unit {0}
  ChangesNothing ReceiverCount reply = Unit {0}
  ChangesNothing IsDisconnected reply = Unit {0}
  ChangesNothing _ reply = IsRefusal reply

module _ {T A S : Type 0} where
  -- each log of the state before, with this step and this reply, represents the state after
  abbrev pub Extends : State T S → Step T → Reply T A → State T S → Type 0
  Extends old step reply new =
      (opening : Opening) (log : Log T A) → Represents opening log old
      → Represents opening ((step, reply) ∷ log) new

module _ {T S : Type 0} where
  -- each log that represents the one state represents the other
  abbrev pub SameLogs : Type 0 → State T S → State T S → Type 0
  SameLogs A old new =
      (opening : Opening) (log : Log T A) → Represents opening log old → Represents opening log new

  -- some run led to the state
  abbrev pub IsReachable : Type 0 → State T S → Type 0
  IsReachable A s = (opening : Opening) × (log : Log T A) × Represents opening log s
