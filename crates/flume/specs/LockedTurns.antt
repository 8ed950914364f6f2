-- What a contract sees of a turn that is made under a channel's lock.
use Rattle.std.specs.Prelude.{◌≡◌, ℕ, ◌∷◌, length}
use Rattle.flume_model.specs.declared.step.Step.{Step}
use Rattle.flume_model.specs.declared.step.Reply.{Reply}
use Rattle.flume_model.specs.Log.{Log, Opening}
use Rattle.flume_model.specs.Counts.{senders, receivers}
use Rattle.flume_model.specs.Entries.{waiting_count}
use Rattle.flume_model.specs.Line.{blocked, capacity, queue}
use Rattle.flume_model.specs.Parked.{entries}
use Rattle.flume_model.specs.Replies.{IsRun}
use Rattle.flume_state.specs.State.{State}
use Rattle.flume_core.specs.Represents.{Represents}
use Rattle.flume_calls.specs.declared.description.Description.{Description}

module _ {T A N : Type 0} where
  -- some channel's run goes on with this step and a reply, to which the table has this answer
  pub record HasMade (step : Step T) (table : Reply T A → N → Type 0) (answer : N) : Type 0 where
    pub opening : Opening
    pub log : Log T A
    pub reply : Reply T A
    pub run : IsRun opening ((step, reply) ∷ log)
    pub answered : table reply answer

module _ (T A : Type 0) where
  -- some channel's run leaves so many of what is counted
  pub record HasCounted (count : Opening → Log T A → ℕ) (answer : ℕ) : Type 0 where
    pub opening : Opening
    pub log : Log T A
    pub run : IsRun opening log
    pub counted : answer ≡ count opening log

  -- some channel's run leaves what the description says
  pub record HasDescribed (description : Description) : Type 0 where
    pub opening : Opening
    pub log : Log T A
    pub run : IsRun opening log
    pub len : description.len ≡ length (queue opening log)
    pub capacity : description.capacity ≡ capacity opening log
    pub blocked_senders : description.blocked_senders ≡ length (blocked opening log)
    pub waiting_receivers : description.waiting_receivers ≡ waiting_count (entries opening log)
    pub sender_count : description.sender_count ≡ senders log
    pub receiver_count : description.receiver_count ≡ receivers log

module _ {T S N : Type 0} (A : Type 0) where
  -- Some channel that a run led to did this. No clause can say that it is the caller's; tests do.
  pub record HasDone (does : State T S → State T S → N → Type 0) (answer : N) : Type 0 where
    pub opening : Opening
    pub log : Log T A
    pub old : State T S
    pub new : State T S
    pub represents : Represents opening log old
    pub turn : does old new answer
