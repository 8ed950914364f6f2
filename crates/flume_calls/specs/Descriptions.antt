-- What a description says of a channel.
use Rattle.std.specs.Prelude.{◌≡◌, length}
use Rattle.flume_model.specs.Entries.{waiting_count}
use Rattle.flume_state.specs.State.{State}
use Rattle.flume_calls.specs.declared.description.Description.{Description}

module _ {T S : Type 0} where
  -- the description is that of a channel in this state
  pub record Describes (s : State T S) (description : Description) : Type 0 where
    pub len : description.len ≡ length s.queue
    pub capacity : description.capacity ≡ s.capacity
    pub blocked_senders : description.blocked_senders ≡ length s.blocked
    pub waiting_receivers : description.waiting_receivers ≡ waiting_count s.entries
    pub sender_count : description.sender_count ≡ s.senders
    pub receiver_count : description.receiver_count ≡ s.receivers
