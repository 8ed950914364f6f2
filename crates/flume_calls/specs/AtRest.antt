-- A channel between two calls of its ends, and what a call leaves.
use Rattle.std.specs.Prelude.{◌≡◌, ◌<◌, ◌+◌, ◌⊎◌, ℕ}
use Rattle.flume_model.specs.Limits.{most}
use Rattle.flume_state.specs.Sends.{NoDueSend}
use Rattle.flume_state.specs.Receivers.{NoDueReceiver}
use Rattle.flume_state.specs.State.{State, message_count}
use Rattle.flume_core.specs.Represents.{IsReachable, SameLogs}
use Rattle.flume_calls.specs.Rings.{Rings}

module _ {T S : Type 0} where
  -- some run led to the state, and no ticket is due
  pub record IsAtRest (A : Type 0) (s : State T S) : Type 0 where
    pub reachable : IsReachable A s
    pub sends : NoDueSend s.sends
    pub receivers : NoDueReceiver s.entries

  -- so many messages are queued or blocked, and an end lives
  pub record IsLeft (n : ℕ) (s : State T S) : Type 0 where
    pub left : message_count s ≡ n
    pub end_lives : 0 < s.senders + s.receivers

  -- no end lives, or there are too many messages to be counted
  abbrev pub NoneCounted : State T S → Type 0
  NoneCounted s = (s.senders + s.receivers ≡ 0) ⊎ (most < message_count s)

module _ {T S N B : Type 0} (A : Type 0) (rings : B → ℕ → S → B → Type 0) where
  -- one turn, and then one ring of the bell for each ticket that is due
  pub record IsCallAtRest (does : State T S → State T S → N → Type 0) (old : State T S) (bell : B)
      (new : State T S) (rung : B) (answer : N) : Type 0 where
    pub between : State T S
    pub turn : does old between answer
    pub rang : Rings rings between bell new rung
    pub represents : SameLogs A between new
