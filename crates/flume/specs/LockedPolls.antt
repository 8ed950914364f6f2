-- What a contract sees of a poll under a channel's lock.
use Rattle.std.specs.Prelude.{◌≡◌, ◌⊎◌, true, Option, Some, None, IsSomeAnd}
use Rattle.futures.specs.declared.task.context.Context.{Context}
use Rattle.futures.specs.declared.task.Poll.{Poll}
use Rattle.futures.specs.declared.task.Poll.TheVariants.{Ready, Pending}
use Rattle.futures.specs.declared.task.waker.Waker.{Waker}
use Rattle.futures.specs.Task.{Wakes}
use Rattle.flume_state.specs.State.{State}
use Rattle.flume_core.specs.Represents.{IsReachable}

-- the slot has a waker of the task that polls, or the executor couldn't make one
abbrev pub LeavesWaker : Context → Context → Option Waker → Type 0
LeavesWaker old new slot =
    (new.lacks_waker ≡ true) ⊎ IsSomeAnd slot (λ waker. Wakes waker old)

-- what a poll answers if it is ready
abbrev pub answer_of : {N : Type 0} → Poll N → Option N
answer_of (Ready answer) = Some answer
answer_of Pending = None

module _ {T S C N : Type 0} (A : Type 0)
    (polls : C → Option S → State T S → State T S → C → Option N → Type 0) where
  -- one poll of the call was made, of some channel that a run led to
  pub record HasPolled (old new : C) (answer : Option N) : Type 0 where
    pub signal : Option S
    pub before : State T S
    pub after : State T S
    pub reachable : IsReachable A before
    pub polled : polls old signal before after new answer
