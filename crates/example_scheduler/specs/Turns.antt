-- What a turn of the scheduler does to its queue of tasks.
use Rattle.std.specs.Prelude.{◌≡◌, ◌-◌, ◌<◌, ◌≤◌, List, [], ◌∷◌, ◌++◌, None}
use Rattle.flume_model.specs.Limits.{IsOpen}
use Rattle.flume_state.specs.State.{State}
use Rattle.example_scheduler.specs.declared.run_queue.Task.{Task}
use Rattle.example_scheduler.specs.declared.run_queue.Turn.{Turn}
use Rattle.example_scheduler.specs.declared.run_queue.Turn.TheVariants.{Idle, Done, Again}

-- an open channel of any number of messages, at which nobody waits
pub record IsPlain {T S : Type 0} (s : State T S) : Type 0 where
  pub any_number : s.capacity ≡ None
  pub none_blocked : s.blocked ≡ []
  pub none_parked : s.entries ≡ []
  pub is_open : IsOpen s.senders s.receivers

-- the task with one step less to go
abbrev pub after_step : Task → Task
after_step task = record task { steps = task.steps - 1 }

-- what a turn of the task, with these others behind it, answered and left
abbrev pub TakesTurn : Task → List Task → Turn → List Task → Type 0
TakesTurn task others (Done number) left =
    (task.steps ≤ 1) × (number ≡ task.number) × (left ≡ others)
TakesTurn task others (Again back) left =
    (1 < task.steps) × (back ≡ after_step task) × (left ≡ others ++ after_step task ∷ [])
TakesTurn task others Idle left = ⊥
