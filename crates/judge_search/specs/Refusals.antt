-- Whether a configuration may refuse a move memory or a ticket.
use Rattle.std.specs.Prelude.{ℕ, ◌==◌, Bool, true, false, not, ◌&&◌, ◌||◌, length, Option, Some}
use Rattle.std.specs.Prelude.{None}
use Rattle.flume_model.specs.declared.step.Kind.{Kind}
use Rattle.flume_model.specs.declared.step.Kind.TheVariants.{Block}
use Rattle.judge_search.specs.declared.configuration.ParkedReceive.{ParkedReceive}
use Rattle.judge_search.specs.declared.configuration.Status.{Status}
use Rattle.judge_search.specs.declared.configuration.Status.TheVariants.{Filled}
use Rattle.judge_search.specs.declared.step_of.Move.{Move}
use Rattle.judge_search.specs.declared.step_of.Move.TheVariants as move
use Rattle.judge_search.specs.Configurations.{State}
use Rattle.judge_search.specs.ByPlaces.{closed_now, full_now, some_waits}
use Rattle.judge_search.specs.Receives.{receive_at}

-- whether a send is blocked
abbrev pub some_blocked : State → Bool
some_blocked c = not (length c.blocked == 0)

-- whether a message is queued
abbrev pub some_queued : State → Bool
some_queued c = not (length c.queue == 0)

-- whether a receive of this kind in this state asks by looking at the line
abbrev pub looks_at_line : Kind → Status → Bool
looks_at_line kind (Filled p) = false
looks_at_line Block status = false
looks_at_line kind status = true

-- whether a parked receive does, if there is one
abbrev pub is_looking : Option ParkedReceive → Bool
is_looking None = false
is_looking (Some r) = looks_at_line r.kind r.status

-- whether a move may be refused: one that queues a message, admits a blocked send, parks or drains
abbrev pub may_be_refused : Move → ℕ → State → Bool
may_be_refused move.TrySend place c =
    not (closed_now c) && not (not (some_waits c.receives) && full_now c)
may_be_refused move.Send place c = not (closed_now c)
may_be_refused move.TryRecv place c = some_blocked c
may_be_refused (move.Recv kind) place c =
    some_blocked c || (not (some_queued c) && not (closed_now c))
may_be_refused move.Poll place c = some_blocked c && is_looking (receive_at place c.receives)
may_be_refused move.Drain place c = some_queued c
may_be_refused _ place c = false
