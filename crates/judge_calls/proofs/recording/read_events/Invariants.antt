use Rattle.std.proofs.Common.{length}
use Rattle.judge_calls.specs.Recordings.{names_of}
use Rattle.judge_calls.specs.NextEvents.{asking_in}
use Rattle.judge_calls.proofs.ReadEventLemmas.{ReadEvents}
use Rattle.judge_calls.proofs.recording.read_events.Given as goal

-- the lines so far are the events
abbrev pub invariant-loop-line : goal.invariant-loop-line
invariant-loop-line g l = ReadEvents l.initial.rest l.rest l.events.items (names_of l.threads.names.items)
    (asking_in l.threads.asking.items)

abbrev pub decreases-loop-line : goal.decreases-loop-line
decreases-loop-line g l = length l.rest
