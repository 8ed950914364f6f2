use Rattle.flume_model.specs.Entries.{waiting_count}
use Rattle.flume_state.specs.Notices.{due_now}
use Rattle.flume_state.proofs.EntryWakeLemmas.{Wakes}
use Rattle.flume_state.proofs.entries.Entries.wake_round.Given as goal

abbrev pub invariant-loop-ticket : goal.invariant-loop-ticket
invariant-loop-ticket g l = Wakes due_now l.initial.self l.self l.initial.line l.line

abbrev pub decreases-loop-ticket : goal.decreases-loop-ticket
decreases-loop-ticket g l = waiting_count l.self
