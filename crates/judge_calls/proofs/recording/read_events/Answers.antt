use Rattle.std.proofs.Common.{◌≡◌, ◌++◌, ◌∷◌, [], ap, rules}
use Rattle.judge_calls.specs.Recordings.{names_of}
use Rattle.judge_calls.specs.NextEvents.{asking_in}
use Rattle.judge_calls.proofs.ReadEventLemmas.{none_read, one_more, up_to}
use Rattle.judge_calls.proofs.recording.read_events.Goals as goal

pub loop-line-init : goal.loop-line-init
loop-line-init g c =
    let no_event : c.new-events.result.items ≡ [] = search rules in
    rw no_event (none_read c.args.rest.now (names_of c.new-threads.result.names.items) (asking_in c.new-threads.result.asking.items)
    (ap names_of c.new-threads.ensures.names) (λ t. ap (λ asking. asking_in asking t) c.new-threads.ensures.asking))

pub returns-in-Err-clause-wrong : goal.returns-in-Err-clause-wrong
returns-in-Err-clause-wrong g c =
    let line = c.in-Some.ensures in
    let reason = rw c.in-Err.is at c.in_ok-event.ensures.wrong in
    up_to c.in-Some.line.now c.in-Some.later.now c.in-Err.fault c.len.result c.loop-line.invariant line.first line.shorter
    reason (search rules)

pub loop-line-preserved : goal.loop-line-preserved
loop-line-preserved g c =
    let line = c.in-Some.ensures in
    let next = rw c.in-Ok.is at c.in_ok-event.ensures.right in
    let pushed : c.push.new.self.items ≡ c.loop-line.events.items ++ c.in-Ok.event ∷ [] = search rules in
    one_more c.in-Some.line.now c.in-Some.later.now c.in-Ok.event (names_of c.read.new.self.names.items)
    (asking_in c.read.new.self.asking.items)
    c.push.new.self.items c.loop-line.invariant line.first line.shorter next pushed
