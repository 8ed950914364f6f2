-- If an event found no room, nothing more is said of what the recorder has.
use Rattle.std.proofs.Common.{[]}
use Rattle.judge_recorder.proofs.recorder.Recorder.push_event.Goals as goal

pub returns-then-is_err : goal.returns-then-is_err
returns-then-is_err g c = record {
  added = record {
    thread = (c.mark_incomplete.ensures.added []).thread;
    complete = λ whole. absurd (c.mark_incomplete.ensures.incomplete whole);
    added = λ whole. absurd (c.mark_incomplete.ensures.incomplete whole);
  };
}
