use Rattle.std.proofs.Common.{◌≡◌, ◌++◌, take}
use Rattle.std.specs.List.{flat_map}
use Rattle.judge_recorder.specs.Texts.{line_text, opening_text}
use Rattle.judge_recorder.proofs.writing.write_recording.Given as goal

-- the text has the opening line and the lines of the events so far
abbrev pub invariant-loop-event : goal.invariant-loop-event
invariant-loop-event g l =
    l.text.items ≡ opening_text l.fn.capacity ++ flat_map line_text (take l.event-index l.events)
