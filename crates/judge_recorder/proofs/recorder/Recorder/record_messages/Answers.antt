-- A drain that can't be recorded leaves a recorder that isn't complete.
use Rattle.judge_recorder.proofs.recorder.Recorder.record_messages.Goals as goal

pub returns-in_default : goal.returns-in_default
returns-in_default g c = record { recorded = c.mark_incomplete.ensures.added _ }
