-- The progress of a call is its stage without the ticket.
use Rattle.std.specs.Prelude.{Bool, false, not, Option, Some}
use Rattle.judge_calls.specs.declared.call.Call.{Call}
use Rattle.judge_calls.specs.declared.call.Answer.{Answer}
use Rattle.judge_calls.specs.declared.stage.Stage.{Stage}
use Rattle.judge_calls.specs.declared.stage.Stage.TheVariants as stage
use Rattle.judge_calls.specs.Answers.{may_return}
use Rattle.judge_search.specs.declared.configuration.Progress.{Progress}
use Rattle.judge_search.specs.declared.configuration.Progress.TheVariants as progress

module _ {T A : Type 0} where
  -- the progress of a call at a stage
  abbrev pub progress_of : Stage T A → Progress
  progress_of stage.Begun = progress.Begun
  progress_of stage.Tried = progress.Tried
  progress_of (stage.Parked t) = progress.Parked
  progress_of (stage.Refused t) = progress.Refused
  progress_of (stage.Answered own) = progress.Done

  -- the stage with the ticket 0 in the place of its own
  abbrev pub clear_ticket : Stage T A → Stage T A
  clear_ticket (stage.Parked t) = stage.Parked 0
  clear_ticket (stage.Refused t) = stage.Refused 0
  clear_ticket stage = stage

  -- whether a call has come to another answer than the recorded one; `equal` compares messages
  abbrev pub is_wrong : (T → T → Bool) → Call T → Option (Answer T A) → Stage T A → Bool
  is_wrong equal call (Some recorded) (stage.Answered own) =
      not (may_return equal call (stage.Answered own) recorded)
  is_wrong equal call _ _ = false
