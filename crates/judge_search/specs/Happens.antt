-- What an event leaves of a configuration, and whether a call may return.
use Rattle.std.specs.Prelude.{ℕ, ◌==◌, Bool, true, false, not, [], ◌∷◌, ◌++◌, Option, Some, None}
use Rattle.std.specs.List.{filter}
use Rattle.judge_calls.specs.declared.call.Call.{Call}
use Rattle.judge_calls.specs.declared.call.Answer.{Answer}
use Rattle.judge_calls.specs.declared.stage.Stage.TheVariants as stage
use Rattle.judge_calls.specs.Answers.{may_return}
use Rattle.judge_search.specs.declared.configuration.OpenCall.{OpenCall}
use Rattle.judge_search.specs.declared.configuration.Progress.{Progress}
use Rattle.judge_search.specs.declared.configuration.Progress.TheVariants as progress
use Rattle.judge_search.specs.Configurations.{State}

-- the call that begins by the event at a place
abbrev pub new_call : ℕ → OpenCall
new_call place = record { place = place; progress = progress.Begun }

-- the configuration after its begin
abbrev pub with_call : ℕ → State → State
with_call place c = record c { calls = c.calls ++ new_call place ∷ [] }

-- the configuration without the open call at a place
abbrev pub without_call : ℕ → State → State
without_call place c = record c { calls = filter (λ call. not (call.place == place)) c.calls }

module _ {T A : Type 0} where
  -- whether an open call may return this, its first recorded answer; one that is done may
  abbrev pub may_end : (T → T → Bool) → Option (Call T) → Progress → Answer T A → Bool
  may_end equal None current recorded_answer = false
  may_end equal (Some call) progress.Begun recorded_answer =
      may_return equal call stage.Begun recorded_answer
  may_end equal (Some call) progress.Tried recorded_answer =
      may_return equal call stage.Tried recorded_answer
  may_end equal (Some call) progress.Parked recorded_answer = false
  may_end equal (Some call) progress.Refused recorded_answer = false
  may_end equal (Some call) progress.Done recorded_answer = true
