-- Several steps of a channel, with nothing between them.
use Rattle.std.specs.Prelude.{◌≡◌, List, [], ◌∷◌, ◌++◌}
use Rattle.flume_model.specs.declared.step.Step.{Step}
use Rattle.flume_model.specs.declared.step.Reply.{Reply}
use Rattle.flume_model.specs.Log.{Log}
use Rattle.flume_state.specs.State.{State}
use Rattle.flume_core.specs.Transitions.{IsTransition}
use Rattle.flume_calls.specs.Turns.{Turned}

module _ {T A : Type 0} where
  -- the log that goes on with these steps
  abbrev pub log_after : Log T A → List (Step T × Reply T A) → Log T A
  log_after log [] = log
  log_after log (made ∷ later) = log_after (made ∷ log) later

  module _ {S : Type 0} where
    -- these steps lead from the state before to the state after, with these replies
    pub data StepsBetween : State T S → List (Step T × Reply T A) → State T S → Type 0 where
      NoSteps : {s : State T S} → StepsBetween s [] s
      FirstStep : {old between new : State T S} {step : Step T} {reply : Reply T A}
          {later : List (Step T × Reply T A)} → IsTransition old step reply between
          → StepsBetween between later new → StepsBetween old ((step, reply) ∷ later) new

  module _ {S N : Type 0} where
    -- the channel made some steps, and the batch answered as its table says
    pub record IsBatch (table : List (Step T × Reply T A) → N → Type 0) (old new : State T S)
        (answer : N) : Type 0 where
      pub made : List (Step T × Reply T A)
      pub reachable : StepsBetween old made new
      pub answered : table made answer

module _ {T S A : Type 0} where
  -- some steps, and then others
  pub join_steps : {old between new : State T S} {made more : List (Step T × Reply T A)}
      → StepsBetween old made between → StepsBetween between more new
      → StepsBetween old (made ++ more) new
  join_steps NoSteps rest = rest
  join_steps (FirstStep stepped later) rest = FirstStep stepped (join_steps later rest)

module _ {T A N : Type 0} where
  -- one step was made, and the table has the answer to its reply
  pub record IsOneStep (step : Step T) (table : Reply T A → N → Type 0)
      (made : List (Step T × Reply T A)) (answer : N) : Type 0 where
    pub reply : Reply T A
    pub is : made ≡ (step, reply) ∷ []
    pub answered : table reply answer

  -- a turn of one step is a batch of it
  abbrev pub by_step : {S : Type 0} {step : Step T} {table : Reply T A → N → Type 0}
      {old new : State T S} {answer : N} → Turned step table old new answer
      → IsBatch (IsOneStep step table) old new answer
  by_step {step = step} turn = record {
    made = (step, turn.reply) ∷ [];
    reachable = FirstStep turn.stepped NoSteps;
    answered = record { reply = turn.reply; is = λ i. (step, turn.reply) ∷ []; answered = turn.answered };
  }

module _ {T S A M N : Type 0} {step : Step T} {table : Reply T A → N → Type 0}
    {old new : State T S} {next : N} {makes : List (Step T × Reply T A) → M → Type 0} {answer : M} where
  -- a turn of one step is a batch of whichever table has this step and its reply
  abbrev pub with_table : (turn : Turned step table old new next)
      → makes ((step, turn.reply) ∷ []) answer → IsBatch makes old new answer
  with_table turn answered = record {
    made = (step, turn.reply) ∷ [];
    reachable = FirstStep turn.stepped NoSteps;
    answered = answered;
  }
