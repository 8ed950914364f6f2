-- What a turn of one step did is a step that some run goes on with.
use Rattle.std.proofs.Common.{◌≡◌}
use Rattle.flume_model.specs.declared.step.Step.{Step}
use Rattle.flume_model.specs.declared.step.Reply.{Reply}
use Rattle.flume_state.specs.State.{State}
use Rattle.flume_calls.specs.Polls.{AtMostOneStep, OneStep}
use Rattle.flume_calls.specs.Turns.{Turned}
use Rattle.flume.specs.LockedTurns.{HasDone, HasMade}
use Rattle.flume.specs.CallSteps.{HasReplied}

-- a turn of one step makes no more
pub one_step : {T S A N : Type 0} {step : Step T} {table : Reply T A → N → Type 0} {old new : State T S} {answer : N}
    → Turned {A = A} step table old new answer → AtMostOneStep A old new
one_step {step = step} turn = OneStep step turn.reply turn.stepped

module _ {T S A N : Type 0} {step : Step T} {table : Reply T A → N → Type 0}
    {outcome : State T S → State T S → N → Type 0} {answer : N} where
  -- the step was made
  pub step_made : HasDone A (λ old new answer. Turned {A = A} step table old new answer × outcome old new answer) answer
      → HasMade step table answer
  step_made done =
      let turn = done.turn.0 in
      record {
        opening = done.opening;
        log = done.log;
        reply = turn.reply;
        run = (turn.stepped.extends done.opening done.log done.represents).run;
        answered = turn.answered;
      }

module _ {T S A N : Type 0} {step : Step T} {reply_of : N → Reply T A}
    {outcome : State T S → State T S → N → Type 0} {answer : N} where
  -- the step was made, and its reply is the one that the answer tells
  pub step_replied : HasDone A (λ old new n. Turned {A = A} step (λ reply n. reply ≡ reply_of n) old new n × outcome old new n) answer
      → HasReplied step (reply_of answer)
  step_replied done =
      let turn = done.turn.0 in
      record {
        opening = done.opening;
        log = done.log;
        reply = turn.reply;
        run = (turn.stepped.extends done.opening done.log done.represents).run;
        answered = turn.answered;
      }
