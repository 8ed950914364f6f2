-- What became of the one message that was offered in a new channel.
use Rattle.std.specs.Prelude.{ℕ, Option, Result, [], ◌∷◌}
use Rattle.flume.specs.declared.step.Step.TheVariants.{TrySend}
use Rattle.flume.specs.declared.step.Reply.{Reply}
use Rattle.flume.specs.declared.error.TrySendError.{TrySendError}
use Rattle.flume.specs.SendTurns.{after_try_send}
use Rattle.flume.specs.Actions.{IsWhole}
use Rattle.flume.specs.CallSteps.{try_send_as_turn}

-- The message was offered, with this result. The offer and its reply are all that sent or received
-- in a channel that was opened with the capacity.
pub record HasOffered {T : Type 0} (A : Type 0) (capacity : Option ℕ) (message : T)
    (sent : Result (Unit {0}) (TrySendError T)) : Type 0 where
  pub reply : Reply T A
  pub answered : after_try_send reply (try_send_as_turn sent)
  pub left : Option ℕ
  pub whole : IsWhole capacity ((TrySend message, reply) ∷ []) left
