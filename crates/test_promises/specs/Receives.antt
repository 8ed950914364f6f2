-- What a party did that received twice.
use Rattle.std.specs.Prelude.{Result}
use Rattle.flume.specs.declared.error.RecvTimeoutError.{RecvTimeoutError}
use Rattle.flume.specs.Parties.{PartyState}
use Rattle.flume.specs.Actions.{Action}
use Rattle.flume.specs.Calls.{HasReceived}

-- the party made two receives, one after the other, with these results
pub record HasReceivedTwo {T A : Type 0} (old new : PartyState (Action T A))
    (first second : Result T RecvTimeoutError) : Type 0 where
  pub between : PartyState (Action T A)
  pub one : HasReceived old between first
  pub other : HasReceived between new second
