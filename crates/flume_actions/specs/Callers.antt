-- What a user's function says of its party.
use Rattle.std.specs.Prelude.{◌≡◌, List}
use Rattle.flume_party.specs.Parties.{PartyState, and_made}
use Rattle.flume_actions.specs.Actions.{Action}
use Rattle.flume_actions.specs.Calls.{AreCalls}

-- the party made whole calls, one after the other, which sent these messages and got those
pub record HasMadeCalls {T A : Type 0} (old new : PartyState (Action T A)) (sent got : List T)
    : Type 0 where
  pub actions : List (Action T A)
  pub calls : AreCalls actions sent got
  pub made : new ≡ and_made old actions
