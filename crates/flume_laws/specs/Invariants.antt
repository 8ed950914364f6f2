-- What a program says of its own state, by what its party sent and got.
use Rattle.std.specs.Prelude.{List}
use Rattle.flume_party.specs.Parties.{PartyState}
use Rattle.flume_actions.specs.Actions.{Action}
use Rattle.flume_actions.specs.Callers.{HasMadeCalls}

-- The party made whole calls, one after the other, and this holds of what they sent and what they
-- got. A program writes its own invariant here, as how a number of it changed by the sum of what
-- was sent.
pub record HasMadeCallsWhere {T A : Type 0} (old new : PartyState (Action T A))
    (holds : (sent got : List T) → Type 0) : Type 0 where
  pub sent : List T
  pub got : List T
  pub calls : HasMadeCalls old new sent got
  pub so : holds sent got
