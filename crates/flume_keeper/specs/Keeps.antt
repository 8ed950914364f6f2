-- What is kept of a turn: which steps it made, and what they did to the logs of the channel.
use Rattle.std.specs.Prelude.{ℕ, List, Option, reverse}
use Rattle.flume_model.specs.Log.{Log, Opening, opens}
use Rattle.flume_state.specs.State.{State}
use Rattle.flume_model.specs.Replies.{IsRun}
use Rattle.flume_core.specs.Represents.{Represents}
use Rattle.flume_party.specs.Owners.{AreOwned, AreUnowned}
use Rattle.flume_calls.specs.Batches.{log_after}
use Rattle.flume_actions.specs.Actions.{Action, is_of_party}

module _ {T A S N : Type 0} where
  -- A turn made some steps, to whose replies it answered so by its table. Each log of the state
  -- before, with these steps and replies, is one of the state after.
  pub record HasMade (makes : List (Action T A) → N → Type 0) (old new : State T S) (answer : N)
      : Type 0 where
    pub made : List (Action T A)
    pub answered : makes made answer
    pub leads : (opening : Opening) (log : Log T A) → Represents opening log old
        → Represents opening (log_after log made) new

module _ {T A : Type 0} where
  -- some channel's run goes on with these steps and replies
  pub record SomeRunGoesOn (steps : List (Action T A)) : Type 0 where
    pub opening : Opening
    pub log : Log T A
    pub run : IsRun opening (log_after log steps)

module _ {T A S : Type 0} where
  -- a channel that was opened with the capacity is in the state after these actions
  abbrev pub LeadsTo : Option ℕ → List (Action T A) → State T S → Type 0
  LeadsTo capacity history s = Represents (opens capacity 1) (reverse history) s

  -- the logs, and openings, after which a channel is in this state
  abbrev pub LogsOf : State T S → Opening → Log T A → Type 0
  LogsOf s opening log = Represents opening log s

module _ {T A N : Type 0} where
  -- whatever the turn answers, its steps are all a party's
  abbrev pub MovesMessages : (List (Action T A) → N → Type 0) → Type 0
  MovesMessages makes =
      (made : List (Action T A)) (answer : N) → makes made answer → AreOwned is_of_party made

  -- whatever the turn answers, it makes some step, and none is a party's
  abbrev pub MovesNone : (List (Action T A) → N → Type 0) → Type 0
  MovesNone makes =
      (made : List (Action T A)) (answer : N) → makes made answer → AreUnowned is_of_party made

-- `did` is what a keeper says: that a party made these steps, with these replies
module _ {P T A : Type 0} (did : P → List (Action T A) → P → Type 0) where
  -- the party made a turn's steps, to whose replies the turn answered so by its table
  pub record Did {N : Type 0} (makes : List (Action T A) → N → Type 0) (old : P) (answer : N)
      (new : P) : Type 0 where
    pub steps : List (Action T A)
    pub answered : makes steps answer
    pub made : did old steps new
