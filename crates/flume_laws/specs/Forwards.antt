-- What a thread does that sends what it makes of what it gets.
use Rattle.std.specs.Prelude.{Bool, not, List, [], map}
use Rattle.std.specs.List.{filter}
use Rattle.flume_party.specs.Parties.{PartyState}
use Rattle.flume_actions.specs.Actions.{Action}
use Rattle.flume_actions.specs.Callers.{HasMadeCalls}

-- the replies to the requests that pass the test, in their order
abbrev pub replies_to : {X Y : Type 0} → (X → Bool) → (X → Y) → List X → List Y
replies_to test reply requests = map reply (filter test requests)

module _ {X Y A : Type 0} where
  -- the reader got some messages, and the writer sent what `f` makes of each, in their order
  pub record HasForwarded (f : X → Y) (reader reader' : PartyState (Action X A))
      (writer writer' : PartyState (Action Y A)) : Type 0 where
    pub messages : List X
    pub got : HasMadeCalls reader reader' [] messages
    pub sent : HasMadeCalls writer writer' (map f messages) []

  -- A server for two clients: its reader got some requests. One writer sent the replies to those of
  -- the first client, in their order, and another writer the replies to those of the second.
  pub record HasServed (is_of_second : X → Bool) (reply : X → Y)
      (reader reader' : PartyState (Action X A))
      (first first' second second' : PartyState (Action Y A)) : Type 0 where
    pub requests : List X
    pub got : HasMadeCalls reader reader' [] requests
    pub to_first : HasMadeCalls first first'
        (replies_to (λ x. not (is_of_second x)) reply requests) []
    pub to_second : HasMadeCalls second second' (replies_to is_of_second reply requests) []
