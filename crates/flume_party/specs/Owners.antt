-- Which actions and writes have an owner. A write is the list of actions of one call.
use Rattle.std.specs.Prelude.{◌≡◌, ◌≢◌, ℕ, Bool, true, List, [], length}
use Rattle.std.specs.List.{filter, flat_map, list_all}

module _ {E : Type 0} where
  -- the actions of these writes, in their order
  abbrev pub actions_of : List (List E) → List E
  actions_of writes = flat_map (λ write. write) writes

  module _ (is_owned : E → Bool) where
    -- each action has an owner
    abbrev pub AreOwned : List E → Type 0
    AreOwned actions = list_all is_owned actions ≡ true

    -- some action was made, and none has an owner
    pub record AreUnowned (actions : List E) : Type 0 where
      pub some : actions ≢ []
      pub unowned : filter is_owned actions ≡ []

    -- the writes of parties
    abbrev pub owned_writes : List (List E) → List (List E)
    owned_writes writes = filter (list_all is_owned) writes

    -- the writes of parties are counted, and theirs are all actions that have an owner
    pub record AreCounted (writes : List (List E)) (n : ℕ) : Type 0 where
      pub count : n ≡ length (owned_writes writes)
      pub owned : actions_of (owned_writes writes) ≡ filter is_owned (actions_of writes)
