-- What a party is, and how it changes.
use Rattle.std.specs.Prelude.{◌≡◌, ℕ, ◌+◌, ◌-◌, Bool, List, ◌++◌}
use Rattle.flume_party.specs.Owners.{AreOwned}
use Rattle.flume_party.specs.Interleavings.{Interleaving}

-- a party: its parts of the right to act, and the actions that it made, the oldest first
pub record PartyState (E : Type 0) : Type 0 where
  pub parts : ℕ
  pub actions : List E

module _ {E : Type 0} where
  -- the party with these parts and actions
  abbrev pub party_of : ℕ → List E → PartyState E
  party_of parts actions = record { parts = parts; actions = actions }

  -- the party after it made these actions too
  abbrev pub and_made : PartyState E → List E → PartyState E
  and_made party actions = party_of party.parts (party.actions ++ actions)

  -- the party without these parts
  abbrev pub without_parts : PartyState E → ℕ → PartyState E
  without_parts party parts = party_of (party.parts - parts) party.actions

  -- A party made actions that `may` allows. `before` and `after` are the trace.
  pub record Recorded (may : List E → Type 0) (is_owned : E → Bool) (before after : List E)
      (party party' : PartyState E) : Type 0 where
    -- the actions that were made
    pub actions : List E
    -- they were allowed
    pub allowed : may actions
    -- each has an owner
    pub owned : AreOwned is_owned actions
    -- they are the end of the trace
    pub recorded : after ≡ before ++ actions
    -- they are the party's
    pub made : party' ≡ and_made party actions

  -- two parties became one
  pub record Merged (party other both : PartyState E) : Type 0 where
    -- it has the parts of both
    pub parts : both.parts ≡ party.parts + other.parts
    -- and the actions of both, those of each in their order
    pub actions : Interleaving party.actions other.actions both.actions
