-- The elements of a chain, each with a ticket. The view of a channel has `WithTicket`.
use Rattle.std.specs.Prelude.{◌≡◌, ◌==◌, ℕ, ◌≤◌, if◌then◌else◌}
use Rattle.std.specs.Prelude.{List, [], ◌∷◌, Option, Some, None, map}
use Rattle.std.specs.FinMap.{get}
use Rattle.flume_chain.specs.ChainState.{ChainItem, times, places}
use Rattle.flume_chain.specs.declared.labelled.LabelledValue.{LabelledValue}
use Rattle.flume_state.specs.layout.Places.{PlaceMap}

-- an element: its label is its ticket
abbrev pub WithTicket : Type 0 → Type 0
WithTicket E = LabelledValue ℕ E

module _ {E : Type 0} where
  -- the tickets of some elements
  abbrev pub tickets : List (ChainItem (WithTicket E)) → List ℕ
  tickets items = map (λ (x : ChainItem (WithTicket E)). x.element.label) items

  -- the place of the first element with a ticket
  abbrev pub place_of : ℕ → List (ChainItem (WithTicket E)) → Option ℕ
  place_of t [] = None
  place_of t (x ∷ items) = if x.element.label == t then Some x.place else place_of t items

  -- no two elements have a ticket or a place in common, and the map has the tickets' places
  pub record Agrees (items : List (ChainItem (WithTicket E))) (table : PlaceMap) : Type 0 where
    pub found : (t : ℕ) → get table t ≡ place_of t items
    pub single : (t : ℕ) → times t (tickets items) ≤ 1
    pub apart : (k : ℕ) → times k (places items) ≤ 1
