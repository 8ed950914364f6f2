-- For this crate alone: the places of tickets, a lone one by itself, the others in a table.
use Rattle.std.specs.Prelude.{◌≡◌, ℕ, List, Option, Some, None, IfSome}
use Rattle.std.specs.FinMap.{FinMap, from_entries, get, insert}
use Rattle.std.specs.Ordering.{nat_cmp}

-- the places, by ticket
abbrev pub PlaceMap : Type 0
PlaceMap = FinMap nat_cmp ℕ

-- the places in the entries of a table
abbrev pub places_in : List (ℕ × ℕ) → PlaceMap
places_in entries = from_entries entries

-- the others, and the lone ticket with its place
abbrev pub with_lone : Option (ℕ × ℕ) → PlaceMap → PlaceMap
with_lone None others = others
with_lone (Some lone) others = insert others lone.0 lone.1

-- the others don't have the lone ticket
abbrev pub IsApart : Option (ℕ × ℕ) → PlaceMap → Type 0
IsApart lone others = IfSome lone (λ l. get others l.0 ≡ None)
