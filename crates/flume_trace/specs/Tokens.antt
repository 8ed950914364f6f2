-- What a trace and its claims own. The trace is a ghost list that only grows, and each position is
-- an exclusive ticket.
use Rattle.std.specs.Prelude.{ℕ, List, [], ◌∷◌, map, length}
use base.Fraction.{full_share}
use base.Stored.{Gv, Coded, code_l}
use base.Growing.{Order, prefixes, latest, at_least}
use base.Fml.{Fml, ftrue, fsep}
use types.Keyed.{ticket, tickets_from}

-- a ghost value is its own code
abbrev pub coded_itself : Coded Gv
coded_itself = record { code = λ g. g; inj = λ x y same. same }

-- lists of ghost values grow at their end
abbrev pub growing : Order (List Gv)
growing = prefixes coded_itself

-- the tickets of these positions; δ names all positions of a trace
abbrev pub tickets_of : ℕ → List ℕ → Fml
tickets_of δ [] = ftrue
tickets_of δ (p ∷ ps) = fsep (ticket δ p) (tickets_of δ ps)

-- the empty trace that γ names, with all positions
unfoldable pub unopened_owns : ℕ → ℕ → Fml
unopened_owns γ δ = fsep (latest growing full_share γ []) (tickets_from δ 0)

module _ {E : Type 0} (c : E → Gv) where
  -- the trace as ghost values
  abbrev pub codes : List (List E) → List Gv
  codes writes = map (code_l c) writes

  -- the right to append to these writes, with all positions from their number on
  unfoldable pub trace_owns : ℕ → ℕ → List (List E) → Fml
  trace_owns γ δ writes =
      fsep (latest growing full_share γ (codes writes)) (tickets_from δ (length writes))

  -- that the trace begins with `seen`, for good, and the tickets of these positions
  unfoldable pub claim_owns : ℕ → ℕ → List (List E) → List ℕ → Fml
  claim_owns γ δ seen ps = fsep (at_least growing γ (codes seen)) (tickets_of δ ps)
