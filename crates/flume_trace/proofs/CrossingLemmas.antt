-- Nothing that the types own is tied to a thread.
use Rattle.std.proofs.Common.{ℕ, List, [], ◌∷◌}
use base.Stored.{Gv}
use base.Shift.{Keyless}
use types.Keyed.{token, entry_keyless, entries_keyless}
use Rattle.flume_trace.specs.Tokens.{tickets_of, unopened_owns, trace_owns, claim_owns}

tickets_keyless : (δ : ℕ) (ps : List ℕ) → Keyless (tickets_of δ ps)
tickets_keyless δ [] = tt
tickets_keyless δ (p ∷ ps) = (entry_keyless token δ p tt, tickets_keyless δ ps)

pub unopened_keyless : (γ δ : ℕ) → Keyless (unopened_owns γ δ)
unfolding unopened_owns base.Growing.latest
unopened_keyless γ δ = (tt, entries_keyless token δ 0 (λ _. tt))

module _ {E : Type 0} (c : E → Gv) (γ δ : ℕ) where
  pub trace_keyless : (writes : List (List E)) → Keyless (trace_owns c γ δ writes)
  unfolding trace_owns base.Growing.latest
  trace_keyless writes = (tt, entries_keyless token δ _ (λ _. tt))

  pub claim_keyless : (seen : List (List E)) (ps : List ℕ) → Keyless (claim_owns c γ δ seen ps)
  unfolding claim_owns base.Growing.at_least
  claim_keyless seen ps = (tt, tickets_keyless δ ps)
