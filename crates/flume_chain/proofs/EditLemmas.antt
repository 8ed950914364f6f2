-- What is found at a place of a chain, and what room is left once it was cleared.
use Rattle.std.proofs.Common.{◌≡◌, ℕ, ◌+◌, ◌≤◌, length, ap, ◌∙◌, arith}
use Rattle.std.specs.Option.{option_map}
use Rattle.std.specs.Vec.{vec_capacity}
use Rattle.flume_chain.specs.declared.chain.links.Links.{Links}
use Rattle.flume_chain.specs.declared.labelled.LabelledValue.{LabelledValue}
use Rattle.flume_chain.specs.Links.{element_at}
use Rattle.flume_chain.specs.ChainState.{times, ChainState, IsChain, places, found, table_of, chain_of, room_of}
use Rattle.flume_chain.proofs.TableLemmas.{ring_of}
use Rattle.flume_chain.proofs.ChainListLemmas.{kept_items}

module _ {L E Z : Type 0} where
  -- what a node holds is what is found at its place
  pub found_kept : (s : Links L E Z) (n : ℕ) (v : ChainState (LabelledValue L E)) (k : IsChain s n) (c : ℕ) → chain_of s n ≡ v
      → element_at s c ≡ found v.items c
  found_kept s n v k c is = k.holds.elements c ∙ ap (λ l. found l c) (kept_items s n v k is)

  -- so is each part of it
  pub part_kept : {X : Type 0} (f : LabelledValue L E → X) (s : Links L E Z) (n : ℕ) (v : ChainState (LabelledValue L E))
      (k : IsChain s n) (c : ℕ)
      → chain_of s n ≡ v → option_map f (element_at s c) ≡ option_map f (found v.items c)
  part_kept f s n v k c is = ap (option_map f) (found_kept s n v k c is)

  -- each place of the elements names one
  pub apart_kept : (s : Links L E Z) (n : ℕ) (v : ChainState (LabelledValue L E)) → IsChain s n → chain_of s n ≡ v → (j : ℕ)
      → times j (places v.items) ≤ 1
  apart_kept s n v k is j =
      let ring = ring_of (table_of s) k.items k.free_places k.holds in
      let most = ring.apart j in
      let same = ap (λ l. times j (places l)) (kept_items s n v k is) in
      omega arith

  -- once all elements were dropped, there is room for as many more as there were
  pub cleared_room : (old new : Links L E Z) (n : ℕ) (v : ChainState (LabelledValue L E)) (k : IsChain old n)
      → vec_capacity new.nodes ≡ vec_capacity old.nodes
      → chain_of old n ≡ v → room_of new 0 ≡ v.room + length v.items
  cleared_room old new n v k same is =
      let room = ap (λ (x : ChainState (LabelledValue L E)). x.room) is in
      let items = ap length (kept_items old n v k is) in
      let count = k.count in
      let total = k.holds.total in
      let fits = k.holds.fits in
      omega (arith, old.nodes.ok.0, old.nodes.ok.1)
