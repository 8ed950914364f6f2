-- What the contracts of a chain's links say. A chain's view has `next_at` and `element_at`.
use Rattle.std.specs.Prelude.{◌≡◌, ◌≢◌, ℕ, suc, ◌<◌, ◌≤◌, ◌==◌, Option, Some, None, if◌then◌else◌}
use Rattle.std.specs.Prelude.{slice_index_or}
use Rattle.std.specs.Vec.{vec_len, vec_capacity, with_item}
use Rattle.flume_chain.specs.declared.chain.node.Node.{Node}
use Rattle.flume_chain.specs.declared.chain.node.Node.TheVariants.{Free, Occupied}
use Rattle.flume_chain.specs.declared.labelled.LabelledValue.{LabelledValue}
use Rattle.flume_chain.specs.declared.chain.links.Links.{Links}

-- the place that no element has: it is before the first and after the last
abbrev pub nil : ℕ
nil = 4294967295

-- f, but v at k
abbrev pub with : {X : Type 0} → (ℕ → X) → ℕ → X → ℕ → X
with f k v x = if x == k then v else f x

module _ {L E : Type 0} where
  -- what is read if there is no node
  abbrev pub no_node : Node L E
  no_node = Free nil nil

  -- the place after a node
  abbrev pub next_of : Node L E → ℕ
  next_of (Free previous next) = next
  next_of (Occupied previous next label value) = next

  -- the place before a node
  abbrev pub previous_of : Node L E → ℕ
  previous_of (Free previous next) = previous
  previous_of (Occupied previous next label value) = previous

  -- the element of a node
  abbrev pub element_of : Node L E → Option (LabelledValue L E)
  element_of (Free previous next) = None
  element_of (Occupied previous next label value) = Some (record { label = label; value = value })

  -- an element with another label
  abbrev pub with_new_label : L → LabelledValue L E → LabelledValue L E
  with_new_label l e = record e { label = l }

  -- an element with another value
  abbrev pub with_new_value : E → LabelledValue L E → LabelledValue L E
  with_new_value v e = record e { value = v }

  -- a node with this value, if it has one
  abbrev pub node_with_value : Node L E → E → Node L E
  node_with_value (Free previous next) v = Free previous next
  node_with_value (Occupied previous next label value) v = Occupied previous next label v

module _ {L E Z : Type 0} where
  -- the node at a place
  abbrev pub node_at : Links L E Z → ℕ → Node L E
  node_at s k = slice_index_or s.nodes.items k no_node

  -- the place after a place; after `nil` the first
  abbrev pub next_at : Links L E Z → ℕ → ℕ
  next_at s k = if k == nil then s.first else next_of (node_at s k)

  -- the place before a place; before `nil` the last
  abbrev pub previous_at : Links L E Z → ℕ → ℕ
  previous_at s k = if k == nil then s.last else previous_of (node_at s k)

  -- the element at a place
  abbrev pub element_at : Links L E Z → ℕ → Option (LabelledValue L E)
  element_at s k = element_of (node_at s k)

  -- s with a value in the node at a place
  abbrev pub links_with_value : Links L E Z → ℕ → E → Links L E Z
  links_with_value s k v =
      record s { nodes = with_item s.nodes k (node_with_value (node_at s k) v) }

  -- a node has this place, or it is `nil`
  abbrev pub HasNode : Links L E Z → ℕ → Type 0
  HasNode s k = k ≢ nil → k < vec_len s.nodes

  -- new has the size and the capacity of old, and at each place what these say
  pub record Linked (old new : Links L E Z) (next previous : ℕ → ℕ)
      (element : ℕ → Option (LabelledValue L E)) (free : ℕ) : Type 0 where
    pub size : vec_len new.nodes ≡ vec_len old.nodes
    pub capacity : vec_capacity new.nodes ≡ vec_capacity old.nodes
    pub nexts : (k : ℕ) → next_at new k ≡ next k
    pub previouses : (k : ℕ) → previous_at new k ≡ previous k
    pub elements : (k : ℕ) → element_at new k ≡ element k
    pub first_free : new.free ≡ free

  -- new is as old was
  abbrev pub Same : Links L E Z → Links L E Z → Type 0
  Same old new = Linked old new (next_at old) (previous_at old) (element_at old) old.free

  -- the place is the free one of old, and the one after it is free in new
  pub record Reused (old new : Links L E Z) (place : ℕ) : Type 0 where
    pub at : place ≡ old.free
    pub size : vec_len new.nodes ≡ vec_len old.nodes
    pub capacity : vec_capacity new.nodes ≡ vec_capacity old.nodes
    pub first_free : new.free ≡ next_at old old.free

  -- the place is that of one more node, and none is free in new
  pub record Made (old new : Links L E Z) (place : ℕ) : Type 0 where
    pub at : place ≡ vec_len old.nodes
    pub below : vec_len old.nodes < nil
    pub size : vec_len new.nodes ≡ suc (vec_len old.nodes)
    pub capacity : vec_len old.nodes < vec_capacity old.nodes
        → vec_capacity new.nodes ≡ vec_capacity old.nodes
    pub first_free : new.free ≡ nil

  -- new has the place, which in old was free or of no node, and at each place what these say
  pub record Put (old new : Links L E Z) (place : ℕ) (next previous : ℕ → ℕ)
      (element : ℕ → Option (LabelledValue L E)) : Type 0 where
    pub nexts : (k : ℕ) → next_at new k ≡ next k
    pub previouses : (k : ℕ) → previous_at new k ≡ previous k
    pub elements : (k : ℕ) → element_at new k ≡ element k
    pub reused : old.free ≢ nil → Reused old new place
    pub made : old.free ≡ nil → Made old new place

  -- no node is free, and none is made with no more memory
  pub record Full (s : Links L E Z) : Type 0 where
    pub first_free : s.free ≡ nil
    pub size : vec_len s.nodes < vec_capacity s.nodes → nil ≤ vec_len s.nodes
