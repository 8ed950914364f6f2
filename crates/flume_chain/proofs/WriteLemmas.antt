-- What a chain is once a value or a label was written at a place.
use Rattle.std.proofs.Common.{◌≡◌, ℕ, ◌+◌, ◌<◌, ◌==◌, List, [], ◌∷◌, ◌++◌, false, Some, IsSome, map, length}
use Rattle.std.proofs.Common.{refl, sym, ap, subst, ◌∙◌, inl, inr, arith, if◌then◌else◌, ne_eqb}
use Rattle.std.proofs.lemmas.Bool.{cases_Bool, cases_lt, eqb-true, eqb-false}
use Rattle.std.proofs.lemmas.List.{get_or_past, get_or-set_same, get_or-set_other}
use Rattle.std.specs.Option.{option_map}
use Rattle.std.specs.Vec.{vec_len}
use Rattle.flume_chain.specs.declared.chain.node.Node.{Node}
use Rattle.flume_chain.specs.declared.chain.node.Node.TheVariants.{Free, Occupied}
use Rattle.flume_chain.specs.declared.chain.links.Links.{Links}
use Rattle.flume_chain.specs.declared.labelled.LabelledValue.{LabelledValue}
use Rattle.flume_chain.specs.Links.{nil, no_node, with, node_at, next_of, previous_of, element_of}
use Rattle.flume_chain.specs.Links.{node_with_value, links_with_value, with_new_value, next_at, previous_at}
use Rattle.flume_chain.specs.Links.{element_at, Linked}
use Rattle.flume_chain.specs.ChainState.{times, ChainItem, ChainState, Table, HoldsItems, IsChain, places, found, table_of, chain_of}
use Rattle.flume_chain.specs.ChangedAt.{changed_at}
use Rattle.flume_chain.proofs.StepLemmas.{linked_table}
use Rattle.flume_chain.proofs.ChainListLemmas.{kept_items, walked, with_self}

module _ {E : Type 0} (f : E → E) where
  -- the places stay
  pub places-changed_at : (xs : List (ChainItem E)) (k : ℕ) → places (changed_at f k xs) ≡ places xs
  places-changed_at [] k = refl
  places-changed_at (x ∷ xs) k = elim (cases_Bool (k == x.place)) [
    | inl t ↦ ap (λ b. places ((if b then record x { element = f x.element } else x) ∷ changed_at f k xs)) t
        ∙ ap (λ (l : List ℕ). x.place ∷ l) (places-changed_at xs k)
    | inr t ↦ ap (λ b. places ((if b then record x { element = f x.element } else x) ∷ changed_at f k xs)) t
        ∙ ap (λ (l : List ℕ). x.place ∷ l) (places-changed_at xs k)
  ]

  -- there are as many elements
  pub length-changed_at : (xs : List (ChainItem E)) (k : ℕ) → length (changed_at f k xs) ≡ length xs
  length-changed_at [] k = refl
  length-changed_at (x ∷ xs) k = let n = length-changed_at xs k in omega arith

  -- what is found once the element at a place was changed
  pub found-changed_at : (xs : List (ChainItem E)) (k j : ℕ) → found (changed_at f k xs) j ≡ with (found xs) k (option_map f (found xs k)) j
  found-changed_at [] k j = elim (cases_Bool (j == k)) [
    | inl t ↦ sym (ap (λ b. if b then option_map f (found [] k) else found [] j) t)
    | inr t ↦ sym (ap (λ b. if b then option_map f (found [] k) else found [] j) t)
  ]
  found-changed_at (x ∷ xs) k j = elim (cases_Bool (j == k)) [
    | inl t ↦ ap (found (changed_at f k (x ∷ xs))) (eqb-true j k t)
        ∙ elim (cases_Bool (k == x.place)) [
          | inl s ↦ ap (λ b. found ((if b then record x { element = f x.element } else x) ∷ changed_at f k xs) k) s
              ∙ ap (λ b. if b then Some (f x.element) else found (changed_at f k xs) k) s
              ∙ sym (ap (λ b. option_map f (if b then Some x.element else found xs k)) s)
          | inr s ↦ ap (λ b. found ((if b then record x { element = f x.element } else x) ∷ changed_at f k xs) k) s
              ∙ ap (λ b. if b then Some x.element else found (changed_at f k xs) k) s
              ∙ sym (ap (found (changed_at f k xs)) (eqb-true j k t)) ∙ found-changed_at xs k j
              ∙ ap (λ b. if b then option_map f (found xs k) else found xs j) t
              ∙ sym (ap (λ b. option_map f (if b then Some x.element else found xs k)) s)
        ]
        ∙ sym (ap (λ b. if b then option_map f (found (x ∷ xs) k) else found (x ∷ xs) j) t)
    | inr t ↦ elim (cases_Bool (j == x.place)) [
      | inl s ↦ (
          let other : (k == x.place) ≡ false = ne_eqb k x.place (λ e. eqb-false j k t (eqb-true j x.place s ∙ sym e)) in
          ap (λ b. found ((if b then record x { element = f x.element } else x) ∷ changed_at f k xs) j) other
          ∙ ap (λ b. if b then Some x.element else found (changed_at f k xs) j) s
          ∙ sym (ap (λ b. if b then Some x.element else found xs j) s)
          )
      | inr s ↦ elim (cases_Bool (k == x.place)) [
        | inl q ↦ ap (λ b. found ((if b then record x { element = f x.element } else x) ∷ changed_at f k xs) j) q
            ∙ ap (λ b. if b then Some (f x.element) else found (changed_at f k xs) j) s
        | inr q ↦ ap (λ b. found ((if b then record x { element = f x.element } else x) ∷ changed_at f k xs) j) q
            ∙ ap (λ b. if b then Some x.element else found (changed_at f k xs) j) s
      ]
          ∙ found-changed_at xs k j
          ∙ ap (λ b. if b then option_map f (found xs k) else found xs j) t
          ∙ sym (ap (λ b. if b then Some x.element else found xs j) s)
    ]
        ∙ sym (ap (λ b. if b then option_map f (found (x ∷ xs) k) else found (x ∷ xs) j) t)
  ]

  -- a table with f of the element at a place
  abbrev pub written : Table E → ℕ → Table E
  written t k = record {
    size = t.size;
    next = t.next;
    previous = t.previous;
    element = with t.element k (option_map f (t.element k));
    free = t.free;
  }

  -- it holds the elements with f of that at the place
  pub writes : (t : Table E) (items : List (ChainItem E)) (free_places : List ℕ) (k : ℕ) → HoldsItems t items free_places
      → HoldsItems (written t k) (changed_at f k items) free_places
  writes t items free_places k h =
      let names = places-changed_at items k in
      let count = length-changed_at items k in
      record {
        forward = subst (λ (l : List ℕ). map t.next (nil ∷ l) ≡ l ++ nil ∷ []) (sym names) h.forward;
        backward = subst (λ (l : List ℕ). map t.previous (l ++ nil ∷ []) ≡ nil ∷ l) (sym names) h.backward;
        freed = h.freed;
        elements = λ j.
            ap (λ o. if j == k then option_map f o else t.element j) (h.elements k)
            ∙ ap (λ o. if j == k then option_map f (found items k) else o) (h.elements j)
            ∙ sym (found-changed_at items k j);
        within = λ j l. ap (λ (p : List ℕ). times j p + times j free_places) names ∙ h.within j l;
        beyond = λ j l. ap (λ (p : List ℕ). times j p + times j free_places) names ∙ h.beyond j l;
        total = let n = h.total in omega arith;
        fits = h.fits;
      }

module _ {L E : Type 0} (v : E) where
  -- with another value a node has the same places next to it, and the element with this value
  next_left : (x : Node L E) → next_of (node_with_value x v) ≡ next_of x
  next_left (Free p n) = refl
  next_left (Occupied p n l w) = refl

  previous_left : (x : Node L E) → previous_of (node_with_value x v) ≡ previous_of x
  previous_left (Free p n) = refl
  previous_left (Occupied p n l w) = refl

  element_left : (x : Node L E) → element_of (node_with_value x v) ≡ option_map (with_new_value v) (element_of x)
  element_left (Free p n) = refl
  element_left (Occupied p n l w) = refl

module _ {L E Z : Type 0} where
  -- if a node has an element, its place is below the size
  pub node_below : (s : Links L E Z) (k : ℕ) → IsSome (element_at s k) → k < vec_len s.nodes
  node_below s k some = elim (cases_lt k (vec_len s.nodes)) [
    | inl lt ↦ lt
    | inr ge ↦ (
        let past = get_or_past s.nodes.items k no_node (omega (arith, s.nodes.ok.0)) in
        absurd (let no = subst (λ (x : Node L E). IsSome (element_of x)) past some in cc)
        )
  ]

  -- what is seen of each node once a value was written into one
  seen : {X : Type 0} (s : Links L E Z) (k j : ℕ) (v : E) (f : Node L E → X) → k < vec_len s.nodes
      → f (node_at (links_with_value s k v) j) ≡ with (λ i. f (node_at s i)) k (f (node_with_value (node_at s k) v)) j
  seen s k j v f lt = elim (cases_Bool (j == k)) [
    | inl t ↦ ap (λ i. f (node_at (links_with_value s k v) i)) (eqb-true j k t)
        ∙ ap f (get_or-set_same s.nodes.items k (node_with_value (node_at s k) v) no_node (omega (arith, s.nodes.ok.0)))
        ∙ sym (ap (λ b. if b then f (node_with_value (node_at s k) v) else f (node_at s j)) t)
    | inr t ↦ ap f (get_or-set_other s.nodes.items k j (node_with_value (node_at s k) v) no_node (eqb-false j k t))
        ∙ sym (ap (λ b. if b then f (node_with_value (node_at s k) v) else f (node_at s j)) t)
  ]

  -- what the writing of a value leaves as it was
  left : {X : Type 0} (s : Links L E Z) (k j : ℕ) (v : E) (f : Node L E → X) → k < vec_len s.nodes
      → f (node_with_value (node_at s k) v) ≡ f (node_at s k) → f (node_at (links_with_value s k v) j) ≡ f (node_at s j)
  left s k j v f lt same = seen s k j v f lt ∙ with_self (λ i. f (node_at s i)) k (f (node_with_value (node_at s k) v)) j (sym same)

  -- links with a value written into a node
  pub value_written : (s : Links L E Z) (k : ℕ) (v : E) → k < vec_len s.nodes
      → Linked s (links_with_value s k v) (next_at s) (previous_at s)
      (with (element_at s) k (option_map (with_new_value v) (element_at s k))) s.free
  value_written s k v lt = record {
    size = refl;
    capacity = refl;
    nexts = λ j. ap (λ p. if j == nil then s.first else p) (left s k j v next_of lt (next_left v (node_at s k)));
    previouses = λ j. ap (λ p. if j == nil then s.last else p) (left s k j v previous_of lt (previous_left v (node_at s k)));
    elements = λ j. seen s k j v element_of lt ∙ ap (λ o. with (element_at s) k o j) (element_left v (node_at s k));
    first_free = refl;
  }

-- links with f of the element at a place
module _ {L E Z : Type 0} (f : LabelledValue L E → LabelledValue L E) (old new : Links L E Z) (n c : ℕ) (k : IsChain old n)
    (is : Linked old new (next_at old) (previous_at old) (with (element_at old) c (option_map f (element_at old c))) old.free) where
  -- they are of the elements with f of that at the place
  pub edited_kept : IsChain new n
  edited_kept = record {
    items = changed_at f c k.items;
    free_places = k.free_places;
    holds = subst (λ t. HoldsItems t (changed_at f c k.items) k.free_places) (sym (linked_table old new _ _ _ _ is))
        (writes f (table_of old) k.items k.free_places c k.holds);
    count = k.count ∙ sym (length-changed_at f k.items c);
  }

  -- and so the chain has f of the element at the place
  pub edited_items : (v : ChainState (LabelledValue L E)) → chain_of old n ≡ v → (chain_of new n).items ≡ changed_at f c v.items
  unfolding edited_kept
  edited_items v view =
      let m = edited_kept in
      walked new n m.items m.free_places m.holds m.count ∙ ap (changed_at f c) (kept_items old n v k view)

-- links with a value written where there was one
module _ {L E Z : Type 0} (s : Links L E Z) (n c : ℕ) (w : E) (k : IsChain s n) (some : IsSome (element_at s c)) where
  -- they are of the elements with the other one
  pub written_kept : IsChain (links_with_value s c w) n
  written_kept = edited_kept (with_new_value w) s (links_with_value s c w) n c k (value_written s c w (node_below s c some))

  -- and so the chain has the other one at the place
  pub written_chain : (v : ChainState (LabelledValue L E)) → chain_of s n ≡ v
      → chain_of (links_with_value s c w) n ≡ record v { items = changed_at (with_new_value w) c v.items }
  written_chain v view =
      let there = edited_items (with_new_value w) s (links_with_value s c w) n c k (value_written s c w (node_below s c some)) v view in
      λ i. record { items = there i; room = (ap (λ (x : ChainState (LabelledValue L E)). x.room) view) i }
