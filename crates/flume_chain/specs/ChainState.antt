-- For every contract of a chain: its elements, each with its place, and when links are a chain's.
use Rattle.std.specs.Prelude.{◌≡◌, ℕ, zero, suc, ◌+◌, ◌-◌, ◌<◌, ◌≤◌, ◌==◌, min, List, [], ◌∷◌, ◌++◌}
use Rattle.std.specs.Prelude.{Option, Some, None, if◌then◌else◌, map, length}
use Rattle.std.specs.Vec.{vec_len, vec_capacity}
use Rattle.flume_chain.specs.declared.chain.links.Links.{Links}
use Rattle.flume_chain.specs.declared.labelled.LabelledValue.{LabelledValue}
use Rattle.flume_chain.specs.Links.{nil, next_at, previous_at, element_at}

-- an element, with the place that names it while it is in the list
pub record ChainItem (E : Type 0) : Type 0 where
  pub place : ℕ
  pub element : E

-- the elements in order, and how many more fit with no further allocation
pub record ChainState (E : Type 0) : Type 0 where
  pub items : List (ChainItem E)
  pub room : ℕ

-- 1 if two places are the same, and else 0
abbrev pub once : ℕ → ℕ → ℕ
once x k = if x == k then 1 else 0

-- how often a place is in a list
abbrev pub times : ℕ → List ℕ → ℕ
times k [] = 0
times k (x ∷ xs) = once x k + times k xs

-- what the links say: how many nodes there are, what is at each place, and the first free place
pub record Table (E : Type 0) : Type 0 where
  pub size : ℕ
  pub next : ℕ → ℕ
  pub previous : ℕ → ℕ
  pub element : ℕ → Option E
  pub free : ℕ

module _ {E : Type 0} where
  -- the places of some elements
  abbrev pub places : List (ChainItem E) → List ℕ
  places items = map (λ (x : ChainItem E). x.place) items

  -- the element at a place
  abbrev pub found : List (ChainItem E) → ℕ → Option E
  found [] k = None
  found (x ∷ xs) k = if k == x.place then Some x.element else found xs k

  -- the elements but that at a place, in their order
  abbrev pub without_place : List (ChainItem E) → ℕ → List (ChainItem E)
  without_place [] k = []
  without_place (x ∷ xs) k = if x.place == k then without_place xs k else x ∷ without_place xs k

  -- the elements with one more ahead of that at a place, or last if there is none there
  abbrev pub put_before : List (ChainItem E) → ℕ → ChainItem E → List (ChainItem E)
  put_before [] k x = x ∷ []
  put_before (y ∷ ys) k x = if k == y.place then x ∷ y ∷ ys else y ∷ put_before ys k x

  -- the same ahead of that at the place that may be given, and else last
  abbrev pub put_before_or_last : List (ChainItem E) → Option ℕ → ChainItem E → List (ChainItem E)
  put_before_or_last items None x = items ++ x ∷ []
  put_before_or_last items (Some k) x = put_before items k x

  -- the place of the first element
  abbrev pub first_place : List (ChainItem E) → Option ℕ
  first_place [] = None
  first_place (x ∷ xs) = Some x.place

  -- the first element
  abbrev pub first_element : List (ChainItem E) → Option E
  first_element [] = None
  first_element (x ∷ xs) = Some x.element

  -- those behind the first
  abbrev pub behind_first : List (ChainItem E) → List (ChainItem E)
  behind_first [] = []
  behind_first (x ∷ xs) = xs

  -- the place of the element behind that at a place
  abbrev pub place_after : List (ChainItem E) → ℕ → Option ℕ
  place_after [] k = None
  place_after (x ∷ xs) k = if k == x.place then first_place xs else place_after xs k

  -- the element that may be at a place, ahead of others
  abbrev pub listed : ℕ → Option E → List (ChainItem E) → List (ChainItem E)
  listed k None xs = xs
  listed k (Some e) xs = record { place = k; element = e } ∷ xs

  -- the elements with that at a place behind all others; the same ones if there is none there
  abbrev pub moved_back : List (ChainItem E) → ℕ → List (ChainItem E)
  moved_back xs k = without_place xs k ++ listed k (found xs k) []

  -- the elements met from a place on in this many steps
  abbrev pub walk : (ℕ → ℕ) → (ℕ → Option E) → ℕ → ℕ → List (ChainItem E)
  walk next element k zero = []
  walk next element k (suc n) = listed k (element k) (walk next element (next k) n)

  -- the table is of these elements and these free places, both closed into rings by `nil`
  pub record HoldsItems (t : Table E) (items : List (ChainItem E)) (free_places : List ℕ)
      : Type 0 where
    pub forward : map t.next (nil ∷ places items) ≡ places items ++ nil ∷ []
    pub backward : map t.previous (places items ++ nil ∷ []) ≡ nil ∷ places items
    pub freed : t.free ∷ map t.next free_places ≡ free_places ++ nil ∷ []
    pub elements : (k : ℕ) → t.element k ≡ found items k
    pub within : (k : ℕ) → k < t.size → times k (places items) + times k free_places ≡ 1
    pub beyond : (k : ℕ) → t.size ≤ k → times k (places items) + times k free_places ≡ 0
    pub total : length items + length free_places ≡ t.size
    pub fits : t.size ≤ nil

module _ {L E Z : Type 0} where
  -- what these links say
  abbrev pub table_of : Links L E Z → Table (LabelledValue L E)
  table_of s = record {
    size = vec_len s.nodes;
    next = next_at s;
    previous = previous_at s;
    element = element_at s;
    free = s.free;
  }

  -- how many more elements fit into these links, which have n
  abbrev pub room_of : Links L E Z → ℕ → ℕ
  room_of s n = min (vec_capacity s.nodes) nil - n

  -- the chain of n elements in these links
  abbrev pub chain_of : Links L E Z → ℕ → ChainState (LabelledValue L E)
  chain_of s n = record { items = walk (next_at s) (element_at s) s.first n; room = room_of s n }

  -- these links are of n elements and of the free places
  pub record IsChain (s : Links L E Z) (n : ℕ) : Type 0 where
    pub items : List (ChainItem (LabelledValue L E))
    pub free_places : List ℕ
    pub holds : HoldsItems (table_of s) items free_places
    pub count : n ≡ length items
