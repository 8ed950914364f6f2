-- What is known of the links of a chain, and what each call leaves of them.
use Rattle.std.proofs.Common.{◌≡◌, ◌≢◌, ℕ, ◌+◌, ◌-◌, ◌<◌, ◌≤◌, ◌==◌, min, List, [], ◌∷◌, ◌++◌, Option, Some}
use Rattle.std.proofs.Common.{None, length, length-append, refl, sym, ap, subst, ◌∙◌, inl, inr, arith}
use Rattle.std.proofs.Common.{if◌then◌else◌}
use Rattle.std.proofs.lemmas.Bool.{cases_Bool, cases_lt, eqb-true}
use Rattle.std.specs.Option.{option_map}
use Rattle.std.specs.Vec.{vec_len}
use Rattle.std.proofs.lemmas.List.{map-append, get_or_past}
use Rattle.flume_chain.specs.declared.chain.links.Links.{Links}
use Rattle.flume_chain.specs.declared.labelled.LabelledValue.{LabelledValue}
use Rattle.flume_chain.specs.Links.{nil, no_node, element_of, with, next_at, previous_at, element_at, Linked, Same}
use Rattle.flume_chain.specs.ChainState.{once, times, ChainItem, ChainState, Table, HoldsItems, IsChain}
use Rattle.flume_chain.specs.ChainState.{places, without_place, put_before, table_of, room_of, chain_of}
use Rattle.flume_chain.specs.ChainState.{first_place, place_after}
use Rattle.flume_chain.proofs.RingLemmas.{Ring, times-append, once_same}
use Rattle.flume_chain.proofs.SpliceLemmas.{around}
use Rattle.flume_chain.proofs.TableLemmas.{walk_in, item, walk_is, Split, found_some, without_at, put_before_at, after_at, heads, ring_of}
use Rattle.flume_chain.proofs.StepLemmas.{linked_table, emptied, bypassed, none_free, ring_below, takes}

module _ {X : Type 0} where
  -- what is at a place already may be written there
  pub with_self : (f : ℕ → X) (a : ℕ) (v : X) (k : ℕ) → f a ≡ v → with f a v k ≡ f k
  with_self f a v k h = elim (cases_Bool (k == a)) [
    | inl e ↦ ap (λ t. if t then v else f k) e ∙ sym h ∙ ap f (sym (eqb-true k a e))
    | inr e ↦ ap (λ t. if t then v else f k) e
  ]

-- what is there, if something is
pub record Standing {X : Type 0} (o : Option X) : Type 0 where
  pub element : X
  pub is : Some element ≡ o

module _ {X Y : Type 0} where
  -- if a part is read of it, it is there
  pub standing : (f : X → Y) (y : Y) (o : Option X) → Some y ≡ option_map f o → Standing o
  standing f y None h = absurd (let no : ⊥ = cc in no)
  standing f y (Some x) h = record { element = x; is = refl }

  -- if no part is read, nothing is there
  pub missing : (f : X → Y) (o : Option X) → None ≡ option_map f o → None ≡ o
  missing f None h = refl
  missing f (Some x) h = absurd (let no : ⊥ = cc in no)

module _ {E : Type 0} where
  -- the places next to that of an element are the end or below the size
  pub record Neighbours (t : Table E) (c : ℕ) : Type 0 where
    pub next : t.next c ≢ nil → t.next c < t.size
    pub previous : t.previous c ≢ nil → t.previous c < t.size

  pub neighbours : (t : Table E) (xs ys : List (ChainItem E)) (c : ℕ) (e : E) (free_places : List ℕ)
      → HoldsItems t (xs ++ item c e ∷ ys) free_places
      → Neighbours t c
  neighbours t xs ys c e free_places h =
      let names : places (xs ++ item c e ∷ ys) ≡ places xs ++ c ∷ places ys = map-append (λ (x : ChainItem E). x.place) xs
      (item c e ∷ ys) in
      let r = around t.next t.previous (places xs) c (places ys)
      (subst (Ring t.next t.previous) names (ring_of t (xs ++ item c e ∷ ys) free_places h)) in
      let last_stands : 1 ≤ times (t.previous c) (nil ∷ places (xs ++ item c e ∷ ys)) =
      let s = ap (times (t.previous c)) r.ends in
      let a = times-append (t.previous c) r.front (r.last ∷ []) in
      let o = once_same (t.previous c) in
      let p = ap (λ x. once x (t.previous c)) r.from_back in
      let d = times-append (t.previous c) (places xs) (c ∷ places ys) in
      let n = ap (times (t.previous c)) names in
      omega arith in
      let head_stands : 1 ≤ times (t.next c) (nil ∷ places (xs ++ item c e ∷ ys)) =
      let s = ap (times (t.next c)) r.begins in
      let a = times-append (t.next c) (places ys) (nil ∷ []) in
      let o = once_same (t.next c) in
      let p = ap (λ x. once x (t.next c)) r.from in
      let d = times-append (t.next c) (places xs) (c ∷ places ys) in
      let n = ap (times (t.next c)) names in
      omega arith in
      record {
        next = ring_below t (xs ++ item c e ∷ ys) free_places (t.next c) h head_stands;
        previous = ring_below t (xs ++ item c e ∷ ys) free_places (t.previous c) h last_stands;
      }

  -- what is after the place of an element is the first of those behind it
  pub record After (t : Table E) (items : List (ChainItem E)) (c : ℕ) : Type 0 where
    pub none : t.next c ≡ nil → None ≡ place_after items c
    pub some : t.next c ≢ nil → Some (t.next c) ≡ place_after items c

  pub after_is : (t : Table E) (items : List (ChainItem E)) (free_places : List ℕ) (c : ℕ) (e : E) → HoldsItems t items free_places
      → Some e ≡ t.element c → After t items c
  after_is t items free_places c e h is =
      let s = found_some items c e (sym (h.elements c) ∙ sym is) in
      let names : places items ≡ places s.before ++ c ∷ places s.after =
      ap places s.is ∙ map-append (λ (x : ChainItem E). x.place) s.before (item c e ∷ s.after) in
      let ring = ring_of t items free_places h in
      let r = around t.next t.previous (places s.before) c (places s.after) (subst (Ring t.next t.previous) names ring) in
      let most = ring.apart c in
      let n = ap (times c) names in
      let a = times-append c (places s.before) (c ∷ places s.after) in
      let o = once_same c in
      let none_end = h.beyond nil h.fits in
      let m = ap (times nil) names in
      let d = times-append nil (places s.before) (c ∷ places s.after) in
      let heads_are = heads r.head r.rest s.after (omega arith) r.begins in
      let after : first_place s.after ≡ place_after items c =
      sym (ap (λ (l : List (ChainItem E)). place_after l c) s.is ∙ after_at s.before s.after c e (omega arith)) in
      record {
        none = λ q. heads_are.none (sym r.from ∙ q) ∙ after;
        some = λ q. ap Some r.from ∙ heads_are.some (λ p. q (r.from ∙ p)) ∙ after;
      }

module _ {L E Z : Type 0} where
  -- if there was none, to take an element changes nothing
  pub none_taken : (old new : Links L E Z) (c : ℕ)
      → Linked old new (next_at old) (previous_at old) (with (element_at old) c None) old.free → None ≡ element_at old c → Same old new
  none_taken old new c h none = record {
    size = h.size;
    capacity = h.capacity;
    nexts = h.nexts;
    previouses = h.previouses;
    elements = λ k. h.elements k ∙ with_self (element_at old) c None k (sym none);
    first_free = h.first_free;
  }

  -- the same links have the same table
  pub same_table : (old new : Links L E Z) → Same old new → table_of new ≡ table_of old
  same_table old new h = linked_table old new (next_at old) (previous_at old) (element_at old) old.free h

  -- the same links are of as many elements
  pub same_kept : (old new : Links L E Z) (n : ℕ) → Same old new → IsChain old n → IsChain new n
  same_kept old new n h k = record {
    items = k.items;
    free_places = k.free_places;
    holds = subst (λ t. HoldsItems t k.items k.free_places) (sym (same_table old new h)) k.holds;
    count = k.count;
  }

  -- the same links are the same chain
  pub same_chain : (old new : Links L E Z) (n : ℕ) (v : ChainState (LabelledValue L E)) → Same old new → chain_of old n ≡ v
      → chain_of new n ≡ v
  same_chain old new n v h is =
      (λ i. record {
        items = walk_in ((same_table old new h) i) (((same_table old new h) i).next nil) n;
        room = min (h.capacity i) nil - n;
      }) ∙ is

  -- the elements that the links hold are those of the chain
  pub walked : (s : Links L E Z) (n : ℕ) (items : List (ChainItem (LabelledValue L E))) (free_places : List ℕ)
      → HoldsItems (table_of s) items free_places → n ≡ length items
      → walk_in (table_of s) s.first n ≡ items
  walked s n items free_places h e = ap (λ m. walk_in (table_of s) s.first m) e ∙ walk_is (table_of s) items free_places h

  -- the elements that are kept are those of the chain
  pub kept_items : (s : Links L E Z) (n : ℕ) (v : ChainState (LabelledValue L E)) (k : IsChain s n) → chain_of s n ≡ v → k.items ≡ v.items
  kept_items s n v k is = sym (walked s n k.items k.free_places k.holds k.count) ∙ ap (λ (x : ChainState (LabelledValue L E)). x.items) is

  -- how many more elements fit if no place is free
  pub full_room : (s : Links L E Z) (items : List (ChainItem (LabelledValue L E))) (free_places : List ℕ) → s.free ≡ nil
      → HoldsItems (table_of s) items free_places
      → vec_len s.nodes ≡ length items
  full_room s items free_places e h = let n = none_free (table_of s) items free_places h e in let w = h.total in omega arith

  -- with one more before a place, the elements are those ahead of it, it, and those behind it
  pub put_items : (s : Links L E Z) (items : List (ChainItem (LabelledValue L E))) (free_places : List ℕ) (c : ℕ) (x : (LabelledValue L E))
      (y : ChainItem (LabelledValue L E)) (r : Split items c x)
      → HoldsItems (table_of s) items free_places → put_before items c y ≡ r.before ++ y ∷ item c x ∷ r.after
  put_items s items free_places c x y r h =
      let ring = ring_of (table_of s) items free_places h in
      let most = ring.apart c in
      let names : places items ≡ places r.before ++ c ∷ places r.after =
      ap places r.is ∙ map-append (λ (z : ChainItem (LabelledValue L E)). z.place) r.before (item c x ∷ r.after) in
      let n = ap (times c) names in
      let a = times-append c (places r.before) (c ∷ places r.after) in
      let o = once_same c in
      ap (λ (l : List (ChainItem (LabelledValue L E))). put_before l c y) r.is ∙ put_before_at r.before r.after c x y (omega arith)

  -- what is written to take the element at a place out of its node, and then that place out of the links
  abbrev pub Bypassed : Links L E Z → Links L E Z → ℕ → Type 0
  Bypassed old new c = Linked old new
      (with (with (next_at old) (previous_at old c) (next_at old c)) c old.free)
      (with (previous_at old) (next_at old c) (previous_at old c))
      (element_at old) c

  -- what a place is found in: those ahead of it and those behind it
  pub found_split : (s : Links L E Z) (items : List (ChainItem (LabelledValue L E))) (free_places : List ℕ) (c : ℕ)
      (e : (LabelledValue L E))
      → HoldsItems (table_of s) items free_places
      → Some e ≡ element_at s c → Split items c e
  found_split s items free_places c e h is = found_some items c e (sym (h.elements c) ∙ sym is)

  -- links with the element at a place taken out
  pub take_holds : (old mid new : Links L E Z) (items : List (ChainItem (LabelledValue L E))) (free_places : List ℕ) (c : ℕ)
      (e : (LabelledValue L E)) (r : Split items c e)
      → HoldsItems (table_of old) items free_places
      → Linked old mid (next_at old) (previous_at old) (with (element_at old) c None) old.free → Bypassed mid new c
      → HoldsItems (table_of new) (r.before ++ r.after) (c ∷ free_places)
  take_holds old mid new items free_places c e r h emptied_is bypassed_is =
      let t : table_of mid ≡ emptied (table_of old) c = linked_table old mid _ _ _ _ emptied_is in
      let u : table_of new ≡ bypassed (table_of mid) c = linked_table mid new _ _ _ _ bypassed_is in
      let held : HoldsItems (table_of old) (r.before ++ item c e ∷ r.after) free_places =
      subst (λ (l : List (ChainItem (LabelledValue L E))). HoldsItems (table_of old) l free_places) r.is h in
      subst (λ x. HoldsItems x (r.before ++ r.after) (c ∷ free_places)) (sym (u ∙ ap (λ x. bypassed x c) t))
      (takes (table_of old) r.before r.after c e free_places held)

  -- the elements without that at a place are those ahead of it and those behind it
  pub taken_items : (s : Links L E Z) (items : List (ChainItem (LabelledValue L E))) (free_places : List ℕ) (c : ℕ)
      (e : (LabelledValue L E))
      (r : Split items c e)
      → HoldsItems (table_of s) items free_places → without_place items c ≡ r.before ++ r.after
  taken_items s items free_places c e r h =
      let ring = ring_of (table_of s) items free_places h in
      let most = ring.apart c in
      let names : places items ≡ places r.before ++ c ∷ places r.after =
      ap places r.is ∙ map-append (λ (x : ChainItem (LabelledValue L E)). x.place) r.before (item c e ∷ r.after) in
      let n = ap (times c) names in
      let a = times-append c (places r.before) (c ∷ places r.after) in
      let o = once_same c in
      ap (λ (l : List (ChainItem (LabelledValue L E))). without_place l c) r.is
      ∙ without_at r.before r.after c e (omega arith) (omega arith)

  -- links with no nodes are of no elements
  pub new_kept : (s : Links L E Z) → vec_len s.nodes ≡ 0 → s.first ≡ nil → s.last ≡ nil → s.free ≡ nil → IsChain s 0
  new_kept s size first last free = record {
    items = [];
    free_places = [];
    holds = record {
      forward = ap (λ (k : ℕ). k ∷ []) first;
      backward = ap (λ (k : ℕ). k ∷ []) last;
      freed = ap (λ (k : ℕ). k ∷ []) free;
      elements = λ k. ap element_of (get_or_past s.nodes.items k no_node (omega (arith, s.nodes.ok.0)));
      within = λ k l. absurd (omega arith);
      beyond = λ k l. refl;
      total = sym size;
      fits = omega arith;
    };
    count = refl;
  }

  -- the places next to that of an element, once it was taken out of its node
  pub beside_taken : (old mid : Links L E Z) (items : List (ChainItem (LabelledValue L E))) (free_places : List ℕ) (c : ℕ)
      (e : (LabelledValue L E)) (r : Split items c e)
      → HoldsItems (table_of old) items free_places
      → Linked old mid (next_at old) (previous_at old) (with (element_at old) c None) old.free → Neighbours (table_of mid) c
  beside_taken old mid items free_places c e r h emptied_is =
      let n = neighbours (table_of old) r.before r.after c e free_places
      (subst (λ (l : List (ChainItem (LabelledValue L E))). HoldsItems (table_of old) l free_places) r.is h) in
      let again : Neighbours (emptied (table_of old) c) c = record { next = n.next; previous = n.previous } in
      subst (λ t. Neighbours t c) (sym (linked_table old mid _ _ _ _ emptied_is)) again

  -- if there is an element, its place is below the size
  pub place_below : (s : Links L E Z) (items : List (ChainItem (LabelledValue L E))) (free_places : List ℕ) (c : ℕ)
      (e : (LabelledValue L E))
      (r : Split items c e)
      → HoldsItems (table_of s) items free_places → c < vec_len s.nodes
  place_below s items free_places c e r h = elim (cases_lt c (vec_len s.nodes)) [
    | inl lt ↦ lt
    | inr ge ↦ (
        let none = h.beyond c ge in
        let names : places items ≡ places r.before ++ c ∷ places r.after =
        ap places r.is ∙ map-append (λ (x : ChainItem (LabelledValue L E)). x.place) r.before (item c e ∷ r.after) in
        let n = ap (times c) names in
        let a = times-append c (places r.before) (c ∷ places r.after) in
        let o = once_same c in
        absurd (omega arith)
        )
  ]

-- links of n elements, if that at a place was taken out of its node
module _ {L E Z : Type 0} (old mid : Links L E Z) (n c : ℕ) (e : LabelledValue L E) (k : IsChain old n) (is : Some e ≡ element_at old c)
    (emptied_is : Linked old mid (next_at old) (previous_at old) (with (element_at old) c None) old.free) where
  split : Split k.items c e
  split = found_split old k.items k.free_places c e k.holds is

  -- the places next to it
  pub beside_emptied : Neighbours (table_of mid) c
  beside_emptied = beside_taken old mid k.items k.free_places c e split k.holds emptied_is

  -- as many as there were, but one
  one_fewer : n - 1 ≡ length (split.before ++ split.after)
  one_fewer =
      let a = length-append split.before split.after in
      let b = length-append split.before (item c e ∷ split.after) in
      let l = ap length split.is in
      let m = k.count in
      omega arith

  module _ (new : Links L E Z) (bypassed_is : Bypassed mid new c) where
    left_holds : HoldsItems (table_of new) (split.before ++ split.after) (c ∷ k.free_places)
    left_holds = take_holds old mid new k.items k.free_places c e split k.holds emptied_is bypassed_is

    -- once the place is out of the links, they are of the others
    pub left_kept : IsChain new (n - 1)
    left_kept = record { items = split.before ++ split.after; free_places = c ∷ k.free_places; holds = left_holds; count = one_fewer }

    -- in their order
    pub left_items : (v : ChainState (LabelledValue L E)) → chain_of old n ≡ v
        → walk_in (table_of new) new.first (n - 1) ≡ without_place v.items c
    left_items v view =
        walked new (n - 1) (split.before ++ split.after) (c ∷ k.free_places) left_holds one_fewer
        ∙ sym (taken_items old k.items k.free_places c e split k.holds) ∙ ap (λ l. without_place l c) (kept_items old n v k view)

    -- and as many fit
    pub left_room : (v : ChainState (LabelledValue L E)) → chain_of old n ≡ v
        → room_of new (n - 1) + length (walk_in (table_of new) new.first (n - 1)) ≡ v.room + length v.items
    left_room v view =
        let left = ap length (walked new (n - 1) (split.before ++ split.after) (c ∷ k.free_places) left_holds one_fewer) in
        let stood = ap length (kept_items old n v k view) in
        let room = ap (λ (x : ChainState (LabelledValue L E)). x.room) view in
        let same = bypassed_is.capacity ∙ emptied_is.capacity in
        let a = length-append split.before split.after in
        let b = length-append split.before (item c e ∷ split.after) in
        let l = ap length split.is in
        let count = k.count in
        let total = k.holds.total in
        let fits = k.holds.fits in
        omega (arith, old.nodes.ok.0, old.nodes.ok.1)
