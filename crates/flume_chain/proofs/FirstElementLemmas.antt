-- What the links of a chain hold once the first element was taken out, or one was moved behind all others.
use Rattle.std.proofs.Common.{◌≡◌, ◌≢◌, Option, ℕ, ◌==◌, List, [], ◌∷◌, ◌++◌, Some, None, map, length, refl}
use Rattle.std.proofs.Common.{sym, ap, ap₂, subst, ◌∙◌, arith, length-append, if◌then◌else◌, eq-eqb}
use Rattle.std.specs.Vec.{vec_len}
use Rattle.flume_chain.specs.declared.chain.links.Links.{Links}
use Rattle.flume_chain.specs.declared.labelled.LabelledValue.{LabelledValue}
use Rattle.flume_chain.specs.Links.{nil, with, next_at, previous_at, element_at, Linked, HasNode}
use Rattle.flume_chain.specs.ChainState.{once, ChainItem, ChainState, Table, HoldsItems, IsChain, places}
use Rattle.flume_chain.specs.ChainState.{found, listed, moved_back, table_of, chain_of}
use Rattle.flume_chain.proofs.RingLemmas.{once_same, with_same}
use Rattle.flume_chain.proofs.TableLemmas.{walk_in, item, Split, with_again}
use Rattle.flume_chain.proofs.StepLemmas.{linked_table, emptied, bypassed, filled, last_below, takes, puts_last}
use Rattle.flume_chain.proofs.ChainListLemmas.{found_split, taken_items, walked, kept_items}
use Rattle.flume_chain.proofs.PutLemmas.{with_twice}

module _ {L E Z : Type 0} where
  -- the element at the first place, and those behind it
  pub record Begun (s : Links L E Z) (items : List (ChainItem (LabelledValue L E))) : Type 0 where
    pub element : (LabelledValue L E)
    pub rest : List (ChainItem (LabelledValue L E))
    pub is : items ≡ item s.first element ∷ rest
    pub occupied : element_at s s.first ≡ Some element
    pub before : previous_at s s.first ≡ nil

  -- if a place is the first, there is an element there
  pub begun : (s : Links L E Z) (items : List (ChainItem (LabelledValue L E))) (free_places : List ℕ)
      → HoldsItems (table_of s) items free_places
      → s.first ≢ nil → Begun s items
  begun s [] free_places h ne =
      let f : s.first ∷ [] ≡ nil ∷ [] = h.forward in
      absurd (ne cc)
  begun s (x ∷ xs) free_places h ne =
      let f : s.first ∷ map (next_at s) (x.place ∷ places xs) ≡ x.place ∷ (places xs ++ nil ∷ []) = h.forward in
      let name : s.first ≡ x.place = cc in
      let b : previous_at s x.place ∷ map (previous_at s) (places xs ++ nil ∷ []) ≡ nil ∷ x.place ∷ places xs = h.backward in
      let ahead : previous_at s x.place ≡ nil = cc in
      record {
        element = x.element;
        rest = xs;
        is = ap (λ (k : ℕ). item k x.element ∷ xs) (sym name);
        occupied = h.elements s.first ∙ ap (found (x ∷ xs)) name
            ∙ ap (λ t. if t then Some x.element else found xs x.place) (eq-eqb x.place x.place refl);
        before = ap (previous_at s) name ∙ ahead;
      }

  -- if no place is the first, there is no element
  pub none_begun : (s : Links L E Z) (items : List (ChainItem (LabelledValue L E))) (free_places : List ℕ)
      → HoldsItems (table_of s) items free_places
      → s.first ≡ nil → items ≡ []
  none_begun s [] free_places h is = refl
  none_begun s (x ∷ xs) free_places h is =
      let f : s.first ∷ map (next_at s) (x.place ∷ places xs) ≡ x.place ∷ (places xs ++ nil ∷ []) = h.forward in
      let name : s.first ≡ x.place = cc in
      let none = h.beyond nil h.fits in
      let here = once_same nil in
      let there = ap (λ k. once k nil) (sym is ∙ name) in
      absurd (omega arith)

  -- the first element is ahead of those behind it
  pub begun_split : (s : Links L E Z) (items : List (ChainItem (LabelledValue L E))) (b : Begun s items) → Split items s.first b.element
  begun_split s items b = record { before = []; after = b.rest; is = b.is }

  -- what is written to take the first element out of its node, and then that node out of the links
  abbrev pub FirstTaken : Links L E Z → Links L E Z → Type 0
  FirstTaken old new = Linked old new
      (with (with (next_at old) nil (next_at old old.first)) old.first old.free)
      (with (previous_at old) (next_at old old.first) nil)
      (with (element_at old) old.first None) old.first

  -- links with the first element taken out hold those behind it
  pub first_taken : (old new : Links L E Z) (items : List (ChainItem (LabelledValue L E))) (free_places : List ℕ) (b : Begun old items)
      → HoldsItems (table_of old) items free_places → FirstTaken old new → HoldsItems (table_of new) b.rest (old.first ∷ free_places)
  first_taken old new items free_places b h t =
      let held : HoldsItems (table_of old) (item old.first b.element ∷ b.rest) free_places =
      subst (λ (l : List (ChainItem (LabelledValue L E))). HoldsItems (table_of old) l free_places) b.is h in
      let is : table_of new ≡ bypassed (emptied (table_of old) old.first) old.first =
      linked_table old new _ _ _ _ t ∙ ap (λ (p : ℕ). record {
        size = vec_len old.nodes;
        next = with (with (next_at old) p (next_at old old.first)) old.first old.free;
        previous = with (previous_at old) (next_at old old.first) p;
        element = with (element_at old) old.first None;
        free = old.first;
      }) (sym b.before) in
      subst (λ x. HoldsItems x b.rest (old.first ∷ free_places)) (sym is)
      (takes (table_of old) [] b.rest old.first b.element free_places held)

module _ {E : Type 0} where
  -- a table with a place linked out of it
  abbrev pub unlinked : Table E → ℕ → Table E
  unlinked t c = record {
    size = t.size;
    next = with t.next (t.previous c) (t.next c);
    previous = with t.previous (t.next c) (t.previous c);
    element = t.element;
    free = t.free;
  }

  -- a table with a place linked behind all others
  abbrev pub appended : Table E → ℕ → Table E
  appended t c = record {
    size = t.size;
    next = with (with t.next c nil) (t.previous nil) c;
    previous = with (with t.previous c (t.previous nil)) nil c;
    element = t.element;
    free = t.free;
  }

  -- to link an element out and behind all others is to take it out and put it there again
  moved_table : (t : Table E) (c : ℕ) (e : E) → Some e ≡ t.element c → appended (unlinked t c) c ≡ filled (bypassed (emptied t c) c) nil e
  moved_table t c e is =
      let f = with t.next (t.previous c) (t.next c) in
      let g = with t.previous (t.next c) (t.previous c) in
      λ i. record {
        size = t.size;
        next = λ k. (ap (λ v. if k == g nil then c else v) (sym (with_twice f c t.free nil k))) i;
        previous = with (with g c (g nil)) nil c;
        element = λ k. (sym (with_again t.element c (Some e) None k (sym is))) i;
        free = (sym (with_same f c t.free)) i;
      }

-- links of which the place of an element was linked out, and then linked behind all others
module _ {L E Z : Type 0} (old mid : Links L E Z) (n c : ℕ) (e : (LabelledValue L E)) (k : IsChain old n) (is : Some e ≡ element_at old c)
    (out : Linked old mid
    (with (next_at old) (previous_at old c) (next_at old c))
    (with (previous_at old) (next_at old c) (previous_at old c))
    (element_at old) old.free) where
  -- the elements ahead of it and behind it
  split : Split k.items c e
  split = found_split old k.items k.free_places c e k.holds is

  -- the table with the element taken out
  left : HoldsItems (bypassed (emptied (table_of old) c) c) (split.before ++ split.after) (c ∷ k.free_places)
  left = takes (table_of old) split.before split.after c e k.free_places
      (subst (λ (l : List (ChainItem (LabelledValue L E))). HoldsItems (table_of old) l k.free_places) split.is k.holds)

  -- the last place is nil or below the size
  pub last_stands : HasNode mid mid.last
  last_stands ne =
      let below = last_below (bypassed (emptied (table_of old) c) c) (split.before ++ split.after) (c ∷ k.free_places) left in
      let same = out.previouses nil in
      let size = out.size in
      let lt = below (λ q. ne (same ∙ q)) in
      omega arith

  -- what is written to link the place behind all others
  abbrev pub LinkedLast : Links L E Z → Type 0
  LinkedLast new = Linked mid new
      (with (with (next_at mid) c nil) mid.last c)
      (with (with (previous_at mid) c mid.last) nil c)
      (element_at mid) mid.free

  -- the links are of the elements with that one behind all others
  pub moved_kept : (new : Links L E Z) → LinkedLast new → IsChain new n
  moved_kept new last =
      let one : table_of mid ≡ unlinked (table_of old) c = linked_table old mid _ _ _ _ out in
      let two : table_of new ≡ appended (table_of mid) c = linked_table mid new _ _ _ _ last in
      let all = two ∙ ap (λ t. appended t c) one ∙ moved_table (table_of old) c e is in
      record {
        items = (split.before ++ split.after) ++ item c e ∷ [];
        free_places = k.free_places;
        holds = subst (λ t. HoldsItems t ((split.before ++ split.after) ++ item c e ∷ []) k.free_places) (sym all)
            (puts_last (bypassed (emptied (table_of old) c) c) (split.before ++ split.after) k.free_places e left);
        count =
            let a = length-append split.before split.after in
            let b = length-append (split.before ++ split.after) (item c e ∷ []) in
            let d = length-append split.before (item c e ∷ split.after) in
            let m = ap length split.is in
            let o = k.count in
            omega arith;
      }

  -- and so the chain has that element behind all others
  pub moved_items : (v : ChainState (LabelledValue L E)) → chain_of old n ≡ v → (new : Links L E Z) → LinkedLast new
      → walk_in (table_of new) new.first n ≡ moved_back v.items c
  unfolding moved_kept
  moved_items v view new last =
      let m = moved_kept new last in
      walked new n m.items m.free_places m.holds m.count
      ∙ sym (ap₂ (λ (l : List (ChainItem (LabelledValue L E))) (o : Option (LabelledValue L E)). l ++ listed c o [])
      (taken_items old k.items k.free_places c e split k.holds) (sym (k.holds.elements c) ∙ sym is))
      ∙ ap (λ l. moved_back l c) (kept_items old n v k view)
