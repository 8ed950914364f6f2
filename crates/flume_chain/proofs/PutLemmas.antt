-- What the links of a chain hold once an element was put into the free node, or into one more.
use Rattle.std.proofs.Common.{◌≡◌, ◌≢◌, Option, ℕ, ◌+◌, ◌<◌, ◌==◌, List, [], ◌∷◌, ◌++◌, Some, None, length}
use Rattle.std.proofs.Common.{refl, sym, ap, subst, subst₂, ◌∙◌, inl, inr, arith, append-nil, if◌then◌else◌}
use Rattle.std.proofs.Common.{ne_eqb}
use Rattle.std.proofs.lemmas.Bool.{cases_Bool, cases_eq}
use Rattle.std.proofs.lemmas.List.{map-append}
use Rattle.std.specs.Prelude.{Result, Ok, Err, OnErr}
use Rattle.std.specs.Vec.{vec_len}
use Rattle.flume_chain.specs.declared.chain.links.Links.{Links}
use Rattle.flume_chain.specs.declared.labelled.LabelledValue.{LabelledValue}
use Rattle.flume_chain.specs.Links.{nil, with, next_at, previous_at, element_at, HasNode, Put, Full}
use Rattle.flume_chain.specs.ChainState.{once, times, ChainItem, HoldsItems, places, found, table_of, room_of}
use Rattle.flume_chain.proofs.RingLemmas.{times-append, once_same, with_same, with_other}
use Rattle.flume_chain.proofs.TableLemmas.{item, Split, found_none}
use Rattle.flume_chain.proofs.StepLemmas.{grown, filled, first_free, free_below, grows, puts}
use Rattle.flume_chain.proofs.ChainListLemmas.{full_room}

module _ {X : Type 0} where
  -- of two writes at a place the later one counts
  pub with_twice : (f : ℕ → X) (a : ℕ) (v w : X) (k : ℕ) → with (with f a v) a w k ≡ with f a w k
  with_twice f a v w k = elim (cases_Bool (k == a)) [
    | inl e ↦ ap (λ t. if t then w else with f a v k) e ∙ sym (ap (λ t. if t then w else f k) e)
    | inr e ↦ ap (λ t. if t then w else with f a v k) e ∙ ap (λ t. if t then v else f k) e
        ∙ sym (ap (λ t. if t then w else f k) e)
  ]

module _ {V X : Type 0} where
  -- what holds in any case holds at an error
  pub on_err : (r : Result V X) (P : Type 0) → P → OnErr r P
  on_err (Ok v) P p = tt
  on_err (Err x) P p = p

module _ {L E Z : Type 0} where
  -- what is written to put an element at a place, before another
  abbrev pub PutBefore : Links L E Z → Links L E Z → ℕ → ℕ → (LabelledValue L E) → Type 0
  PutBefore old new place c e = Put old new place
      (with (with (next_at old) place c) (previous_at old c) place)
      (with (with (previous_at old) place (previous_at old c)) c place)
      (with (element_at old) place (Some e))

  -- the links hold an element at a place of its own, between others
  pub record Holding (new : Links L E Z) (xs ys : List (ChainItem (LabelledValue L E))) (place : ℕ) (e : (LabelledValue L E)) : Type 0 where
    pub free_places : List ℕ
    pub holds : HoldsItems (table_of new) (xs ++ item place e ∷ ys) free_places
    pub fresh : found (xs ++ ys) place ≡ None

  -- the free place is below the size, or nil
  pub free_stands : (s : Links L E Z) (items : List (ChainItem (LabelledValue L E))) (free_places : List ℕ)
      → HoldsItems (table_of s) items free_places → HasNode s s.free
  free_stands s items free_places h ne =
      let r = first_free (table_of s) items free_places h ne in
      free_below (table_of s) items s.free r.rest (subst (λ (l : List ℕ). HoldsItems (table_of s) items l) r.is h)

-- links of elements xs and ys, with one put between them
module _ {L E Z : Type 0} (old new : Links L E Z) (xs ys : List (ChainItem (LabelledValue L E))) (free_places : List ℕ) (place c : ℕ)
    (e : (LabelledValue L E)) (later : List ℕ)
    (h : HoldsItems (table_of old) (xs ++ ys) free_places) (before : places ys ++ nil ∷ [] ≡ c ∷ later)
    (p : PutBefore old new place c e) where
  -- if a node was free they hold it there
  put_reused : old.free ≢ nil → Holding new xs ys place e
  put_reused ne =
      let u = p.reused ne in
      let r = first_free (table_of old) (xs ++ ys) free_places h ne in
      let held : HoldsItems (table_of old) (xs ++ ys) (old.free ∷ r.rest) =
      subst (λ (l : List ℕ). HoldsItems (table_of old) (xs ++ ys) l) r.is h in
      let below = free_below (table_of old) (xs ++ ys) old.free r.rest held in
      let counted = held.within old.free below in
      let here = once_same old.free in
      let is : table_of new ≡ filled (table_of old) c e = λ i. record {
        size = u.size i;
        next = λ k. (p.nexts k ∙ ap (λ j. with (with (next_at old) j c) (previous_at old c) j k) u.at) i;
        previous = λ k. (p.previouses k ∙ ap (λ j. with (with (previous_at old) j (previous_at old c)) c j k) u.at) i;
        element = λ k. (p.elements k ∙ ap (λ j. with (element_at old) j (Some e) k) u.at) i;
        free = u.first_free i;
      } in
      record {
        free_places = r.rest;
        holds = subst₂ (λ t (j : ℕ). HoldsItems t (xs ++ item j e ∷ ys) r.rest) (sym is) (sym u.at)
            (puts (table_of old) xs ys r.rest e c later held before);
        fresh = ap (found (xs ++ ys)) u.at ∙ found_none (xs ++ ys) old.free (omega arith);
      }

  -- a place that is the size is none that the one before which the element was put
  made_other : old.free ≡ nil → once c (vec_len old.nodes) ≡ 0
  made_other is =
      let m = p.made is in
      let none = h.beyond (vec_len old.nodes) (omega arith) in
      let names = ap (times (vec_len old.nodes)) (map-append (λ (x : ChainItem (LabelledValue L E)). x.place) xs ys) in
      let both = times-append (vec_len old.nodes) (places xs) (places ys) in
      let ended = times-append (vec_len old.nodes) (places ys) (nil ∷ []) in
      let at_end : once nil (vec_len old.nodes) ≡ 0 =
      let below = m.below in ap (λ b. if b then 1 else 0) (ne_eqb nil (vec_len old.nodes) (omega arith)) in
      let counts = ap (times (vec_len old.nodes)) before in
      omega arith

  -- if none was free they hold it in one more
  put_made : old.free ≡ nil → Holding new xs ys place e
  put_made none =
      let m = p.made none in
      let n = vec_len old.nodes in
      let held : HoldsItems (grown (table_of old)) (xs ++ ys) (n ∷ free_places) = grows (table_of old) (xs ++ ys) free_places h m.below in
      let back : with (previous_at old) n nil c ≡ previous_at old c = with_other (previous_at old) n nil c (made_other none) in
      let beyond = h.beyond n (omega arith) in
      let is : table_of new ≡ filled (grown (table_of old)) c e = λ i. record {
        size = m.size i;
        next = λ k. (p.nexts k ∙ ap (λ j. with (with (next_at old) j c) (previous_at old c) j k) m.at
            ∙ ap (λ v. if k == previous_at old c then n else v) (sym (with_twice (next_at old) n old.free c k))
            ∙ ap (λ q. with (with (with (next_at old) n old.free) n c) q n k) (sym back)) i;
        previous = λ k. (p.previouses k ∙ ap (λ j. with (with (previous_at old) j (previous_at old c)) c j k) m.at
            ∙ ap (λ v. if k == c then n else v) (sym (with_twice (previous_at old) n nil (previous_at old c) k))
            ∙ ap (λ q. with (with (with (previous_at old) n nil) n q) c n k) (sym back)) i;
        element = λ k. (p.elements k ∙ ap (λ j. with (element_at old) j (Some e) k) m.at
            ∙ sym (with_twice (element_at old) n None (Some e) k)) i;
        free = (m.first_free ∙ sym (with_same (next_at old) n old.free ∙ none)) i;
      } in
      record {
        free_places = free_places;
        holds = subst₂ (λ t (j : ℕ). HoldsItems t (xs ++ item j e ∷ ys) free_places) (sym is) (sym m.at)
            (puts (grown (table_of old)) xs ys free_places e c later held before);
        fresh = ap (found (xs ++ ys)) m.at ∙ found_none (xs ++ ys) n (omega arith);
      }

  -- they hold it
  pub put_holds : Holding new xs ys place e
  put_holds = elim (cases_eq old.free nil) [
    | inl is ↦ put_made is
    | inr ne ↦ put_reused ne
  ]

module _ {L E Z : Type 0} where
  -- links with an element put behind all others
  pub push_holds : (old new : Links L E Z) (items : List (ChainItem (LabelledValue L E))) (free_places : List ℕ) (place : ℕ)
      (e : (LabelledValue L E))
      → HoldsItems (table_of old) items free_places → PutBefore old new place nil e → Holding new items [] place e
  push_holds old new items free_places place e h p =
      put_holds old new items [] free_places place nil e []
      (subst (λ (l : List (ChainItem (LabelledValue L E))). HoldsItems (table_of old) l free_places) (sym (append-nil items)) h) refl p

  -- links with an element put before that at a place
  pub insert_holds : (old new : Links L E Z) (items : List (ChainItem (LabelledValue L E))) (free_places : List ℕ) (c : ℕ)
      (x : (LabelledValue L E)) (place : ℕ) (e : (LabelledValue L E)) (r : Split items c x)
      → HoldsItems (table_of old) items free_places → PutBefore old new place c e → Holding new r.before (item c x ∷ r.after) place e
  insert_holds old new items free_places c x place e r h p =
      put_holds old new r.before (item c x ∷ r.after) free_places place c e (places r.after ++ nil ∷ [])
      (subst (λ (l : List (ChainItem (LabelledValue L E))). HoldsItems (table_of old) l free_places) r.is h) refl p

  -- with one more element there is room for one less, if there was room
  pub put_room : (old new : Links L E Z) (items : List (ChainItem (LabelledValue L E))) (free_places : List ℕ) (n place : ℕ) (f g : ℕ
      → ℕ) (v : ℕ → Option (LabelledValue L E))
      → HoldsItems (table_of old) items free_places → n ≡ length items → Put old new place f g v → 0 < room_of old n
      → room_of new (n + 1) + 1 ≡ room_of old n
  put_room old new items free_places n place f g v h count p some = elim (cases_eq old.free nil) [
    | inl is ↦ (
        let m = p.made is in
        let full = full_room old items free_places is h in
        let same = m.capacity (omega arith) in
        omega arith
        )
    | inr ne ↦ (let u = p.reused ne in let same = u.capacity in omega arith)
  ]

  -- if there is room, no element is refused
  pub not_full : (s : Links L E Z) (items : List (ChainItem (LabelledValue L E))) (free_places : List ℕ) (n : ℕ) (P : Type 0)
      → HoldsItems (table_of s) items free_places → n ≡ length items → Full s → 0 < room_of s n → P
  not_full s items free_places n P h count f some =
      let full = full_room s items free_places f.first_free h in
      let over = f.size (omega arith) in
      absurd (omega arith)
