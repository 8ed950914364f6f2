-- What a table holds once a node is made, an element put in or taken out.
use Rattle.std.proofs.Common.{◌≡◌, ◌≢◌, ℕ, suc, ◌+◌, ◌<◌, ◌≤◌, ◌==◌, List, [], ◌∷◌, ◌++◌, Option, Some, None}
use Rattle.std.proofs.Common.{map, length, refl, sym, ap, ap₂, subst, subst₂, ◌∙◌, inl, inr, arith}
use Rattle.std.proofs.Common.{append-nil, length-append, if◌then◌else◌, ne_eqb}
use Rattle.std.proofs.lemmas.Bool.{cases_Bool, cases_eq, cases_lt, eqb-true}
use Rattle.std.proofs.lemmas.List.{map-append}
use Rattle.std.specs.Vec.{vec_len}
use Rattle.flume_chain.specs.declared.chain.links.Links.{Links}
use Rattle.flume_chain.specs.declared.labelled.LabelledValue.{LabelledValue}
use Rattle.flume_chain.specs.Links.{nil, with, Linked}
use Rattle.flume_chain.specs.ChainState.{once, times, ChainItem, Table, HoldsItems, places, found, table_of}
use Rattle.flume_chain.proofs.RingLemmas.{Ring, times-append, once_same, once_back, with_same, map_with}
use Rattle.flume_chain.proofs.SpliceLemmas.{between, inserted, around, removed}
use Rattle.flume_chain.proofs.TableLemmas.{ring_of, item, found_none, found_put, with_again}

module _ {L E Z : Type 0} where
  -- the table of links that were written
  pub linked_table : (old new : Links L E Z) (n p : ℕ → ℕ) (e : ℕ → Option (LabelledValue L E)) (f : ℕ) → Linked old new n p e f
      → table_of new ≡ record { size = vec_len old.nodes; next = n; previous = p; element = e; free = f }
  linked_table old new n p e f h = λ i. record {
    size = h.size i;
    next = λ k. h.nexts k i;
    previous = λ k. h.previouses k i;
    element = λ k. h.elements k i;
    free = h.first_free i;
  }

module _ {E : Type 0} where
  -- a table with one more node, which is free
  abbrev pub grown : Table E → Table E
  grown t = record {
    size = suc t.size;
    next = with t.next t.size t.free;
    previous = with t.previous t.size nil;
    element = with t.element t.size None;
    free = t.size;
  }

  -- a table with an element in the free node, ahead of a place
  abbrev pub filled : Table E → ℕ → E → Table E
  filled t next e = record {
    size = t.size;
    next = with (with t.next t.free next) (t.previous next) t.free;
    previous = with (with t.previous t.free (t.previous next)) next t.free;
    element = with t.element t.free (Some e);
    free = t.next t.free;
  }

  -- a table with no element at a place
  abbrev pub emptied : Table E → ℕ → Table E
  emptied t c = record t { element = with t.element c None }

  -- a table with a place linked out of it, and free
  abbrev pub bypassed : Table E → ℕ → Table E
  bypassed t c = record {
    size = t.size;
    next = with (with t.next (t.previous c) (t.next c)) c t.free;
    previous = with t.previous (t.next c) (t.previous c);
    element = t.element;
    free = c;
  }

  -- which places are free if the first free one isn't nil
  pub record First (t : Table E) (free_places : List ℕ) : Type 0 where
    pub rest : List ℕ
    pub is : free_places ≡ t.free ∷ rest

  pub first_free : (t : Table E) (items : List (ChainItem E)) (free_places : List ℕ) → HoldsItems t items free_places → t.free ≢ nil
      → First t free_places
  first_free t items [] h ne =
      let f : t.free ∷ [] ≡ nil ∷ [] = h.freed in
      absurd (ne cc)
  first_free t items (c ∷ rest) h ne =
      let f : t.free ∷ t.next c ∷ map t.next rest ≡ c ∷ (rest ++ nil ∷ []) = h.freed in
      let same : t.free ≡ c = cc in
      record { rest = rest; is = ap (λ (k : ℕ). k ∷ rest) (sym same) }

  -- no place is free if the first free one is nil
  pub none_free : (t : Table E) (items : List (ChainItem E)) (free_places : List ℕ) → HoldsItems t items free_places → t.free ≡ nil
      → length free_places ≡ 0
  none_free t items [] h e = refl
  none_free t items (c ∷ rest) h e =
      let f : t.free ∷ t.next c ∷ map t.next rest ≡ c ∷ (rest ++ nil ∷ []) = h.freed in
      let same : c ≡ nil = cc in
      let none = h.beyond nil h.fits in
      let here = once_same nil in
      let there = ap (λ k. once k nil) same in
      absurd (omega arith)

  -- a free place is below the size
  pub free_below : (t : Table E) (items : List (ChainItem E)) (c : ℕ) (rest : List ℕ) → HoldsItems t items (c ∷ rest) → c < t.size
  free_below t items c rest h = elim (cases_lt c t.size) [
    | inl lt ↦ lt
    | inr ge ↦ (let none = h.beyond c ge in let here = once_same c in absurd (omega arith))
  ]

  -- a place in the ring is nil or below the size
  pub ring_below : (t : Table E) (items : List (ChainItem E)) (free_places : List ℕ) (k : ℕ) → HoldsItems t items free_places
      → 1 ≤ times k (nil ∷ places items) → k ≢ nil → k < t.size
  ring_below t items free_places k h some ne = elim (cases_lt k t.size) [
    | inl lt ↦ lt
    | inr ge ↦ (
        let none = h.beyond k ge in
        let zero_end : once nil k ≡ 0 = ap (λ b. if b then 1 else 0) (ne_eqb nil k (λ e. ne (sym e))) in
        absurd (omega arith)
        )
  ]

  -- the last place is nil or below the size
  pub last_below : (t : Table E) (items : List (ChainItem E)) (free_places : List ℕ) → HoldsItems t items free_places → t.previous nil ≢ nil
      → t.previous nil < t.size
  last_below t items free_places h =
      let ring = ring_of t items free_places h in
      let r = between t.next t.previous (places items) [] (subst (Ring t.next t.previous) (sym (append-nil (places items))) ring) in
      let b : nil ∷ [] ≡ r.head ∷ r.rest = r.begins in
      let head_is : r.head ≡ nil = cc in
      let last_is : t.previous nil ≡ r.last = ap t.previous (sym head_is) ∙ r.over_back in
      let occupied : 1 ≤ times r.last (nil ∷ places items) =
      let s = ap (times r.last) r.ends in
      let a = times-append r.last r.front (r.last ∷ []) in
      let o = once_same r.last in
      omega arith in
      ring_below t items free_places (t.previous nil) h (subst (λ k. 1 ≤ times k (nil ∷ places items)) (sym last_is) occupied)

  -- with one more node there is one more free place
  pub grows : (t : Table E) (items : List (ChainItem E)) (free_places : List ℕ) → HoldsItems t items free_places → t.size < nil
      → HoldsItems (grown t) items (t.size ∷ free_places)
  grows t items free_places h lt =
      let none = h.beyond t.size (omega arith) in
      let size_end : once nil t.size ≡ 0 = ap (λ b. if b then 1 else 0) (ne_eqb nil t.size (omega arith)) in
      let end_size : once t.size nil ≡ 0 = once_back nil t.size size_end in
      let placed_none : times t.size (nil ∷ places items) ≡ 0 = omega arith in
      let listed_none : times t.size (places items ++ nil ∷ []) ≡ 0 =
      let a = times-append t.size (places items) (nil ∷ []) in omega arith in
      record {
        forward = map_with t.next t.size t.free (nil ∷ places items) placed_none ∙ h.forward;
        backward = map_with t.previous t.size nil (places items ++ nil ∷ []) listed_none ∙ h.backward;
        freed = ap (λ (l : List ℕ). t.size ∷ l)
            (ap₂ (λ (y : ℕ) (ys : List ℕ). y ∷ ys) (with_same t.next t.size t.free)
            (map_with t.next t.size t.free free_places (omega arith))
            ∙ h.freed);
        elements = λ k. elim (cases_Bool (k == t.size)) [
          | inl e ↦ ap (λ b. if b then None else t.element k) e
              ∙ sym (found_none items k (ap (λ x. times x (places items)) (eqb-true k t.size e) ∙ (omega arith)))
          | inr e ↦ ap (λ b. if b then None else t.element k) e ∙ h.elements k
        ];
        within = λ k l. elim (cases_eq t.size k) [
          | inl e ↦ (
              let one = ap (λ x. once t.size x) e in
              let is = once_same t.size in
              let zero_here : times k (places items) + times k free_places ≡ 0 = ap (λ x. times x (places items) + times x free_places)
              (sym e)
              ∙ none in
              omega arith
              )
          | inr ne ↦ (
              let zero_here : once t.size k ≡ 0 = ap (λ b. if b then 1 else 0) (ne_eqb t.size k ne) in
              let w = h.within k (omega arith) in
              omega arith
              )
        ];
        beyond = λ k l.
            let zero_here : once t.size k ≡ 0 = ap (λ b. if b then 1 else 0) (ne_eqb t.size k (omega arith)) in
            let w = h.beyond k (omega arith) in
            omega arith;
        total = let w = h.total in omega arith;
        fits = omega arith;
      }

  -- a place in the ring isn't free
  pub ring_apart : (t : Table E) (items : List (ChainItem E)) (free_places : List ℕ) (k : ℕ) → HoldsItems t items free_places
      → 1 ≤ times k (nil ∷ places items) → times k free_places ≡ 0
  ring_apart t items free_places k h some = elim (cases_eq nil k) [
    | inl e ↦ (
        let none = h.beyond nil h.fits in
        ap (λ x. times x free_places) (sym e) ∙ (omega arith)
        )
    | inr ne ↦ (
        let zero_end : once nil k ≡ 0 = ap (λ b. if b then 1 else 0) (ne_eqb nil k ne) in
        let below = ring_below t items free_places k h some (λ e. ne (sym e)) in
        let w = h.within k below in
        omega arith
        )
  ]

  -- with an element put into the free node between others, ahead of the place that is next there
  pub puts : (t : Table E) (xs ys : List (ChainItem E)) (rest : List ℕ) (e : E) (next : ℕ) (later : List ℕ)
      → HoldsItems t (xs ++ ys) (t.free ∷ rest) → places ys ++ nil ∷ [] ≡ next ∷ later
      → HoldsItems (filled t next e) (xs ++ item t.free e ∷ ys) rest
  puts t xs ys rest e next later h at =
      let names_old : places (xs ++ ys) ≡ places xs ++ places ys = map-append (λ (x : ChainItem E). x.place) xs ys in
      let names : places (xs ++ item t.free e ∷ ys) ≡ places xs ++ t.free ∷ places ys = map-append (λ (x : ChainItem E). x.place) xs
      (item t.free e ∷ ys) in
      let ring : Ring t.next t.previous (places xs ++ places ys) = subst (Ring t.next t.previous) names_old
      (ring_of t (xs ++ ys) (t.free ∷ rest) h) in
      let r = between t.next t.previous (places xs) (places ys) ring in
      let meets : next ∷ later ≡ r.head ∷ r.rest = sym at ∙ r.begins in
      let head_is : r.head ≡ next = cc in
      let last_is : t.previous next ≡ r.last = ap t.previous (sym head_is) ∙ r.over_back in
      let counts_old : (k : ℕ) → times k (places (xs ++ ys)) ≡ times k (places xs) + times k (places ys) = λ k.
      let a = times-append k (places xs) (places ys) in let n = ap (times k) names_old in omega arith in
      let counts : (k : ℕ) → times k (places (xs ++ item t.free e ∷ ys)) ≡ times k (places (xs ++ ys)) + once t.free k = λ k.
      let a = times-append k (places xs) (t.free ∷ places ys) in
      let n = ap (times k) names in
      let o = counts_old k in
      omega arith in
      let below = free_below t (xs ++ ys) t.free rest h in
      let counted = h.within t.free below in
      let here = once_same t.free in
      let apart = counts_old t.free in
      let end_none : once nil t.free ≡ 0 = let f = h.fits in ap (λ b. if b then 1 else 0) (ne_eqb nil t.free (omega arith)) in
      let fresh : times t.free (nil ∷ (places xs ++ places ys)) ≡ 0 =
      ap (λ (l : List ℕ). times t.free (nil ∷ l)) (sym names_old) ∙ (omega arith) in
      let occupied : 1 ≤ times r.last (nil ∷ places (xs ++ ys)) =
      let s = ap (times r.last) r.ends in
      let a = times-append r.last r.front (r.last ∷ []) in
      let o = once_same r.last in
      let n = counts_old r.last in
      omega arith in
      let last_apart : times r.last (t.free ∷ rest) ≡ 0 = ring_apart t (xs ++ ys) (t.free ∷ rest) r.last h occupied in
      let last_rest : times (t.previous next) rest ≡ 0 = ap (λ x. times x rest) last_is ∙ (omega arith) in
      let put : Ring (with (with t.next t.free r.head) r.last t.free) (with (with t.previous t.free r.last) r.head t.free)
      (places xs ++ t.free ∷ places ys) =
      inserted t.next t.previous (places xs) (places ys) t.free ring r fresh in
      let put_next : Ring (filled t next e).next (filled t next e).previous (places xs ++ t.free ∷ places ys) =
      subst₂ (λ (x y : ℕ). Ring (with (with t.next t.free x) y t.free) (with (with t.previous t.free y) x t.free)
      (places xs ++ t.free ∷ places ys))
      head_is (sym last_is) put in
      let done : Ring (filled t next e).next (filled t next e).previous (places (xs ++ item t.free e ∷ ys)) =
      subst (Ring (filled t next e).next (filled t next e).previous) (sym names) put_next in
      let chained : t.free ∷ t.next t.free ∷ map t.next rest ≡ t.free ∷ (rest ++ nil ∷ []) = h.freed in
      let tails : t.next t.free ∷ map t.next rest ≡ rest ++ nil ∷ [] = cc in
      record {
        forward = done.forward;
        backward = done.backward;
        freed = ap (λ (l : List ℕ). t.next t.free ∷ l)
            (map_with (with t.next t.free next) (t.previous next) t.free rest last_rest ∙ map_with t.next t.free next rest (omega arith))
            ∙ tails;
        elements = λ k.
            ap (λ o. if k == t.free then Some e else o) (h.elements k)
            ∙ sym (found_put xs ys t.free e k (omega arith));
        within = λ k l. let w = h.within k l in let n = counts k in omega arith;
        beyond = λ k l. let w = h.beyond k l in let n = counts k in omega arith;
        total =
            let w = h.total in
            let n = length-append xs (item t.free e ∷ ys) in
            let m = length-append xs ys in
            omega arith;
        fits = h.fits;
      }

  -- with an element put into the free node behind all others
  pub puts_last : (t : Table E) (items : List (ChainItem E)) (rest : List ℕ) (e : E) → HoldsItems t items (t.free ∷ rest)
      → HoldsItems (filled t nil e) (items ++ item t.free e ∷ []) rest
  puts_last t items rest e h =
      puts t items [] rest e nil [] (subst (λ (l : List (ChainItem E)). HoldsItems t l (t.free ∷ rest)) (sym (append-nil items)) h) refl

  -- with the element at a place taken out, and its place free
  pub takes : (t : Table E) (xs ys : List (ChainItem E)) (c : ℕ) (e : E) (free_places : List ℕ)
      → HoldsItems t (xs ++ item c e ∷ ys) free_places
      → HoldsItems (bypassed (emptied t c) c) (xs ++ ys) (c ∷ free_places)
  takes t xs ys c e free_places h =
      let items : List (ChainItem E) = xs ++ item c e ∷ ys in
      let ring = ring_of t (xs ++ item c e ∷ ys) free_places h in
      let names : places (xs ++ item c e ∷ ys) ≡ places xs ++ c ∷ places ys = map-append (λ (x : ChainItem E). x.place) xs
      (item c e ∷ ys) in
      let names_left : places (xs ++ ys) ≡ places xs ++ places ys = map-append (λ (x : ChainItem E). x.place) xs ys in
      let ring_at : Ring t.next t.previous (places xs ++ c ∷ places ys) = subst (Ring t.next t.previous) names ring in
      let r = around t.next t.previous (places xs) c (places ys) ring_at in
      let out : Ring (with (with t.next r.last r.head) c t.free) (with t.previous r.head r.last) (places xs ++ places ys) =
      removed t.next t.previous (places xs) c (places ys) t.free ring_at r in
      let out_at : Ring (bypassed (emptied t c) c).next (bypassed (emptied t c) c).previous (places xs ++ places ys) =
      subst₂ (λ (x y : ℕ). Ring (with (with t.next y x) c t.free) (with t.previous x y) (places xs ++ places ys))
      (sym r.from) (sym r.from_back) out in
      let done : Ring (bypassed (emptied t c) c).next (bypassed (emptied t c) c).previous (places (xs ++ ys)) =
      subst (Ring (bypassed (emptied t c) c).next (bypassed (emptied t c) c).previous) (sym names_left) out_at in
      let counts : (k : ℕ) → times k (places (xs ++ item c e ∷ ys)) ≡ times k (places (xs ++ ys)) + once c k = λ k.
      let a = times-append k (places xs) (c ∷ places ys) in
      let d = times-append k (places xs) (places ys) in
      let n = ap (times k) names in
      let m = ap (times k) names_left in
      omega arith in
      let c_counts = counts c in
      let c_is = once_same c in
      let c_apart : times c free_places ≡ 0 = ring_apart t (xs ++ item c e ∷ ys) free_places c h (omega arith) in
      let c_ring = ring.apart c in
      let occupied : 1 ≤ times r.last (nil ∷ places (xs ++ item c e ∷ ys)) =
      let s = ap (times r.last) r.ends in
      let a = times-append r.last r.front (r.last ∷ []) in
      let o = once_same r.last in
      let d = times-append r.last (places xs) (c ∷ places ys) in
      let n = ap (times r.last) names in
      omega arith in
      let last_apart : times (t.previous c) free_places ≡ 0 =
      ap (λ x. times x free_places) r.from_back ∙ ring_apart t (xs ++ item c e ∷ ys) free_places r.last h occupied in
      let ahead_none : times c (places xs) ≡ 0 =
      let d = times-append c (places xs) (places ys) in
      let m = ap (times c) names_left in
      omega arith in
      record {
        forward = done.forward;
        backward = done.backward;
        freed = ap (λ (l : List ℕ). c ∷ l)
            (ap₂ (λ (y : ℕ) (zs : List ℕ). y ∷ zs) (with_same (with t.next (t.previous c) (t.next c)) c t.free)
            (map_with (with t.next (t.previous c) (t.next c)) c t.free free_places c_apart
            ∙ map_with t.next (t.previous c) (t.next c) free_places last_apart)
            ∙ h.freed);
        elements = λ k.
            ap (λ o. if k == c then None else o) (h.elements k ∙ found_put xs ys c e k ahead_none)
            ∙ with_again (found (xs ++ ys)) c None (Some e) k (found_none (xs ++ ys) c (omega arith));
        within = λ k l. let w = h.within k l in let n = counts k in omega arith;
        beyond = λ k l. let w = h.beyond k l in let n = counts k in omega arith;
        total = let w = h.total in let n = length-append xs (item c e ∷ ys) in let m = length-append xs ys in omega arith;
        fits = h.fits;
      }
