-- What the elements of a chain are at their places, and that the walk through its links is them.
use Rattle.std.proofs.Common.{◌≡◌, ◌≢◌, ℕ, suc, ◌≤◌, ◌==◌, List, [], ◌∷◌, ◌++◌, false, Option, Some, None}
use Rattle.std.proofs.Common.{map, length, refl, sym, ap, ap₂, ◌∙◌, inl, inr, arith, if◌then◌else◌, eq-eqb}
use Rattle.std.proofs.lemmas.Bool.{cases_Bool, cases_lt, eqb-true}
use Rattle.flume_chain.specs.Links.{nil, with}
use Rattle.flume_chain.specs.ChainState.{once, times, ChainItem, Table, HoldsItems, places, found}
use Rattle.flume_chain.specs.ChainState.{without_place, put_before, first_place, place_after, listed, walk}
use Rattle.flume_chain.proofs.RingLemmas.{Ring, once_same, once_none, once_back, once_more, with_same, with_other, map_with}

module _ {X : Type 0} where
  -- two functions alike at each place take a list to the same list
  pub map_same : (f g : ℕ → X) → ((k : ℕ) → f k ≡ g k) → (ks : List ℕ) → map f ks ≡ map g ks
  map_same f g h [] = refl
  map_same f g h (k ∷ ks) = ap₂ (λ (y : X) (ys : List X). y ∷ ys) (h k) (map_same f g h ks)

  -- writes at two places may be made in either order
  pub with_swap : (f : ℕ → X) (a b : ℕ) (v w : X) (k : ℕ) → once a b ≡ 0 → with (with f b w) a v k ≡ with (with f a v) b w k
  with_swap f a b v w k h = elim (cases_Bool (k == a)) [
    | inl e ↦ (
        let other : (k == b) ≡ false = ap (λ x. x == b) (eqb-true k a e) ∙ once_none a b h in
        ap (λ t. if t then v else with f b w k) e ∙ sym (ap (λ t. if t then w else with f a v k) other ∙ ap (λ t. if t then v else f k) e)
        )
    | inr e ↦ ap (λ t. if t then v else with f b w k) e ∙ ap (λ x. if k == b then w else x) (sym (ap (λ t. if t then v else f k) e))
  ]

  -- what is written where it was already changes nothing
  pub with_again : (f : ℕ → X) (a : ℕ) (v w : X) (k : ℕ) → f a ≡ v → with (with f a w) a v k ≡ f k
  with_again f a v w k h = elim (cases_Bool (k == a)) [
    | inl e ↦ ap (λ t. if t then v else with f a w k) e ∙ sym h ∙ ap f (sym (eqb-true k a e))
    | inr e ↦ ap (λ t. if t then v else with f a w k) e ∙ ap (λ t. if t then w else f k) e
  ]

module _ {E : Type 0} where
  -- an element at its place
  abbrev pub item : ℕ → E → ChainItem E
  item k e = record { place = k; element = e }

  -- at a place where there is none none is found
  pub found_none : (xs : List (ChainItem E)) (k : ℕ) → times k (places xs) ≡ 0 → found xs k ≡ None
  found_none [] k h = refl
  found_none (x ∷ xs) k h =
      with_other (found xs) x.place (Some x.element) k (once_back x.place k (omega arith)) ∙ found_none xs k (omega arith)

  -- what is found once one more element is among others
  pub found_put : (xs ys : List (ChainItem E)) (c : ℕ) (e : E) (k : ℕ) → times c (places xs) ≡ 0
      → found (xs ++ item c e ∷ ys) k ≡ with (found (xs ++ ys)) c (Some e) k
  found_put [] ys c e k h = refl
  found_put (x ∷ xs) ys c e k h =
      ap (λ o. if k == x.place then Some x.element else o) (found_put xs ys c e k (omega arith))
      ∙ with_swap (found (xs ++ ys)) x.place c (Some x.element) (Some e) k (omega arith)

  -- a list with the element at a place, and those ahead of it and behind it
  pub record Split (xs : List (ChainItem E)) (c : ℕ) (e : E) : Type 0 where
    pub before : List (ChainItem E)
    pub after : List (ChainItem E)
    pub is : xs ≡ before ++ item c e ∷ after

  -- if an element is found, it is there
  pub found_some : (xs : List (ChainItem E)) (c : ℕ) (e : E) → found xs c ≡ Some e → Split xs c e
  found_some [] c e h = absurd cc
  found_some (x ∷ xs) c e h = elim (cases_Bool (c == x.place)) [
    | inl t ↦ (
        let same : Some x.element ≡ Some e = sym (ap (λ b. if b then Some x.element else found xs c) t) ∙ h in
        let value : x.element ≡ e = cc in
        let name : x.place ≡ c = sym (eqb-true c x.place t) in
        record { before = []; after = xs; is = ap₂ (λ (k : ℕ) (y : E). item k y ∷ xs) name value }
        )
    | inr t ↦ (
        let r = found_some xs c e (sym (ap (λ b. if b then Some x.element else found xs c) t) ∙ h) in
        record { before = x ∷ r.before; after = r.after; is = ap (λ (l : List (ChainItem E)). x ∷ l) r.is }
        )
  ]

  -- a list without a place where there is none is itself
  pub without_none : (xs : List (ChainItem E)) (c : ℕ) → times c (places xs) ≡ 0 → without_place xs c ≡ xs
  without_none [] c h = refl
  without_none (x ∷ xs) c h =
      ap (λ b. if b then without_place xs c else x ∷ without_place xs c) (once_none x.place c (omega arith))
      ∙ ap (λ (l : List (ChainItem E)). x ∷ l) (without_none xs c (omega arith))

  -- a list without the place of an element is those ahead of it and those behind it
  pub without_at : (xs ys : List (ChainItem E)) (c : ℕ) (e : E) → times c (places xs) ≡ 0 → times c (places ys) ≡ 0
      → without_place (xs ++ item c e ∷ ys) c ≡ xs ++ ys
  without_at [] ys c e h g =
      ap (λ b. if b then without_place ys c else item c e ∷ without_place ys c) (eq-eqb c c refl) ∙ without_none ys c g
  without_at (x ∷ xs) ys c e h g =
      ap (λ b. if b then without_place (xs ++ item c e ∷ ys) c else x ∷ without_place (xs ++ item c e ∷ ys) c)
      (once_none x.place c (omega arith))
      ∙ ap (λ (l : List (ChainItem E)). x ∷ l) (without_at xs ys c e (omega arith) g)

  -- with one more before an element, it is between those ahead of that and that
  pub put_before_at : (xs ys : List (ChainItem E)) (c : ℕ) (e : E) (y : ChainItem E) → times c (places xs) ≡ 0
      → put_before (xs ++ item c e ∷ ys) c y ≡ xs ++ y ∷ item c e ∷ ys
  put_before_at [] ys c e y h =
      ap (λ b. if b then y ∷ item c e ∷ ys else item c e ∷ put_before ys c y) (eq-eqb c c refl)
  put_before_at (x ∷ xs) ys c e y h =
      ap (λ b. if b then y ∷ x ∷ (xs ++ item c e ∷ ys) else x ∷ put_before (xs ++ item c e ∷ ys) c y)
      (once_none c x.place (once_back x.place c (omega arith)))
      ∙ ap (λ (l : List (ChainItem E)). x ∷ l) (put_before_at xs ys c e y (omega arith))

  -- if no element is found, one more before the place is behind all others
  pub put_before_none : (xs : List (ChainItem E)) (c : ℕ) (y : ChainItem E) → found xs c ≡ None → put_before xs c y ≡ xs ++ y ∷ []
  put_before_none [] c y h = refl
  put_before_none (x ∷ xs) c y h = elim (cases_Bool (c == x.place)) [
    | inl t ↦ (
        let none : Some x.element ≡ None = sym (ap (λ b. if b then Some x.element else found xs c) t) ∙ h in
        absurd cc
        )
    | inr t ↦ ap (λ b. if b then y ∷ x ∷ xs else x ∷ put_before xs c y) t
        ∙ ap (λ (l : List (ChainItem E)). x ∷ l) (put_before_none xs c y (sym (ap (λ b. if b then Some x.element else found xs c) t) ∙ h))
  ]

  -- each element is found at its place, if no place is another's
  pub found_each : (xs : List (ChainItem E)) → ((k : ℕ) → times k (places xs) ≤ 1)
      → map (found xs) (places xs) ≡ map (λ (x : ChainItem E). Some x.element) xs
  found_each [] h = refl
  found_each (x ∷ xs) h =
      let here = h x.place in
      let same = once_same x.place in
      ap₂ (λ (y : Option E) (ys : List (Option E)). y ∷ ys) (with_same (found xs) x.place (Some x.element))
      (map_with (found xs) x.place (Some x.element) (places xs) (omega arith)
      ∙ found_each xs (λ k. let more = h k in omega arith))

  -- the elements met in the links of a table
  abbrev pub walk_in : Table E → ℕ → ℕ → List (ChainItem E)
  walk_in t k n = walk t.next t.element k n

  -- the walk from behind a place on is the elements behind it
  pub walk_from : (t : Table E) (xs : List (ChainItem E)) (p : ℕ) → map t.next (p ∷ places xs) ≡ places xs ++ nil ∷ []
      → map t.element (places xs) ≡ map (λ (x : ChainItem E). Some x.element) xs → walk_in t (t.next p) (length xs) ≡ xs
  walk_from t [] p f h = refl
  walk_from t (x ∷ xs) p f h =
      let next : t.next p ≡ x.place = cc in
      let value : t.element x.place ≡ Some x.element = cc in
      let tails : map t.next (x.place ∷ places xs) ≡ places xs ++ nil ∷ [] = cc in
      let values : map t.element (places xs) ≡ map (λ (y : ChainItem E). Some y.element) xs = cc in
      ap (λ q. walk_in t q (suc (length xs))) next
      ∙ ap (λ o. listed x.place o (walk_in t (t.next x.place) (length xs))) value
      ∙ ap (λ (l : List (ChainItem E)). x ∷ l) (walk_from t xs x.place tails values)

  -- the elements and the places of a table are in a ring
  pub ring_of : (t : Table E) (items : List (ChainItem E)) (free_places : List ℕ) → HoldsItems t items free_places
      → Ring t.next t.previous (places items)
  ring_of t items free_places h = record {
    forward = h.forward;
    backward = h.backward;
    apart = λ k.
        let at_end = h.beyond nil h.fits in
        once_more (λ x. times x (places items)) nil k (omega arith) (elim (cases_lt k t.size) [
          | inl lt ↦ (let w = h.within k lt in omega arith)
          | inr ge ↦ (let w = h.beyond k ge in omega arith)
        ]);
  }

  -- the walk through the links of a table is its elements
  pub walk_is : (t : Table E) (items : List (ChainItem E)) (free_places : List ℕ) → HoldsItems t items free_places
      → walk_in t (t.next nil) (length items) ≡ items
  walk_is t items free_places h =
      let r = ring_of t items free_places h in
      walk_from t items nil h.forward
      (map_same t.element (found items) h.elements (places items) ∙ found_each items (λ k. let a = r.apart k in omega arith))

  -- if no element is found, none is behind it
  pub after_none : (xs : List (ChainItem E)) (c : ℕ) → found xs c ≡ None → place_after xs c ≡ None
  after_none [] c h = refl
  after_none (x ∷ xs) c h = elim (cases_Bool (c == x.place)) [
    | inl t ↦ (
        let none : Some x.element ≡ None = sym (ap (λ b. if b then Some x.element else found xs c) t) ∙ h in
        absurd cc
        )
    | inr t ↦ ap (λ b. if b then first_place xs else place_after xs c) t
        ∙ after_none xs c (sym (ap (λ b. if b then Some x.element else found xs c) t) ∙ h)
  ]

  -- the element behind that at a place is the first of those behind it
  pub after_at : (xs ys : List (ChainItem E)) (c : ℕ) (e : E) → times c (places xs) ≡ 0
      → place_after (xs ++ item c e ∷ ys) c ≡ first_place ys
  after_at [] ys c e h = ap (λ b. if b then first_place ys else place_after ys c) (eq-eqb c c refl)
  after_at (x ∷ xs) ys c e h =
      ap (λ b. if b then first_place (xs ++ item c e ∷ ys) else place_after (xs ++ item c e ∷ ys) c)
      (once_none c x.place (once_back x.place c (omega arith)))
      ∙ after_at xs ys c e (omega arith)

  -- the head of some places and `nil` is the first of them, or `nil`
  pub record Heads (head : ℕ) (ys : List (ChainItem E)) : Type 0 where
    pub none : head ≡ nil → None ≡ first_place ys
    pub some : head ≢ nil → Some head ≡ first_place ys

  pub heads : (head : ℕ) (rest : List ℕ) (ys : List (ChainItem E)) → times nil (places ys) ≡ 0 → places ys ++ nil ∷ [] ≡ head ∷ rest
      → Heads head ys
  heads head rest [] h e = record { none = λ _. refl; some = λ ne. absurd (ne cc) }
  heads head rest (y ∷ ys) h e =
      let name : y.place ≡ head = cc in
      record {
        none = λ is. absurd (let same = once_same nil in let at = ap (λ k. once k nil) (name ∙ is) in omega arith);
        some = λ ne. ap Some (sym name);
      }
