-- The elements of a chain under single changes: what is at their places, and in which order they
-- are.
use Rattle.std.proofs.Common.{◌≡◌, ℕ, ◌+◌, ◌≤◌, ◌==◌, Bool, true, false, List, [], ◌∷◌, ◌++◌, Option, Some}
use Rattle.std.proofs.Common.{None, option_map, length, refl, sym, ap, ◌∙◌, inl, inr, arith, if◌then◌else◌}
use Rattle.std.proofs.Common.{eq-eqb, subst}
use Rattle.std.proofs.lemmas.Bool.{cases_Bool, eqb-true}
use Rattle.std.proofs.lemmas.List.{map-append}
use Rattle.std.specs.Option.{option_or}
use Rattle.flume_state.proofs.Chains.{once, times, ChainItem, places, found, without_place, first_place}
use Rattle.flume_state.proofs.Chains.{place_after, times-append, once_same, once_none, once_back, with_same}
use Rattle.flume_state.proofs.Chains.{item, found_none, found_put, found_some, without_none, after_at}
use Rattle.flume_state.proofs.Chains.{edited_missing, changed_at, with_value_at}
use Rattle.flume_state.specs.layout.EntryLayout.{start_without}
use Rattle.flume_state.specs.layout.WithTicket.{WithTicket}

module _ {X Y : Type 0} (f : X → Y) where
  -- what is read is that of the element that is found
  pub read_value : (o : Option X) (e : X) (v : Y) → o ≡ Some e → Some v ≡ option_map f o → v ≡ f e
  read_value o e v is read = let same : Some v ≡ Some (f e) = read ∙ ap (option_map f) is in cc

  -- and one is read
  pub read_some : (o : Option X) (e : X) → o ≡ Some e → None ≡ option_map f o → ⊥
  read_some o e is read = let same : None ≡ Some (f e) = read ∙ ap (option_map f) is in cc

-- a function of a choice is the choice of its values
pub passes : {X Y : Type 0} (f : X → Y) (b : Bool) (x y : X) → f (if b then x else y) ≡ (if b then f x else f y)
passes f true x y = refl
passes f false x y = refl

module _ {E : Type 0} where
  -- each place is of one element at most
  abbrev pub DistinctTickets : List (ChainItem E) → Type 0
  DistinctTickets items = (k : ℕ) → times k (places items) ≤ 1

  -- a place is as often in two lists of elements joined as in both
  pub counted : (k : ℕ) (xs ys : List (ChainItem E)) → times k (places (xs ++ ys)) ≡ times k (places xs) + times k (places ys)
  counted k xs ys = ap (times k) (map-append (λ (x : ChainItem E). x.place) xs ys) ∙ times-append k (places xs) (places ys)

  -- an element at its place, those ahead of it and those behind it, of which none has the place
  pub record Seat (items : List (ChainItem E)) (k : ℕ) (e : E) : Type 0 where
    pub before : List (ChainItem E)
    pub after : List (ChainItem E)
    pub is : items ≡ before ++ item k e ∷ after
    pub ahead : times k (places before) ≡ 0
    pub behind : times k (places after) ≡ 0

  -- an element among others is at its place alone
  pub alone : (before after : List (ChainItem E)) (k : ℕ) (e : E) → DistinctTickets (before ++ item k e ∷ after)
      → (times k (places before) ≡ 0) × (times k (places after) ≡ 0)
  alone before after k e apart =
      let sum = counted k before (item k e ∷ after) in
      let one = once_same k in
      let most = apart k in
      (omega arith, omega arith)

  -- what is found is at its place alone
  pub seat : (items : List (ChainItem E)) (k : ℕ) (e : E) → DistinctTickets items → found items k ≡ Some e → Seat items k e
  seat items k e apart h =
      let s = found_some items k e h in
      let a = alone s.before s.after k e (subst DistinctTickets s.is apart) in
      record { before = s.before; after = s.after; is = s.is; ahead = a.0; behind = a.1 }

  -- what is at a place is found
  pub seat_found : (before after : List (ChainItem E)) (k : ℕ) (e : E) → times k (places before) ≡ 0
      → found (before ++ item k e ∷ after) k ≡ Some e
  seat_found before after k e h = found_put before after k e k h ∙ with_same (found (before ++ after)) k (Some e)

  -- a place is no more often in a list without another
  pub times-without_place : (j k : ℕ) (xs : List (ChainItem E)) → times j (places (without_place xs k)) ≤ times j (places xs)
  times-without_place j k [] = omega arith
  times-without_place j k (x ∷ xs) = elim (cases_Bool (x.place == k)) [
    | inl t ↦ rw t (let more = times-without_place j k xs in omega arith)
    | inr t ↦ rw t (let more = times-without_place j k xs in omega arith)
  ]

  -- without its place an element is not found
  pub gone : (k : ℕ) (xs : List (ChainItem E)) → times k (places (without_place xs k)) ≡ 0
  gone k [] = refl
  gone k (x ∷ xs) = elim (cases_Bool (x.place == k)) [
    | inl t ↦ rw t (gone k xs)
    | inr t ↦ rw t (let more = gone k xs in let zero_here : once x.place k ≡ 0 = ap (λ b. if b then 1 else 0) t in omega arith)
  ]

  -- a list is no longer without a place
  pub length-without_place : (k : ℕ) (xs : List (ChainItem E)) → length (without_place xs k) ≤ length xs
  length-without_place k [] = omega arith
  length-without_place k (x ∷ xs) = elim (cases_Bool (x.place == k)) [
    | inl t ↦ rw t (let more = length-without_place k xs in omega arith)
    | inr t ↦ rw t (let more = length-without_place k xs in omega arith)
  ]

  -- a change of an element at its place leaves the others
  pub edited_at : (f : E → E) (k : ℕ) (xs ys : List (ChainItem E)) (e : E) → times k (places xs) ≡ 0 → times k (places ys) ≡ 0
      → changed_at f k (xs ++ item k e ∷ ys) ≡ xs ++ item k (f e) ∷ ys
  edited_at f k [] ys e h g = rw (eq-eqb k k refl) (ap (λ l. item k (f e) ∷ l) (edited_missing f ys k (found_none ys k g)))
  edited_at f k (x ∷ xs) ys e h g =
      let other = once_none k x.place (once_back x.place k (omega arith)) in
      rw other (ap (λ l. x ∷ l) (edited_at f k xs ys e (omega arith) g))

  -- the first place of a list with one more behind it
  pub first-push : (xs : List (ChainItem E)) (x : ChainItem E) → first_place (xs ++ x ∷ []) ≡ option_or (first_place xs) (Some x.place)
  first-push [] x = refl
  first-push (y ∷ ys) x = refl

  -- a list without a first place is empty
  pub no_first : (xs : List (ChainItem E)) → None ≡ first_place xs → xs ≡ []
  no_first [] none = refl
  no_first (x ∷ xs) none = absurd (let no : ⊥ = cc in no)

  -- the first place of a list with another element at the same place
  pub first_same : (xs ys : List (ChainItem E)) (k : ℕ) (e f : E) → first_place (xs ++ item k e ∷ ys) ≡ first_place (xs ++ item k f ∷ ys)
  first_same [] ys k e f = refl
  first_same (x ∷ xs) ys k e f = refl

  -- the start of a part moves off the element at a place as the part is left without it
  pub off_first : (xs ys : List (ChainItem E)) (k : ℕ) → DistinctTickets (xs ++ ys)
      → first_place (without_place ys k) ≡ start_without (first_place ys) k (place_after (xs ++ ys) k)
  off_first xs [] k apart = refl
  off_first xs (y ∷ ys) k apart = elim (cases_Bool (y.place == k)) [
    | inl t ↦ (
        let name : y.place ≡ k = eqb-true y.place k t in
        let at = alone xs ys y.place y.element apart in
        let after : place_after (xs ++ y ∷ ys) k ≡ first_place ys = ap (place_after (xs ++ y ∷ ys)) (sym name)
        ∙ after_at xs ys y.place y.element at.0 in
        let left : without_place ys k ≡ ys = ap (without_place ys) (sym name) ∙ without_none ys y.place at.1 in
        rw t (ap first_place left ∙ sym after)
        )
    | inr t ↦ rw t refl
  ]

  -- the first element of a part, if the start names its place
  pub record Front (xs : List (ChainItem E)) (k : ℕ) : Type 0 where
    pub element : E
    pub rest : List (ChainItem E)
    pub is : xs ≡ item k element ∷ rest

  pub front_at : (xs : List (ChainItem E)) (k : ℕ) → Some k ≡ first_place xs → Front xs k
  front_at [] k h = absurd (let none : ⊥ = cc in none)
  front_at (x ∷ xs) k h =
      let name : x.place ≡ k = cc in
      record { element = x.element; rest = xs; is = ap (λ (p : ℕ). item p x.element ∷ xs) name }

module _ {E : Type 0} where
  -- the elements without a place are the same, whatever value was written there
  pub without_written : (items : List (ChainItem (WithTicket E))) (k : ℕ) (v : E)
      → without_place (with_value_at k items v) k ≡ without_place items k
  without_written [] k v = refl
  without_written (x ∷ items) k v = elim (cases_Bool (k == x.place)) [
    | inl t ↦ rw (t, eq-eqb x.place k (sym (eqb-true k x.place t))) (without_written items k v)
    | inr t ↦
        let other = once_none x.place k (once_back k x.place (ap (λ b. if b then 1 else 0) t)) in
        rw (t, other) (ap (λ l. x ∷ l) (without_written items k v))
  ]
