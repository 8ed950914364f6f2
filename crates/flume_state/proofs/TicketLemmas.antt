-- A chain with tickets under single edits: which place each ticket has, and how many elements have it.
use Rattle.std.proofs.Common.{◌≡◌, ◌≢◌, ℕ, ◌+◌, ◌≤◌, ◌==◌, nat_eq, Bool, true, false, cond, if◌then◌else◌}
use Rattle.std.proofs.Common.{List, [], ◌∷◌, ◌++◌, map, Option, Some, None, option_map, refl, sym, ap, subst}
use Rattle.std.proofs.Common.{◌∙◌, arith, ⊎_elim, inl, inr, append-nil, nat_cmp}
use Rattle.std.proofs.lemmas.Bool.{cases_eq, cases_Bool, eq-eqb, eqb-true, ne_eqb}
use Rattle.std.specs.Option.{option_eq}
use Rattle.std.specs.FinMap.{empty, get, insert, remove, get-empty}
use Rattle.flume_state.proofs.Chains.{ChainItem, once, times, places, found, without_place, put_before}
use Rattle.flume_state.proofs.Chains.{once_same, once_none, once_more, item, without_at, put_before_or_last}
use Rattle.flume_state.proofs.Chains.{none_placed}
use Rattle.flume_state.proofs.EntryPartLemmas.{DistinctTickets, seat}
use Rattle.flume_state.proofs.PlacedLemmas.{found_here, without_here}
use Rattle.flume_state.specs.layout.WithTicket.{WithTicket, tickets, place_of, Agrees}
use Rattle.flume_state.specs.layout.Places.{PlaceMap}
use Rattle.flume_state.proofs.SendMapLemmas.{get-insert_same, get-insert_other, get-remove_same, get-remove_other}

-- two that differ are not the same once
pub once_other : (a b : ℕ) → a ≢ b → once a b ≡ 0
once_other a b ne = ap (λ t. if t then 1 else 0) (ne_eqb a b ne)

-- if a choice finds none it isn't the first, and the others have none
pub neither : {X : Type 0} (b : Bool) (x : X) (o : Option X) → (if b then Some x else o) ≡ None → (b ≡ false) × (o ≡ None)
neither true x o none = absurd (let no : ⊥ = cc in no)
neither false x o none = (refl, none)

module _ {X : Type 0} (f : X → ℕ) where
  -- one among others adds its own number
  pub times_amid : (k : ℕ) (xs ys : List X) (x : X) → times k (map f (xs ++ x ∷ ys)) ≡ once (f x) k + times k (map f (xs ++ ys))
  times_amid k [] ys x = refl
  times_amid k (y ∷ xs) ys x = omega (arith, times_amid k xs ys x)

  -- how often two lists joined have a number
  pub times_both : (k : ℕ) (xs ys : List X) → times k (map f (xs ++ ys)) ≡ times k (map f xs) + times k (map f ys)
  times_both k [] ys = omega arith
  times_both k (x ∷ xs) ys = let rest = times_both k xs ys in omega arith

module _ {E : Type 0} where
  -- an element among others changes the place of no ticket but its own
  pub place_amid : (t : ℕ) (xs ys : List (ChainItem (WithTicket E))) (x : ChainItem (WithTicket E)) → once x.element.label t ≡ 0
      → place_of t (xs ++ x ∷ ys) ≡ place_of t (xs ++ ys)
  place_amid t [] ys x other = ap (λ b. cond b (Some x.place) (place_of t ys)) (once_none x.element.label t other)
  place_amid t (y ∷ xs) ys x other = ap (cond (y.element.label == t) (Some y.place)) (place_amid t xs ys x other)

  -- an element has the place of its ticket, if no other one has that
  pub place_own : (t : ℕ) (xs ys : List (ChainItem (WithTicket E))) (x : ChainItem (WithTicket E)) → x.element.label ≡ t
      → times t (tickets (xs ++ ys)) ≡ 0 → place_of t (xs ++ x ∷ ys) ≡ Some x.place
  place_own t [] ys x own none = ap (λ b. cond b (Some x.place) (place_of t ys)) (eq-eqb x.element.label t own)
  place_own t (y ∷ xs) ys x own none =
      ap (λ b. cond b (Some y.place) (place_of t (xs ++ x ∷ ys))) (once_none y.element.label t (omega arith))
      ∙ place_own t xs ys x own (omega arith)

  -- a ticket that no element has has no place
  pub place_none : (t : ℕ) (xs : List (ChainItem (WithTicket E))) → times t (tickets xs) ≡ 0 → place_of t xs ≡ None
  place_none t [] none = refl
  place_none t (y ∷ xs) none =
      ap (λ b. cond b (Some y.place) (place_of t xs)) (once_none y.element.label t (omega arith)) ∙ place_none t xs (omega arith)

  -- and one that has no place no element has
  pub times_none : (t : ℕ) (xs : List (ChainItem (WithTicket E))) → place_of t xs ≡ None → times t (tickets xs) ≡ 0
  times_none t [] none = refl
  times_none t (y ∷ xs) none =
      let both = neither (y.element.label == t) y.place (place_of t xs) none in
      let rest = times_none t xs both.1 in
      let here : once y.element.label t ≡ 0 = ap (λ b. if b then 1 else 0) both.0 in
      omega arith

  -- rest is items but for one element, which is somewhere among them
  pub record Amid (items rest : List (ChainItem (WithTicket E))) (x : ChainItem (WithTicket E)) : Type 0 where
    pub before : List (ChainItem (WithTicket E))
    pub after : List (ChainItem (WithTicket E))
    pub whole : items ≡ before ++ x ∷ after
    pub others : rest ≡ before ++ after

module _ {E : Type 0} (items rest : List (ChainItem (WithTicket E))) (x : ChainItem (WithTicket E)) (m : PlaceMap)
    (at : Amid items rest x) where
  counts : (t : ℕ) → times t (tickets items) ≡ once x.element.label t + times t (tickets rest)
  counts t = rw at.whole (rw at.others (times_amid (λ y. y.element.label) t at.before at.after x))

  names : (k : ℕ) → times k (places items) ≡ once x.place k + times k (places rest)
  names k = rw at.whole (rw at.others (times_amid (λ y. y.place) k at.before at.after x))

  same : (t : ℕ) → once x.element.label t ≡ 0 → place_of t items ≡ place_of t rest
  same t other = rw at.whole (rw at.others (place_amid t at.before at.after x other))

  pub own : (t : ℕ) → x.element.label ≡ t → times t (tickets rest) ≡ 0 → place_of t items ≡ Some x.place
  own t is none = rw at.whole (place_own t at.before at.after x is (ap (λ l. times t (tickets l)) (sym at.others) ∙ none))

  -- if an element has a ticket none of the others has it
  pub others_none : (t : ℕ) → x.element.label ≡ t → times t (tickets items) ≤ 1 → times t (tickets rest) ≡ 0
  others_none t has most =
      let one = ap (λ u. once u t) has ∙ once_same t in
      let sum = counts t in
      omega arith

  kept_apart : ((k : ℕ) → times k (places items) ≤ 1) → (k : ℕ) → times k (places rest) ≤ 1
  kept_apart apart k = let most = apart k in let sum = names k in omega arith

  put_apart : times x.place (places rest) ≡ 0 → ((k : ℕ) → times k (places rest) ≤ 1) → (k : ℕ) → times k (places items) ≤ 1
  put_apart fresh apart k =
      let sum = names k in
      let most = once_more (λ j. times j (places rest)) x.place k fresh (apart k) in
      omega arith

  -- an element that is put in at a new place is found there, and without it the others are left
  undone : times x.place (places rest) ≡ 0 → DistinctTickets rest
      → (found items x.place ≡ Some x.element) × (without_place items x.place ≡ rest)
  undone fresh apart =
      let split = subst (λ l. DistinctTickets l) at.whole (put_apart fresh apart) in (
        ap (λ l. found l x.place) at.whole ∙ found_here at.before at.after x split,
        ap (λ l. without_place l x.place) at.whole ∙ without_here at.before at.after x split ∙ sym at.others,
      )

  -- once an element is taken out and its ticket removed, the map is that of the others
  pub ticketed_out : (t : ℕ) → x.element.label ≡ t → Agrees items m → Agrees rest (remove m t)
  ticketed_out t has a = record {
    found = λ u. ⊎_elim
        (λ e.
        subst (λ v. get (remove m t) v ≡ place_of v rest) (sym e)
        (get-remove_same m t ∙ sym (place_none t rest (others_none t has (a.single t)))))
        (λ ne. get-remove_other m t u ne ∙ a.found u ∙ same u (once_other x.element.label u (λ is. ne (sym is ∙ has)))) (cases_eq u t);
    single = λ u. let most = a.single u in let sum = counts u in omega arith;
    apart = kept_apart a.apart;
  }

  -- once an element is put in with a new ticket, and that into the map, the map is that of all
  pub ticketed_in : (t : ℕ) → x.element.label ≡ t → place_of t rest ≡ None → times x.place (places rest) ≡ 0
      → Agrees rest m → Agrees items (insert m t x.place)
  ticketed_in t has new fresh a =
      let none = times_none t rest new in
      record {
        found = λ u. ⊎_elim
            (λ e. subst (λ v. get (insert m t x.place) v ≡ place_of v items) (sym e)
            (get-insert_same m t x.place ∙ sym (own t has none)))
            (λ ne. get-insert_other m t x.place u ne ∙ a.found u ∙ sym (same u (once_other x.element.label u (λ is. ne (sym is ∙ has)))))
            (cases_eq u t);
        single = λ u.
            let sum = counts u in
            let most = once_more (λ j. times j (tickets rest)) x.element.label u (ap (λ v. times v (tickets rest)) has
            ∙ none) (a.single u) in
            omega arith;
        apart = put_apart fresh a.apart;
      }

module _ {E : Type 0} where
  -- one more ahead of that at a place, or behind all others
  put_before_amid : (items : List (ChainItem (WithTicket E))) (k : ℕ) (x : ChainItem (WithTicket E)) → Amid (put_before items k x) items x
  put_before_amid [] k x = record { before = []; after = []; whole = refl; others = refl }
  put_before_amid (y ∷ ys) k x = elim (cases_Bool (k == y.place)) [
    | inl t ↦ record {
      before = [];
      after = y ∷ ys;
      whole = ap (λ b. cond b (x ∷ y ∷ ys) (y ∷ put_before ys k x)) t;
      others = refl;
    }
    | inr t ↦ (
        let r = put_before_amid ys k x in
        record {
          before = y ∷ r.before;
          after = r.after;
          whole = ap (λ b. cond b (x ∷ y ∷ ys) (y ∷ put_before ys k x)) t ∙ ap (λ (l : List (ChainItem (WithTicket E))). y ∷ l) r.whole;
          others = ap (λ (l : List (ChainItem (WithTicket E))). y ∷ l) r.others;
        }
        )
  ]

  -- one more if it is put
  pub put_amid : (items : List (ChainItem (WithTicket E))) (next : Option ℕ) (x : ChainItem (WithTicket E))
      → Amid (put_before_or_last items next x) items x
  put_amid items None x = record { before = items; after = []; whole = refl; others = sym (append-nil items) }
  put_amid items (Some k) x = put_before_amid items k x

  -- one that is put at a new place is found there, and without it the others are left
  pub put_undone : (items : List (ChainItem (WithTicket E))) (next : Option ℕ) (x : ChainItem (WithTicket E)) → DistinctTickets items
      → found items x.place ≡ None
      → (found (put_before_or_last items next x) x.place ≡ Some x.element)
      × (without_place (put_before_or_last items next x) x.place ≡ items)
  put_undone items next x apart fresh =
      undone (put_before_or_last items next x) items x empty (put_amid items next x) (none_placed items x.place fresh) apart

  -- those without a place are all but the element found there, if each place is of one
  pub without_amid : (items : List (ChainItem (WithTicket E))) (k : ℕ) (e : WithTicket E) → DistinctTickets items → found items k ≡ Some e
      → Amid items (without_place items k) (item k e)
  without_amid items k e apart is =
      let s = seat items k e apart is in
      record {
        before = s.before;
        after = s.after;
        whole = s.is;
        others = ap (λ (l : List (ChainItem (WithTicket E))). without_place l k) s.is ∙ without_at s.before s.after k e s.ahead s.behind;
      }

  -- the place of an element that is taken out names no other
  pub without_fresh : (items rest : List (ChainItem (WithTicket E))) (x : ChainItem (WithTicket E)) → Amid items rest x
      → times x.place (places items) ≤ 1 → times x.place (places rest) ≡ 0
  without_fresh items rest x at most =
      let sum : times x.place (places items) ≡ once x.place x.place + times x.place (places rest) =
      rw at.whole (rw at.others (times_amid (λ y. y.place) x.place at.before at.after x)) in
      let here = once_same x.place in
      omega arith

  -- once the element at a place is dropped and its ticket removed, the map is that of the others
  pub left_agrees : (items : List (ChainItem (WithTicket E))) (m : PlaceMap) (k t : ℕ) → Some t ≡ option_map (λ e. e.label) (found items k)
      → Agrees items m → Agrees (without_place items k) (remove m t)
  left_agrees items m k t is a =
      elim (found items k) as (λ (o : Option (WithTicket E)). found items k ≡ o → Some t ≡ option_map (λ e. e.label) o
      → Agrees (without_place items k) (remove m t)) [
        | None ↦ λ at none. absurd (let no : ⊥ = cc in no)
        | Some e ↦ λ at some. (
            let own_ticket : e.label ≡ t = cc in
            ticketed_out items (without_place items k) (item k e) m (without_amid items k e a.apart at) t own_ticket a
            )
      ] refl is

  -- the ticket of an element is where the element is
  pub ticket_place : (xs : List (ChainItem (WithTicket E))) (p : ℕ) (e : WithTicket E) → DistinctTickets xs
      → ((u : ℕ) → times u (tickets xs) ≤ 1)
      → found xs p ≡ Some e → place_of e.label xs ≡ Some p
  ticket_place xs p e apart single is =
      let at = without_amid xs p e apart is in
      own xs (without_place xs p) (item p e) empty at e.label refl (others_none xs (without_place xs p) (item p e) empty at e.label refl
      (single e.label))

  -- and so is a ticket that is seen at a place
  pub label_place : (xs : List (ChainItem (WithTicket E))) (p t : ℕ) → DistinctTickets xs → ((u : ℕ) → times u (tickets xs) ≤ 1)
      → option_eq nat_eq (option_map (λ e. e.label) (found xs p)) (Some t) ≡ true → place_of t xs ≡ Some p
  label_place xs p t apart single seen =
      elim (found xs p) as (λ (o : Option (WithTicket E)). found xs p ≡ o → option_eq nat_eq (option_map (λ e. e.label) o) (Some t) ≡ true
      → place_of t xs ≡ Some p) [
        | None ↦ λ at no. absurd (let none : ⊥ = cc in none)
        | Some e ↦ λ at same. subst (λ u. place_of u xs ≡ Some p) (eqb-true e.label t same) (ticket_place xs p e apart single at)
      ] refl seen

-- the empty map is that of no elements
pub empty_agrees : (E : Type 0) (items : List (ChainItem (WithTicket E))) (m : PlaceMap) → items ≡ [] → m ≡ empty → Agrees items m
empty_agrees E items m none nowhere = rw none (rw nowhere (record {
  found = λ t. get-empty nat_cmp t;
  single = λ t. omega arith;
  apart = λ k. omega arith;
}))
