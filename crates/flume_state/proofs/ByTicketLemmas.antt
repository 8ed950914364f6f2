-- The map of the values that are under a ticket in a chain, and where the element with a ticket is.
use Rattle.std.proofs.Common.{◌≡◌, ℕ, ◌≤◌, ◌==◌, true, false, cond, if◌then◌else◌, List, [], ◌∷◌, ◌++◌}
use Rattle.std.proofs.Common.{Option, Some, None, refl, sym, ap, ◌∙◌, inl, inr, arith, subst, append-nil}
use Rattle.std.proofs.Common.{option_map, nat_cmp}
use Rattle.std.proofs.lemmas.Bool.{cases_Bool, eqb-true, eq-eqb, ne_eqb}
use Rattle.std.specs.Cmp.{nat_cmp_total, unsigned_tied}
use Rattle.std.specs.FinMap.{get, insert, remove, get-empty, get-insert}
use Rattle.flume_state.proofs.Chains.{ChainItem, times, places, found, without_place, with_new_value}
use Rattle.flume_state.proofs.Chains.{once_same, once_none, once_back, with_other, item, found_some}
use Rattle.flume_state.proofs.Chains.{without_at, with_value_at}
use Rattle.flume_state.specs.layout.WithTicket.{WithTicket, place_of, tickets}
use Rattle.flume_state.specs.Sends.{with_send_changed}
use Rattle.flume_state.specs.layout.SendLayout.{by_ticket}
use Rattle.flume_state.proofs.EntryPartLemmas.{DistinctTickets, alone, edited_at}
use Rattle.flume_state.proofs.TicketLemmas.{neither, times_amid, times_both}
use Rattle.flume_state.proofs.SendMapLemmas.{same_by, get-insert_same, get-insert_other, with_send_changed-insert, remove-insert}

-- two numbers are the same either way round
same_either : (a b : ℕ) → (a == b) ≡ (b == a)
same_either a b = elim (cases_Bool (b == a)) [
  | inl e ↦ eq-eqb a b (sym (eqb-true b a e)) ∙ sym e
  | inr e ↦ ne_eqb a b (λ is. let no : true ≡ false = sym (eq-eqb b a (sym is)) ∙ e in absurd (let none : ⊥ = cc in none)) ∙ sym e
]

module _ {X : Type 0} where
  -- a value with its ticket
  abbrev pub under : ℕ → X → WithTicket X
  under t v = record { label = t; value = v }

  -- the value of the first element with a ticket
  abbrev pub value_of : ℕ → List (ChainItem (WithTicket X)) → Option X
  value_of t [] = None
  value_of t (x ∷ items) = if x.element.label == t then Some x.element.value else value_of t items

  -- the map has the value of the first element with a ticket
  pub get_by_ticket : (items : List (ChainItem (WithTicket X))) (q : ℕ) → get (by_ticket items) q ≡ value_of q items
  get_by_ticket [] q = get-empty nat_cmp q
  get_by_ticket (x ∷ items) q =
      get-insert nat_cmp_total (by_ticket items) x.element.label x.element.value q
      ∙ ap (λ b. cond b (Some x.element.value) (get (by_ticket items) q)) (unsigned_tied q x.element.label ∙ same_either q x.element.label)
      ∙ ap (λ o. if x.element.label == q then Some x.element.value else o) (get_by_ticket items q)

  -- behind elements of which none has the ticket the value is that of the others
  pub value_past : (q : ℕ) (xs ys : List (ChainItem (WithTicket X))) → value_of q xs ≡ None → value_of q (xs ++ ys) ≡ value_of q ys
  value_past q [] ys none = refl
  value_past q (x ∷ xs) ys none =
      let both = neither (x.element.label == q) x.element.value (value_of q xs) none in
      ap (λ b. if b then Some x.element.value else value_of q (xs ++ ys)) both.0 ∙ value_past q xs ys both.1

  -- an element with another ticket may be left out
  value_around : (q : ℕ) (xs ys : List (ChainItem (WithTicket X))) (x : ChainItem (WithTicket X)) → (x.element.label == q) ≡ false
      → value_of q (xs ++ x ∷ ys) ≡ value_of q (xs ++ ys)
  value_around q [] ys x e = ap (λ b. if b then Some x.element.value else value_of q ys) e
  value_around q (y ∷ xs) ys x e =
      ap (λ o. if y.element.label == q then Some y.element.value else o) (value_around q xs ys x e)

  -- the value of an element behind others of which none has its ticket
  pub value_at : (t p : ℕ) (v : X) (xs ys : List (ChainItem (WithTicket X))) → value_of t xs ≡ None
      → value_of t (xs ++ item p (under t v) ∷ ys) ≡ Some v
  value_at t p v xs ys none =
      value_past t xs (item p (under t v) ∷ ys) none
      ∙ ap (λ b. if b then Some v else value_of t ys) (eq-eqb t t refl)

  -- an element more, of which the ticket is of none ahead of it, is one more in the map
  pub by_ticket_insert : (t p : ℕ) (v : X) (xs ys : List (ChainItem (WithTicket X))) → value_of t xs ≡ None
      → by_ticket (xs ++ item p (under t v) ∷ ys) ≡ insert (by_ticket (xs ++ ys)) t v
  by_ticket_insert t p v xs ys none =
      same_by _ _ t
      (get_by_ticket (xs ++ item p (under t v) ∷ ys) t ∙ value_at t p v xs ys none ∙ sym (get-insert_same (by_ticket (xs ++ ys)) t v))
      (λ q ne.
      get_by_ticket (xs ++ item p (under t v) ∷ ys) q
      ∙ value_around q xs ys (item p (under t v)) (ne_eqb t q (λ e. ne (sym e)))
      ∙ sym (get_by_ticket (xs ++ ys) q)
      ∙ sym (get-insert_other (by_ticket (xs ++ ys)) t v q ne))

  -- an element with a changed value is a changed one in the map
  pub by_ticket_changed : (t p : ℕ) (v : X) (f : X → X) (xs ys : List (ChainItem (WithTicket X))) → value_of t xs ≡ None
      → by_ticket (xs ++ item p (under t (f v)) ∷ ys) ≡ with_send_changed (by_ticket (xs ++ item p (under t v) ∷ ys)) t f
  by_ticket_changed t p v f xs ys none =
      by_ticket_insert t p (f v) xs ys none
      ∙ sym (with_send_changed-insert (by_ticket (xs ++ ys)) t v f)
      ∙ ap (λ m. with_send_changed m t f) (sym (by_ticket_insert t p v xs ys none))

  -- an element with a changed value at the end is a changed one in the map
  pub by_ticket_moved : (t p : ℕ) (v : X) (f : X → X) (xs ys : List (ChainItem (WithTicket X))) → value_of t xs ≡ None
      → value_of t ys ≡ None
      → by_ticket ((xs ++ ys) ++ item p (under t (f v)) ∷ []) ≡ with_send_changed (by_ticket (xs ++ item p (under t v) ∷ ys)) t f
  by_ticket_moved t p v f xs ys none later =
      by_ticket_insert t p (f v) (xs ++ ys) [] (value_past t xs ys none ∙ later)
      ∙ ap (λ l. insert (by_ticket l) t (f v)) (append-nil (xs ++ ys))
      ∙ sym (by_ticket_insert t p (f v) xs ys none)
      ∙ by_ticket_changed t p v f xs ys none

  -- an element less is one less in the map
  pub by_ticket_removed : (t p : ℕ) (v : X) (xs ys : List (ChainItem (WithTicket X))) → value_of t xs ≡ None → value_of t ys ≡ None
      → by_ticket (xs ++ ys) ≡ remove (by_ticket (xs ++ item p (under t v) ∷ ys)) t
  by_ticket_removed t p v xs ys none later =
      sym (remove-insert (by_ticket (xs ++ ys)) t v (get_by_ticket (xs ++ ys) t ∙ value_past t xs ys none ∙ later))
      ∙ ap (λ m. remove m t) (sym (by_ticket_insert t p v xs ys none))

  -- a ticket that no element has finds no value
  pub value_none : (t : ℕ) (xs : List (ChainItem (WithTicket X))) → times t (tickets xs) ≡ 0 → value_of t xs ≡ None
  value_none t [] none = refl
  value_none t (x ∷ xs) none =
      ap (λ b. if b then Some x.element.value else value_of t xs) (once_none x.element.label t (omega arith))
      ∙ value_none t xs (omega arith)

  -- the one element with a ticket, its place, which no other has, and its value, and those ahead of
  -- it and behind it
  pub record Occupied (t p : ℕ) (v : X) (items : List (ChainItem (WithTicket X))) : Type 0 where
    pub before : List (ChainItem (WithTicket X))
    pub after : List (ChainItem (WithTicket X))
    pub is : items ≡ before ++ item p (under t v) ∷ after
    pub ahead : times p (places before) ≡ 0
    pub behind : times p (places after) ≡ 0
    pub none_ahead : value_of t before ≡ None
    pub none_behind : value_of t after ≡ None

  -- it is so among others, if no two have one place or one ticket
  abbrev pub stands_amid : (t p : ℕ) (v : X) (items before after : List (ChainItem (WithTicket X))) → DistinctTickets items
      → ((u : ℕ) → times u (tickets items) ≤ 1)
      → items ≡ before ++ item p (under t v) ∷ after → Occupied t p v items
  stands_amid t p v items before after apart single is =
      let at = alone before after p (under t v) (subst DistinctTickets is apart) in
      let most = single t in
      let here = ap (λ l. times t (tickets l)) is ∙ times_amid (λ y. y.element.label) t before after (item p (under t v)) in
      let own = once_same t in
      let both = times_both (λ y. y.element.label) t before after in
      record {
        before = before;
        after = after;
        is = is;
        ahead = at.0;
        behind = at.1;
        none_ahead = value_none t before (omega arith);
        none_behind = value_none t after (omega arith);
      }

  -- and where it is found
  pub occupied : (t p : ℕ) (v : X) (items : List (ChainItem (WithTicket X))) → DistinctTickets items
      → ((u : ℕ) → times u (tickets items) ≤ 1)
      → found items p ≡ Some (under t v) → Occupied t p v items
  occupied t p v items apart single is =
      let s = found_some items p (under t v) is in stands_amid t p v items s.before s.after apart single s.is

  -- what is found at a ticket's place
  pub held : (t p : ℕ) (items : List (ChainItem (WithTicket X))) → ((k : ℕ) → times k (places items) ≤ 1) → place_of t items ≡ Some p
      → (v : X) × found items p ≡ Some (under t v)
  held t p [] apart is = absurd (let no : ⊥ = cc in no)
  held t p (x ∷ xs) apart is = elim (cases_Bool (x.element.label == t)) [
    | inl e ↦ (
        let same : Some x.place ≡ Some p = sym (ap (λ b. if b then Some x.place else place_of t xs) e) ∙ is in
        let name : p ≡ x.place = cc in (
          x.element.value,
          ap (λ b. if b then Some x.element else found xs p) (eq-eqb p x.place name)
              ∙ ap (λ (u : ℕ). Some (record x.element { label = u })) (eqb-true x.element.label t e),
        )
        )
    | inr e ↦ (
        let r = held t p xs (λ k. let most = apart k in omega arith) (sym (ap (λ b. if b then Some x.place else place_of t xs) e) ∙ is) in
        let f = found_some xs p (under t r.0) r.1 in
        let names = ap (λ l. times p (places l)) f.is ∙ times_amid (λ y. y.place) p f.before f.after (item p (under t r.0)) in
        let here = once_same p in
        let most = apart p in
        (r.0, with_other (found xs) x.place (Some x.element) p (once_back x.place p (omega arith)) ∙ r.1)
        )
  ]

  -- a value is found there
  pub found_somewhere : (t p : ℕ) (items : List (ChainItem (WithTicket X))) → ((k : ℕ) → times k (places items) ≤ 1)
      → place_of t items ≡ Some p
      → None ≡ option_map (λ e. e.value) (found items p) → ⊥
  found_somewhere t p items apart is none =
      let r = held t p items apart is in
      let no : None ≡ Some r.0 = none ∙ ap (option_map (λ (e : WithTicket X). e.value)) r.1 in
      let never : ⊥ = cc in never

  -- its value is the one in the map
  pub stands_value : (t p : ℕ) (v : X) (items : List (ChainItem (WithTicket X))) → Occupied t p v items → get (by_ticket items) t ≡ Some v
  stands_value t p v items s =
      get_by_ticket items t ∙ ap (value_of t) s.is ∙ value_at t p v s.before s.after s.none_ahead

  -- without it the others are left
  pub stands_without : (t p : ℕ) (v : X) (items : List (ChainItem (WithTicket X))) (s : Occupied t p v items)
      → without_place items p ≡ s.before ++ s.after
  stands_without t p v items s =
      ap (λ l. without_place l p) s.is ∙ without_at s.before s.after p (under t v) s.ahead s.behind

  -- its value is replaced
  pub stands_written : (t p : ℕ) (v w : X) (items : List (ChainItem (WithTicket X))) (s : Occupied t p v items)
      → with_value_at p items w ≡ s.before ++ item p (under t w) ∷ s.after
  stands_written t p v w items s =
      ap (λ l. with_value_at p l w) s.is ∙ edited_at (with_new_value w) p s.before s.after (under t v) s.ahead s.behind

  -- then it is as before, with that value
  abbrev pub stands_again : (t p : ℕ) (v w : X) (items : List (ChainItem (WithTicket X))) → Occupied t p v items
      → Occupied t p w (with_value_at p items w)
  stands_again t p v w items s = record {
    before = s.before;
    after = s.after;
    is = stands_written t p v w items s;
    ahead = s.ahead;
    behind = s.behind;
    none_ahead = s.none_ahead;
    none_behind = s.none_behind;
  }
