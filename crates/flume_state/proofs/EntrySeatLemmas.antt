-- The parked receiver that a ticket finds, in the chain and among the entries.
use Rattle.std.proofs.Common.{◌≡◌, ℕ, ◌==◌, List, [], ◌∷◌, ◌++◌, Some, None, refl, sym, ap, ◌∙◌, inl, inr, if◌then◌else◌, eq-eqb, subst}
use Rattle.std.proofs.lemmas.Bool.{cases_Bool, eqb-true}
use Rattle.flume_state.proofs.Chains.{times, places, found, without_place, item, without_at}
use Rattle.flume_model.specs.Entries.{entry_of, without_ticket}
use Rattle.flume_model.specs.declared.entry.Entry.{Entry}
use Rattle.flume_model.proofs.EntryListLemmas.{none_parts}
use Rattle.flume_state.specs.layout.EntryLayout.{entries_in, entry_in}
use Rattle.flume_state.specs.layout.WithTicket.{place_of, WithTicket}
use Rattle.flume_state.specs.Receivers.{EntryList, with_receiver_notice}
use Rattle.flume_state.specs.declared.entries.ParkedReceiver.{ParkedReceiver}
use Rattle.flume_state.specs.declared.notice.Notice.{Notice}
use Rattle.flume_state.proofs.EntryPartLemmas.{DistinctTickets, alone, seat_found}
use Rattle.flume_state.proofs.TicketLemmas.{neither}
use Rattle.flume_state.proofs.EntrySortedLemmas.{Items, entries-append}

module _ {T N : Type 0} where
  -- the first entry with a ticket is the ticket's
  pub entry_at : (t : ℕ) (xs ys : List (Entry T N)) (e : Entry T N) → entry_of t xs ≡ None → e.ticket ≡ t
      → entry_of t (xs ++ e ∷ ys) ≡ Some e
  entry_at t [] ys e none is = rw (eq-eqb e.ticket t is) refl
  entry_at t (x ∷ xs) ys e none is =
      let p = none_parts t x xs none in rw p.0 (entry_at t xs ys e p.1 is)

  -- and the others are left if it leaves
  pub without_entry : (t : ℕ) (xs ys : List (Entry T N)) (e : Entry T N) → entry_of t xs ≡ None → e.ticket ≡ t
      → without_ticket t (xs ++ e ∷ ys) ≡ xs ++ ys
  without_entry t [] ys e none is = rw (eq-eqb e.ticket t is) refl
  without_entry t (x ∷ xs) ys e none is =
      let p = none_parts t x xs none in rw p.0 (ap (λ l. x ∷ l) (without_entry t xs ys e p.1 is))

  -- if nobody has the ticket, all are left
  pub without_none_of : (t : ℕ) (xs : List (Entry T N)) → entry_of t xs ≡ None → without_ticket t xs ≡ xs
  without_none_of t [] none = refl
  without_none_of t (x ∷ xs) none =
      let p = none_parts t x xs none in rw p.0 (ap (λ l. x ∷ l) (without_none_of t xs p.1))

module _ {T S : Type 0} where
  -- the notice of the first entry with a ticket is changed
  pub noticed_at : (f : Notice S → Notice S) (t : ℕ) (xs ys : EntryList T S) (e : Entry T (Notice S)) → entry_of t xs ≡ None
      → e.ticket ≡ t → with_receiver_notice f t (xs ++ e ∷ ys) ≡ xs ++ record e { notice = f e.notice } ∷ ys
  noticed_at f t [] ys e none is = rw (eq-eqb e.ticket t is) refl
  noticed_at f t (x ∷ xs) ys e none is =
      let p = none_parts t x xs none in rw p.0 (ap (λ l. x ∷ l) (noticed_at f t xs ys e p.1 is))

  -- if nobody has the ticket, no notice is changed
  pub noticed_none_of : (f : Notice S → Notice S) (t : ℕ) (xs : EntryList T S) → entry_of t xs ≡ None → with_receiver_notice f t xs ≡ xs
  noticed_none_of f t [] none = refl
  noticed_none_of f t (x ∷ xs) none =
      let p = none_parts t x xs none in rw p.0 (ap (λ l. x ∷ l) (noticed_none_of f t xs p.1))

  -- if a ticket finds no place, nobody is parked under it
  pub nobody : (t : ℕ) (items : Items T S) → place_of t items ≡ None → entry_of t (entries_in items) ≡ None
  nobody t [] none = refl
  nobody t (x ∷ items) none =
      let both = neither (x.element.label == t) x.place (place_of t items) none in rw both.0 (nobody t items both.1)

  -- the first element with a ticket
  record FirstWith (items : Items T S) (t k : ℕ) : Type 0 where
    pub before : Items T S
    pub element : WithTicket (ParkedReceiver T S)
    pub after : Items T S
    pub is : items ≡ before ++ item k element ∷ after
    pub ticket : element.label ≡ t
    pub ahead : entry_of t (entries_in before) ≡ None

  first_with : (items : Items T S) (t k : ℕ) → place_of t items ≡ Some k → FirstWith items t k
  first_with [] t k h = absurd (let none : ⊥ = cc in none)
  first_with (x ∷ items) t k h = elim (cases_Bool (x.element.label == t)) [
    | inl m ↦ (
        let it : Some x.place ≡ Some k = sym (ap (λ b. if b then Some x.place else place_of t items) m) ∙ h in
        let same : x.place ≡ k = cc in
        record {
          before = [];
          element = x.element;
          after = items;
          is = ap (λ (p : ℕ). item p x.element ∷ items) same;
          ticket = eqb-true x.element.label t m;
          ahead = refl;
        }
        )
    | inr m ↦ (
        let r = first_with items t k (sym (ap (λ b. if b then Some x.place else place_of t items) m) ∙ h) in
        record {
          before = x ∷ r.before;
          element = r.element;
          after = r.after;
          is = ap (λ l. x ∷ l) r.is;
          ticket = r.ticket;
          ahead = ap (λ b. if b then Some (entry_in x) else entry_of t (entries_in r.before)) m ∙ r.ahead;
        }
        )
  ]

  -- the element with a ticket, at its place alone, and its entry
  pub record Seated (items : Items T S) (t k : ℕ) : Type 0 where
    pub before : Items T S
    pub element : WithTicket (ParkedReceiver T S)
    pub after : Items T S
    pub is : items ≡ before ++ item k element ∷ after
    pub ticket : element.label ≡ t
    pub ahead : entry_of t (entries_in before) ≡ None
    pub clear : times k (places before) ≡ 0
    pub behind : times k (places after) ≡ 0
    pub here : found items k ≡ Some element
    pub entries : entries_in items ≡ entries_in before ++ entry_in (item k element) ∷ entries_in after
    pub entry : entry_of t (entries_in items) ≡ Some (entry_in (item k element))

  -- what is at the place that a ticket finds
  pub seated : (items : Items T S) (t k : ℕ) → DistinctTickets items → place_of t items ≡ Some k → Seated items t k
  seated items t k apart h =
      let o = first_with items t k h in
      let a = alone o.before o.after k o.element (subst DistinctTickets o.is apart) in
      let all = ap entries_in o.is ∙ entries-append o.before (item k o.element ∷ o.after) in
      record {
        before = o.before;
        element = o.element;
        after = o.after;
        is = o.is;
        ticket = o.ticket;
        ahead = o.ahead;
        clear = a.0;
        behind = a.1;
        here = ap (λ l. found l k) o.is ∙ seat_found o.before o.after k o.element a.0;
        entries = all;
        entry = ap (entry_of t) all
            ∙ entry_at t (entries_in o.before) (entries_in o.after) (entry_in (item k o.element)) o.ahead o.ticket;
      }

  -- the entries without it
  pub seat_without : (items : Items T S) (t k : ℕ) → Seated items t k
      → entries_in (without_place items k) ≡ without_ticket t (entries_in items)
  seat_without items t k s =
      ap (λ l. entries_in (without_place l k)) s.is ∙ ap entries_in (without_at s.before s.after k s.element s.clear s.behind)
      ∙ entries-append s.before s.after
      ∙ sym (ap (without_ticket t) s.entries
      ∙ without_entry t (entries_in s.before) (entries_in s.after) (entry_in (item k s.element)) s.ahead s.ticket)
