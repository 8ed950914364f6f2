-- The three parts of the parked receivers' chain, and their boundaries, under each step.
use Rattle.std.proofs.Common.{◌≡◌, ℕ, suc, ◌+◌, ◌≤◌, ◌==◌, Bool, List, [], ◌∷◌, ◌++◌, Option, Some, None}
use Rattle.std.proofs.Common.{length, refl, sym, ap, ap₂, ◌∙◌, inl, inr, arith, true, false, cond}
use Rattle.std.proofs.Common.{append_assoc, subst}
use Rattle.std.proofs.lemmas.Bool.{cases_Bool}
use Rattle.std.specs.Option.{option_or}
use Rattle.flume_state.proofs.Chains.{times, ChainItem, places, found, without_place, first_place}
use Rattle.flume_state.proofs.Chains.{place_after, once_more, item, without_at, none_placed}
use Rattle.flume_state.proofs.Chains.{without_place-append}
use Rattle.flume_model.specs.Entries.{is_waiting, waiting_count}
use Rattle.flume_state.specs.layout.EntryLayout.{Each, EntryLayout, entries_in, entry_in, start_without}
use Rattle.flume_state.specs.declared.entries.ParkedReceiver.{ParkedReceiver}
use Rattle.flume_state.specs.layout.WithTicket.{WithTicket}
use Rattle.flume_state.proofs.EntryListLemmas.{count-append, count-le, weight}
use Rattle.flume_state.proofs.EntryPartLemmas.{DistinctTickets, counted, first-push, length-without_place, off_first}
use Rattle.flume_state.proofs.EntryPartLemmas.{seat, times-without_place}

-- the elements of the chain
abbrev pub Items : Type 0 → Type 0 → Type 0
Items T S = List (ChainItem (WithTicket (ParkedReceiver T S)))

module _ {T S : Type 0} where
  -- an element is of the part if these say whether it waits, and whether it is due
  abbrev pub Is : Bool → Bool → WithTicket (ParkedReceiver T S) → Type 0
  Is waits due e = (is_waiting e.value.mark ≡ waits) × (e.value.notice.due ≡ due)

  -- the entries of two lists joined
  pub entries-append : (xs ys : Items T S) → entries_in (xs ++ ys) ≡ entries_in xs ++ entries_in ys
  entries-append [] ys = refl
  entries-append (x ∷ xs) ys = ap (λ l. entry_in x ∷ l) (entries-append xs ys)

  -- as many wait in two lists joined as in the one and in the other
  pub waits-append : (xs ys : Items T S) → waiting_count (entries_in (xs ++ ys)) ≡ waiting_count (entries_in xs) + waiting_count
      (entries_in ys)
  waits-append xs ys = ap waiting_count (entries-append xs ys) ∙ count-append (entries_in xs) (entries_in ys)

  -- a part with one more behind it
  pub each-push : (w d : Bool) (xs : Items T S) (k : ℕ) (e : WithTicket (ParkedReceiver T S)) → Each w d xs → Is w d e
      → Each w d (xs ++ item k e ∷ [])
  each-push w d [] k e h is = (is.0, is.1, h)
  each-push w d (x ∷ xs) k e h is = (h.0, h.1, each-push w d xs k e h.2 is)

  -- a part without a place
  each-without_place : (w d : Bool) (xs : Items T S) (k : ℕ) → Each w d xs → Each w d (without_place xs k)
  each-without_place w d [] k h = h
  each-without_place w d (x ∷ xs) k h = elim (cases_Bool (x.place == k)) [
    | inl t ↦ rw t (each-without_place w d xs k h.2)
    | inr t ↦ rw t (h.0, h.1, each-without_place w d xs k h.2)
  ]

  -- one more that waits and isn't due is behind all others
  pub sorted_push : (items : Items T S) (due waits : Option ℕ) (n : ℕ) (k : ℕ) (e : WithTicket (ParkedReceiver T S))
      → EntryLayout items due waits n
      → found items k ≡ None → Is true false e → length (items ++ item k e ∷ []) ≤ 4294967295
      → EntryLayout (items ++ item k e ∷ []) (option_or due (Some k)) (option_or waits (Some k)) (n + 1)
  sorted_push items due waits n k e s fresh is fits =
      let x = item k e in
      let joined : (s.dues ++ s.last) ++ x ∷ [] ≡ s.dues ++ (s.last ++ x ∷ []) = append_assoc s.dues s.last (x ∷ []) in
      let one : weight (entry_in x) ≡ 1 = rw is.0 refl in
      record {
        inactive = s.inactive;
        dues = s.dues;
        last = s.last ++ x ∷ [];
        is = ap (λ l. l ++ x ∷ []) s.is ∙ append_assoc s.inactive (s.dues ++ s.last) (x ∷ []) ∙ ap (λ l. s.inactive ++ l) joined;
        are_inactive = s.are_inactive;
        are_due = s.are_due;
        wait = each-push true false s.last k e s.wait is;
        first_due = ap (λ o. option_or o (Some k)) s.first_due ∙ sym (first-push (s.dues ++ s.last) x) ∙ ap first_place joined;
        first_waits = ap (λ o. option_or o (Some k)) s.first_waits ∙ sym (first-push s.last x);
        count = omega (arith, s.count, one, waits-append items (x ∷ []));
        apart = λ j.
            let sum = counted j items (x ∷ []) in
            let most = once_more (λ i. times i (places items)) k j (none_placed items k fresh) (s.apart j) in omega arith;
        fits = fits;
      }

  -- those that wait, but for the one at a place
  waits-without_place : (items : Items T S) (k : ℕ) (e : WithTicket (ParkedReceiver T S)) → DistinctTickets items → found items k ≡ Some e
      → waiting_count (entries_in (without_place items k)) + weight (entry_in (item k e)) ≡ waiting_count (entries_in items)
  waits-without_place items k e apart h =
      let at = seat items k e apart h in
      let left : without_place items k ≡ at.before ++ at.after =
      ap (λ l. without_place l k) at.is ∙ without_at at.before at.after k e at.ahead at.behind in
      let with_it = ap (λ l. waiting_count (entries_in l)) at.is ∙ waits-append at.before (item k e ∷ at.after) in
      let without_it = ap (λ l. waiting_count (entries_in l)) left ∙ waits-append at.before at.after in
      omega arith

  -- the others, if the one at a place leaves
  pub sorted_without : (items : Items T S) (due waits next : Option ℕ) (n m : ℕ) (k : ℕ) (e : WithTicket (ParkedReceiver T S))
      → EntryLayout items due waits n
      → found items k ≡ Some e → next ≡ place_after items k → m + cond (is_waiting e.value.mark) 1 0 ≡ n
      → EntryLayout (without_place items k) (start_without due k next) (start_without waits k next) m
  sorted_without items due waits next n m k e s here after less =
      let inner = without_place-append s.dues s.last k in
      let last_is : items ≡ (s.inactive ++ s.dues) ++ s.last = s.is ∙ sym (append_assoc s.inactive s.dues s.last) in
      let next_due : next ≡ place_after (s.inactive ++ (s.dues ++ s.last)) k = after ∙ ap (λ l. place_after l k) s.is in
      let next_waits : next ≡ place_after ((s.inactive ++ s.dues) ++ s.last) k = after ∙ ap (λ l. place_after l k) last_is in
      record {
        inactive = without_place s.inactive k;
        dues = without_place s.dues k;
        last = without_place s.last k;
        is = ap (λ l. without_place l k) s.is ∙ without_place-append s.inactive (s.dues ++ s.last) k
            ∙ ap (λ l. without_place s.inactive k ++ l) inner;
        are_inactive = each-without_place false false s.inactive k s.are_inactive;
        are_due = each-without_place false true s.dues k s.are_due;
        wait = each-without_place true false s.last k s.wait;
        first_due = ap₂ (λ o x. start_without o k x) s.first_due next_due
            ∙ sym (off_first s.inactive (s.dues ++ s.last) k (subst DistinctTickets s.is s.apart)) ∙ ap first_place inner;
        first_waits = ap₂ (λ o x. start_without o k x) s.first_waits next_waits
            ∙ sym (off_first (s.inactive ++ s.dues) s.last k (subst DistinctTickets last_is s.apart));
        count = omega (arith, s.count, less, waits-without_place items k e s.apart here);
        apart = λ j. let no_more = times-without_place j k items in let most = s.apart j in omega arith;
        fits = omega (arith, s.fits, length-without_place k items);
      }

  -- there are as many entries as elements
  length-entries : (items : Items T S) → length (entries_in items) ≡ length items
  length-entries [] = refl
  length-entries (x ∷ items) = ap suc (length-entries items)

  -- fewer wait than a number of 64 bits can count
  pub waits_few : (items : Items T S) (due waits : Option ℕ) (n : ℕ) → EntryLayout items due waits n → n ≤ 4294967295
  waits_few items due waits n s = omega (arith, s.count, s.fits, count-le (entries_in items), length-entries items)

  -- some wait if one that is found does
  pub one_waits : (items : Items T S) (due waits : Option ℕ) (n : ℕ) (k : ℕ) (e : WithTicket (ParkedReceiver T S))
      → EntryLayout items due waits n
      → found items k ≡ Some e → is_waiting e.value.mark ≡ true → 1 ≤ n
  one_waits items due waits n k e s here waits_too =
      let one : weight (entry_in (item k e)) ≡ 1 = rw waits_too refl in
      omega (arith, s.count, one, waits-without_place items k e s.apart here)

  -- nobody is parked
  pub sorted_empty : (items : Items T S) → items ≡ [] → EntryLayout items None None 0
  sorted_empty items none = record {
    inactive = [];
    dues = [];
    last = [];
    is = none;
    are_inactive = tt;
    are_due = tt;
    wait = tt;
    first_due = refl;
    first_waits = refl;
    count = rw none refl;
    apart = λ j. rw none (omega arith);
    fits = rw none (omega arith);
  }
