-- The first that is due, and what becomes of it once it is named.
use Rattle.std.proofs.Common.{◌≡◌, ◌≢◌, ℕ, Bool, [], ◌∷◌, ◌++◌, Option, Some, None, refl, sym, ap, ◌∙◌, arith}
use Rattle.std.proofs.Common.{true, false, not, nat_eq, inl, inr, eq-eqb, subst, append_assoc}
use Rattle.std.proofs.lemmas.Bool.{cases_Bool, eqb-true}
use Rattle.std.specs.Option.{option_eq}
use Rattle.std.proofs.lemmas.List.Elements.{All-append, All-cons, All-nil}
use Rattle.flume_state.proofs.Chains.{times, places, found, first_place, place_after, once_same, item}
use Rattle.flume_state.proofs.Chains.{after_at, with_value_at, with_new_value, length-changed_at}
use Rattle.flume_state.proofs.Chains.{places-changed_at}
use Rattle.flume_model.specs.Entries.{waiting_count}
use Rattle.flume_model.specs.declared.entry.Entry.{Entry}
use Rattle.flume_state.specs.Notices.{no_longer_due}
use Rattle.flume_state.specs.layout.EntryLayout.{Each, EntryLayout, entries_in, entry_in}
use Rattle.flume_state.specs.Receivers.{EntryList, NoDueReceiver, NamesReceiver}
use Rattle.flume_state.specs.declared.entries.ParkedReceiver.{ParkedReceiver}
use Rattle.flume_state.specs.declared.notice.Notice.{Notice}
use Rattle.flume_state.specs.layout.WithTicket.{WithTicket}
use Rattle.flume_state.proofs.EntryPartLemmas.{DistinctTickets, Front, alone, counted, edited_at, front_at, seat_found}
use Rattle.flume_state.proofs.EntrySortedLemmas.{Is, Items, each-push, entries-append, waits-append}
use Rattle.flume_state.proofs.EntryDueLemmas.{revalued_entries}

-- two boundaries that aren't said to be two are one
pub same_start : (a b : Option ℕ) → not (option_eq nat_eq a b) ≡ false → a ≡ b
same_start None None h = refl
same_start None (Some k) h = absurd (let no : ⊥ = cc in no)
same_start (Some j) None h = absurd (let no : ⊥ = cc in no)
same_start (Some j) (Some k) h = elim (cases_Bool (nat_eq j k)) [
  | inl t ↦ ap Some (eqb-true j k t)
  | inr t ↦ absurd (let no : true ≡ false = ap not (sym t) ∙ h in let none : ⊥ = cc in none)
]

-- two boundaries that aren't said to be one are two
pub two_boundaries : (a b : Option ℕ) → option_eq nat_eq a b ≡ false → a ≢ b
two_boundaries None b h same = absurd (let no : true ≡ false = ap (option_eq nat_eq None) same ∙ h in let none : ⊥ = cc in none)
two_boundaries (Some j) b h same =
    let no : nat_eq j j ≡ false = ap (option_eq nat_eq (Some j)) same ∙ h in
    let yes : nat_eq j j ≡ true = eq-eqb j j refl in
    absurd (let none : ⊥ = cc in none)

module _ {T S : Type 0} where
  -- in a part of which none is due no receiver is due
  no_due : (w : Bool) (xs : Items T S) → Each w false xs → NoDueReceiver (entries_in xs)
  no_due w [] all = All-nil (λ (e : Entry T (Notice S)). e.notice.due ≡ false)
  no_due w (x ∷ xs) all =
      All-cons (λ (e : Entry T (Notice S)). e.notice.due ≡ false) (entry_in x) (entries_in xs) all.1 (no_due w xs all.2)

  -- two boundaries at one place have nothing between them
  nothing_between : (inactive dues last : Items T S) → DistinctTickets (inactive ++ (dues ++ last))
      → first_place (dues ++ last) ≡ first_place last
      → dues ≡ []
  nothing_between inactive [] last apart same = refl
  nothing_between inactive (x ∷ xs) last apart same =
      let f = front_at last x.place same in
      let here = ap (λ l. times x.place (places l)) f.is in
      let one = once_same x.place in
      let outer = counted x.place inactive (x ∷ (xs ++ last)) in
      let inner = counted x.place xs last in
      let most = apart x.place in
      absurd (omega arith)

  -- if both boundaries are at one place no receiver is due
  pub none_due : (items : Items T S) (due waits : Option ℕ) (n : ℕ) → EntryLayout items due waits n → due ≡ waits
      → NoDueReceiver (entries_in items)
  none_due items due waits n s same =
      let none = nothing_between s.inactive s.dues s.last (subst DistinctTickets s.is s.apart) (sym s.first_due ∙ same ∙ s.first_waits) in
      let two : entries_in items ≡ entries_in s.inactive ++ entries_in s.last =
      ap entries_in s.is ∙ ap (λ l. entries_in (s.inactive ++ (l ++ s.last))) none ∙ entries-append s.inactive s.last in
      subst NoDueReceiver (sym two)
      (All-append (λ (e : Entry T (Notice S)). e.notice.due ≡ false) (entries_in s.inactive) (entries_in s.last)
      (no_due false s.inactive s.are_inactive) (no_due true s.last s.wait))

  -- the first that is due, at its place alone
  pub record Dues (items : Items T S) (due waits : Option ℕ) (n : ℕ) (k : ℕ) (s : EntryLayout items due waits n) : Type 0 where
    pub element : WithTicket (ParkedReceiver T S)
    pub others : Items T S
    pub dues : s.dues ≡ item k element ∷ others
    pub is : items ≡ s.inactive ++ item k element ∷ (others ++ s.last)
    pub clear : times k (places s.inactive) ≡ 0
    pub behind : times k (places (others ++ s.last)) ≡ 0
    pub here : found items k ≡ Some element
    pub class : Is false true element
    pub due_too : Each false true others

  -- if the boundaries are two the first one names it
  front_due : (dues last : Items T S) (k : ℕ) → first_place (dues ++ last) ≢ first_place last → Some k ≡ first_place (dues ++ last)
      → Front dues k
  front_due [] last k other h = absurd (other refl)
  front_due (x ∷ xs) last k other h = front_at (x ∷ xs) k h

  pub dues_at : (items : Items T S) (due waits : Option ℕ) (n : ℕ) (k : ℕ) (s : EntryLayout items due waits n) → due ≢ waits → due ≡ Some k
      → Dues items due waits n k s
  dues_at items due waits n k s other h =
      let f = front_due s.dues s.last k (λ same. other (s.first_due ∙ same ∙ sym s.first_waits)) (sym h ∙ s.first_due) in
      let is : items ≡ s.inactive ++ item k f.element ∷ (f.rest ++ s.last) = s.is ∙ ap (λ l. s.inactive ++ (l ++ s.last)) f.is in
      let a = alone s.inactive (f.rest ++ s.last) k f.element (subst DistinctTickets is s.apart) in
      let all : Each false true (item k f.element ∷ f.rest) = subst (Each false true) f.is s.are_due in
      record {
        element = f.element;
        others = f.rest;
        dues = f.is;
        is = is;
        clear = a.0;
        behind = a.1;
        here = ap (λ l. found l k) is ∙ seat_found s.inactive (f.rest ++ s.last) k f.element a.0;
        class = (all.0, all.1);
        due_too = all.2;
      }

  -- the value of one that was named
  abbrev pub told_value : ParkedReceiver T S → ParkedReceiver T S
  told_value p = record p { notice = no_longer_due p.notice }

  -- the first that was due is due no more, and the start is behind it
  pub sorted_told : (items : Items T S) (due waits : Option ℕ) (n : ℕ) (k : ℕ) (s : EntryLayout items due waits n)
      (d : Dues items due waits n k s)
      → EntryLayout (with_value_at k items (told_value d.element.value)) (place_after items k) waits n
  sorted_told items due waits n k s d =
      let v = told_value d.element.value in
      let x = item k d.element in
      let y = item k (with_new_value v d.element) in
      let now : with_value_at k items v ≡ s.inactive ++ y ∷ (d.others ++ s.last) =
      ap (λ l. with_value_at k l v) d.is ∙ edited_at (with_new_value v) k s.inactive (d.others ++ s.last) d.element d.clear d.behind in
      let before = ap (λ l. waiting_count (entries_in l)) d.is ∙ waits-append s.inactive (x ∷ (d.others ++ s.last)) in
      let later = ap (λ l. waiting_count (entries_in l)) now ∙ waits-append s.inactive (y ∷ (d.others ++ s.last)) in
      record {
        inactive = s.inactive ++ y ∷ [];
        dues = d.others;
        last = s.last;
        is = now ∙ sym (append_assoc s.inactive (y ∷ []) (d.others ++ s.last));
        are_inactive = each-push false false s.inactive k (with_new_value v d.element) s.are_inactive (d.class.0, refl);
        are_due = d.due_too;
        wait = s.wait;
        first_due = ap (λ l. place_after l k) d.is ∙ after_at s.inactive (d.others ++ s.last) k d.element d.clear;
        first_waits = s.first_waits;
        count = omega (arith, s.count, before, later);
        apart = λ j. let same = ap (times j) (places-changed_at (with_new_value v) items k) in let most = s.apart j in omega arith;
        fits = omega (arith, s.fits, length-changed_at (with_new_value v) items k);
      }

  -- and it was named
  pub tells : (items : Items T S) (due waits : Option ℕ) (n : ℕ) (k : ℕ) (es : EntryList T S) (s : EntryLayout items due waits n)
      (d : Dues items due waits n k s) → entries_in items ≡ es
      → NamesReceiver es (entries_in (with_value_at k items (told_value d.element.value))) d.element.label
  tells items due waits n k es s d view = record {
    before = entries_in s.inactive;
    entry = entry_in (item k d.element);
    later = entries_in (d.others ++ s.last);
    found = sym view ∙ ap entries_in d.is ∙ entries-append s.inactive (item k d.element ∷ (d.others ++ s.last));
    is_it = refl;
    was_due = d.class.1;
    named = revalued_entries items s.inactive (d.others ++ s.last) k d.element (told_value d.element.value) d.is d.clear d.behind;
  }
