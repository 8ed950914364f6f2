-- A parked receiver that asks again: it waits on in its place, or behind all others if it was
-- woken.
use Rattle.std.proofs.Common.{◌≡◌, ℕ, ◌+◌, ◌==◌, Bool, [], ◌∷◌, ◌++◌, Option, Some, None, option_map, OnSome}
use Rattle.std.proofs.Common.{IsSome, ◌↔◌, length, length-append, refl, sym, ap, ap₂, ◌∙◌, inl, inr, arith}
use Rattle.std.proofs.Common.{true, false, if◌then◌else◌}
use Rattle.std.proofs.lemmas.Bool.{cases_Bool}
use Rattle.std.specs.Option.{option_or}
use Rattle.flume_state.proofs.Chains.{times, places, found, without_place, first_place, place_after}
use Rattle.flume_state.proofs.Chains.{once_back, item, found_none, without_at, with_value_at, with_same}
use Rattle.flume_state.proofs.Chains.{with_new_value, length-changed_at, places-changed_at, found-changed_at}
use Rattle.flume_state.proofs.Chains.{changed_at-append, edited_missing}
use Rattle.flume_model.specs.Entries.{is_waiting, is_woken, waiting_count, again, again_as, entry_of, held_by, held_in, without_ticket}
use Rattle.flume_model.specs.declared.entry.Entry.{Entry}
use Rattle.flume_model.specs.declared.entry.Mark.{Mark}
use Rattle.flume_model.specs.declared.entry.Mark.TheVariants.{Waiting, Woken, Filled}
use Rattle.flume_state.specs.layout.EntryLayout.{Each, EntryLayout, after_asking, entries_in, entry_in, start_without}
use Rattle.flume_state.specs.Receivers.{EntryList, with_receiver_notice, waits_on}
use Rattle.flume_state.specs.declared.entries.ParkedReceiver.{ParkedReceiver}
use Rattle.flume_state.specs.declared.notice.Notice.{Notice}
use Rattle.flume_state.specs.layout.WithTicket.{WithTicket}
use Rattle.flume_state.proofs.EntryDueLemmas.{revalued_entries}
use Rattle.flume_state.proofs.EntryListLemmas.{count-append, weight}
use Rattle.flume_state.proofs.EntryPartLemmas.{edited_at, gone, without_written}
use Rattle.flume_state.proofs.EntrySeatLemmas.{Seated, entry_at, noticed_at, noticed_none_of, without_entry}
use Rattle.flume_state.proofs.EntrySortedLemmas.{Items, entries-append, sorted_push, sorted_without}

module _ {T S : Type 0} where
  -- one that waits is in no part if none does, but behind it
  waits_behind : (d : Bool) (xs ys : Items T S) (k : ℕ) (e : WithTicket (ParkedReceiver T S)) → Each false d xs
      → is_waiting e.value.mark ≡ true → found (xs ++ ys) k ≡ Some e → (times k (places xs) ≡ 0) × (found ys k ≡ Some e)
  waits_behind d [] ys k e all waits h = (refl, h)
  waits_behind d (x ∷ xs) ys k e all waits h = elim (cases_Bool (k == x.place)) [
    | inl t ↦ (
        let it : Some x.element ≡ Some e = sym (ap (λ b. if b then Some x.element else found (xs ++ ys) k) t) ∙ h in
        let same : x.element ≡ e = cc in
        let both : false ≡ true = sym all.0 ∙ ap (λ (o : WithTicket (ParkedReceiver T S)). is_waiting o.value.mark) same ∙ waits in
        absurd (let none : ⊥ = cc in none)
        )
    | inr t ↦ (
        let r = waits_behind d xs ys k e all.2 waits (sym (ap (λ b. if b then Some x.element else found (xs ++ ys) k) t) ∙ h) in
        let other = once_back k x.place (ap (λ b. if b then 1 else 0) t) in
        (omega (arith, other, r.0), r.1)
        )
  ]

  -- the part of those that wait, if one of them has a value with which it waits
  each-with_new_value : (xs : Items T S) (k : ℕ) (v : ParkedReceiver T S) → Each true false xs → is_waiting v.mark ≡ true
      → v.notice.due ≡ false
      → Each true false (with_value_at k xs v)
  each-with_new_value [] k v all waits not_due = all
  each-with_new_value (x ∷ xs) k v all waits not_due = elim (cases_Bool (k == x.place)) [
    | inl t ↦ rw t (waits, not_due, each-with_new_value xs k v all.2 waits not_due)
    | inr t ↦ rw t (all.0, all.1, each-with_new_value xs k v all.2 waits not_due)
  ]

  -- the first place is the same after an element has another value
  first-with_new_value : (xs ys : Items T S) (k : ℕ) (v : ParkedReceiver T S)
      → first_place (xs ++ ys) ≡ first_place (xs ++ with_value_at k ys v)
  first-with_new_value (x ∷ xs) ys k v = refl
  first-with_new_value [] [] k v = refl
  first-with_new_value [] (y ∷ ys) k v = elim (cases_Bool (k == y.place)) [
    | inl t ↦ rw t refl
    | inr t ↦ rw t refl
  ]

  -- one that waits has a value with which it waits on
  sorted_stays : (items : Items T S) (due waits : Option ℕ) (n t k : ℕ) (v : ParkedReceiver T S) → EntryLayout items due waits n
      → (q : Seated items t k) → is_waiting q.element.value.mark ≡ true → is_waiting v.mark ≡ true → v.notice.due ≡ false
      → EntryLayout (with_value_at k items v) due waits n
  sorted_stays items due waits n t k v s q did does not_due =
      let x = item k q.element in
      let y = item k (with_new_value v q.element) in
      let p = waits_behind false s.inactive (s.dues ++ s.last) k q.element s.are_inactive did (ap (λ l. found l k) (sym s.is) ∙ q.here) in
      let r = waits_behind true s.dues s.last k q.element s.are_due did p.1 in
      let one : weight (entry_in x) ≡ 1 = rw did refl in
      let still : weight (entry_in y) ≡ 1 = rw does refl in
      let before = ap waiting_count q.entries ∙ count-append (entries_in q.before) (entry_in x ∷ entries_in q.after) in
      let later = ap waiting_count (revalued_entries items q.before q.after k q.element v q.is q.clear q.behind)
      ∙ count-append (entries_in q.before) (entry_in y ∷ entries_in q.after) in
      record {
        inactive = s.inactive;
        dues = s.dues;
        last = with_value_at k s.last v;
        is = ap (λ l. with_value_at k l v) s.is ∙ changed_at-append (with_new_value v) s.inactive (s.dues ++ s.last) k
            ∙ ap₂ (λ a b. a ++ b) (edited_missing (with_new_value v) s.inactive k (found_none s.inactive k p.0))
            (changed_at-append (with_new_value v) s.dues s.last k
            ∙ ap (λ l. l ++ with_value_at k s.last v) (edited_missing (with_new_value v) s.dues k (found_none s.dues k r.0)));
        are_inactive = s.are_inactive;
        are_due = s.are_due;
        wait = each-with_new_value s.last k v s.wait does not_due;
        first_due = s.first_due ∙ first-with_new_value s.dues s.last k v;
        first_waits = s.first_waits ∙ first-with_new_value [] s.last k v;
        count = omega (arith, s.count, one, still, before, later);
        apart = λ j. let same = ap (times j) (places-changed_at (with_new_value v) items k) in let most = s.apart j in omega arith;
        fits = omega (arith, s.fits, length-changed_at (with_new_value v) items k);
      }

  -- the value that an element has changes nothing
  revalued_same : (items : Items T S) (t k : ℕ) (q : Seated items t k) → with_value_at k items q.element.value ≡ items
  revalued_same items t k q =
      ap (λ l. with_value_at k l q.element.value) q.is
      ∙ edited_at (with_new_value q.element.value) k q.before q.after q.element q.clear q.behind ∙ sym q.is

  -- one that wasn't woken asks again: the parts are as before
  pub asks_sorted : (items : Items T S) (due waits : Option ℕ) (n t k : ℕ) (signal : Option S) (m : Mark T) → EntryLayout items due waits n
      → (q : Seated items t k) → q.element.value.mark ≡ m → is_woken m ≡ false
      → EntryLayout (with_value_at k items (after_asking m signal q.element.value)) due waits n
  asks_sorted items due waits n t k signal Waiting s q is asleep =
      sorted_stays items due waits n t k (after_asking Waiting signal q.element.value) s q (ap is_waiting is) refl refl
  asks_sorted items due waits n t k signal Woken s q is asleep = absurd (let none : ⊥ = cc in none)
  asks_sorted items due waits n t k signal (Filled message) s q is asleep = rw (revalued_same items t k q) s

  -- what it holds
  holds : (items : Items T S) (t k : ℕ) (m : Mark T) (old : EntryList T S) (q : Seated items t k) → entries_in items ≡ old
      → q.element.value.mark ≡ m → held_by (entry_of t old) ≡ held_in m
  holds items t k m old q view is = ap (λ l. held_by (entry_of t l)) (sym view) ∙ ap held_by q.entry ∙ ap held_in is

  -- if nobody is parked under a ticket, nothing changes
  pub asks_none : (f : Notice S → Notice S) (t : ℕ) (old : EntryList T S) → entry_of t old ≡ None
      → old ≡ again t (with_receiver_notice f t old)
  asks_none f t old none = sym (ap (again t) (noticed_none_of f t old none) ∙ ap (λ o. again_as t o old) none)

  -- its entry, with this notice
  abbrev noticed : {items : Items T S} {t k : ℕ} → Option S → Seated items t k → Entry T (Notice S)
  noticed {items} {t} {k} signal q = let x = entry_in (item k q.element) in record x { notice = waits_on signal x.notice }

  -- what becomes of the entries if it asks again
  asks_at : (items : Items T S) (t k : ℕ) (signal : Option S) (old : EntryList T S) (q : Seated items t k) → entries_in items ≡ old
      → again t (with_receiver_notice (waits_on signal) t old)
      ≡ again_as t (Some (noticed signal q)) (entries_in q.before ++ noticed signal q ∷ entries_in q.after)
  asks_at items t k signal old q view =
      let x = entry_in (item k q.element) in
      let some = entry_at t (entries_in q.before) (entries_in q.after) (noticed signal q) q.ahead q.ticket in
      ap (λ l. again t (with_receiver_notice (waits_on signal) t l)) (sym view ∙ q.entries)
      ∙ ap (again t) (noticed_at (waits_on signal) t (entries_in q.before) (entries_in q.after) x q.ahead q.ticket)
      ∙ ap (λ o. again_as t o (entries_in q.before ++ noticed signal q ∷ entries_in q.after)) some

  -- one that waits has its notice changed in its place
  pub asks_entries : (items : Items T S) (t k : ℕ) (signal : Option S) (m : Mark T) (old : EntryList T S) (q : Seated items t k)
      → entries_in items ≡ old → q.element.value.mark ≡ m → is_woken m ≡ false → held_by (entry_of t old) ≡ None
      → entries_in (with_value_at k items (after_asking m signal q.element.value)) ≡ again t (with_receiver_notice (waits_on signal) t old)
  asks_entries items t k signal Waiting old q view is asleep none =
      let v = after_asking Waiting signal q.element.value in
      let y = entry_in (item k (with_new_value v q.element)) in
      let stays : again_as t (Some (noticed signal q)) (entries_in q.before ++ noticed signal q ∷ entries_in q.after)
      ≡ entries_in q.before ++ y ∷ entries_in q.after = rw is refl in
      revalued_entries items q.before q.after k q.element v q.is q.clear q.behind
      ∙ sym (asks_at items t k signal old q view ∙ stays)
  asks_entries items t k signal Woken old q view is asleep none = absurd (let none : ⊥ = cc in none)
  asks_entries items t k signal (Filled message) old q view is asleep none =
      let some : Some message ≡ None = sym (holds items t k (Filled message) old q view is) ∙ none in
      absurd (let none : ⊥ = cc in none)

  -- a filled one stays as it is
  pub asks_filled : (items : Items T S) (t k : ℕ) (signal : Option S) (m : Mark T) (old : EntryList T S) (q : Seated items t k)
      → entries_in items ≡ old → q.element.value.mark ≡ m
      → OnSome (held_by (entry_of t old)) (entries_in (with_value_at k items (after_asking m signal q.element.value)) ≡ old)
  asks_filled items t k signal Waiting old q view is = rw (holds items t k Waiting old q view is) tt
  asks_filled items t k signal Woken old q view is = rw (holds items t k Woken old q view is) tt
  asks_filled items t k signal (Filled message) old q view is =
      rw (holds items t k (Filled message) old q view is) (ap entries_in (revalued_same items t k q) ∙ view)

  -- a woken one holds nothing
  pub woken_empty : (items : Items T S) (t k : ℕ) (m : Mark T) (old : EntryList T S) (q : Seated items t k) → entries_in items ≡ old
      → q.element.value.mark ≡ m → is_woken m ≡ true → held_by (entry_of t old) ≡ None
  woken_empty items t k Waiting old q view is woken = absurd (let none : ⊥ = cc in none)
  woken_empty items t k Woken old q view is woken = holds items t k Woken old q view is
  woken_empty items t k (Filled message) old q view is woken = absurd (let none : ⊥ = cc in none)

  -- the elements, with this one behind all others
  abbrev pub behind_all : (items : Items T S) (k : ℕ) → WithTicket (ParkedReceiver T S) → Items T S
  behind_all items k e = without_place items k ++ item k e ∷ []

  -- one with another value in its place, and what moving it back leaves: it is behind all others
  pub moved : (items new : Items T S) (t k : ℕ) (v : ParkedReceiver T S) (done : Bool) (q : Seated items t k)
      → (done ≡ true ↔ IsSome (found (with_value_at k items v) k))
      → (done ≡ true → (e : WithTicket (ParkedReceiver T S)) → found (with_value_at k items v) k ≡ Some e
      → new ≡ behind_all (with_value_at k items v) k e)
      → new ≡ behind_all items k (with_new_value v q.element)
  moved items new t k v done q stood moves =
      let here : found (with_value_at k items v) k ≡ Some (with_new_value v q.element) =
      found-changed_at (with_new_value v) items k k ∙ with_same (found items) k _ ∙ ap (option_map (with_new_value v)) q.here in
      moves (stood.1 (rw here refl)) (with_new_value v q.element) here
      ∙ ap (λ l. l ++ item k (with_new_value v q.element) ∷ []) (without_written items k v)

  -- there are as many after one moved behind all others
  length-behind : (items : Items T S) (t k : ℕ) (e : WithTicket (ParkedReceiver T S)) (q : Seated items t k)
      → length (behind_all items k e) ≡ length items
  length-behind items t k e q =
      let x = item k q.element in
      let left = ap (λ l. length (without_place l k)) q.is ∙ ap length (without_at q.before q.after k q.element q.clear q.behind) in
      let all = ap length q.is ∙ length-append q.before (x ∷ q.after) in
      omega (arith, left, all, length-append q.before q.after, length-append (without_place items k) (item k e ∷ []))

  -- a woken one waits behind all others
  pub again_sorted : (items : Items T S) (due waits next : Option ℕ) (n t k : ℕ) (signal : Option S) (m : Mark T)
      → EntryLayout items due waits n → (q : Seated items t k) → q.element.value.mark ≡ m → is_woken m ≡ true → next ≡ place_after items k
      → EntryLayout (behind_all items k (with_new_value (after_asking m signal q.element.value) q.element))
      (option_or (start_without due k next) (Some k)) (option_or (start_without waits k next) (Some k)) (n + 1)
  again_sorted items due waits next n t k signal Waiting s q is woken after = absurd (let none : ⊥ = cc in none)
  again_sorted items due waits next n t k signal (Filled message) s q is woken after = absurd (let none : ⊥ = cc in none)
  again_sorted items due waits next n t k signal Woken s q is woken after =
      let e = with_new_value (after_asking Woken signal q.element.value) q.element in
      let left = sorted_without items due waits next n n k q.element s q.here after (rw is (omega arith)) in
      sorted_push (without_place items k) (start_without due k next) (start_without waits k next) n k e left
      (found_none (without_place items k) k (gone k items))
      (refl, refl) (omega (arith, s.fits, length-behind items t k e q))

  -- and so it does among the entries
  pub again_entries : (items : Items T S) (t k : ℕ) (signal : Option S) (m : Mark T) (old : EntryList T S) (q : Seated items t k)
      → entries_in items ≡ old → q.element.value.mark ≡ m → is_woken m ≡ true
      → entries_in (behind_all items k (with_new_value (after_asking m signal q.element.value) q.element))
      ≡ again t (with_receiver_notice (waits_on signal) t old)
  again_entries items t k signal Waiting old q view is woken = absurd (let none : ⊥ = cc in none)
  again_entries items t k signal (Filled message) old q view is woken = absurd (let none : ⊥ = cc in none)
  again_entries items t k signal Woken old q view is woken =
      let x = noticed signal q in
      let y = entry_in (item k (with_new_value (after_asking Woken signal q.element.value) q.element)) in
      let all = entries_in q.before ++ x ∷ entries_in q.after in
      let left : entries_in (without_place items k) ≡ entries_in q.before ++ entries_in q.after =
      ap (λ l. entries_in (without_place l k)) q.is ∙ ap entries_in (without_at q.before q.after k q.element q.clear q.behind)
      ∙ entries-append q.before q.after in
      entries-append (without_place items k) (item k (with_new_value (after_asking Woken signal q.element.value) q.element) ∷ [])
      ∙ ap (λ l. l ++ y ∷ []) (left ∙ sym (without_entry t (entries_in q.before) (entries_in q.after) x q.ahead q.ticket))
      ∙ sym (asks_at items t k signal old q view ∙ ap (λ b. if b then without_ticket t all ++ y ∷ [] else all) (ap is_woken is))
