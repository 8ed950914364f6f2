-- The first that waits and the first that is due, and what becomes of them.
use Rattle.std.proofs.Common.{◌≡◌, ℕ, ◌-◌, ◌≤◌, Bool, [], ◌∷◌, ◌++◌, Option, Some, None, refl, sym, ap, ◌∙◌}
use Rattle.std.proofs.Common.{arith, true, false, subst, append_assoc}
use Rattle.flume_state.proofs.Chains.{times, places, found, first_place, place_after, item, after_at}
use Rattle.flume_state.proofs.Chains.{with_value_at, with_new_value, length-changed_at, places-changed_at}
use Rattle.flume_model.specs.Entries.{is_waiting, waiting_count}
use Rattle.flume_model.specs.declared.entry.Mark.{Mark}
use Rattle.flume_state.specs.Notices.{due_now}
use Rattle.flume_state.specs.layout.EntryLayout.{Each, EntryLayout, entries_in, entry_in, with_first_marked, first_waiting}
use Rattle.flume_state.specs.Receivers.{EntryList}
use Rattle.flume_state.specs.declared.entries.ParkedReceiver.{ParkedReceiver}
use Rattle.flume_state.specs.declared.notice.Notice.{Notice}
use Rattle.flume_state.specs.layout.WithTicket.{WithTicket}
use Rattle.flume_state.proofs.EntryListLemmas.{weight}
use Rattle.flume_state.proofs.EntryPartLemmas.{DistinctTickets, alone, edited_at, first_same, front_at, seat_found, no_first}
use Rattle.flume_state.proofs.EntrySortedLemmas.{Is, Items, each-push, entries-append, waits-append}

module _ {T S : Type 0} where
  -- the entries if the element at a place has another value
  pub revalued_entries : (items before after : Items T S) (k : ℕ) (e : WithTicket (ParkedReceiver T S)) (v : ParkedReceiver T S)
      → items ≡ before ++ item k e ∷ after → times k (places before) ≡ 0 → times k (places after) ≡ 0
      → entries_in (with_value_at k items v) ≡ entries_in before ++ entry_in (item k (with_new_value v e)) ∷ entries_in after
  revalued_entries items before after k e v is clear behind =
      ap (λ l. entries_in (with_value_at k l v)) is ∙ ap entries_in (edited_at (with_new_value v) k before after e clear behind)
      ∙ entries-append before (item k (with_new_value v e) ∷ after)

  -- if the first ones don't wait, another is the first that waits
  waiting_skip : (d : Bool) (xs : Items T S) (es : EntryList T S) → Each false d xs
      → first_waiting (entries_in xs ++ es) ≡ first_waiting es
  waiting_skip d [] es all = refl
  waiting_skip d (x ∷ xs) es all = rw all.0 (waiting_skip d xs es all.2)

  -- and that is marked
  marked_skip : (d : Bool) (tell : Notice S → Notice S) (m : Mark T) (xs : Items T S) (es : EntryList T S) → Each false d xs
      → with_first_marked tell m (entries_in xs ++ es) ≡ entries_in xs ++ with_first_marked tell m es
  marked_skip d tell m [] es all = refl
  marked_skip d tell m (x ∷ xs) es all = rw all.0 (ap (λ l. entry_in x ∷ l) (marked_skip d tell m xs es all.2))

  -- the entries of the three parts
  three : (items : Items T S) (due waits : Option ℕ) (n : ℕ) (s : EntryLayout items due waits n)
      → entries_in items ≡ entries_in s.inactive ++ (entries_in s.dues ++ entries_in s.last)
  three items due waits n s = ap entries_in s.is ∙ entries-append s.inactive (s.dues ++ s.last)
      ∙ ap (λ l. entries_in s.inactive ++ l) (entries-append s.dues s.last)

  -- whoever waits first is the first of the last part
  pub first_of_last : (items : Items T S) (due waits : Option ℕ) (n : ℕ) (s : EntryLayout items due waits n)
      → first_waiting (entries_in items) ≡ first_waiting (entries_in s.last)
  first_of_last items due waits n s = ap first_waiting (three items due waits n s)
      ∙ waiting_skip false s.inactive (entries_in s.dues ++ entries_in s.last) s.are_inactive
      ∙ waiting_skip true s.dues (entries_in s.last) s.are_due

  -- and is marked there
  mark_of_last : (tell : Notice S → Notice S) (m : Mark T) (items : Items T S) (due waits : Option ℕ) (n : ℕ)
      (s : EntryLayout items due waits n)
      → with_first_marked tell m (entries_in items) ≡ entries_in s.inactive ++ (entries_in s.dues ++ with_first_marked tell m
      (entries_in s.last))
  mark_of_last tell m items due waits n s = ap (with_first_marked tell m) (three items due waits n s)
      ∙ marked_skip false tell m s.inactive (entries_in s.dues ++ entries_in s.last) s.are_inactive
      ∙ ap (λ l. entries_in s.inactive ++ l) (marked_skip true tell m s.dues (entries_in s.last) s.are_due)

  -- if the start names no place, nobody waits
  none_last : (items : Items T S) (due waits : Option ℕ) (n : ℕ) (s : EntryLayout items due waits n) → waits ≡ None → s.last ≡ []
  none_last items due waits n s none = no_first s.last (sym none ∙ s.first_waits)

  pub nobody_waits : (items : Items T S) (due waits : Option ℕ) (n : ℕ) → EntryLayout items due waits n → waits ≡ None
      → first_waiting (entries_in items) ≡ None
  nobody_waits items due waits n s none =
      first_of_last items due waits n s ∙ ap (λ l. first_waiting (entries_in l)) (none_last items due waits n s none)

  pub nobody_marked : (tell : Notice S → Notice S) (m : Mark T) (items : Items T S) (due waits : Option ℕ) (n : ℕ)
      → EntryLayout items due waits n
      → waits ≡ None → entries_in items ≡ with_first_marked tell m (entries_in items)
  nobody_marked tell m items due waits n s none =
      let same : with_first_marked tell m (entries_in s.last) ≡ entries_in s.last = rw (none_last items due waits n s none) refl in
      three items due waits n s ∙ sym (mark_of_last tell m items due waits n s
      ∙ ap (λ l. entries_in s.inactive ++ (entries_in s.dues ++ l)) same)

  -- the first that waits, at its place alone
  pub record FirstWaiting (items : Items T S) (due waits : Option ℕ) (n : ℕ) (k : ℕ) (s : EntryLayout items due waits n) : Type 0 where
    pub element : WithTicket (ParkedReceiver T S)
    pub after : Items T S
    pub last : s.last ≡ item k element ∷ after
    pub is : items ≡ (s.inactive ++ s.dues) ++ item k element ∷ after
    pub clear : times k (places (s.inactive ++ s.dues)) ≡ 0
    pub behind : times k (places after) ≡ 0
    pub here : found items k ≡ Some element
    pub class : Is true false element
    pub others : Each true false after

  pub waits_at : (items : Items T S) (due waits : Option ℕ) (n : ℕ) (k : ℕ) (s : EntryLayout items due waits n) → waits ≡ Some k
      → FirstWaiting items due waits n k s
  waits_at items due waits n k s h =
      let f = front_at s.last k (sym h ∙ s.first_waits) in
      let is : items ≡ (s.inactive ++ s.dues) ++ item k f.element ∷ f.rest =
      s.is ∙ sym (append_assoc s.inactive s.dues s.last) ∙ ap (λ l. (s.inactive ++ s.dues) ++ l) f.is in
      let a = alone (s.inactive ++ s.dues) f.rest k f.element (subst DistinctTickets is s.apart) in
      let all : Each true false (item k f.element ∷ f.rest) = subst (Each true false) f.is s.wait in
      record {
        element = f.element;
        after = f.rest;
        last = f.is;
        is = is;
        clear = a.0;
        behind = a.1;
        here = ap (λ l. found l k) is ∙ seat_found (s.inactive ++ s.dues) f.rest k f.element a.0;
        class = (all.0, all.1);
        others = all.2;
      }

  -- its entry is the first that waits
  pub waits_first : (items : Items T S) (due waits : Option ℕ) (n : ℕ) (k : ℕ) (s : EntryLayout items due waits n)
      (w : FirstWaiting items due waits n k s)
      → first_waiting (entries_in items) ≡ Some (entry_in (item k w.element))
  waits_first items due waits n k s w =
      first_of_last items due waits n s ∙ ap (λ l. first_waiting (entries_in l)) w.last ∙ rw w.class.0 refl

  -- the value of one that is woken or filled
  abbrev pub woken_value : Mark T → ParkedReceiver T S → ParkedReceiver T S
  woken_value m p = record p { mark = m; notice = due_now p.notice }

  -- the first that waits is due from now on, and the start is behind it
  pub sorted_woken : (items : Items T S) (due waits : Option ℕ) (n : ℕ) (k : ℕ) (m : Mark T) (s : EntryLayout items due waits n)
      (w : FirstWaiting items due waits n k s) → is_waiting m ≡ false
      → EntryLayout (with_value_at k items (woken_value m w.element.value)) due (place_after items k) (n - 1)
  sorted_woken items due waits n k m s w awake =
      let v = woken_value m w.element.value in
      let x = item k w.element in
      let y = item k (with_new_value v w.element) in
      let now : with_value_at k items v ≡ (s.inactive ++ s.dues) ++ y ∷ w.after =
      ap (λ l. with_value_at k l v) w.is ∙ edited_at (with_new_value v) k (s.inactive ++ s.dues) w.after w.element w.clear w.behind in
      let joined : s.dues ++ y ∷ w.after ≡ (s.dues ++ y ∷ []) ++ w.after = sym (append_assoc s.dues (y ∷ []) w.after) in
      let one : weight (entry_in x) ≡ 1 = rw w.class.0 refl in
      let zero_weight : weight (entry_in y) ≡ 0 = rw awake refl in
      let before = ap (λ l. waiting_count (entries_in l)) w.is ∙ waits-append (s.inactive ++ s.dues) (x ∷ w.after) in
      let later = ap (λ l. waiting_count (entries_in l)) now ∙ waits-append (s.inactive ++ s.dues) (y ∷ w.after) in
      record {
        inactive = s.inactive;
        dues = s.dues ++ y ∷ [];
        last = w.after;
        is = now ∙ append_assoc s.inactive s.dues (y ∷ w.after) ∙ ap (λ l. s.inactive ++ l) joined;
        are_inactive = s.are_inactive;
        are_due = each-push false true s.dues k (with_new_value v w.element) s.are_due (awake, refl);
        wait = w.others;
        first_due = s.first_due ∙ ap (λ l. first_place (s.dues ++ l)) w.last
            ∙ first_same s.dues w.after k w.element (with_new_value v w.element) ∙ ap first_place joined;
        first_waits = ap (λ l. place_after l k) w.is ∙ after_at (s.inactive ++ s.dues) w.after k w.element w.clear;
        count = omega (arith, s.count, one, zero_weight, before, later);
        apart = λ j. let same = ap (times j) (places-changed_at (with_new_value v) items k) in let most = s.apart j in omega arith;
        fits = omega (arith, s.fits, length-changed_at (with_new_value v) items k);
      }

  -- and is marked among the entries
  pub woken_entries : (items : Items T S) (due waits : Option ℕ) (n : ℕ) (k : ℕ) (m : Mark T) (s : EntryLayout items due waits n)
      (w : FirstWaiting items due waits n k s)
      → entries_in (with_value_at k items (woken_value m w.element.value)) ≡ with_first_marked due_now m (entries_in items)
  woken_entries items due waits n k m s w =
      let v = woken_value m w.element.value in
      let here : with_first_marked due_now m (entries_in s.last) ≡ entry_in (item k (with_new_value v w.element)) ∷ entries_in w.after =
      ap (λ l. with_first_marked due_now m (entries_in l)) w.last ∙ rw w.class.0 refl in
      revalued_entries items (s.inactive ++ s.dues) w.after k w.element v w.is w.clear w.behind
      ∙ ap (λ l. l ++ entry_in (item k (with_new_value v w.element)) ∷ entries_in w.after) (entries-append s.inactive s.dues)
      ∙ append_assoc (entries_in s.inactive) (entries_in s.dues) (entry_in (item k (with_new_value v w.element)) ∷ entries_in w.after)
      ∙ sym (mark_of_last due_now m items due waits n s ∙ ap (λ l. entries_in s.inactive ++ (entries_in s.dues ++ l)) here)

  -- some wait if one does
  pub waits_some : (items : Items T S) (due waits : Option ℕ) (n : ℕ) (k : ℕ) (s : EntryLayout items due waits n)
      → FirstWaiting items due waits n k s → 1 ≤ n
  waits_some items due waits n k s w =
      let one : weight (entry_in (item k w.element)) ≡ 1 = rw w.class.0 refl in
      let sum = ap (λ l. waiting_count (entries_in l)) w.is ∙ waits-append (s.inactive ++ s.dues) (item k w.element ∷ w.after) in
      omega (arith, s.count, one, sum)
