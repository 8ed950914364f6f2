-- What a change that fits does to the tickets of entries and to which of them are filled.
use Rattle.flume_model.proofs.Common.{◌≡◌, ℕ, ◌+◌, ◌<◌, ◌≤◌, Bool, true, false, ◌||◌, if◌then◌else◌, eqb, List, Option, Some, None, refl}
use Rattle.flume_model.proofs.Common.{sym, ◌∙◌, ap, arith, inl, inr, ◌⊎◌, eqb-true, ne_eqb, Channel, is_filled, is_woken, all_woken}
use Rattle.flume_model.proofs.Common.{entry_of, round, round_fills, without_ticket, tickets_issued, issues}
use Rattle.flume_model.proofs.Common.{Change, Queues, Blocks, Takes, Parks, Asks}
use Rattle.flume_model.proofs.Common.{Collects, Leaves, SenderLeaves, ReceiverLeaves, is_ticket, LogEntry}
use Rattle.flume_model.proofs.Common.{same_notice, entries_after, DistinctTickets}
use Rattle.flume_model.proofs.Common.{Mark, common_steps}
use Rattle.flume_model.proofs.EntryListLemmas.{tickets_round, tickets_woken, ticket_of, fills_none_else, none_same, none_without, none_push}
use Rattle.flume_model.proofs.EntryListLemmas.{round_for_push, again_cases, leave_cases}
use Rattle.flume_model.proofs.EntryMarkLemmas.{FilledBy, filled_found, filled_without, filled_push, filled_woken, filled_round, apart_above}
use Rattle.flume_model.proofs.EntryMarkLemmas.{none_past, found_below, apart_same, apart_without, left_out, apart_push}
use Rattle.flume_model.proofs.LawfulReplyLemmas.{Fits}

module _ {T : Type 0} where
  -- the ticket that a change fills, if it fills one
  abbrev pub fills : Change T → Option ℕ
  fills (Queues m filled) = filled
  fills (Leaves t filled) = filled
  fills _ = None

  -- a round leaves the tickets apart
  apart_round : (n : ℕ) (front : T) (es : List (LogEntry T)) → DistinctTickets n es → DistinctTickets n (round same_notice front es)
  apart_round n front es h = apart_same n es (round same_notice front es) (sym (tickets_round same_notice front es)) h

  -- a wake round gives no entry a ticket that none had
  none_round : (t : ℕ) (front : T) (es : List (LogEntry T)) → entry_of t es ≡ None → entry_of t (round same_notice front es) ≡ None
  none_round t front es h = none_same t es (round same_notice front es) (sym (tickets_round same_notice front es)) h

  -- if an end leaves, the tickets stay apart
  apart_close : (n : ℕ) (closes : Bool) (es : List (LogEntry T)) → DistinctTickets n es
      → DistinctTickets (n + 0) (if closes then all_woken same_notice es else es)
  apart_close n true es h = apart_above n (n + 0) _ (omega arith) (apart_same n es _ (sym (tickets_woken same_notice es)) h)
  apart_close n false es h = apart_above n (n + 0) es (omega arith) h

  -- no entry has a ticket then that none had
  none_close : (t : ℕ) (closes : Bool) (es : List (LogEntry T)) → entry_of t es ≡ None
      → entry_of t (if closes then all_woken same_notice es else es) ≡ None
  none_close t true es h = none_same t es _ (sym (tickets_woken same_notice es)) h
  none_close t false es h = h

  -- if an end leaves, those entries are filled that were
  filled_close : (was : ℕ → Bool) (closes : Bool) (es : List (LogEntry T)) → FilledBy was es
      → FilledBy was (if closes then all_woken same_notice es else es)
  filled_close was closes es h = grind (arith, common_steps, filled_woken same_notice was es)

  -- after a change that fits, the tickets of entries are apart
  pub apart_by : (c : Channel T) (closes : Bool) (done : Change T) → Fits c done → DistinctTickets c.next_ticket c.entries
      → DistinctTickets (c.next_ticket + tickets_issued done) (entries_after c.queue closes c.entries done)
  apart_by c closes (Queues m filled) h apart =
      apart_above c.next_ticket (c.next_ticket + 0) _ (omega arith)
      (round_for_push (DistinctTickets c.next_ticket) same_notice c.queue m c.entries
      (λ front. apart_round c.next_ticket front c.entries apart))
  apart_by c closes (Takes m (Some t)) h apart = apart_above c.next_ticket (c.next_ticket + 0) _ (omega arith)
      (apart_without c.next_ticket t c.entries apart)
  apart_by c closes (Parks t kind) h apart =
      let same : t ≡ c.next_ticket = h.3 in
      apart_push (c.next_ticket + 1) c.entries _ (apart_above c.next_ticket (c.next_ticket + 1) c.entries (omega arith) apart)
      (none_past c.next_ticket t c.entries (omega arith) apart) (omega arith)
  apart_by c closes (Asks t) h apart =
      apart_above c.next_ticket (c.next_ticket + 0) _ (omega arith) (again_cases (DistinctTickets c.next_ticket) t c.entries apart
      (λ e found woken. apart_push c.next_ticket (without_ticket t c.entries) _ (apart_without c.next_ticket t c.entries apart)
      (ap (λ u. entry_of u (without_ticket t c.entries)) (ticket_of t e c.entries found) ∙ left_out c.next_ticket t c.entries apart)
      (let below = found_below c.next_ticket t e c.entries found apart in let same = ticket_of t e c.entries found in omega arith)))
  apart_by c closes (Collects t) h apart = apart_above c.next_ticket (c.next_ticket + 0) _ (omega arith)
      (apart_without c.next_ticket t c.entries apart)
  apart_by c closes (Leaves t filled) h apart =
      let others = apart_without c.next_ticket t c.entries apart in
      apart_above c.next_ticket (c.next_ticket + 0) _ (omega arith)
      (leave_cases (λ es f. DistinctTickets c.next_ticket es) same_notice t c.queue c.entries
      (λ none. others) (λ passes front rest e. apart_round c.next_ticket front (without_ticket t c.entries) others))
  apart_by c closes SenderLeaves h apart = apart_close c.next_ticket closes c.entries apart
  apart_by c closes ReceiverLeaves h apart = apart_close c.next_ticket closes c.entries apart
  apart_by c closes (Blocks m t) h apart = apart_above c.next_ticket (c.next_ticket + 1) c.entries (omega arith) apart
  apart_by c closes _ h apart = apart_above c.next_ticket (c.next_ticket + 0) c.entries (omega arith) apart

  -- a change that fits fills no ticket that none had
  pub fills_none : (c : Channel T) (done : Change T) (t : ℕ) → Fits c done → entry_of t c.entries ≡ None → is_ticket t (fills done) ≡ false
  fills_none c (Queues m filled) t h none = ap (is_ticket t) h.1 ∙ fills_none_else t c.entries none
  fills_none c (Leaves u filled) t h none =
      ap (is_ticket t) h.1 ∙ leave_cases (λ es f. is_ticket t f ≡ false) same_notice u c.queue c.entries (λ e. refl)
      (λ passes front rest e. fills_none_else t (without_ticket u c.entries) (none_without t u c.entries none))
  fills_none c _ t h none = refl

  -- after a change that fits, the entries are filled that were or are named as filled
  pub filled_by_change : (c : Channel T) (closes : Bool) (done : Change T) (was : ℕ → Bool) → Fits c done
      → DistinctTickets c.next_ticket c.entries
      → ((t : ℕ) → c.next_ticket ≤ t → was t ≡ false) → FilledBy was c.entries
      → FilledBy (λ t. is_ticket t (fills done) || was t) (entries_after c.queue closes c.entries done)
  filled_by_change c closes (Queues m filled) was h apart past all =
      rw h.1 (round_for_push (FilledBy (λ t. is_ticket t (round_fills c.entries) || was t)) same_notice c.queue m c.entries
      (λ front. filled_round same_notice front c.next_ticket was c.entries apart all))
  filled_by_change c closes (Takes m (Some t)) was h apart past all = filled_without was t c.entries all
  filled_by_change c closes (Parks t kind) was h apart past all =
      let same : t ≡ c.next_ticket = h.3 in
      filled_push was c.entries _ all (past t (omega arith))
  filled_by_change c closes (Asks t) was h apart past all =
      again_cases (FilledBy was) t c.entries all (λ e found woken. filled_push was (without_ticket t c.entries) _
      (filled_without was t c.entries all)
      (ap was (ticket_of t e c.entries found) ∙ filled_found was t e c.entries all found ∙ woken_empty e.mark woken))
    where
      woken_empty : (m : Mark T) → is_woken m ≡ true → is_filled m ≡ false
      woken_empty m e = grind (arith, common_steps)
  filled_by_change c closes (Collects t) was h apart past all = filled_without was t c.entries all
  filled_by_change c closes (Leaves t filled) was h apart past all =
      let others = filled_without was t c.entries all in
      rw h.1 (leave_cases (λ es f. FilledBy (λ u. is_ticket u f || was u) es) same_notice t c.queue c.entries (λ e. others)
      (λ passes front rest e.
      filled_round same_notice front c.next_ticket was (without_ticket t c.entries) (apart_without c.next_ticket t c.entries apart) others))
  filled_by_change c closes SenderLeaves was h apart past all = filled_close was closes c.entries all
  filled_by_change c closes ReceiverLeaves was h apart past all = filled_close was closes c.entries all
  filled_by_change c closes _ was h apart past all = all

  -- whether a receiver parks under this ticket by a change
  abbrev pub parks_under : Change T → ℕ → Bool
  parks_under (Parks u kind) t = eqb u t
  parks_under _ t = false

  -- a change gives no entry a ticket that none had, but if one parks
  pub none_by : (c : Channel T) (closes : Bool) (done : Change T) (t : ℕ) → parks_under done t ≡ false → entry_of t c.entries ≡ None
      → entry_of t (entries_after c.queue closes c.entries done) ≡ None
  none_by c closes (Queues m filled) t e none =
      round_for_push (λ es. entry_of t es ≡ None) same_notice c.queue m c.entries (λ front. none_round t front c.entries none)
  none_by c closes (Takes m (Some u)) t e none = none_without t u c.entries none
  none_by c closes (Parks u kind) t e none = none_push t c.entries _ none e
  none_by c closes (Asks u) t e none =
      again_cases (λ es. entry_of t es ≡ None) u c.entries none (λ x found woken. none_push t (without_ticket u c.entries) _
      (none_without t u c.entries none) (other (eqb x.ticket t) x refl found))
    where
      other : (b : Bool) (x : LogEntry T) → eqb x.ticket t ≡ b → entry_of u c.entries ≡ Some x → eqb x.ticket t ≡ false
      other false x same found = same
      other true x same found =
          let of_u = ticket_of u x c.entries found in
          let of_t = eqb-true x.ticket t same in
          let t_is_u : t ≡ u = cc in
          let there = ap (λ v. entry_of v c.entries) t_is_u in
          absurd (let no : ⊥ = cc in no)
  none_by c closes (Collects u) t e none = none_without t u c.entries none
  none_by c closes (Leaves u filled) t e none =
      let others = none_without t u c.entries none in
      leave_cases (λ es f. entry_of t es ≡ None) same_notice u c.queue c.entries (λ e2. others)
      (λ passes front rest e2. none_round t front (without_ticket u c.entries) others)
  none_by c closes SenderLeaves t e none = none_close t closes c.entries none
  none_by c closes ReceiverLeaves t e none = none_close t closes c.entries none
  none_by c closes _ t e none = none

  -- a ticket below the next one is no other that a receiver parks under
  parks_later : (c : Channel T) (done : Change T) (t : ℕ) → Fits c done → t < c.next_ticket → parks_under done t ≡ false
  parks_later c (Parks u kind) t h lt = let same : u ≡ c.next_ticket = h.3 in ne_eqb u t (λ e. omega arith)
  parks_later c _ t h lt = refl

  -- after a change that fits, a ticket that it issues to a send, or that lived, is below the next one and no receiver's
  pub sides_by : (c : Channel T) (closes : Bool) (done : Change T) (t : ℕ) → Fits c done → DistinctTickets c.next_ticket c.entries
      → (c.is_live t ≡ true → (t < c.next_ticket) × (entry_of t c.entries ≡ None))
      → (issues done t ≡ true) ⊎ (c.is_live t ≡ true)
      → (t < c.next_ticket + tickets_issued done) × (entry_of t (entries_after c.queue closes c.entries done) ≡ None)
  sides_by c closes (Blocks m u) t h apart sides (inl e) =
      let same : u ≡ c.next_ticket = h.2 in
      let is_it = eqb-true u t e in
      (omega arith, none_past c.next_ticket t c.entries (omega arith) apart)
  sides_by c closes _ t h apart sides (inl e) = absurd (let none : ⊥ = cc in none)
  sides_by c closes done t h apart sides (inr live) =
      let before = sides live in
      let below = before.0 in
      (omega arith, none_by c closes done t (parks_later c done t h below) before.1)
