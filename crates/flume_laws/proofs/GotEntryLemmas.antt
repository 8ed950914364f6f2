-- How many entries have a ticket after each change, and that a filled receiver held nothing before.
use Rattle.std.proofs.Common.{◌≡◌, ℕ, ◌+◌, Bool, true, false, List, [], ◌∷◌, ◌++◌, Option, Some}
use Rattle.std.proofs.Common.{None}
use Rattle.std.proofs.Common.{refl, ap, sym, ◌∙◌, arith, if◌then◌else◌, eqb, eqb-true}
use Rattle.std.proofs.Common.{ne_eqb}
use Rattle.std.proofs.lemmas.Bool.Decides.{nat_tests}
use Rattle.std.proofs.lemmas.Grind.{common_steps}
use Rattle.flume_model.specs.declared.entry.Entry.{Entry}
use Rattle.flume_model.specs.declared.entry.Mark.TheVariants.{Waiting}
use Rattle.flume_model.specs.Log.{Change, Queues, Takes, Parks, Asks, Collects, Leaves}
use Rattle.flume_model.specs.Log.{SenderLeaves}
use Rattle.flume_model.specs.Log.{ReceiverLeaves}
use Rattle.flume_model.specs.Entries.{entry_of, round, round_fills, without_ticket, all_woken}
use Rattle.flume_model.specs.Entries.{is_filled}
use Rattle.flume_model.specs.Entries.{held_by}
use Rattle.flume_model.specs.Parked.{LogEntry, same_notice, entries_after, new_entry}
use Rattle.flume_model.specs.Channel.{Channel}
use Rattle.flume_model.specs.WaitLaws.{DistinctTickets}
use Rattle.flume_model.proofs.LawfulReplyLemmas.{Fits}
use Rattle.flume_model.proofs.EntryListLemmas.{round_for_push, again_cases, leave_cases, ticket_of}
use Rattle.flume_model.proofs.EntryListLemmas.{fills_none_else}
use Rattle.flume_model.proofs.EntryMarkLemmas.{left_out, none_past, apart_without}
use Rattle.flume_model.proofs.EntryChangeLemmas.{fills}
use Rattle.flume_laws.proofs.GotMemberLemmas.{here}

module _ {T N : Type 0} where
  -- one if there is an entry
  abbrev pub is_there : Option (Entry T N) → ℕ
  is_there None = 0
  is_there (Some e) = 1

  -- one if an entry has the ticket
  abbrev pub stands : ℕ → List (Entry T N) → ℕ
  stands t es = is_there (entry_of t es)

  -- a wake round leaves the tickets
  stands_round : (notify : N → N) (front : T) (t : ℕ) (es : List (Entry T N))
      → stands t (round notify front es) ≡ stands t es
  stands_round notify front t [] = refl
  stands_round notify front t (x ∷ es) =
      grind (arith, common_steps, stands_round notify front t es)

  -- a wake of all too
  stands_woken : (notify : N → N) (t : ℕ) (es : List (Entry T N))
      → stands t (all_woken notify es) ≡ stands t es
  stands_woken notify t [] = refl
  stands_woken notify t (x ∷ es) = grind (arith, common_steps, stands_woken notify t es)

  -- the leaving of one leaves the others
  pub found_without : (u t : ℕ) (es : List (Entry T N)) → eqb u t ≡ false
      → entry_of t (without_ticket u es) ≡ entry_of t es
  found_without u t [] other = refl
  found_without u t (x ∷ es) other =
      grind (arith, common_steps, found_without u t es other, eqb-true x.ticket u, ne_eqb)

  -- one more, whose ticket none had
  stands_push : (t : ℕ) (es : List (Entry T N)) (x : Entry T N) → entry_of x.ticket es ≡ None
      → stands t (es ++ x ∷ []) ≡ stands t es + here t (Some x.ticket)
  stands_push t [] x none = grind (arith, common_steps)
  stands_push t (y ∷ es) x none =
      grind (arith, common_steps, stands_push t es x, eqb-true, ne_eqb)

  -- a ticket under which an entry holds a message has an entry
  pub held_stands : (t : ℕ) (m : T) (es : List (Entry T N)) → held_by (entry_of t es) ≡ Some m
      → stands t es ≡ 1
  held_stands t m es held = grind (arith, common_steps)

module _ {T : Type 0} where
  -- the leaving of one
  stands_without : (n u t : ℕ) (e : LogEntry T) (es : List (LogEntry T)) → DistinctTickets n es
      → entry_of u es ≡ Some e
      → stands t (without_ticket u es) + here t (Some u) ≡ stands t es
  stands_without n u t e es apart found =
      let gone = left_out n u es apart in
      let others = found_without u t es in
      grind (arith, common_steps, nat_tests, gone, others)

  -- the ticket of the receiver that leaves by a change, if one does
  abbrev pub leaver : Change T → Option ℕ
  leaver (Takes m receiver) = receiver
  leaver (Collects t) = Some t
  leaver (Leaves t filled) = Some t
  leaver _ = None

  -- and of the one that parks
  abbrev pub parker : Change T → Option ℕ
  parker (Parks t kind) = Some t
  parker _ = None

  stands_close : (t : ℕ) (closes : Bool) (es : List (LogEntry T))
      → stands t (if closes then all_woken same_notice es else es) + 0 ≡ stands t es + 0
  stands_close t true es = omega (arith, stands_woken same_notice t es)
  stands_close t false es = refl

  -- after a change that fits
  pub stands_by : (c : Channel T) (closes : Bool) (done : Change T) (t : ℕ) → Fits c done
      → DistinctTickets c.next_ticket c.entries
      → stands t (entries_after c.queue closes c.entries done) + here t (leaver done)
      ≡ stands t c.entries + here t (parker done)
  stands_by c closes (Queues m filled) t h apart =
      round_for_push (λ es. stands t es + 0 ≡ stands t c.entries + 0) same_notice c.queue m
      c.entries (λ front. omega (arith, stands_round same_notice front t c.entries))
  stands_by c closes (Takes m (Some u)) t h apart =
      omega (arith, stands_without c.next_ticket u t h.1.entry c.entries apart h.1.found)
  stands_by c closes (Parks u kind) t h apart =
      let none = none_past c.next_ticket u c.entries (omega (arith, h.3)) apart in
      omega (arith, stands_push t c.entries (new_entry u kind) none)
  stands_by c closes (Asks u) t h apart =
      again_cases (λ es. stands t es + 0 ≡ stands t c.entries + 0) u c.entries refl
      (λ e found woken.
      (let gone = left_out c.next_ticket u c.entries apart in
      let same = ticket_of u e c.entries found in
      let others = stands_without c.next_ticket u t e c.entries apart found in
      let more = stands_push t (without_ticket u c.entries) (record e { mark = Waiting })
      (ap (λ v. entry_of v (without_ticket u c.entries)) same ∙ gone) in
      let one = ap (λ v. here t (Some v)) same in
      omega (arith, others, more, one)))
  stands_by c closes (Collects u) t h apart =
      omega (arith, stands_without c.next_ticket u t h.0 c.entries apart h.2)
  stands_by c closes (Leaves u filled) t h apart =
      let others = stands_without c.next_ticket u t h.0.entry c.entries apart h.0.found in
      leave_cases (λ es f. stands t es + here t (Some u) ≡ stands t c.entries + 0) same_notice u
      c.queue c.entries (λ none. omega (arith, others))
      (λ passes front rest e.
      omega (arith, others, stands_round same_notice front t (without_ticket u c.entries)))
  stands_by c closes SenderLeaves t h apart = stands_close t closes c.entries
  stands_by c closes ReceiverLeaves t h apart = stands_close t closes c.entries
  stands_by c closes _ t h apart = refl

  -- the entry that a round fills wasn't filled
  round_empty : (n t : ℕ) (e : LogEntry T) (es : List (LogEntry T)) → DistinctTickets n es
      → round_fills es ≡ Some t → entry_of t es ≡ Some e → is_filled e.mark ≡ false
  round_empty n t e [] apart is found = absurd (let none : ⊥ = cc in none)
  round_empty n t e (x ∷ es) apart is found =
      let deeper = round_empty n t e es apart.2 in
      let another = fills_none_else x.ticket es apart.1 in
      grind (arith, common_steps, nat_tests, deeper, another)

  -- the entry that a change fills wasn't filled
  pub filled_was_empty : (c : Channel T) (done : Change T) (t : ℕ) (e : LogEntry T) → Fits c done
      → DistinctTickets c.next_ticket c.entries → fills done ≡ Some t
      → entry_of t c.entries ≡ Some e → is_filled e.mark ≡ false
  filled_was_empty c (Queues m filled) t e h apart is found =
      round_empty c.next_ticket t e c.entries apart (sym h.1 ∙ is) found
  filled_was_empty c (Leaves u filled) t e h apart is found =
      leave_cases (λ es f. f ≡ Some t → is_filled e.mark ≡ false) same_notice u c.queue c.entries
      (λ none by. absurd (let none : ⊥ = cc in none))
      (λ passes front rest same by.
      round_empty c.next_ticket t e (without_ticket u c.entries)
      (apart_without c.next_ticket u c.entries apart) by
      (found_without u t c.entries (other by) ∙ found)) (sym h.1 ∙ is)
    where
      other : round_fills (without_ticket u c.entries) ≡ Some t → eqb u t ≡ false
      other by =
          let gone = fills_none_else u (without_ticket u c.entries)
          (left_out c.next_ticket u c.entries apart) in
          grind (arith, common_steps, nat_tests, gone)
  filled_was_empty c _ t e h apart is found = absurd (let none : ⊥ = cc in none)
