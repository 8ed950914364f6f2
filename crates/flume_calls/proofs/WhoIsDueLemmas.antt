-- After some steps a call that was parked waits as it did, or is due, or has ended.
use Rattle.std.proofs.Common.{◌≡◌, ℕ, ◌<◌, ◌≤◌, ◌⊎◌, inl, inr, Bool, true, false, not, ◌&&◌, ◌||◌}
use Rattle.std.proofs.Common.{if◌then◌else◌, List, [], ◌∷◌, ◌++◌, Option, Some, None}
use Rattle.std.proofs.Common.{refl, sym, ap, ◌∙◌, subst, arith, eqb-true}
use Rattle.std.specs.FinMap.{get}
use Rattle.std.specs.Option.{option_map}
use Rattle.flume_model.specs.declared.step.Step.{Step}
use Rattle.flume_model.specs.declared.step.Step.TheVariants.{Poll}
use Rattle.flume_model.specs.declared.step.Reply.{Reply}
use Rattle.flume_model.specs.declared.step.Reply.TheVariants.{Waiting}
use Rattle.flume_model.specs.declared.entry.Entry.{Entry}
use Rattle.flume_model.specs.declared.entry.Mark.{Mark}
use Rattle.flume_model.specs.declared.entry.Mark.TheVariants as mark
use Rattle.flume_model.specs.Log.{Log, Opening, Change, Blocks, Parks, change}
use Rattle.flume_model.specs.Limits.{is_closed}
use Rattle.flume_model.specs.Counts.{is_over}
use Rattle.flume_model.specs.Entries.{entry_of, again, again_as, without_ticket, is_waiting, is_filled}
use Rattle.flume_model.specs.Line.{next_ticket, is_live, issues, spends}
use Rattle.flume_model.specs.Parked.{LogEntry, entries, is_closed_after}
use Rattle.flume_model.specs.Channel.{Channel, channel}
use Rattle.flume_model.specs.Replies.{IsRun}
use Rattle.flume_model.specs.WaitLaws.{DistinctTickets}
use Rattle.flume_model.proofs.Common.{ne_eqb}
use Rattle.flume_model.proofs.AskingCaseLemmas.{Unfilled, polled_cases}
use Rattle.flume_model.proofs.LawfulReplyLemmas.{Fits}
use Rattle.flume_model.proofs.EntryListLemmas.{ticket_of, entry_last}
use Rattle.flume_model.proofs.EntryMarkLemmas.{left_out}
use Rattle.flume_model.proofs.EntryChangeLemmas.{parks_under, none_by}
use Rattle.flume_model.proofs.EntryShapeLemmas.{entries_apart, fits_run}
use Rattle.flume_state.specs.declared.notice.Notice.{Notice}
use Rattle.flume_state.specs.declared.sends.LiveSend.{LiveSend}
use Rattle.flume_state.specs.Sends.{send_due_in}
use Rattle.flume_state.specs.State.{State, bare}
use Rattle.flume_state.specs.Due.{blocked_in, waits_in, receiver_due_in, waits_by, SendDue, ReceiverDue}
use Rattle.flume_core.specs.Represents.{Represents}
use Rattle.flume_core.proofs.ViewLemmas.{entry_at_log, none_mapped}
use Rattle.flume_calls.specs.Batches.{StepsBetween, NoSteps, FirstStep}

-- of two sends, what one step may do
send_bits : (b was is xd xa yd ya : Bool) → yd ≡ (true && (xd || (not xa && ya) || ((not was && is) && not xa)))
    → ((not xa ≡ true) × (b ≡ true → was ≡ false)) ⊎ (xd ≡ true) → ((not ya ≡ true) × (b ≡ true → is ≡ false)) ⊎ (yd ≡ true)
send_bits b was is true xa yd ya e k = inr e
send_bits b was is false xa yd ya e (inr k) = absurd (let none : ⊥ = cc in none)
send_bits b was is false true yd ya e (inl k) = absurd (let none : ⊥ = let no = k.0 in cc in none)
send_bits b was is false false yd true e (inl k) = inr e
send_bits b was false false false yd false e (inl k) = inl (refl, λ same. refl)
send_bits b false true false false yd false e (inl k) = inr e
send_bits b true true false false yd false e (inl k) = inl (refl, λ same. let no = k.1 same in absurd (let none : ⊥ = cc in none))

-- of two receivers, what one step may do
receiver_bits : (w xd xw yd yw : Bool) → yd ≡ (true && not w && (xd || (xw && not yw))) → (xw ≡ true) ⊎ (xd ≡ true) → (w ≡ true → yw ≡ true)
    → (yw ≡ true) ⊎ (yd ≡ true)
receiver_bits true xd xw yd yw e k waits = inl (waits refl)
receiver_bits false xd xw yd true e k waits = inl refl
receiver_bits false true xw yd false e k waits = inr e
receiver_bits false false true yd false e k waits = inr e
receiver_bits false false false yd false e (inl k) waits = absurd (let none : ⊥ = cc in none)
receiver_bits false false false yd false e (inr k) waits = absurd (let none : ⊥ = cc in none)

module _ {S : Type 0} where
  -- A send that was blocked is, or it is due, or it has ended; `open_then` says that one that is blocked is so only in an open channel.
  abbrev pub SendKept : Bool → Bool → Option (LiveSend S) → Type 0
  SendKept open_then closed o = ((blocked_in o ≡ true) × (open_then ≡ true → closed ≡ false)) ⊎ (send_due_in o ≡ true) ⊎ (o ≡ None)

  -- so it is after one step more
  send_kept : (b was is : Bool) (o n : Option (LiveSend S)) → SendDue (not was && is) o n → SendKept b was o → (o ≡ None → n ≡ None)
      → SendKept b is n
  send_kept b was is None n due kept gone = inr (inr (gone refl))
  send_kept b was is (Some x) None due kept gone = inr (inr refl)
  send_kept b was is (Some x) (Some y) due (inr (inr none)) gone = absurd (let no : ⊥ = cc in no)
  send_kept b was is (Some x) (Some y) due (inr (inl is_due)) gone =
      elim (send_bits b was is x.notice.due x.accepted y.notice.due y.accepted due (inr is_due)) [ inl e ↦ inl e | inr e ↦ inr (inl e) ]
  send_kept b was is (Some x) (Some y) due (inl blocked) gone =
      elim (send_bits b was is x.notice.due x.accepted y.notice.due y.accepted due (inl blocked)) [ inl e ↦ inl e | inr e ↦ inr (inl e) ]

module _ {T S : Type 0} where
  -- a receiver that waited does, or it is due, or it has left
  abbrev pub ReceiverKept : Option (Entry T (Notice S)) → Type 0
  ReceiverKept o = (waits_in o ≡ true) ⊎ (receiver_due_in o ≡ true) ⊎ (o ≡ None)

  -- so it is after one step more
  receiver_kept : (w : Bool) (o n : Option (Entry T (Notice S))) → ReceiverDue w o n → ReceiverKept o → (o ≡ None → n ≡ None)
      → (w ≡ true → (x : Entry T (Notice S)) → n ≡ Some x → is_waiting x.mark ≡ true) → ReceiverKept n
  receiver_kept w None n due kept gone waits = inr (inr (gone refl))
  receiver_kept w (Some x) None due kept gone waits = inr (inr refl)
  receiver_kept w (Some x) (Some y) due (inr (inr none)) gone waits = absurd (let no : ⊥ = cc in no)
  receiver_kept w (Some x) (Some y) due (inr (inl is_due)) gone waits =
      elim (receiver_bits w x.notice.due (is_waiting x.mark) y.notice.due (is_waiting y.mark) due (inr is_due) (λ e. waits e y refl))
      [ inl e ↦ inl e | inr e ↦ inr (inl e) ]
  receiver_kept w (Some x) (Some y) due (inl waited) gone waits =
      elim (receiver_bits w x.notice.due (is_waiting x.mark) y.notice.due (is_waiting y.mark) due (inl waited) (λ e. waits e y refl))
      [ inl e ↦ inl e | inr e ↦ inr (inl e) ]

-- neither issued nor live before, so not live
not_live : (over spent : Bool) → (not over && (false || (false && not spent))) ≡ false
not_live true spent = refl
not_live false spent = refl

module _ {T : Type 0} where
  -- a ticket below the next one is no other that a receiver parks under, or that a send blocks under
  parks_other : (c : Channel T) (done : Change T) (t : ℕ) → Fits c done → t < c.next_ticket → parks_under done t ≡ false
  parks_other c (Parks u kind) t h lt = let same : u ≡ c.next_ticket = h.3 in ne_eqb u t (λ e. omega arith)
  parks_other c _ t h lt = refl

  issues_other : (c : Channel T) (done : Change T) (t : ℕ) → Fits c done → t < c.next_ticket → issues done t ≡ false
  issues_other c (Blocks m u) t h lt = let same : u ≡ c.next_ticket = h.2 in ne_eqb u t (λ e. omega arith)
  issues_other c _ t h lt = refl

  -- one that asks, and isn't filled, waits then
  again_waits : (n t : ℕ) (e : LogEntry T) (es : List (LogEntry T)) → DistinctTickets n es → entry_of t es ≡ Some e
      → is_filled e.mark ≡ false
      → (x : LogEntry T) → entry_of t (again t es) ≡ Some x → is_waiting x.mark ≡ true
  again_waits n t e es apart found unfilled x reply_is = by_mark e.mark refl
    where
      as_found : entry_of t (again_as t (Some e) es) ≡ Some x
      as_found = subst (λ o. entry_of t (again_as t o es) ≡ Some x) found reply_is

      by_mark : (m : Mark T) → e.mark ≡ m → is_waiting x.mark ≡ true
      by_mark (mark.Filled held) is = let no = rw is at unfilled in absurd (let none : ⊥ = cc in none)
      by_mark mark.Waiting is =
          let now : Some e ≡ Some x = sym found ∙ rw is at as_found in
          let same : e ≡ x = cc in ap (λ e. is_waiting e.mark) (sym same) ∙ ap is_waiting is
      by_mark mark.Woken is =
          let last : LogEntry T = record e { mark = mark.Waiting } in
          let here : entry_of t (without_ticket t es ++ last ∷ []) ≡ Some x = rw is at as_found in
          let of : e.ticket ≡ t = ticket_of t e es found in
          let there : entry_of t (without_ticket t es ++ last ∷ []) ≡ Some last =
          subst (λ u. entry_of u (without_ticket t es ++ last ∷ []) ≡ Some last) of
          (entry_last (without_ticket t es) last (subst (λ u. entry_of u (without_ticket t es) ≡ None) (sym of) (left_out n t es apart))) in
          let same : Some last ≡ Some x = sym there ∙ here in
          let is_it : last ≡ x = cc in ap (λ e. is_waiting e.mark) (sym is_it)

module _ {T A : Type 0} where
  -- a ticket that was issued, and that no receiver has, is no receiver's after one step more
  entry_gone : (o : Opening) (log : Log T A) (p : Step T × Reply T A) → IsRun o (p ∷ log) → (t : ℕ) → t < next_ticket o log
      → entry_of t (entries o log) ≡ None → entry_of t (entries o (p ∷ log)) ≡ None
  entry_gone o log p run t below none = by_case (is_over (p ∷ log)) refl
    where
      by_case : (b : Bool) → is_over (p ∷ log) ≡ b → entry_of t (entries o (p ∷ log)) ≡ None
      by_case true over = rw over refl
      by_case false still =
          let fits = fits_run o log p run in
          rw still (none_by (channel o log) (not (is_closed_after log) && is_closed_after (p ∷ log)) (change log p.0 p.1) t
          (parks_other (channel o log) (change log p.0 p.1) t fits below) none)

  -- and one that isn't live isn't
  send_gone : (o : Opening) (log : Log T A) (p : Step T × Reply T A) → IsRun o (p ∷ log) → (t : ℕ) → t < next_ticket o log
      → is_live log t ≡ false → is_live (p ∷ log) t ≡ false
  send_gone o log p run t below dead =
      let none = issues_other (channel o log) (change log p.0 p.1) t (fits_run o log p run) below in
      rw (none, dead) (not_live (is_over (p ∷ log)) (spends (change log p.0 p.1) t))

  -- a call that is answered `Waiting` waits
  poll_waits : (o : Opening) (log : Log T A) (t : ℕ) → IsRun o ((Poll t, Waiting) ∷ log) → (x : LogEntry T)
      → entry_of t (entries o ((Poll t, Waiting) ∷ log)) ≡ Some x → is_waiting x.mark ≡ true
  poll_waits o log t run x found = by_case (is_over {T = T} {A = A} ((Poll t, Waiting) ∷ log)) refl
    where
      unfilled : Unfilled (channel o log) t
      unfilled = polled_cases (channel o log) t (λ r. r ≡ Waiting → Unfilled (channel o log) t) Waiting run.0 (record {
        unknown = λ e. absurd (let none : ⊥ = cc in none);
        collects = λ u held there is e. absurd (let none : ⊥ = cc in none);
        takes = λ u m front e. absurd (let none : ⊥ = cc in none);
        waits_on = λ u woken e. u;
        ends = λ u empty e. absurd (let none : ⊥ = cc in none);
        refused = λ back e. absurd (let none : ⊥ = cc in none);
      }) refl

      by_case : (b : Bool) → is_over {T = T} {A = A} ((Poll t, Waiting) ∷ log) ≡ b → is_waiting x.mark ≡ true
      by_case true over = let gone = rw over at found in absurd (let none : ⊥ = cc in none)
      by_case false still =
          again_waits (next_ticket o log) t unfilled.entry (entries o log) (entries_apart o log run.1) unfilled.found unfilled.empty x
          (rw still at found)

-- a ticket that isn't live has no status, and one that has none isn't live
no_status : (live waits : Bool) → None ≡ (if live then Some (not waits) else None) → live ≡ false
no_status true waits e = absurd (let none : ⊥ = cc in none)
no_status false waits e = refl

module _ {T A S : Type 0} where
  -- a parked receiver that has left has left after one step more
  entry_left : (o : Opening) (log : Log T A) (p : Step T × Reply T A) (s after : State T S) → Represents o log s
      → Represents o (p ∷ log) after
      → (t : ℕ) → t < s.next_ticket → entry_of t s.entries ≡ None → entry_of t after.entries ≡ None
  entry_left o log p s after h more t below none =
      none_mapped bare (entry_of t after.entries)
      (sym (entry_at_log more t) ∙ entry_gone o log p more.run t (rw h.next_is at below) (entry_at_log h t ∙ ap (option_map bare) none))

  -- a send that has ended has ended after one step more
  send_ended : (o : Opening) (log : Log T A) (p : Step T × Reply T A) (s after : State T S) → Represents o log s
      → Represents o (p ∷ log) after
      → (t : ℕ) → t < s.next_ticket → get s.sends t ≡ None → get after.sends t ≡ None
  send_ended o log p s after h more t below none =
      let was : is_live log t ≡ false = no_status _ _ (sym (ap (option_map (λ send. send.accepted)) none) ∙ h.sends_are t) in
      let now : is_live (p ∷ log) t ≡ false = send_gone o log p more.run t (rw h.next_is at below) was in
      none_mapped (λ send. send.accepted) (get after.sends t) (more.sends_are t ∙ rw now refl)

  -- tickets only rise
  next_rises : (o : Opening) (log : Log T A) (p : Step T × Reply T A) (s after : State T S) → Represents o log s
      → Represents o (p ∷ log) after
      → s.next_ticket ≤ after.next_ticket
  next_rises o log p s after h more = let was = h.next_is in let now = more.next_is in omega (arith, was, now)

  -- a receiver that waits on or again by a step waits after it
  waits_then : (o : Opening) (log : Log T A) (step : Step T) (reply : Reply T A) (after : State T S)
      → Represents o ((step, reply) ∷ log) after
      → (t : ℕ) → waits_by step reply t ≡ true → (x : Entry T (Notice S)) → entry_of t after.entries ≡ Some x → is_waiting x.mark ≡ true
  waits_then o log (Poll u) Waiting after h t waits x found =
      let same : u ≡ t = eqb-true u t waits in
      poll_waits o log u h.run (bare x) (entry_at_log h u ∙ ap (option_map bare) (ap (λ k. entry_of k after.entries) same ∙ found))
  waits_then o log _ _ after h t waits x found = absurd (let none : ⊥ = cc in none)

  -- a send that was blocked is after some steps, or it is due, or it has ended
  pub sends_kept : (b : Bool) (t : ℕ) (o : Opening) (log : Log T A) {s after : State T S} {made : List (Step T × Reply T A)}
      → Represents o log s
      → StepsBetween s made after → t < s.next_ticket → SendKept b (is_closed s.senders s.receivers) (get s.sends t)
      → SendKept b (is_closed after.senders after.receivers) (get after.sends t)
  sends_kept b t o log h NoSteps below kept = kept
  sends_kept b t o log {s = s} h (FirstStep {between = mid} {step = step} {reply = reply} stepped rest) below kept =
      let more = stepped.extends o log h in
      let rises = next_rises o log (step, reply) s mid h more in
      sends_kept b t o ((step, reply) ∷ log) more rest (omega (arith, below, rises))
      (send_kept b (is_closed s.senders s.receivers) (is_closed mid.senders mid.receivers) (get s.sends t) (get mid.sends t)
      ((stepped.becomes_due (o, log, h)).sends t) kept (send_ended o log (step, reply) s mid h more t below))

  -- a receiver that waited does after some steps, or it is due, or it has left
  pub receivers_kept : (t : ℕ) (o : Opening) (log : Log T A) {s after : State T S} {made : List (Step T × Reply T A)} → Represents o log s
      → StepsBetween s made after → t < s.next_ticket → ReceiverKept (entry_of t s.entries) → ReceiverKept (entry_of t after.entries)
  receivers_kept t o log h NoSteps below kept = kept
  receivers_kept t o log {s = s} h (FirstStep {between = mid} {step = step} {reply = reply} stepped rest) below kept =
      let more = stepped.extends o log h in
      let rises = next_rises o log (step, reply) s mid h more in
      receivers_kept t o ((step, reply) ∷ log) more rest (omega (arith, below, rises))
      (receiver_kept (waits_by step reply t) (entry_of t s.entries) (entry_of t mid.entries)
      ((stepped.becomes_due (o, log, h)).receivers t) kept
      (entry_left o log (step, reply) s mid h more t below) (waits_then o log step reply mid more t))
