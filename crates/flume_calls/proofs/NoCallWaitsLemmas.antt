-- If no send is blocked and no receiver waits, no ticket becomes due by one step.
use Rattle.std.proofs.Common.{◌≡◌, ℕ, Bool, true, false, not, ◌&&◌, ◌||◌, eqb, cond, [], ◌∷◌, length, Option, Some, None}
use Rattle.std.proofs.Common.{refl, sym, ◌∙◌, ap, ap₂, subst, arith, eqb-true}
use Rattle.std.specs.FinMap.{get}
use Rattle.std.specs.Option.{option_map, is_some}
use Rattle.std.proofs.lemmas.Bool.{eq-eqb}
use Rattle.std.proofs.lemmas.List.Elements.{All-nil, All-cons}
use Rattle.flume_model.specs.declared.entry.Entry.{Entry}
use Rattle.flume_model.specs.Log.{Log, Opening}
use Rattle.flume_model.specs.Line.{blocked, is_live}
use Rattle.flume_model.specs.Channel.{has_ticket}
use Rattle.flume_model.specs.Entries.{entry_of, waiting_count, is_waiting}
use Rattle.flume_model.specs.WaitLaws.{DistinctTickets}
use Rattle.flume_state.specs.declared.notice.Notice.{Notice}
use Rattle.flume_state.specs.declared.sends.LiveSend.{LiveSend}
use Rattle.flume_state.specs.Sends.{send_due_in}
use Rattle.flume_state.specs.Receivers.{EntryList, NoDueReceiver}
use Rattle.flume_state.specs.State.{State, offers_of}
use Rattle.flume_state.specs.Due.{SendDue, ReceiverDue, blocked_in, accepted_in, waits_in, receiver_due_in}
use Rattle.flume_core.specs.Represents.{Represents, IsReachable}
use Rattle.flume_core.proofs.ViewLemmas.{live_by, nil_by}
use Rattle.flume_calls.specs.AtRest.{IsAtRest}
use Rattle.flume_calls.specs.Polls.{AtMostOneStep, NoStep, OneStep}
use Rattle.flume_calls.specs.NoCallWaits.{NoCallWaits}
use Rattle.flume_calls.proofs.EachIsRungLemmas.{none_due}

-- of a send that wasn't due and wasn't blocked, nothing makes it due
no_send : (live accepted closed : Bool) → (live && (false || (false && accepted) || (closed && false))) ≡ false
no_send true accepted true = refl
no_send true accepted false = refl
no_send false accepted closed = refl

-- of a receiver that wasn't due and didn't wait, nothing makes it due
no_receiver : (parked waits waiting : Bool) → (parked && waits && (false || (false && waiting))) ≡ false
no_receiver true true waiting = refl
no_receiver true false waiting = refl
no_receiver false waits waiting = refl

module _ {S : Type 0} where
  -- a send that wasn't due and wasn't blocked isn't due
  send_off : (closed : Bool) (old new : Option (LiveSend S)) → SendDue closed old new → send_due_in old ≡ false → blocked_in old ≡ false
      → send_due_in new ≡ false
  send_off closed old new due was unblocked =
      due ∙ ap₂ (λ a b. is_some new && (a || (b && accepted_in new) || (closed && b))) was unblocked
      ∙ no_send (is_some new) (accepted_in new) closed

module _ {T S : Type 0} where
  -- a receiver that wasn't due and didn't wait isn't due
  receiver_off : (waits : Bool) (old new : Option (Entry T (Notice S))) → ReceiverDue waits old new → receiver_due_in old ≡ false
      → waits_in old ≡ false → receiver_due_in new ≡ false
  receiver_off waits old new due was unwaiting =
      due ∙ ap₂ (λ a b. is_some new && not waits && (a || (b && not (waits_in new)))) was unwaiting
      ∙ no_receiver (is_some new) (not waits) (not (waits_in new))

  -- if none waits, that of a ticket doesn't
  none_waits : (t : ℕ) (entries : EntryList T S) → waiting_count entries ≡ 0 → waits_in (entry_of t entries) ≡ false
  none_waits t [] none = refl
  none_waits t (e ∷ entries) none =
      elim (eqb e.ticket t) as (λ b. waits_in (cond b (Some e) (entry_of t entries)) ≡ false) [
        | true ↦ this (is_waiting e.mark) refl
        | false ↦ none_waits t entries (omega (arith, none))
      ]
    where
      this : (b : Bool) → is_waiting e.mark ≡ b → is_waiting e.mark ≡ false
      this true is = let some = rw is at none in absurd (omega (arith, some))
      this false is = is

  -- if the tickets are apart and none is due by its ticket, none is due
  none_by_ticket : (bound : ℕ) (entries : EntryList T S) → DistinctTickets bound entries
      → ((t : ℕ) → receiver_due_in (entry_of t entries) ≡ false) → NoDueReceiver entries
  none_by_ticket bound [] apart each = All-nil _
  none_by_ticket bound (e ∷ entries) apart each =
      All-cons (λ e. e.notice.due ≡ false) e entries
      (subst (λ b. receiver_due_in (cond b (Some e) (entry_of e.ticket entries)) ≡ false) (eq-eqb e.ticket e.ticket refl) (each e.ticket))
      (none_by_ticket bound entries apart.2 (λ t. later t (eqb e.ticket t) refl))
    where
      later : (t : ℕ) (b : Bool) → eqb e.ticket t ≡ b → receiver_due_in (entry_of t entries) ≡ false
      later t true is =
          subst (λ u. receiver_due_in (entry_of u entries) ≡ false) (eqb-true e.ticket t is) (ap receiver_due_in apart.1)
      later t false is = subst (λ b. receiver_due_in (cond b (Some e) (entry_of t entries)) ≡ false) is (each t)

module _ {T A S : Type 0} where
  -- if no message is blocked, the send of a ticket isn't
  none_blocked : (o : Opening) (log : Log T A) (s : State T S) → Represents o log s → length s.blocked ≡ 0 → (t : ℕ)
      → blocked_in (get s.sends t) ≡ false
  none_blocked o log s h none t = by_case (get s.sends t) refl
    where
      nothing : blocked o log ≡ []
      nothing = sym h.blocked_are ∙ ap offers_of (nil_by s.blocked (λ more. omega (arith, none)))

      by_mark : (send : LiveSend S) → get s.sends t ≡ Some send → (b : Bool) → send.accepted ≡ b → not send.accepted ≡ false
      by_mark send found true is = rw is refl
      by_mark send found false is =
          let status = sym (h.sends_are t) ∙ ap (option_map (λ send. send.accepted)) found ∙ ap Some is in
          let has : has_ticket t (blocked o log) ≡ true = (live_by (is_live log t) (has_ticket t (blocked o log)) false status).1 in
          let no = rw nothing at has in absurd (let none : ⊥ = cc in none)

      by_case : (x : Option (LiveSend S)) → get s.sends t ≡ x → blocked_in x ≡ false
      by_case None found = refl
      by_case (Some send) found = by_mark send found send.accepted refl

  -- if no call waits, a turn of at most one step leads from a channel at rest to one at rest
  pub stays_at_rest : (old new : State T S) → IsAtRest A old → NoCallWaits old → AtMostOneStep A old new
      → (IsReachable A new → (bound : ℕ) × DistinctTickets bound new.entries) → IsAtRest A new
  stays_at_rest old new rest no_call_waits (NoStep same) apart = subst (IsAtRest A) (sym same) rest
  stays_at_rest old new rest no_call_waits (OneStep step reply stepped) apart =
      let reachable : IsReachable A new =
      (rest.reachable.0, (step, reply) ∷ rest.reachable.1, stepped.extends rest.reachable.0 rest.reachable.1 rest.reachable.2) in
      let becomes_due = stepped.becomes_due rest.reachable in
      record {
        reachable = reachable;
        sends = λ t. send_off _ (get old.sends t) (get new.sends t) (becomes_due.sends t) (rest.sends t)
            (none_blocked rest.reachable.0 rest.reachable.1 old rest.reachable.2 no_call_waits.0 t);
        receivers = none_by_ticket (apart reachable).0 new.entries (apart reachable).1
            (λ t. receiver_off _ (entry_of t old.entries) (entry_of t new.entries) (becomes_due.receivers t)
            (none_due t old.entries rest.receivers) (none_waits t old.entries no_call_waits.1));
      }
