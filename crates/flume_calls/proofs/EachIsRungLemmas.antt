-- Each call that may go on is rung for.
use Rattle.std.proofs.Common.{◌≡◌, ℕ, ◌<◌, ◌⊎◌, inl, inr, Bool, true, false, eqb, List, [], ◌∷◌, ◌++◌, map, Option, Some, None}
use Rattle.std.proofs.Common.{refl, sym, ap, ◌∙◌, subst, arith, eqb-true, min, cond}
use Rattle.std.specs.Prelude.{Contains}
use Rattle.std.specs.FinMap.{get}
use Rattle.std.specs.Option.{option_map}
use Rattle.std.proofs.lemmas.Bool.{eqb-false, eq-eqb, ne_eqb}
use Rattle.std.proofs.lemmas.List.Elements.{All-head, All-tail, Contains-append_right}
use Rattle.flume_model.specs.declared.step.Step.{Step}
use Rattle.flume_model.specs.declared.step.Reply.{Reply}
use Rattle.flume_model.specs.declared.entry.Entry.{Entry}
use Rattle.flume_model.specs.declared.entry.Mark.{Mark}
use Rattle.flume_model.specs.declared.entry.Mark.TheVariants as mark
use Rattle.flume_model.specs.Limits.{IsOpen, IsClosed, is_closed}
use Rattle.flume_model.specs.Entries.{entry_of, is_waiting}
use Rattle.flume_model.specs.Log.{Log, Opening}
use Rattle.flume_model.specs.Line.{next_ticket}
use Rattle.flume_model.specs.Parked.{entries}
use Rattle.flume_model.proofs.EntryMarkLemmas.{found_below}
use Rattle.flume_model.proofs.EntryShapeLemmas.{entries_apart, sides_apart}
use Rattle.flume_state.specs.declared.notice.Notice.{Notice}
use Rattle.flume_state.specs.declared.sends.LiveSend.{LiveSend}
use Rattle.flume_state.specs.Sends.{NoDueSend, send_due_in}
use Rattle.flume_state.specs.Receivers.{EntryList, NoDueReceiver}
use Rattle.flume_state.specs.State.{State, accepted_at, bare}
use Rattle.flume_state.specs.Signals.{NamesDueTicket, Send, Receive, signal_of}
use Rattle.flume_state.specs.Due.{waits_in, blocked_in, receiver_due_in}
use Rattle.flume_state.proofs.SendMapLemmas.{get-changed_other}
use Rattle.flume_core.specs.Represents.{Represents, IsReachable}
use Rattle.flume_core.proofs.ViewLemmas.{entry_at_log, live_by}
use Rattle.flume_calls.specs.Batches.{StepsBetween, NoSteps, FirstStep}
use Rattle.flume_calls.specs.Polls.{AtMostOneStep, NoStep, OneStep}
use Rattle.flume_calls.specs.Rings.{Rings, NoneDue, Rung, NoneDueAnyMore, receiver_not_due, send_not_due}
use Rattle.flume_calls.specs.EachIsRung.{mark_at, MayGoOn, BecomesAccepted, BecomesWoken, BecomesFilled}
use Rattle.flume_calls.specs.EachIsRung.{ChannelCloses, RingsFor, NoRing, FirstRing, EachIsRung}
use Rattle.flume_calls.proofs.RingLemmas.{named_keeps, all_not_due}
use Rattle.flume_calls.proofs.WhoIsDueLemmas.{sends_kept, receivers_kept}

module _ {T S : Type 0} where
  -- the call under this ticket is due
  abbrev Due : State T S → ℕ → Type 0
  Due s t = (send_due_in (get s.sends t) ≡ true) ⊎ (receiver_due_in (entry_of t s.entries) ≡ true)

  -- if none of the list is due, that of a ticket isn't
  pub none_due : (t : ℕ) (entries : EntryList T S) → NoDueReceiver entries → receiver_due_in (entry_of t entries) ≡ false
  none_due t [] none = refl
  none_due t (e ∷ entries) none =
      elim (eqb e.ticket t) as (λ b. receiver_due_in (cond b (Some e) (entry_of t entries)) ≡ false) [
        | true ↦ All-head (λ e. e.notice.due ≡ false) e entries none
        | false ↦ none_due t entries (All-tail (λ e. e.notice.due ≡ false) e entries none)
      ]

  -- an entry is found if another one is named
  found_other : (t : ℕ) (before : EntryList T S) (e : Entry T (Notice S)) (later : EntryList T S) → eqb e.ticket t ≡ false
      → entry_of t (before ++ receiver_not_due e ∷ later) ≡ entry_of t (before ++ e ∷ later)
  found_other t [] e later other = rw other refl
  found_other t (x ∷ before) e later other = rw (found_other t before e later other) refl

  -- one that is due is if another one is named
  still_due : (old new : State T S) (k t : ℕ) → NamesDueTicket old new k → eqb t k ≡ false → Due old t → Due new t
  still_due old new k t (Send due is) other (inl now) =
      let sends : get new.sends t ≡ get old.sends t =
      ap (λ s. get s.sends t) is ∙ get-changed_other old.sends k send_not_due t (eqb-false t k other) in inl (ap send_due_in sends ∙ now)
  still_due old new k t (Send due is) other (inr now) =
      let entries : new.entries ≡ old.entries = ap (λ s. s.entries) is in inr (ap (λ es. receiver_due_in (entry_of t es)) entries ∙ now)
  still_due old new k t (Receive tells is) other (inl now) =
      let sends : new.sends ≡ old.sends = ap (λ s. s.sends) is in inl (ap (λ m. send_due_in (get m t)) sends ∙ now)
  still_due old new k t (Receive tells is) other (inr now) =
      let other_one : eqb tells.entry.ticket t ≡ false = ap (λ u. eqb u t) tells.is_it ∙ ne_eqb k t (λ e. eqb-false t k other (sym e)) in
      inr (ap (λ es. receiver_due_in (entry_of t es)) tells.named
      ∙ ap receiver_due_in (found_other t tells.before tells.entry tells.later other_one)
      ∙ sym (ap (λ es. receiver_due_in (entry_of t es)) tells.found) ∙ now)

  -- nobody is due if nothing is
  not_due : (s : State T S) (t : ℕ) → NoDueSend s.sends → NoDueReceiver s.entries → Due s t → ⊥
  not_due s t sends entries (inl now) = let no = sends t in cc
  not_due s t sends entries (inr now) = let no = none_due t s.entries entries in cc

module _ {B S : Type 0} (rings : B → ℕ → S → B → Type 0) {T : Type 0} where
  -- rings keep each signal
  signals_kept : {old new : State T S} {bell end : B} → Rings rings old bell new end → (t : ℕ) → signal_of new t ≡ signal_of old t
  signals_kept (NoneDue sends receivers) t = refl
  signals_kept (Rung {old = old} {named = named} {ticket = k} names is rung rest) t = signals_kept rest t ∙ named_keeps old named k names t

  -- whoever is due at first is rung for
  pub record Listed (old : State T S) (bell : B) (new : State T S) (end : B) : Type 0 where
    pub calls : List (ℕ × S)
    pub rang : RingsFor rings bell calls end
    pub each : (t : ℕ) → Due old t → (signal : S) × (signal_of new t ≡ Some signal) × Contains calls (t, signal)

  -- it is the first of them, or one of the others
  first_or_later : (new : State T S) (k t : ℕ) (signal : S) (calls : List (ℕ × S)) → signal_of new k ≡ Some signal
      → (eqb t k ≡ false → (found : S) × (signal_of new t ≡ Some found) × Contains calls (t, found))
      → (found : S) × (signal_of new t ≡ Some found) × Contains ((k, signal) ∷ calls) (t, found)
  first_or_later new k t signal calls is later = by_case (eqb t k) refl
    where
      by_case : (b : Bool) → eqb t k ≡ b → (found : S) × (signal_of new t ≡ Some found) × Contains ((k, signal) ∷ calls) (t, found)
      by_case true e =
          subst (λ u. (found : S) × (signal_of new u ≡ Some found) × Contains ((k, signal) ∷ calls) (u, found)) (sym (eqb-true t k e))
          (signal, is, (0, omega arith, refl))
      by_case false e =
          let found = later e in (found.0, found.1, Contains-append_right ((k, signal) ∷ []) calls (t, found.0) found.2)

  listed : {old new : State T S} {bell end : B} → Rings rings old bell new end → Listed old bell new end
  listed {old = old} (NoneDue sends entries) = record {
    calls = [];
    rang = NoRing;
    each = λ t due. absurd (not_due old t sends entries due);
  }
  listed {old = old} {new = new} (Rung {named = named} {ticket = k} {signal = signal} names is rung rest) =
      let later = listed rest in
      record {
        calls = (k, signal) ∷ later.calls;
        rang = FirstRing rung later.rang;
        each = λ t due. first_or_later new k t signal later.calls (signals_kept rest k ∙ named_keeps old named k names k ∙ is)
            (λ other. later.each t (still_due old named k t names other due));
      }

-- how the counts of ends say that a channel is open
open_bit : (n m : ℕ) → IsOpen n m → is_closed n m ≡ false
open_bit n m some = ne_eqb (min n m) 0 (λ e. omega arith)

-- how they say that it is closed
closed_bit : (n m : ℕ) → IsClosed n m → is_closed n m ≡ true
closed_bit n m none = eq-eqb (min n m) 0 none

module _ {S : Type 0} where
  -- whether a send is blocked, by whether it was accepted
  is_blocked : (o : Option (LiveSend S)) → option_map (λ send. send.accepted) o ≡ Some false → blocked_in o ≡ true
  is_blocked None e = absurd (let none : ⊥ = cc in none)
  is_blocked (Some x) e = let unaccepted : x.accepted ≡ false = cc in rw unaccepted refl

  not_blocked : (o : Option (LiveSend S)) → option_map (λ send. send.accepted) o ≡ Some true → blocked_in o ≡ true → ⊥
  not_blocked None e blocked = cc
  not_blocked (Some x) e blocked = let accepted : x.accepted ≡ true = cc in let no = rw accepted at blocked in cc

  -- one that was named is accepted as it was
  accepted_kept : (o : Option (LiveSend S)) → option_map (λ send. send.accepted) (option_map send_not_due o) ≡ option_map
      (λ send. send.accepted) o
  accepted_kept None = refl
  accepted_kept (Some x) = refl

module _ {T S : Type 0} where
  -- what a mark says of waiting
  marked : (o : Option (Entry T (Notice S))) (m : Mark T) → option_map (λ e. e.mark) o ≡ Some m → waits_in o ≡ is_waiting m
  marked None m e = absurd (let none : ⊥ = cc in none)
  marked (Some x) m e = let same : x.mark ≡ m = cc in ap is_waiting same

  -- one that was named is as it was
  mark_kept : (o : Option (Entry T (Notice S))) → option_map (λ e. e.mark) (option_map receiver_not_due o) ≡ option_map (λ e. e.mark) o
  mark_kept None = refl
  mark_kept (Some x) = refl

  entry_not_due : (t : ℕ) (es : EntryList T S) → entry_of t (map receiver_not_due es) ≡ option_map receiver_not_due (entry_of t es)
  entry_not_due t [] = refl
  entry_not_due t (e ∷ es) =
      elim (eqb e.ticket t) as (λ b. cond b (Some (receiver_not_due e)) (entry_of t (map receiver_not_due es))
      ≡ option_map receiver_not_due (cond b (Some e) (entry_of t es))) [ true ↦ refl | false ↦ entry_not_due t es ]

  -- a call that may go on as all are named may go on before it
  before_rings : (old between new : State T S) (t : ℕ) → NoneDueAnyMore between new → MayGoOn old new t → MayGoOn old between t
  before_rings old between new t rung_for goes = by_case goes
    where
      accepted : accepted_at new t ≡ accepted_at between t
      accepted = ap (option_map (λ send. send.accepted)) (rung_for.sends t) ∙ accepted_kept (get between.sends t)

      mark_is : mark_at new t ≡ mark_at between t
      mark_is =
          ap (λ es. option_map (λ e. e.mark) (entry_of t es)) rung_for.entries
          ∙ ap (option_map (λ e. e.mark)) (entry_not_due t between.entries) ∙ mark_kept (entry_of t between.entries)

      by_case : MayGoOn old new t → MayGoOn old between t
      by_case (BecomesAccepted was is) = BecomesAccepted was (sym accepted ∙ is)
      by_case (BecomesWoken was is) = BecomesWoken was (sym mark_is ∙ is)
      by_case (BecomesFilled m was is) = BecomesFilled m was (sym mark_is ∙ is)
      by_case (ChannelCloses was is open_ closed) =
          ChannelCloses was (sym accepted ∙ is) open_
          (ap (λ s. min s.senders s.receivers) (sym rung_for.rest) ∙ closed)

module _ {T A S : Type 0} where
  -- the ticket of a live send, or of a parked receiver, was issued
  send_below : (o : Opening) (log : Log T A) (s : State T S) → Represents o log s → (t : ℕ) (accepted : Bool)
      → accepted_at s t ≡ Some accepted
      → t < s.next_ticket
  send_below o log s h t accepted e =
      let live = (live_by _ _ accepted (sym (h.sends_are t) ∙ e)).0 in rw h.next_is (sides_apart o log h.run t live).0

  receiver_below : (o : Opening) (log : Log T A) (s : State T S) → Represents o log s → (t : ℕ) (m : Mark T) → mark_at s t ≡ Some m
      → t < s.next_ticket
  receiver_below o log s h t m e = by_case (entry_of t s.entries) refl
    where
      by_case : (found : Option (Entry T (Notice S))) → entry_of t s.entries ≡ found → t < s.next_ticket
      by_case None is = let none = rw is at e in absurd (let no : ⊥ = cc in no)
      by_case (Some x) is =
          rw h.next_is (found_below (next_ticket o log) t (bare x) (entries o log) (entry_at_log h t ∙ ap (option_map bare) is)
          (entries_apart o log h.run))

  -- whoever may go on after some steps is due
  due_then : (o : Opening) (log : Log T A) {old between : State T S} {made : List (Step T × Reply T A)} → Represents o log old
      → StepsBetween old made between → (t : ℕ) → MayGoOn old between t → Due between t
  due_then o log {old} {between} h steps t (BecomesAccepted was is) =
      elim (sends_kept false t o log h steps (send_below o log old h t false was)
      (inl (is_blocked (get old.sends t) was, λ e. absurd (let none : ⊥ = cc in none)))) [
        | inl blocked ↦ absurd (not_blocked (get between.sends t) is blocked.0)
        | inr rest ↦ elim rest [
          | inl due ↦ inl due
          | inr none ↦ (let no = rw none at is in absurd (let none : ⊥ = cc in none))
        ]
      ]
  due_then o log {old} {between} h steps t (ChannelCloses was is open_ closed) =
      elim (sends_kept true t o log h steps (send_below o log old h t false was)
      (inl (is_blocked (get old.sends t) was, λ e. open_bit old.senders old.receivers open_))) [
        | inl blocked ↦ (let no = blocked.1 refl in
            let yes = closed_bit between.senders between.receivers closed in absurd (let none : ⊥ = cc in none))
        | inr rest ↦ elim rest [
          | inl due ↦ inl due
          | inr none ↦ (let no = rw none at is in absurd (let none : ⊥ = cc in none))
        ]
      ]
  due_then o log {old} {between} h steps t (BecomesWoken was is) =
      elim (receivers_kept t o log h steps (receiver_below o log old h t mark.Waiting was)
      (inl (marked (entry_of t old.entries) mark.Waiting was))) [
        | inl waits ↦ (let no = marked (entry_of t between.entries) mark.Woken is in absurd (let none : ⊥ = cc in none))
        | inr rest ↦ elim rest [
          | inl due ↦ inr due
          | inr none ↦ (let no = rw none at is in absurd (let none : ⊥ = cc in none))
        ]
      ]
  due_then o log {old} {between} h steps t (BecomesFilled m was is) =
      elim (receivers_kept t o log h steps (receiver_below o log old h t mark.Waiting was)
      (inl (marked (entry_of t old.entries) mark.Waiting was))) [
        | inl waits ↦ (let no = marked (entry_of t between.entries) (mark.Filled m) is in absurd (let none : ⊥ = cc in none))
        | inr rest ↦ elim rest [
          | inl due ↦ inr due
          | inr none ↦ (let no = rw none at is in absurd (let none : ⊥ = cc in none))
        ]
      ]

  -- a poll of at most one step is some steps
  pub polled_steps : {old new : State T S} → AtMostOneStep A old new → (made : List (Step T × Reply T A)) × StepsBetween old made new
  polled_steps {old} (NoStep same) = ([], subst (λ s. StepsBetween {A = A} old [] s) (sym same) NoSteps)
  polled_steps (OneStep step reply stepped) = ((step, reply) ∷ [], FirstStep stepped NoSteps)

  -- each call that may go on by these steps is rung for, if a round of rings follows them
  pub each_rung : {B : Type 0} (rings : B → ℕ → S → B → Type 0) {old between new : State T S} {bell rung : B} {made : List (Step T
      × Reply T A)}
      → IsReachable A old → StepsBetween old made between → Rings rings between bell new rung → EachIsRung rings old bell new rung
  each_rung rings {old} {between} {new} reachable steps rang =
      let list = listed rings rang in
      record {
        calls = list.calls;
        rang = list.rang;
        each = λ t goes. list.each t (due_then reachable.0 reachable.1 reachable.2 steps t
            (before_rings old between new t (all_not_due rings rang) goes));
      }
