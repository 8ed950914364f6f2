-- What a round of rings leaves, and which signal each ring has.
use Rattle.std.proofs.Common.{◌≡◌, ◌≢◌, ℕ, Bool, true, false, eqb, [], ◌∷◌, ◌++◌, map, Option, Some, None, refl, sym, ap, ◌∙◌}
use Rattle.std.proofs.Common.{suc, cond, eqb-true, arith}
use Rattle.std.proofs.lemmas.Bool.{eqb-false, eq-eqb}
use Rattle.std.proofs.lemmas.List.{map-append}
use Rattle.std.specs.FinMap.{get}
use Rattle.std.specs.Option.{option_map, option_or}
use Rattle.flume_model.specs.Entries.{entry_of}
use Rattle.flume_model.specs.declared.entry.Entry.{Entry}
use Rattle.flume_state.specs.declared.notice.Notice.{Notice}
use Rattle.flume_state.specs.declared.sends.LiveSend.{LiveSend}
use Rattle.flume_state.specs.Notices.{no_longer_due}
use Rattle.flume_state.specs.Sends.{SendMap, with_send_notice, send_due_in, NoDueSend}
use Rattle.flume_state.specs.Receivers.{EntryList, NoDueReceiver}
use Rattle.flume_state.proofs.SendMapLemmas.{get-changed_same, get-changed_other}
use Rattle.flume_state.specs.State.{State}
use Rattle.flume_state.specs.Signals.{NamesDueTicket, Send, Receive, signal_of}
use Rattle.flume_calls.specs.Rings.{Rings, NoneDue, Rung, NoneDueAnyMore, receiver_not_due, send_not_due}

module _ {S : Type 0} where
  -- a due send has a signal
  due_signal : (o : Option (LiveSend S)) → send_due_in o ≡ true → (signal : S) × (option_map (λ send. send.notice.signal) o ≡ Some signal)
  due_signal None due = absurd (let none : ⊥ = cc in none)
  due_signal (Some send) due = (send.notice.signal, refl)

  -- a send's signal goes before
  some_signal : (send parked : Option S) → ((signal : S) × (parked ≡ Some signal)) → (signal : S) × (option_or send parked ≡ Some signal)
  some_signal None parked is = is
  some_signal (Some signal) parked is = (signal, refl)

  -- telling keeps its signal
  not_due_signal : (o : Option (LiveSend S))
      → option_map (λ send. send.notice.signal) (option_map send_not_due o) ≡ option_map (λ send. send.notice.signal) o
  not_due_signal None = refl
  not_due_signal (Some send) = refl

  -- telling a ticket keeps the signal of each send
  signals_stay : (m : SendMap S) (k t : ℕ)
      → option_map (λ send. send.notice.signal) (get (with_send_notice no_longer_due k m) t) ≡ option_map (λ send. send.notice.signal)
      (get m t)
  signals_stay m k t = go (eqb t k) refl
    where
      go : (b : Bool) → eqb t k ≡ b
          → option_map (λ send. send.notice.signal) (get (with_send_notice no_longer_due k m) t) ≡ option_map (λ send. send.notice.signal)
          (get m t)
      go true e =
          let same : t ≡ k = eqb-true t k e in
          rw same (ap (option_map (λ send. send.notice.signal)) (get-changed_same m k send_not_due) ∙ not_due_signal (get m k))
      go false e = ap (option_map (λ send. send.notice.signal)) (get-changed_other m k send_not_due t (eqb-false t k e))

  -- to tell twice is to tell once
  not_due_twice : (o : Option (LiveSend S)) → option_map send_not_due (option_map send_not_due o) ≡ option_map send_not_due o
  not_due_twice None = refl
  not_due_twice (Some send) = refl

  -- telling changes nothing of one that isn't due
  idle_not_due : (o : Option (LiveSend S)) → send_due_in o ≡ false → o ≡ option_map send_not_due o
  idle_not_due None idle = refl
  idle_not_due (Some send) idle = ap (λ (b : Bool). Some (record send { notice = record send.notice { due = b } })) idle

  -- all named, with one named before
  not_due_after : (m : SendMap S) (k t : ℕ) → option_map send_not_due (get (with_send_notice no_longer_due k m) t) ≡ option_map send_not_due
      (get m t)
  not_due_after m k t = go (eqb t k) refl
    where
      go : (b : Bool) → eqb t k ≡ b
          → option_map send_not_due (get (with_send_notice no_longer_due k m) t) ≡ option_map send_not_due (get m t)
      go true e =
          let same : t ≡ k = eqb-true t k e in
          rw same (ap (option_map send_not_due) (get-changed_same m k send_not_due) ∙ not_due_twice (get m k))
      go false e = ap (option_map send_not_due) (get-changed_other m k send_not_due t (eqb-false t k e))

module _ {T S : Type 0} where
  -- the signal of the first entry with a ticket
  abbrev entry_signal : ℕ → EntryList T S → Option S
  entry_signal t entries = option_map (λ e. e.notice.signal) (entry_of t entries)

  -- telling an entry keeps each ticket's signal
  signal_kept : (before : EntryList T S) (e : Entry T (Notice S)) (later : EntryList T S) (t : ℕ)
      → entry_signal t (before ++ receiver_not_due e ∷ later) ≡ entry_signal t (before ++ e ∷ later)
  signal_kept [] e later t =
      elim (eqb e.ticket t) as (λ b. option_map (λ e. e.notice.signal) (cond b (Some (receiver_not_due e)) (entry_of t later))
      ≡ option_map (λ e. e.notice.signal) (cond b (Some e) (entry_of t later))) [ true ↦ refl | false ↦ refl ]
  signal_kept (x ∷ before) e later t =
      elim (eqb x.ticket t) as (λ b. option_map (λ e. e.notice.signal) (cond b (Some x) (entry_of t (before ++ receiver_not_due e ∷ later)))
      ≡ option_map (λ e. e.notice.signal) (cond b (Some x) (entry_of t (before ++ e ∷ later))))
      [ true ↦ refl | false ↦ signal_kept before e later t ]

  -- one that is parked has a signal
  parked_signal : (before : EntryList T S) (e : Entry T (Notice S)) (later : EntryList T S)
      → (signal : S) × (entry_signal e.ticket (before ++ e ∷ later) ≡ Some signal)
  parked_signal [] e later =
      let same : eqb e.ticket e.ticket ≡ true = eq-eqb e.ticket e.ticket refl in (e.notice.signal, rw same refl)
  parked_signal (x ∷ before) e later =
      elim (eqb x.ticket e.ticket) as (λ b. (signal : S)
      × (option_map (λ e. e.notice.signal) (cond b (Some x) (entry_of e.ticket (before ++ e ∷ later))) ≡ Some signal))
      [ true ↦ (x.notice.signal, refl) | false ↦ parked_signal before e later ]

  -- an entry that is found in the list so has a signal
  found_signal : (entries before : EntryList T S) (e : Entry T (Notice S)) (later : EntryList T S) (t : ℕ)
      → entries ≡ before ++ e ∷ later → e.ticket ≡ t → (signal : S) × (entry_signal t entries ≡ Some signal)
  found_signal entries before e later t found is =
      let parked = parked_signal before e later in (parked.0, rw (found, ← is) parked.1)

  -- one that is named has a signal
  named_signal : (old new : State T S) (t : ℕ) → NamesDueTicket old new t → (signal : S) × (signal_of old t ≡ Some signal)
  named_signal old new t (Send due is) =
      let send = due_signal (get old.sends t) due in (send.0, rw send.1 refl)
  named_signal old new t (Receive tells is) =
      some_signal _ _ (found_signal old.entries tells.before tells.entry tells.later t tells.found tells.is_it)

  -- naming one keeps each ticket's signal
  pub named_keeps : (old new : State T S) (k : ℕ) → NamesDueTicket old new k → (t : ℕ) → signal_of new t ≡ signal_of old t
  named_keeps old new k (Send due is) t =
      let same = ap (λ s. option_map (λ send. send.notice.signal) (get s.sends t)) is ∙ signals_stay old.sends k t in
      let entries : new.entries ≡ old.entries = ap (λ s. s.entries) is in λ i. option_or (same i) (entry_signal t (entries i))
  named_keeps old new k (Receive tells is) t =
      let sends : new.sends ≡ old.sends = ap (λ s. s.sends) is in
      let kept : entry_signal t new.entries ≡ entry_signal t old.entries =
      ap (entry_signal t) tells.named ∙ signal_kept tells.before tells.entry tells.later t ∙ sym (ap (entry_signal t) tells.found) in
      λ i. option_or (option_map (λ send. send.notice.signal) (get (sends i) t)) (kept i)

  -- its signal is the one that it left, before and after
  pub left_signal : (old new : State T S) (t : ℕ) → NamesDueTicket old new t
      → (signal : S) × (signal_of old t ≡ Some signal) × (signal_of new t ≡ Some signal)
  left_signal old new t named =
      let left = named_signal old new t named in (left.0, left.1, named_keeps old new t named t ∙ left.1)

  -- one that was named has a signal
  pub still_signal : (old new : State T S) (t : ℕ) → NamesDueTicket old new t → signal_of new t ≢ None
  still_signal old new t named none =
      let signal = named_signal old new t named in
      let kept = named_keeps old new t named t in
      let there : signal_of old t ≡ Some signal.0 = signal.1 in absurd (let none : ⊥ = cc in none)

  -- a state that is another but for its sends and entries is so with its own ones
  rest_from : (old named : State T S) (m : SendMap S) (es : EntryList T S) → named ≡ record old { sends = m; entries = es }
      → named ≡ record old { sends = named.sends; entries = named.entries }
  rest_from old named m es e =
      let back = sym e in e ∙ (λ i. record old { sends = (back i).sends; entries = (back i).entries })

  -- naming one leaves all else
  named_rest : (old named : State T S) (t : ℕ) → NamesDueTicket old named t
      → named ≡ record old { sends = named.sends; entries = named.entries }
  named_rest old named t (Send due is) = rest_from old named (with_send_notice no_longer_due t old.sends) old.entries is
  named_rest old named t (Receive tells is) = rest_from old named old.sends named.entries is

  -- naming one leaves all sends, once named, the same
  named_sends : (old named : State T S) (t : ℕ) → NamesDueTicket old named t → (k : ℕ)
      → option_map send_not_due (get named.sends k) ≡ option_map send_not_due (get old.sends k)
  named_sends old named t (Send due is) k = ap (λ s. option_map send_not_due (get s.sends k)) is ∙ not_due_after old.sends t k
  named_sends old named t (Receive tells is) k = ap (λ s. option_map send_not_due (get s.sends k)) is

  -- naming one leaves all entries, once named, the same
  named_entries : (old named : State T S) (t : ℕ) → NamesDueTicket old named t
      → map receiver_not_due named.entries ≡ map receiver_not_due old.entries
  named_entries old named t (Send due is) = ap (λ s. map receiver_not_due s.entries) is
  named_entries old named t (Receive tells is) =
      ap (map receiver_not_due) tells.named ∙ map-append receiver_not_due tells.before _
      ∙ sym (ap (map receiver_not_due) tells.found ∙ map-append receiver_not_due tells.before _)

  -- all named, with one named before
  first_not_due : (old named new : State T S) (t : ℕ) → NamesDueTicket old named t → NoneDueAnyMore named new → NoneDueAnyMore old new
  first_not_due old named new t names all =
      let others = named_rest old named t names in
      record {
        rest = all.rest ∙ (λ i. record (others i) { sends = new.sends; entries = new.entries });
        sends = λ k. all.sends k ∙ named_sends old named t names k;
        entries = all.entries ∙ named_entries old named t names;
      }

  -- telling changes no entry that isn't due
  idle_entries : (entries : EntryList T S) → NoDueReceiver entries → entries ≡ map receiver_not_due entries
  idle_entries [] idle = refl
  idle_entries (e ∷ entries) idle =
      let first : e ≡ receiver_not_due e =
      ap (λ (b : Bool). record e { notice = record e.notice { due = b } }) (idle 0 e (omega arith)) in
      let others = idle_entries entries (λ k d within. idle (suc k) d (omega (arith, within))) in λ i. first i ∷ others i

  -- nothing due: all are named
  nothing_due : (s : State T S) → NoDueSend s.sends → NoDueReceiver s.entries → NoneDueAnyMore s s
  nothing_due s sends entries = record {
    rest = refl;
    sends = λ t. idle_not_due (get s.sends t) (sends t);
    entries = idle_entries s.entries entries;
  }

module _ {B S : Type 0} (rings : B → ℕ → S → B → Type 0) {T : Type 0} where
  -- after a round of rings nothing is due
  pub none_left : {old new : State T S} {bell end : B} → Rings rings old bell new end → NoDueSend new.sends × NoDueReceiver new.entries
  none_left (NoneDue sends entries) = (sends, entries)
  none_left (Rung named signal rung rest) = none_left rest

  -- after a round of rings all are named, and all else is as it was
  pub all_not_due : {old new : State T S} {bell end : B} → Rings rings old bell new end → NoneDueAnyMore old new
  all_not_due (NoneDue sends entries) = nothing_due _ sends entries
  all_not_due (Rung named signal rung rest) = first_not_due _ _ _ _ named (all_not_due rest)
