-- How a parked receiver is answered that asks again or leaves, and what that leaves.
use Rattle.std.proofs.Common.{◌≡◌, ℕ, Bool, true, false, ◌&&◌, eqb, List, [], ◌∷◌, Option, Some, None, refl, sym, ◌∙◌, ap, ap₂, arith}
use Rattle.std.proofs.Common.{◌⊎◌, inl, inr, ⊎_elim}
use Rattle.std.specs.Option.{option_map}
use Rattle.std.proofs.lemmas.Bool.{or_left, or_right}
use Rattle.flume_model.specs.declared.step.Step.TheVariants.{Poll, Withdraw}
use Rattle.flume_model.specs.declared.step.Reply.{Reply}
use Rattle.flume_model.specs.declared.step.Reply.TheVariants.{NoTicket, Got, Ended, Waiting as WaitsOn, Gone}
use Rattle.flume_model.specs.declared.entry.Entry.{Entry}
use Rattle.flume_model.specs.declared.entry.Mark.TheVariants.{Filled}
use Rattle.flume_state.specs.declared.notice.Notice.{Notice}
use Rattle.flume_state.specs.declared.entries.ReceiverStatus.{ReceiverStatus}
use Rattle.flume_state.specs.declared.entries.ReceiverStatus.TheVariants.{Filled as IsFilled, BlockWaiting}
use Rattle.flume_state.specs.declared.entries.ReceiverStatus.TheVariants.{Waiting as IsWaiting, Woken as IsWoken}
use Rattle.flume_model.specs.Log.{Log, Opening, was_filled}
use Rattle.flume_model.specs.Counts.{senders, receivers}
use Rattle.flume_model.specs.Limits.{IsOpen, IsClosed, is_closed}
use Rattle.flume_model.specs.Line.{queue}
use Rattle.flume_model.specs.Entries.{is_woken, is_filled, entry_of, again, leave_fills, held_by, held_in}
use Rattle.flume_model.specs.Parked.{LogEntry, entries}
use Rattle.flume_model.specs.Channel.{channel}
use Rattle.flume_model.specs.WaitLaws.{is_block, block_woken}
use Rattle.flume_state.specs.Receivers.{status_of, receiver_status, looks_at_line, is_unfilled_block, with_receiver_notice}
use Rattle.flume_state.specs.State.{State, bare}
use Rattle.flume_core.specs.Represents.{Represents}
use Rattle.flume_state.specs.Effects.{with_front, after_take, without_receiver, after_withdrawal, with_peak}
use Rattle.flume_model.proofs.LawfulReplyLemmas.{fills_none}
use Rattle.flume_model.proofs.EntryShapeLemmas.{filled_if_named}
use Rattle.flume_model.proofs.waits.WokenBlockLemmas.{woken_block_while_closed}
use Rattle.flume_core.proofs.BareEntryLemmas.{bare_leave_fills}
use Rattle.flume_core.proofs.ViewLemmas.{entry_at_log, queue_at_log, open_at_log, closed_at_log, none_mapped}
use Rattle.flume_core.proofs.InvariantLemmas.{still}
use Rattle.flume_core.proofs.TakeLemmas.{takes}
use Rattle.flume_core.proofs.ReceiveLemmas.{asks, collects, departs, departed_empty}
use Rattle.flume_core.proofs.AnsweringLemmas.{empty_line, front_line, fronted_empty, closed_as}
use Rattle.flume_core.proofs.AskedMarkLemmas.{looks_unfilled, blocks_unfilled, other_parts, filled_with, polled_collected, gone_collected}
use Rattle.flume_core.proofs.AskedMarkLemmas.{polled_got, polled_ended, polled_waits, polled_blocked, gone_got, gone_none, gone_other}

module _ {T : Type 0} where
  -- a woken entry that blocks is one of them
  woken_among : (t : ℕ) (e : LogEntry T) (es : List (LogEntry T)) → entry_of t es ≡ Some e → (is_block e.kind && is_woken e.mark) ≡ true
      → block_woken es ≡ true
  woken_among t e [] found woken = absurd (let none : ⊥ = cc in none)
  woken_among t e (x ∷ es) found woken = by_case (eqb x.ticket t) refl (woken_among t e es)
    where
      by_case : (b : Bool) → eqb x.ticket t ≡ b
          → (entry_of t es ≡ Some e → (is_block e.kind && is_woken e.mark) ≡ true → block_woken es ≡ true) → block_woken (x ∷ es) ≡ true
      by_case true f rest =
          let at = simp f at found in
          let same : x ≡ e = cc in
          or_left _ _ (ap (λ y. is_block y.kind && is_woken y.mark) same ∙ woken)
      by_case false f rest = or_right _ _ (rest (simp f at found) woken)

module _ {T S : Type 0} where
  -- if there is one, there is an entry
  one_found : (found : Option (Entry T (Notice S))) (st : ReceiverStatus) → option_map status_of found ≡ Some st
      → (e : Entry T (Notice S)) × (found ≡ Some e) × (status_of e ≡ st)
  one_found None st e = absurd (let no : ⊥ = cc in no)
  one_found (Some x) st e = (x, refl, (let same : status_of x ≡ st = cc in same))

module _ {T A S : Type 0} where
  -- an entry of the state in the log
  entry_in_log : {o : Opening} {log : Log T A} {s : State T S} → Represents o log s → (t : ℕ) (e : Entry T (Notice S))
      → entry_of t s.entries ≡ Some e → entry_of t (entries o log) ≡ Some (bare e)
  entry_in_log {o} {log} {s} h t e found = entry_at_log h t ∙ ap (option_map bare) found

  -- such an entry was filled or not as its mark says
  filled_in_log : {o : Opening} {log : Log T A} {s : State T S} → Represents o log s → (t : ℕ) (e : Entry T (Notice S)) (b : Bool)
      → entry_of t s.entries ≡ Some e → is_filled e.mark ≡ b → was_filled log t ≡ b
  filled_in_log {o} {log} {s} h t e b found is = filled_if_named o log h.run t (bare e) (entry_in_log h t e found) ∙ is

  -- nobody is parked under the ticket
  pub poll_none : (o : Opening) (log : Log T A) (s new : State T S) (t : ℕ) → Represents o log s
      → receiver_status t s.entries ≡ None → new ≡ s → Represents o ((Poll t, NoTicket) ∷ log) new
  poll_none o log s new t h none is =
      let found = none_mapped status_of (entry_of t s.entries) none in
      still o log _ s new h (rw (entry_at_log h t, found) tt) refl is

  pub withdraw_none : (o : Opening) (log : Log T A) (s new : State T S) (t : ℕ) → Represents o log s
      → receiver_status t s.entries ≡ None → new ≡ s → Represents o ((Withdraw t, NoTicket) ∷ log) new
  withdraw_none o log s new t h none is =
      let found = none_mapped status_of (entry_of t s.entries) none in
      still o log _ s new h (rw (entry_at_log h t, found) tt) refl is

  -- a filled one gets its message
  pub poll_collects : (o : Opening) (log : Log T A) (s new : State T S) (t : ℕ) (r : Reply T A) → Represents o log s
      → receiver_status t s.entries ≡ Some IsFilled → (m : T) × (held_by (entry_of t s.entries) ≡ Some m) × (r ≡ Got m)
      → new ≡ without_receiver t s → Represents o ((Poll t, r) ∷ log) new
  poll_collects o log s new t r h represents got is =
      let at = one_found (entry_of t s.entries) IsFilled represents in
      let filled = filled_with at.0.kind at.0.mark at.2 in
      let held : Some filled.0 ≡ Some got.0 = sym (ap held_by at.1 ∙ ap held_in filled.1) ∙ got.1 in
      let same : filled.0 ≡ got.0 = cc in
      let in_log = filled_in_log h t at.0 true at.1 (ap is_filled filled.1) in
      rw got.2 (collects o log _ s new t h
      (rw (entry_in_log h t at.0 at.1) (polled_collected A (channel o log) at.0.kind at.0.mark got.0 (filled.1 ∙ ap (λ x. Filled x) same)))
      (rw in_log refl) is)

  pub withdraw_collects : (o : Opening) (log : Log T A) (s new : State T S) (t : ℕ) (r : Reply T A) → Represents o log s
      → receiver_status t s.entries ≡ Some IsFilled → (m : T) × (held_by (entry_of t s.entries) ≡ Some m) × (r ≡ Got m)
      → new ≡ without_receiver t s → Represents o ((Withdraw t, r) ∷ log) new
  withdraw_collects o log s new t r h represents got is =
      let at = one_found (entry_of t s.entries) IsFilled represents in
      let filled = filled_with at.0.kind at.0.mark at.2 in
      let held : Some filled.0 ≡ Some got.0 = sym (ap held_by at.1 ∙ ap held_in filled.1) ∙ got.1 in
      let same : filled.0 ≡ got.0 = cc in
      let in_log = filled_in_log h t at.0 true at.1 (ap is_filled filled.1) in
      rw got.2 (collects o log _ s new t h
      (rw (entry_in_log h t at.0 at.1) (gone_collected A (channel o log) t at.0.kind at.0.mark got.0 (filled.1 ∙ ap (λ x. Filled x) same)))
      (rw in_log refl) is)

  -- one that blocks and waits, waits on
  pub poll_waits : (o : Opening) (log : Log T A) (s new : State T S) (t : ℕ) (f : Notice S → Notice S) → Represents o log s
      → receiver_status t s.entries ≡ Some BlockWaiting → new ≡ with_peak (again t (with_receiver_notice f t s.entries)) s
      → Represents o ((Poll t, WaitsOn) ∷ log) new
  poll_waits o log s new t f h represents is =
      let at = one_found (entry_of t s.entries) BlockWaiting represents in
      asks o log _ s new t f h (rw (entry_in_log h t at.0 at.1) (polled_blocked A (channel o log) at.0.kind at.0.mark at.2)) refl is

  -- one that looks takes the front
  pub poll_takes : (o : Opening) (log : Log T A) (s new : State T S) (t : ℕ) (st : ReceiverStatus) (m : T) (rest : List T)
      → Represents o log s
      → receiver_status t s.entries ≡ Some st → looks_at_line (Some st) ≡ true → (with_front s).queue ≡ m ∷ rest
      → new ≡ without_receiver t (after_take rest s)
      → Represents o ((Poll t, Got m) ∷ log) new
  poll_takes o log s new t st m rest h represents looking front is =
      let at = one_found (entry_of t s.entries) st represents in
      let look : looks_at_line (Some (status_of at.0)) ≡ true = ap (λ x. looks_at_line (Some x)) at.2 ∙ looking in
      let in_log = filled_in_log h t at.0 false at.1 (looks_unfilled at.0.kind at.0.mark look) in
      takes o log _ s new m (Some t) rest h
      (rw (entry_in_log h t at.0 at.1) (polled_got A (channel o log) at.0.kind at.0.mark m look (front_line o log s m rest h front)))
      (rw in_log refl) front is

  -- one that looks finds the channel at its end
  pub poll_ends : (o : Opening) (log : Log T A) (s new : State T S) (t : ℕ) (st : ReceiverStatus) → Represents o log s
      → receiver_status t s.entries ≡ Some st → looks_at_line (Some st) ≡ true → (with_front s).queue ≡ [] → IsClosed s.senders s.receivers
      → new ≡ without_receiver t s → Represents o ((Poll t, Ended) ∷ log) new
  poll_ends o log s new t st h represents looking none closed is =
      let at = one_found (entry_of t s.entries) st represents in
      let look : looks_at_line (Some (status_of at.0)) ≡ true = ap (λ x. looks_at_line (Some x)) at.2 ∙ looking in
      let empty_ : s.queue ≡ [] = fronted_empty s none in
      departs o log _ s new t None h
      (rw (entry_in_log h t at.0 at.1)
      (polled_ended A (channel o log) at.0.kind at.0.mark look (empty_line o log s h none) (closed_at_log h closed)))
      refl (sym (fills_none t s.queue s.entries empty_)) (is ∙ sym (departed_empty t s empty_))

  -- one that looks waits on, or again
  pub poll_waits_on : (o : Opening) (log : Log T A) (s new : State T S) (t : ℕ) (st : ReceiverStatus) (f : Notice S → Notice S)
      → Represents o log s
      → receiver_status t s.entries ≡ Some st → looks_at_line (Some st) ≡ true → (with_front s).queue ≡ [] → IsOpen s.senders s.receivers
      → new ≡ with_peak (again t (with_receiver_notice f t s.entries)) s → Represents o ((Poll t, WaitsOn) ∷ log) new
  poll_waits_on o log s new t st f h represents looking none open_ is =
      let at = one_found (entry_of t s.entries) st represents in
      let look : looks_at_line (Some (status_of at.0)) ≡ true = ap (λ x. looks_at_line (Some x)) at.2 ∙ looking in
      let is_open = open_at_log h open_ in
      asks o log _ s new t f h
      (rw (entry_in_log h t at.0 at.1)
      (polled_waits A (channel o log) at.0.kind at.0.mark look (empty_line o log s h none) is_open (not_woken at.0 at.1 is_open)))
      refl is
    where
      not_woken : (e : Entry T (Notice S)) → entry_of t s.entries ≡ Some e → IsOpen (senders log) (receivers log)
          → (is_block e.kind && is_woken e.mark) ≡ false
      not_woken e found is_open = by_case (is_block e.kind && is_woken e.mark) refl
        where
          by_case : (b : Bool) → (is_block e.kind && is_woken e.mark) ≡ b → (is_block e.kind && is_woken e.mark) ≡ false
          by_case false other = other
          by_case true woken =
              let shut = (woken_block_while_closed o log h.run
              (woken_among t (bare e) (entries o log) (entry_in_log h t e found) woken)).0 in
              absurd (omega (arith, is_open, shut))

  -- one that blocks leaves with the front
  pub withdraw_takes : (o : Opening) (log : Log T A) (s new : State T S) (t : ℕ) (st : ReceiverStatus) (m : T) (rest : List T)
      → Represents o log s
      → receiver_status t s.entries ≡ Some st → is_unfilled_block (Some st) ≡ true → (with_front s).queue ≡ m ∷ rest
      → new ≡ without_receiver t (after_take rest s)
      → Represents o ((Withdraw t, Got m) ∷ log) new
  withdraw_takes o log s new t st m rest h represents blocking front is =
      let at = one_found (entry_of t s.entries) st represents in
      let block : is_unfilled_block (Some (status_of at.0)) ≡ true = ap (λ x. is_unfilled_block (Some x)) at.2 ∙ blocking in
      let in_log = filled_in_log h t at.0 false at.1 (blocks_unfilled at.0.kind at.0.mark block) in
      takes o log _ s new m (Some t) rest h
      (rw (entry_in_log h t at.0 at.1) (gone_got A (channel o log) t at.0.kind at.0.mark m block (front_line o log s m rest h front)))
      (rw in_log refl) front is

  -- one that blocks leaves with no message
  pub withdraw_leaves : (o : Opening) (log : Log T A) (s new : State T S) (t : ℕ) (st : ReceiverStatus) (closed : Bool) → Represents o log s
      → receiver_status t s.entries ≡ Some st → is_unfilled_block (Some st) ≡ true → (with_front s).queue ≡ []
      → closed ≡ is_closed s.senders s.receivers
      → new ≡ without_receiver t s → Represents o ((Withdraw t, Gone closed None) ∷ log) new
  withdraw_leaves o log s new t st closed h represents blocking none closed_is is =
      let at = one_found (entry_of t s.entries) st represents in
      let block : is_unfilled_block (Some (status_of at.0)) ≡ true = ap (λ x. is_unfilled_block (Some x)) at.2 ∙ blocking in
      let empty_ : s.queue ≡ [] = fronted_empty s none in
      departs o log _ s new t None h
      (rw (entry_in_log h t at.0 at.1)
      (gone_none A (channel o log) t at.0.kind at.0.mark closed block (empty_line o log s h none) (closed_is ∙ closed_as o log s h)))
      refl (sym (fills_none t s.queue s.entries empty_)) (is ∙ sym (departed_empty t s empty_))

  -- one of another kind leaves, and passes its wake on
  pub withdraw_passes : (o : Opening) (log : Log T A) (s new : State T S) (t : ℕ) (st : ReceiverStatus) (closed : Bool) (filled : Option ℕ)
      → Represents o log s → receiver_status t s.entries ≡ Some st → (st ≡ IsWaiting) ⊎ (st ≡ IsWoken)
      → closed ≡ is_closed s.senders s.receivers → filled ≡ leave_fills t s.queue s.entries → new ≡ after_withdrawal t s
      → Represents o ((Withdraw t, Gone closed filled) ∷ log) new
  withdraw_passes o log s new t st closed filled h represents other closed_is fills is =
      let at = one_found (entry_of t s.entries) st represents in
      let parts = other_parts at.0.kind at.0.mark (⊎_elim (λ a. inl (at.2 ∙ a)) (λ b. inr (at.2 ∙ b)) other) in
      let same : leave_fills t s.queue s.entries ≡ leave_fills t (queue o log) (entries o log) =
      sym (bare_leave_fills t s.queue s.entries) ∙ ap₂ (λ q es. leave_fills t q es) (sym (queue_at_log h)) h.entries_are in
      departs o log _ s new t filled h
      (rw (entry_in_log h t at.0 at.1)
      (gone_other A (channel o log) t at.0.kind at.0.mark closed filled parts.0 parts.1 (closed_is ∙ closed_as o log s h) (fills ∙ same)))
      refl fills is
