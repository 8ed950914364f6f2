-- What each turn of a receive says of the state before it and the state after it, by its answer.
use Rattle.std.specs.Prelude.{◌≡◌, ℕ, ◌≤◌, ◌↔◌, ◌⊎◌, Bool, true, false, Option, Some, None, Ok, Err}
use Rattle.std.specs.Prelude.{List, ◌∷◌, []}
use Rattle.flume_model.specs.declared.step.Kind.{Kind}
use Rattle.flume_model.specs.Limits.{IsOpen, IsClosed, most}
use Rattle.flume_model.specs.Entries.{entry_of, held_by, again}
use Rattle.flume_state.specs.Receivers.{receiver_status, looks_at_line, is_unfilled_block}
use Rattle.flume_state.specs.Receivers.{with_receiver_notice, waits_on}
use Rattle.flume_state.specs.declared.entries.ReceiverStatus.TheVariants.{BlockWaiting}
use Rattle.flume_state.specs.State.{State}
use Rattle.flume_state.specs.Effects.{with_front, after_take, without_receiver, with_peak}
use Rattle.flume_state.specs.Effects.{Begins, Departs}
use Rattle.flume_core.specs.declared.error.RecvTimeoutError.{RecvTimeoutError}
use Rattle.flume_core.specs.declared.error.RecvTimeoutError.TheVariants.{Timeout, Disconnected}
use Rattle.flume_core.specs.declared.error.RecvTimeoutError.TheVariants.{NoMemory}
use Rattle.flume_calls.specs.declared.calls.receive.RecvNext.{RecvNext}
use Rattle.flume_calls.specs.declared.calls.receive.RecvNext.TheVariants.{Done, NeedSignal, Park}
use Rattle.flume_calls.specs.ReceiveTurns.{GivesNone}

module _ {T S : Type 0} where
  -- the first turn
  pub record FirstReceiveOutcome (old new : State T S) (next : RecvNext T) : Type 0 where
    pub got : (message : T) (rest : List T) → (with_front old).queue ≡ message ∷ rest
        → (next ≡ Done (Ok message)) × (new ≡ after_take rest old)
    pub disconnected : (next ≡ Done (Err Disconnected))
        ↔ ((with_front old).queue ≡ []) × IsClosed old.senders old.receivers
    pub need_signal : (next ≡ NeedSignal)
        ↔ ((with_front old).queue ≡ []) × IsOpen old.senders old.receivers
    pub unchanged : GivesNone next → new ≡ old

  -- the turn that may park, with its kind and its signal
  pub record ParkReceiveOutcome (kind : Kind) (signal : S) (old new : State T S)
      (next : RecvNext T) : Type 0 where
    pub got : (message : T) (rest : List T) → (with_front old).queue ≡ message ∷ rest
        → (next ≡ Done (Ok message)) × (new ≡ after_take rest old)
    pub disconnected : (next ≡ Done (Err Disconnected))
        ↔ ((with_front old).queue ≡ []) × IsClosed old.senders old.receivers
    pub parked : (ticket : ℕ) → next ≡ Park ticket → Begins old new ticket kind signal
    pub spent : (with_front old).queue ≡ [] → IsOpen old.senders old.receivers
        → most ≤ old.next_ticket
        → next ≡ Done (Err NoMemory)
    pub unchanged : (error : RecvTimeoutError) → next ≡ Done (Err error) → new ≡ old

  -- a turn of the receive parked under this ticket; the signal replaces the one that it left
  pub record AgainReceiveOutcome (call : ℕ) (last : Bool) (signal : Option S)
      (old new : State T S) (next : RecvNext T) : Type 0 where
    pub waits : (next ≡ Park call) ↔ (last ≡ false)
        × ((receiver_status call old.entries ≡ Some BlockWaiting)
        ⊎ ((looks_at_line (receiver_status call old.entries) ≡ true)
        × ((with_front old).queue ≡ []) × IsOpen old.senders old.receivers))
    pub replaced : next ≡ Park call
        → new ≡ with_peak (again call (with_receiver_notice (waits_on signal) call old.entries)) old
    pub collected : (message : T) → held_by (entry_of call old.entries) ≡ Some message
        → (next ≡ Done (Ok message)) × (new ≡ without_receiver call old)
    pub got : (message : T) (rest : List T) → last ≡ false
        → looks_at_line (receiver_status call old.entries) ≡ true
        → (with_front old).queue ≡ message ∷ rest
        → (next ≡ Done (Ok message)) × (new ≡ without_receiver call (after_take rest old))
    pub got_if_last : (message : T) (rest : List T) → last ≡ true
        → is_unfilled_block (receiver_status call old.entries) ≡ true
        → (with_front old).queue ≡ message ∷ rest
        → (next ≡ Done (Ok message)) × (new ≡ without_receiver call (after_take rest old))
    pub ended : last ≡ false → looks_at_line (receiver_status call old.entries) ≡ true
        → (with_front old).queue ≡ [] → IsClosed old.senders old.receivers
        → (next ≡ Done (Err Disconnected)) × (new ≡ without_receiver call old)
    pub no_ticket : entry_of call old.entries ≡ None
        → (next ≡ Done (Err Disconnected)) × (new ≡ old)
    pub timeout : next ≡ Done (Err Timeout)
        → (last ≡ true) × (filled : Option ℕ) × Departs old new call false filled
    pub disconnected : next ≡ Done (Err Disconnected) → last ≡ true
        → ((entry_of call old.entries ≡ None) × (new ≡ old))
        ⊎ ((filled : Option ℕ) × Departs old new call true filled)
