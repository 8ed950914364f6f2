-- Which calls may go on since a call was made, and that it rings for each of them.
use Rattle.std.specs.Prelude.{◌≡◌, ℕ, true, false, Option, Some, List, [], ◌∷◌, Contains}
use Rattle.std.specs.Option.{option_map}
use Rattle.flume_model.specs.declared.entry.Mark.{Mark}
use Rattle.flume_model.specs.declared.entry.Mark.TheVariants.{Waiting, Woken, Filled}
use Rattle.flume_model.specs.Limits.{IsOpen, IsClosed}
use Rattle.flume_model.specs.Entries.{entry_of}
use Rattle.flume_state.specs.State.{State, accepted_at}
use Rattle.flume_state.specs.Signals.{signal_of}

module _ {T S : Type 0} where
  -- the mark of the receiver that is parked under a ticket
  abbrev pub mark_at : State T S → ℕ → Option (Mark T)
  mark_at s ticket = option_map (λ e. e.mark) (entry_of ticket s.entries)

  -- between these states a call that was parked under this ticket became able to go on
  pub data MayGoOn (old new : State T S) (ticket : ℕ) : Type 0 where
    BecomesAccepted : accepted_at old ticket ≡ Some false → accepted_at new ticket ≡ Some true
        → MayGoOn old new ticket
    BecomesWoken : mark_at old ticket ≡ Some Waiting → mark_at new ticket ≡ Some Woken
        → MayGoOn old new ticket
    BecomesFilled : (message : T) → mark_at old ticket ≡ Some Waiting
        → mark_at new ticket ≡ Some (Filled message) → MayGoOn old new ticket
    ChannelCloses : accepted_at old ticket ≡ Some false → accepted_at new ticket ≡ Some false
        → IsOpen old.senders old.receivers → IsClosed new.senders new.receivers
        → MayGoOn old new ticket

module _ {B S : Type 0} (rings : B → ℕ → S → B → Type 0) where
  -- the bell rings once for each of these tickets, in order
  pub data RingsFor : B → List (ℕ × S) → B → Type 0 where
    NoRing : {bell : B} → RingsFor bell [] bell
    FirstRing : {bell rung end : B} {ticket : ℕ} {signal : S} {later : List (ℕ × S)}
        → rings bell ticket signal rung → RingsFor rung later end
        → RingsFor bell ((ticket, signal) ∷ later) end

  -- the bell rang for each ticket whose call may go on since, with the signal that it left last
  pub record EachIsRung {T : Type 0} (old : State T S) (bell : B) (new : State T S) (rung : B)
      : Type 0 where
    pub calls : List (ℕ × S)
    pub rang : RingsFor bell calls rung
    pub each : (ticket : ℕ) → MayGoOn old new ticket
        → (signal : S) × (signal_of new ticket ≡ Some signal) × Contains calls (ticket, signal)
