-- For every contract: which ticket is named as due, and the signal of a ticket.
use Rattle.std.specs.Prelude.{◌≡◌, ℕ, true, Option, Some, None}
use Rattle.std.specs.Option.{option_map, option_or}
use Rattle.std.specs.FinMap.{get}
use Rattle.flume_model.specs.Entries.{entry_of}
use Rattle.flume_state.specs.Notices.{no_longer_due}
use Rattle.flume_state.specs.Sends.{with_send_notice, is_due_send}
use Rattle.flume_state.specs.Receivers.{NamesReceiver}
use Rattle.flume_state.specs.State.{State}

module _ {T S : Type 0} where
  -- the signal that a live ticket left last
  abbrev pub signal_of : State T S → ℕ → Option S
  signal_of s t =
      option_or (option_map (λ send. send.notice.signal) (get s.sends t))
      (option_map (λ e. e.notice.signal) (entry_of t s.entries))

  -- a ticket that was due is named: one of a send, or of a parked receiver
  pub data NamesDueTicket (old new : State T S) (ticket : ℕ) : Type 0 where
    Send : is_due_send old.sends ticket ≡ true
        → new ≡ record old { sends = with_send_notice no_longer_due ticket old.sends }
        → NamesDueTicket old new ticket
    Receive : NamesReceiver old.entries new.entries ticket
        → new ≡ record old { entries = new.entries } → NamesDueTicket old new ticket
