-- The bell rings once for each ticket that is due.
use Rattle.std.specs.Prelude.{◌≡◌, ℕ, Some, map}
use Rattle.std.specs.Option.{option_map}
use Rattle.std.specs.FinMap.{get}
use Rattle.flume_model.specs.declared.entry.Entry.{Entry}
use Rattle.flume_state.specs.declared.notice.Notice.{Notice}
use Rattle.flume_state.specs.declared.sends.LiveSend.{LiveSend}
use Rattle.flume_state.specs.Notices.{no_longer_due}
use Rattle.flume_state.specs.Sends.{NoDueSend, with_notice}
use Rattle.flume_state.specs.Receivers.{NoDueReceiver}
use Rattle.flume_state.specs.State.{State}
use Rattle.flume_state.specs.Signals.{NamesDueTicket, signal_of}

module _ {B S : Type 0} (rings : B → ℕ → S → B → Type 0) {T : Type 0} where
  -- one ring for each due ticket, with the signal that it left last, until none is due
  pub data Rings : State T S → B → State T S → B → Type 0 where
    NoneDue : {s : State T S} {bell : B} → NoDueSend s.sends → NoDueReceiver s.entries
        → Rings s bell s bell
    Rung : {old named new : State T S} {bell rung end : B} {ticket : ℕ} {signal : S}
        → NamesDueTicket old named ticket → signal_of old ticket ≡ Some signal
        → rings bell ticket signal rung → Rings named rung new end → Rings old bell new end

-- this send, no longer due
abbrev pub send_not_due : {S : Type 0} → LiveSend S → LiveSend S
send_not_due = with_notice no_longer_due

module _ {T S : Type 0} where
  -- this entry, no longer due
  abbrev pub receiver_not_due : Entry T (Notice S) → Entry T (Notice S)
  receiver_not_due e = record e { notice = no_longer_due e.notice }

  -- nothing is due any more, and all else is as it was
  pub record NoneDueAnyMore (old new : State T S) : Type 0 where
    pub rest : new ≡ record old { sends = new.sends; entries = new.entries }
    pub sends : (ticket : ℕ) → get new.sends ticket ≡ option_map send_not_due (get old.sends ticket)
    pub entries : new.entries ≡ map receiver_not_due old.entries
