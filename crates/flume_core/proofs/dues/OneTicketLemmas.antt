-- Which tickets are due, of one ticket: how its send or its receiver was, and how it is.
use Rattle.std.proofs.Common.{◌≡◌, Bool, true, false, not, ◌&&◌, ◌||◌, if◌then◌else◌, Option, Some, None, refl, ap}
use Rattle.std.specs.Option.{option_map}
use Rattle.flume_model.specs.declared.entry.Entry.{Entry}
use Rattle.flume_model.specs.declared.entry.Mark.{Mark}
use Rattle.flume_model.specs.Entries.{is_waiting, marked}
use Rattle.flume_state.specs.declared.notice.Notice.{Notice}
use Rattle.flume_state.specs.declared.sends.LiveSend.{LiveSend}
use Rattle.flume_state.specs.Notices.{due_now, with_signal}
use Rattle.flume_state.specs.Sends.{newly_blocked, accepted_now, with_notice}
use Rattle.flume_state.specs.Due.{SendDue, ReceiverDue, blocked_in, receiver_due_in}

-- nothing became of a send
kept_bits : (a d : Bool) → d ≡ (d || (not a && a) || false)
kept_bits true true = refl
kept_bits true false = refl
kept_bits false true = refl
kept_bits false false = refl

-- it was accepted
accepted_bits : (a d c : Bool) → not a ≡ true → true ≡ (d || (not a && true) || (c && not a))
accepted_bits true d c e = absurd (let none : ⊥ = cc in none)
accepted_bits false true c e = refl
accepted_bits false false c e = refl

-- the channel was closed
closed_bits : (d : Bool) → true ≡ (d || false || true)
closed_bits true = refl
closed_bits false = refl

-- nothing is false and more
none_bits : (c : Bool) → false ≡ (c && false)
none_bits true = refl
none_bits false = refl

-- nothing became of a receiver
parked_bits : (w d : Bool) → d ≡ (d || (w && not w))
parked_bits true true = refl
parked_bits true false = refl
parked_bits false true = refl
parked_bits false false = refl

-- it was woken
woken_bits : (d : Bool) → true ≡ (d || true)
woken_bits true = refl
woken_bits false = refl

module _ {S : Type 0} where
  -- a send that stays as it was
  pub send_kept : (x : Option (LiveSend S)) → SendDue false x x
  send_kept None = refl
  send_kept (Some send) = kept_bits send.accepted send.notice.due

  -- a send that has another signal
  pub send_signalled : (given : Option S) (x : Option (LiveSend S)) → SendDue false x (option_map (with_notice (with_signal given)) x)
  send_signalled given None = refl
  send_signalled None (Some send) = kept_bits send.accepted send.notice.due
  send_signalled (Some signal) (Some send) = kept_bits send.accepted send.notice.due

  -- one whose message was accepted
  pub send_accepted : (closed : Bool) (x : Option (LiveSend S)) → option_map (λ send. send.accepted) x ≡ Some false
      → SendDue closed x (option_map accepted_now x)
  send_accepted closed None is = refl
  send_accepted closed (Some send) is =
      accepted_bits send.accepted send.notice.due closed (ap not (let not_accepted : send.accepted ≡ false = cc in not_accepted))

  -- one that has just blocked
  pub send_new : (closed : Bool) (signal : S) (x : Option (LiveSend S)) → x ≡ None → SendDue closed x (Some (newly_blocked signal))
  send_new closed signal x none = rw none (none_bits closed)

  -- one that was found blocked as the channel was closed, and one that wasn't
  pub send_closed : (x : Option (LiveSend S)) → SendDue true x (if blocked_in x then option_map (with_notice due_now) x else x)
  send_closed None = refl
  send_closed (Some send) = by_case send.accepted send.notice
    where
      by_case : (a : Bool) (n : Notice S) → let x : LiveSend S = record { accepted = a; notice = n } in
          SendDue true (Some x) (if not a then Some (with_notice due_now x) else Some x)
      by_case true n = kept_bits true n.due
      by_case false n = closed_bits n.due

module _ {T S : Type 0} where
  -- a receiver that stays as it was
  pub receiver_kept : (x : Option (Entry T (Notice S))) → ReceiverDue false x x
  receiver_kept None = refl
  receiver_kept (Some e) = parked_bits (is_waiting e.mark) e.notice.due

  -- one that waited, and was woken or filled
  pub receiver_woken : (e : Entry T (Notice S)) (mark : Mark T) → is_waiting e.mark ≡ true → is_waiting mark ≡ false
      → ReceiverDue false (Some e) (Some (marked due_now mark e))
  receiver_woken e mark waits awake = rw (waits, awake) (woken_bits e.notice.due)

  -- one that waits on, or again, and isn't due
  pub receiver_waits : (x y : Option (Entry T (Notice S))) → receiver_due_in y ≡ false → ReceiverDue true x y
  receiver_waits x None idle = refl
  receiver_waits x (Some e) idle = idle
