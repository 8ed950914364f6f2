-- The answers of calls as those of turns, and as replies.
use Rattle.std.specs.Prelude.{◌≡◌, ◌⊎◌, ℕ, Bool, true, false, Option, Some, None, Result, Ok, Err}
use Rattle.flume_model.specs.declared.step.Step.{Step}
use Rattle.flume_model.specs.declared.step.Step.TheVariants.{IsDisconnected, IsEmpty}
use Rattle.flume_model.specs.declared.step.Reply.{Reply}
use Rattle.flume_model.specs.declared.step.Reply.TheVariants.{Done as IsDone, NoEnd, Flag}
use Rattle.flume_core.specs.declared.error.TrySendError.{TrySendError}
use Rattle.flume_core.specs.declared.error.TrySendError.TheVariants as try_send
use Rattle.flume_core.specs.declared.error.SendError.{SendError}
use Rattle.flume_core.specs.declared.error.SendError.TheVariants as send
use Rattle.flume_core.specs.declared.error.SendTimeoutError.{SendTimeoutError}
use Rattle.flume_core.specs.declared.error.SendTimeoutError.TheVariants as send_timeout
use Rattle.flume_core.specs.declared.error.TryRecvError.{TryRecvError}
use Rattle.flume_core.specs.declared.error.TryRecvError.TheVariants as try_recv
use Rattle.flume_core.specs.declared.error.RecvError.{RecvError}
use Rattle.flume_core.specs.declared.error.RecvError.TheVariants as recv
use Rattle.flume_core.specs.declared.error.RecvTimeoutError.{RecvTimeoutError}
use Rattle.flume_core.specs.declared.error.RecvTimeoutError.TheVariants as recv_timeout
use Rattle.flume_calls.specs.declared.calls.send.SendNext.{SendNext}
use Rattle.flume_calls.specs.declared.calls.send.SendNext.TheVariants as send_next
use Rattle.flume_calls.specs.declared.calls.receive.RecvNext.{RecvNext}
use Rattle.flume_calls.specs.declared.calls.receive.RecvNext.TheVariants as recv_next
use Rattle.flume.specs.LockedTurns.{HasMade}

module _ {T A : Type 0} where
  -- some channel's run goes on with this step and this reply
  abbrev pub HasReplied : Step T → Reply T A → Type 0
  HasReplied step reply = HasMade step (λ given expected. given ≡ expected) reply

  -- the reply to which an upgrade answers so
  abbrev pub upgrade_reply : Option ℕ → Reply T A
  upgrade_reply (Some sender) = IsDone
  upgrade_reply None = NoEnd

module _ (T A : Type 0) where
  -- whether no more will come, by a channel's replies to two steps
  abbrev pub IsTerminated : Bool → Type 0
  IsTerminated true = HasReplied {T = T} {A = A} IsDisconnected (Flag true)
      × HasReplied {T = T} {A = A} IsEmpty (Flag true)
  IsTerminated false = HasReplied {T = T} {A = A} IsDisconnected (Flag false)
      ⊎ HasReplied {T = T} {A = A} IsEmpty (Flag false)

module _ {T : Type 0} where
  -- the turn's answer to which a `try_send` answers so
  abbrev pub try_send_as_turn : Result (Unit {0}) (TrySendError T) → SendNext T
  try_send_as_turn (Ok sent) = send_next.Done (Ok tt)
  try_send_as_turn (Err (try_send.Full back)) = send_next.NeedSignal back
  try_send_as_turn (Err (try_send.Disconnected back)) =
      send_next.Done (Err (send_timeout.Disconnected back))
  try_send_as_turn (Err (try_send.NoMemory back)) =
      send_next.Done (Err (send_timeout.NoMemory back))

  -- a turn of a send that neither parks it nor times out
  abbrev pub NeverParks : SendNext T → Type 0
  NeverParks (send_next.Park ticket) = ⊥
  NeverParks (send_next.Done (Err (send_timeout.Timeout back))) = ⊥
  NeverParks _ = Unit {0}

  -- the turn's answer to which a `try_recv` answers so
  abbrev pub try_receive_as_turn : Result T TryRecvError → RecvNext T
  try_receive_as_turn (Ok message) = recv_next.Done (Ok message)
  try_receive_as_turn (Err try_recv.Empty) = recv_next.NeedSignal
  try_receive_as_turn (Err try_recv.Disconnected) = recv_next.Done (Err recv_timeout.Disconnected)
  try_receive_as_turn (Err try_recv.NoMemory) = recv_next.Done (Err recv_timeout.NoMemory)

  -- the result of a send as one of a send with a deadline
  abbrev pub send_as_timed : Result (Unit {0}) (SendError T)
      → Result (Unit {0}) (SendTimeoutError T)
  send_as_timed (Ok sent) = Ok tt
  send_as_timed (Err (send.Disconnected back)) = Err (send_timeout.Disconnected back)
  send_as_timed (Err (send.NoMemory back)) = Err (send_timeout.NoMemory back)

  -- the result of a receive as one of a receive with a deadline
  abbrev pub receive_as_timed : Result T RecvError → Result T RecvTimeoutError
  receive_as_timed (Ok message) = Ok message
  receive_as_timed (Err recv.Disconnected) = Err recv_timeout.Disconnected
  receive_as_timed (Err recv.NoMemory) = Err recv_timeout.NoMemory
