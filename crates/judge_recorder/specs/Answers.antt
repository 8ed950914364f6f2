-- The recorded answer for each result of a call.
use Rattle.std.specs.Prelude.{ℕ, Bool, true, false, Result, Ok, Err, Option, Some, None}
use Rattle.flume.specs.declared.error.CapacityError.{CapacityError}
use Rattle.flume.specs.declared.error.CapacityError.TheVariants as capacity_error
use Rattle.flume.specs.declared.error.TrySendError.{TrySendError}
use Rattle.flume.specs.declared.error.TrySendError.TheVariants as try_send
use Rattle.flume.specs.declared.error.SendError.{SendError}
use Rattle.flume.specs.declared.error.SendError.TheVariants as send
use Rattle.flume.specs.declared.error.SendTimeoutError.{SendTimeoutError}
use Rattle.flume.specs.declared.error.SendTimeoutError.TheVariants as send_timeout
use Rattle.flume.specs.declared.error.TryRecvError.{TryRecvError}
use Rattle.flume.specs.declared.error.TryRecvError.TheVariants as try_recv
use Rattle.flume.specs.declared.error.RecvError.{RecvError}
use Rattle.flume.specs.declared.error.RecvError.TheVariants as recv
use Rattle.flume.specs.declared.error.RecvTimeoutError.{RecvTimeoutError}
use Rattle.flume.specs.declared.error.RecvTimeoutError.TheVariants as recv_timeout
use Rattle.judge_recorder.specs.declared.slot.FutureAnswer.{FutureAnswer}
use Rattle.judge_recorder.specs.declared.slot.FutureAnswer.TheVariants as future
use Rattle.judge_calls.specs.declared.call.Answer.{Answer}
use Rattle.judge_calls.specs.declared.call.Answer.TheVariants as answer

module _ {T A : Type 0} where
  -- of a send that waits
  abbrev pub send_answer : Result (Unit {0}) (SendError T) → Answer T A
  send_answer (Ok done) = answer.Sent
  send_answer (Err (send.Disconnected back)) = answer.Disconnected
  send_answer (Err (send.NoMemory back)) = answer.NoMemory

  -- of a send with a deadline
  abbrev pub timed_send_answer : Result (Unit {0}) (SendTimeoutError T) → Answer T A
  timed_send_answer (Ok done) = answer.Sent
  timed_send_answer (Err (send_timeout.Timeout back)) = answer.Timeout
  timed_send_answer (Err (send_timeout.Disconnected back)) = answer.Disconnected
  timed_send_answer (Err (send_timeout.NoMemory back)) = answer.NoMemory

  -- of a send that doesn't wait
  abbrev pub try_send_answer : Result (Unit {0}) (TrySendError T) → Answer T A
  try_send_answer (Ok done) = answer.Sent
  try_send_answer (Err (try_send.Full back)) = answer.Full
  try_send_answer (Err (try_send.Disconnected back)) = answer.Disconnected
  try_send_answer (Err (try_send.NoMemory back)) = answer.NoMemory

  -- of a receive that waits
  abbrev pub receive_answer : Result T RecvError → Answer T A
  receive_answer (Ok message) = answer.Got message
  receive_answer (Err recv.Disconnected) = answer.Disconnected
  receive_answer (Err recv.NoMemory) = answer.NoMemory

  -- of a receive with a deadline
  abbrev pub timed_receive_answer : Result T RecvTimeoutError → Answer T A
  timed_receive_answer (Ok message) = answer.Got message
  timed_receive_answer (Err recv_timeout.Timeout) = answer.Timeout
  timed_receive_answer (Err recv_timeout.Disconnected) = answer.Disconnected
  timed_receive_answer (Err recv_timeout.NoMemory) = answer.NoMemory

  -- of a receive that doesn't wait
  abbrev pub try_receive_answer : Result T TryRecvError → Answer T A
  try_receive_answer (Ok message) = answer.Got message
  try_receive_answer (Err try_recv.Empty) = answer.Empty
  try_receive_answer (Err try_recv.Disconnected) = answer.Disconnected
  try_receive_answer (Err try_recv.NoMemory) = answer.NoMemory

  -- of setting a capacity
  abbrev pub set_capacity_answer : Result (Unit {0}) CapacityError → Answer T A
  set_capacity_answer (Ok done) = answer.Done
  set_capacity_answer (Err capacity_error.Unbounded) = answer.Unbounded
  set_capacity_answer (Err capacity_error.Disconnected) = answer.Disconnected

  -- of a weak sender's upgrade that wasn't refused
  abbrev pub upgrade_answer : Option ℕ → Answer T A
  upgrade_answer (Some sender) = answer.Done
  upgrade_answer None = answer.NoEnd

  -- of a future
  abbrev pub recorded_answer : FutureAnswer T → Answer T A
  recorded_answer future.Sent = answer.Sent
  recorded_answer (future.Got message) = answer.Got message
  recorded_answer future.Disconnected = answer.Disconnected
  recorded_answer future.NoMemory = answer.NoMemory
  recorded_answer future.Dropped = answer.Dropped

module _ {T : Type 0} where
  -- of a send as a future
  abbrev pub future_send_answer : Result (Unit {0}) (SendError T) → Option (FutureAnswer T)
  future_send_answer (Ok done) = Some future.Sent
  future_send_answer (Err (send.Disconnected back)) = Some future.Disconnected
  future_send_answer (Err (send.NoMemory back)) = Some future.NoMemory

  -- of a receive as a future: one that was pending isn't over if an allocation fails
  abbrev pub future_receive_answer : Result T RecvError → Bool → Option (FutureAnswer T)
  future_receive_answer (Ok message) waited = Some (future.Got message)
  future_receive_answer (Err recv.Disconnected) waited = Some future.Disconnected
  future_receive_answer (Err recv.NoMemory) true = None
  future_receive_answer (Err recv.NoMemory) false = Some future.NoMemory
