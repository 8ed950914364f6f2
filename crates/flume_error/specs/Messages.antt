-- The message that a send error gives back, and what an error is converted to.
use Rattle.flume_error.specs.declared.error.send.SendError.{SendError}
use Rattle.flume_error.specs.declared.error.send.SendError.TheVariants as send
use Rattle.flume_error.specs.declared.error.send.TrySendError.{TrySendError}
use Rattle.flume_error.specs.declared.error.send.TrySendError.TheVariants as try_send
use Rattle.flume_error.specs.declared.error.send.SendTimeoutError.{SendTimeoutError}
use Rattle.flume_error.specs.declared.error.send.SendTimeoutError.TheVariants as send_timeout
use Rattle.flume_error.specs.declared.error.receive.RecvError.{RecvError}
use Rattle.flume_error.specs.declared.error.receive.RecvError.TheVariants as receive
use Rattle.flume_error.specs.declared.error.receive.TryRecvError.{TryRecvError}
use Rattle.flume_error.specs.declared.error.receive.TryRecvError.TheVariants as try_receive
use Rattle.flume_error.specs.declared.error.receive.RecvTimeoutError.{RecvTimeoutError}
use Rattle.flume_error.specs.declared.error.receive.RecvTimeoutError.TheVariants as receive_timeout

module _ {T : Type 0} where
  -- the message of a `SendError`, whatever its case
  abbrev pub send_message : SendError T → T
  send_message (send.Disconnected message) = message
  send_message (send.NoMemory message) = message

  -- the message of a `TrySendError`
  abbrev pub try_send_message : TrySendError T → T
  try_send_message (try_send.Full message) = message
  try_send_message (try_send.Disconnected message) = message
  try_send_message (try_send.NoMemory message) = message

  -- the message of a `SendTimeoutError`
  abbrev pub send_timeout_message : SendTimeoutError T → T
  send_timeout_message (send_timeout.Timeout message) = message
  send_timeout_message (send_timeout.Disconnected message) = message
  send_timeout_message (send_timeout.NoMemory message) = message

  -- the `TrySendError` of the same case and message
  abbrev pub as_try_send : SendError T → TrySendError T
  as_try_send (send.Disconnected message) = try_send.Disconnected message
  as_try_send (send.NoMemory message) = try_send.NoMemory message

  -- the `SendTimeoutError` of the same case and message
  abbrev pub as_send_timeout : SendError T → SendTimeoutError T
  as_send_timeout (send.Disconnected message) = send_timeout.Disconnected message
  as_send_timeout (send.NoMemory message) = send_timeout.NoMemory message

-- the `TryRecvError` of the same case
abbrev pub as_try_receive : RecvError → TryRecvError
as_try_receive receive.Disconnected = try_receive.Disconnected
as_try_receive receive.NoMemory = try_receive.NoMemory

-- the `RecvTimeoutError` of the same case
abbrev pub as_receive_timeout : RecvError → RecvTimeoutError
as_receive_timeout receive.Disconnected = receive_timeout.Disconnected
as_receive_timeout receive.NoMemory = receive_timeout.NoMemory
