-- When two send errors are equal: if their cases are the same and their messages are equal.
use Rattle.std.specs.Prelude.{Bool, false}
use Rattle.flume_error.specs.declared.error.send.SendError.{SendError}
use Rattle.flume_error.specs.declared.error.send.SendError.TheVariants as send
use Rattle.flume_error.specs.declared.error.send.TrySendError.{TrySendError}
use Rattle.flume_error.specs.declared.error.send.TrySendError.TheVariants as try_send
use Rattle.flume_error.specs.declared.error.send.SendTimeoutError.{SendTimeoutError}
use Rattle.flume_error.specs.declared.error.send.SendTimeoutError.TheVariants as send_timeout

module _ {T : Type 0} where
  -- of two `SendError`s, if `equal` compares messages
  abbrev pub equal_send_errors : (T → T → Bool) → SendError T → SendError T → Bool
  equal_send_errors equal (send.Disconnected x) (send.Disconnected y) = equal x y
  equal_send_errors equal (send.NoMemory x) (send.NoMemory y) = equal x y
  equal_send_errors equal _ _ = false

  -- of two `TrySendError`s
  abbrev pub equal_try_send_errors : (T → T → Bool) → TrySendError T → TrySendError T → Bool
  equal_try_send_errors equal (try_send.Full x) (try_send.Full y) = equal x y
  equal_try_send_errors equal (try_send.Disconnected x) (try_send.Disconnected y) = equal x y
  equal_try_send_errors equal (try_send.NoMemory x) (try_send.NoMemory y) = equal x y
  equal_try_send_errors equal _ _ = false

  -- of two `SendTimeoutError`s
  abbrev pub equal_send_timeout_errors : (T → T → Bool) → SendTimeoutError T → SendTimeoutError T
      → Bool
  equal_send_timeout_errors equal (send_timeout.Timeout x) (send_timeout.Timeout y) = equal x y
  equal_send_timeout_errors equal (send_timeout.Disconnected x) (send_timeout.Disconnected y) =
      equal x y
  equal_send_timeout_errors equal (send_timeout.NoMemory x) (send_timeout.NoMemory y) = equal x y
  equal_send_timeout_errors equal _ _ = false
