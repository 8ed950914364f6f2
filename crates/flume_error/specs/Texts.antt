-- The texts of the errors: what `{}` writes of each, and what `{:?}` writes of a `TrySendError`.
use Rattle.std.specs.Prelude.{ℕ, List, codes}
use Rattle.flume_error.specs.declared.error.SelectError.{SelectError}
use Rattle.flume_error.specs.declared.error.SelectError.TheVariants as select
use Rattle.flume_error.specs.declared.error.capacity.CapacityError.{CapacityError}
use Rattle.flume_error.specs.declared.error.capacity.CapacityError.TheVariants as capacity
use Rattle.flume_error.specs.declared.error.send.SendError.{SendError}
use Rattle.flume_error.specs.declared.error.send.SendError.TheVariants as send
use Rattle.flume_error.specs.declared.error.send.TrySendError.{TrySendError}
use Rattle.flume_error.specs.declared.error.send.TrySendError.TheVariants as try_send
use Rattle.flume_error.specs.declared.error.send.SendTimeoutError.{SendTimeoutError}
use Rattle.flume_error.specs.declared.error.send.SendTimeoutError.TheVariants as send_timeout
use Rattle.flume_error.specs.declared.error.receive.RecvError.{RecvError}
use Rattle.flume_error.specs.declared.error.receive.RecvError.TheVariants as receive
use Rattle.flume_error.specs.declared.error.receive.TryRecvError.{TryRecvError}
use Rattle.flume_error.specs.declared.error.receive.TryRecvError.TheVariants as try_receive
use Rattle.flume_error.specs.declared.error.receive.RecvTimeoutError.{RecvTimeoutError}
use Rattle.flume_error.specs.declared.error.receive.RecvTimeoutError.TheVariants as receive_timeout

-- of `NoMemory`, and of each case of that name
abbrev pub no_memory_text : List ℕ
no_memory_text = codes "out of memory"

-- of a `SelectError`
abbrev pub select_text : SelectError → List ℕ
select_text select.Timeout = codes "timeout occurred"
select_text select.NoMemory = codes "out of memory"

-- of a `CapacityError`
abbrev pub capacity_text : CapacityError → List ℕ
capacity_text capacity.Unbounded = codes "channel has no capacity"
capacity_text capacity.Disconnected = codes "changing the capacity of a closed channel"

-- of a `RecvError`
abbrev pub receive_text : RecvError → List ℕ
receive_text receive.Disconnected = codes "receiving on a closed channel"
receive_text receive.NoMemory = codes "out of memory"

-- of a `TryRecvError`
abbrev pub try_receive_text : TryRecvError → List ℕ
try_receive_text try_receive.Empty = codes "receiving on an empty channel"
try_receive_text try_receive.Disconnected = codes "channel is empty and closed"
try_receive_text try_receive.NoMemory = codes "out of memory"

-- of a `RecvTimeoutError`
abbrev pub receive_timeout_text : RecvTimeoutError → List ℕ
receive_timeout_text receive_timeout.Timeout = codes "timed out waiting on a channel"
receive_timeout_text receive_timeout.Disconnected = codes "channel is empty and closed"
receive_timeout_text receive_timeout.NoMemory = codes "out of memory"

module _ {T : Type 0} where
  -- of a `SendError`
  abbrev pub send_text : SendError T → List ℕ
  send_text (send.Disconnected message) = codes "sending on a closed channel"
  send_text (send.NoMemory message) = codes "out of memory"

  -- of a `TrySendError`
  abbrev pub try_send_text : TrySendError T → List ℕ
  try_send_text (try_send.Full message) = codes "sending on a full channel"
  try_send_text (try_send.Disconnected message) = codes "sending on a closed channel"
  try_send_text (try_send.NoMemory message) = codes "out of memory"

  -- of a `SendTimeoutError`
  abbrev pub send_timeout_text : SendTimeoutError T → List ℕ
  send_timeout_text (send_timeout.Timeout message) = codes "timed out sending on a full channel"
  send_timeout_text (send_timeout.Disconnected message) = codes "sending on a closed channel"
  send_timeout_text (send_timeout.NoMemory message) = codes "out of memory"

  -- of a `TrySendError` under `{:?}`, quotation marks included
  abbrev pub try_send_debug_text : TrySendError T → List ℕ
  try_send_debug_text (try_send.Full message) = codes "\"Full(..)\""
  try_send_debug_text (try_send.Disconnected message) = codes "\"Disconnected(..)\""
  try_send_debug_text (try_send.NoMemory message) = codes "\"NoMemory(..)\""
