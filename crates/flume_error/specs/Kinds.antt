-- The kind of std's io error that each error is converted to.
use Rattle.std.specs.declared.io.ErrorKind.{ErrorKind}
use Rattle.std.specs.declared.io.ErrorKind.TheVariants as kind
use Rattle.flume_error.specs.declared.error.SelectError.{SelectError}
use Rattle.flume_error.specs.declared.error.SelectError.TheVariants as select
use Rattle.flume_error.specs.declared.error.capacity.CapacityError.{CapacityError}
use Rattle.flume_error.specs.declared.error.capacity.CapacityError.TheVariants as capacity
use Rattle.flume_error.specs.declared.error.send.SendError.{SendError}
use Rattle.flume_error.specs.declared.error.send.SendError.TheVariants as send
use Rattle.flume_error.specs.declared.error.send.TrySendError.{TrySendError}
use Rattle.flume_error.specs.declared.error.send.TrySendError.TheVariants as try_send
use Rattle.flume_error.specs.declared.error.send.SendTimeoutError.{SendTimeoutError}
use Rattle.flume_error.specs.declared.error.send.SendTimeoutError.TheVariants as send_timeout
use Rattle.flume_error.specs.declared.error.receive.RecvError.{RecvError}
use Rattle.flume_error.specs.declared.error.receive.RecvError.TheVariants as receive
use Rattle.flume_error.specs.declared.error.receive.TryRecvError.{TryRecvError}
use Rattle.flume_error.specs.declared.error.receive.TryRecvError.TheVariants as try_receive
use Rattle.flume_error.specs.declared.error.receive.RecvTimeoutError.{RecvTimeoutError}
use Rattle.flume_error.specs.declared.error.receive.RecvTimeoutError.TheVariants as receive_timeout

-- of a `SelectError`
abbrev pub select_kind : SelectError → ErrorKind
select_kind select.Timeout = kind.TimedOut
select_kind select.NoMemory = kind.OutOfMemory

-- of a `CapacityError`
abbrev pub capacity_kind : CapacityError → ErrorKind
capacity_kind capacity.Unbounded = kind.Unsupported
capacity_kind capacity.Disconnected = kind.BrokenPipe

-- of a `RecvError`
abbrev pub receive_kind : RecvError → ErrorKind
receive_kind receive.Disconnected = kind.UnexpectedEof
receive_kind receive.NoMemory = kind.OutOfMemory

-- of a `TryRecvError`
abbrev pub try_receive_kind : TryRecvError → ErrorKind
try_receive_kind try_receive.Empty = kind.WouldBlock
try_receive_kind try_receive.Disconnected = kind.UnexpectedEof
try_receive_kind try_receive.NoMemory = kind.OutOfMemory

-- of a `RecvTimeoutError`
abbrev pub receive_timeout_kind : RecvTimeoutError → ErrorKind
receive_timeout_kind receive_timeout.Timeout = kind.TimedOut
receive_timeout_kind receive_timeout.Disconnected = kind.UnexpectedEof
receive_timeout_kind receive_timeout.NoMemory = kind.OutOfMemory

module _ {T : Type 0} where
  -- of a `SendError`
  abbrev pub send_kind : SendError T → ErrorKind
  send_kind (send.Disconnected message) = kind.BrokenPipe
  send_kind (send.NoMemory message) = kind.OutOfMemory

  -- of a `TrySendError`
  abbrev pub try_send_kind : TrySendError T → ErrorKind
  try_send_kind (try_send.Full message) = kind.WouldBlock
  try_send_kind (try_send.Disconnected message) = kind.BrokenPipe
  try_send_kind (try_send.NoMemory message) = kind.OutOfMemory

  -- of a `SendTimeoutError`
  abbrev pub send_timeout_kind : SendTimeoutError T → ErrorKind
  send_timeout_kind (send_timeout.Timeout message) = kind.TimedOut
  send_timeout_kind (send_timeout.Disconnected message) = kind.BrokenPipe
  send_timeout_kind (send_timeout.NoMemory message) = kind.OutOfMemory
