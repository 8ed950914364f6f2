use Rattle.std.proofs.Common.{rules}
use Rattle.std.specs.Fmt.{debug_escape}
use Rattle.flume_error.proofs.error.send.TrySendErrorDebug.fmt.Goals.{in-Full, in-Disconnected, in-NoMemory}
use Rattle.flume_error.proofs.error.send.TrySendErrorDebug.fmt.Goals as goal

pub returns : goal.returns
unfolding debug_escape
returns g c = elim c.match-self.branch [ in-Full w ↦ search rules | in-Disconnected w ↦ search rules | in-NoMemory w ↦ search rules ]
