use Rattle.std.specs.Fmt.{debug_escape}
use Rattle.flume_error.proofs.error.send.SendErrorDebug.fmt.Goals as goal

pub returns : goal.returns
unfolding debug_escape
returns g c = record { writes = c.fmt.ensures.writes }
