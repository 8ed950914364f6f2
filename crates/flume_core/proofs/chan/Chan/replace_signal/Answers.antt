-- No signal given: the sends are as they were.
use Rattle.std.proofs.Common.{sym, ap}
use Rattle.flume_state.proofs.SendMapLemmas.{changed_same}
use Rattle.flume_core.proofs.chan.Chan.replace_signal.Goals as goal

pub returns-in_default : goal.returns-in_default
returns-in_default g c =
    let s = c.args.self.now in
    record { replaced = rw (c.in_default.is) (ap (λ m. record s { sends = m }) (sym (changed_same s.sends c.args.ticket))) }
