use Rattle.flume_state.proofs.MessageLemmas.{counts}
use Rattle.flume_state.proofs.messages.MessageChain.blocked_len.Goals as goal

pub returns : goal.returns
returns g c = record { len = (counts _ _ _ _ _ c.self.invariant c.self.view_is).1 }
