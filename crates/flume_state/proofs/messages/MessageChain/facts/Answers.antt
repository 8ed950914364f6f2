use Rattle.flume_state.proofs.WithdrawalLemmas.{blocked_apart}
use Rattle.flume_state.proofs.messages.MessageChain.facts.Goals as goal

pub returns : goal.returns
returns g c = record { apart = blocked_apart _ _ _ c.self.view_is c.facts.ensures.apart }
