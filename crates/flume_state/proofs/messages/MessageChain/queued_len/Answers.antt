use Rattle.std.proofs.Common.{ap, ◌-◌, ◌∙◌}
use Rattle.flume_state.proofs.MessageLemmas.{counts}
use Rattle.flume_state.proofs.messages.MessageChain.queued_len.Goals as goal

pub returns : goal.returns
returns g c = record {
  len = ap (λ n. n - c.self.inside.blocked_len) c.len.ensures.len ∙ (counts _ _ _ _ _ c.self.invariant c.self.view_is).0;
}
