use Rattle.std.proofs.Common.{ap, arith}
use Rattle.flume_state.proofs.MessageSpaceLemmas.{total}
use Rattle.flume_state.proofs.messages.MessageChain.room.Goals as goal

pub returns : goal.returns
returns g c = record {
  room =
      let all = total _ _ _ _ _ c.self.invariant c.self.view_is in
      let space = ap (λ l. l.space) c.self.view_is in
      omega (arith, all, space, c.room.ensures.room);
}
