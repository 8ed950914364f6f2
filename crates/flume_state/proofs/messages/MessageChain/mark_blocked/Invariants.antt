use Rattle.flume_state.specs.Effects.{with_all_due}
use Rattle.flume_state.specs.layout.Pairing.{live_sends, under_tickets}
use Rattle.flume_state.proofs.MessageMarkLemmas.{Walks, left_from}
use Rattle.flume_state.proofs.messages.MessageChain.mark_blocked.Given as goal

abbrev pub invariant-loop-next : goal.invariant-loop-next
invariant-loop-next g l =
    Walks l.self-inside.chain.items l.next l.initial.sends l.sends
    (with_all_due (under_tickets l.initial.sends l.initial.self.blocked) (live_sends l.initial.sends))

abbrev pub decreases-loop-next : goal.decreases-loop-next
decreases-loop-next g l = left_from l.self-inside.chain.items l.next
