-- The walk goes from one blocked message to the next, and marks the send of each.
use Rattle.std.proofs.Common.{ap, arith}
use Rattle.flume_state.specs.Effects.{with_all_due}
use Rattle.flume_state.specs.layout.Pairing.{live_sends, under_tickets}
use Rattle.flume_state.proofs.MessageMarkLemmas.{Marks, Stepped, left_from, walk_begins, walk_steps, walk_ends}
use Rattle.flume_state.proofs.messages.MessageChain.mark_blocked.Given.{Over}
use Rattle.flume_state.proofs.messages.MessageChain.mark_blocked.Goals as goal
use Rattle.flume_state.proofs.messages.MessageChain.mark_blocked.Goals.{in-Some-send_place_at, in_default-send_place_at}

pub loop-next-init : goal.loop-next-init
loop-next-init g c =
    walk_begins c.self.inside.chain.items c.self.inside.blocked c.self.inside.blocked_len _ c.args.self.now c.args.sends.now
    c.self.invariant c.self.view_is c.requires.owned

-- if the walk is, one more is marked
stepped : (g : Over) (c : goal.After-next-next g)
    → Stepped c.self.inside.chain.items c.in-Some.place c.args.sends.now c.loop-next.sends
    (with_all_due (under_tickets c.args.sends.now c.args.self.now.blocked) (live_sends c.args.sends.now))
stepped g c = walk_steps c.self.inside.chain.items c.loop-next.next c.in-Some.place _ c.loop-next.sends _ c.facts.ensures.apart
    c.loop-next.invariant c.in-Some.is

pub loop-next-smaller : goal.loop-next-smaller
loop-next-smaller g c =
    let items = c.self.inside.chain.items in
    omega (arith, (stepped g c).fewer, ap (left_from items) c.in-Some.is, ap (left_from items) c.next-next.ensures.next)

pub loop-next-preserved : goal.loop-next-preserved
loop-next-preserved g c =
    let marked : Marks c.send_place_at.result c.loop-next.sends c.match-send_place_at.sends =
    elim c.match-send_place_at.branch [
      | in-Some-send_place_at w ↦ rw (w.in-Some-send_place_at.is, w.sends-is) (w.mark_due.ensures.live, w.mark_due.ensures.links)
      | in_default-send_place_at w ↦ rw w.in_default-send_place_at.is w.sends-is
    ] in
    rw c.next-next.ensures.next ((stepped g c).on c.match-send_place_at.sends (rw (← c.send_place_at.ensures.send_place) marked))

pub returns : goal.returns
returns g c = record {
  marked = walk_ends c.self.inside.chain.items c.loop-next.next c.args.sends.now c.loop-next.sends _ c.loop-next.invariant c.in_default.is;
  links = c.loop-next.invariant.left.links;
}
