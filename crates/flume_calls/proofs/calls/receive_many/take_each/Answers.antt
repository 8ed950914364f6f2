-- Each turn of the loop takes the front, which is there.
use Rattle.std.proofs.Common.{◌<◌, [], refl, sym, arith}
use Rattle.std.proofs.lemmas.List.{append-nil}
use Rattle.flume_state.specs.State.{message_count}
use Rattle.flume_calls.specs.Batches.{NoSteps}
use Rattle.flume_calls.proofs.AvailableLemmas.{front, one_less, received, takes_one}
use Rattle.flume_calls.proofs.calls.receive_many.take_each.Goals as goal

pub loop-taken-init : goal.loop-taken-init
loop-taken-init g c = record {
  took = record { taken = []; reachable = NoSteps; items = sym (append-nil _); number = refl };
  remaining = omega arith;
  len = omega arith;
  capacity = refl;
}

pub unreachable-requires : goal.unreachable-requires
unreachable-requires g c =
    let some : 0 < message_count c.loop-taken.chan = omega arith in
    let (message, rest, is) = front c.loop-taken.chan some in
    c.in_default.not-Got message (c.try_recv.ensures.got message rest is).0

pub loop-taken-preserved : goal.loop-taken-preserved
loop-taken-preserved g c =
    let some : 0 < message_count c.loop-taken.chan = omega arith in
    let got = c.in-Got.ensures in
    let made = received got.step got.becomes_due got.possible_reply got.space got.unchanged in
    let less = one_less c.loop-taken.chan c.try_recv.new.self some c.try_recv.ensures.got in
    record {
      took = takes_one _ {after = c.push_reserved.new.self.items} c.in-Got.message c.loop-taken.invariant.took made
          c.push_reserved.ensures.items;
      remaining = omega arith;
      len = omega arith;
      capacity = cc;
    }
