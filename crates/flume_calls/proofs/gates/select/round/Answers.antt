-- A round: each turn is that of the next arm in cyclic order.
use Rattle.std.proofs.Common.{arith, ◌≡◌, refl}
use Rattle.flume_calls.specs.SelectGates.{NoTurn, OneMore, AllWait, Completed, Refused}
use Rattle.flume_calls.proofs.gates.select.round.Goals as goal

pub loop-before-init : goal.loop-before-init
loop-before-init g c = record {
  within = c.start-arm.ensures.within;
  waiting = rw c.start-arm.ensures.start NoTurn;
  setup = refl;
}

pub loop-before-preserved : goal.loop-before-preserved
loop-before-preserved g c =
    let known = c.loop-before.invariant in record {
      within = rw c.count-count.ensures.count at c.next_arm-arm.ensures.within;
      waiting = rw (c.next_arm-arm.ensures.next, c.count-count.ensures.count)
          (OneMore known.waiting c.in-Waits.ensures.does);
      setup = cc;
    }

pub returns-in-Completed-clause-round : goal.returns-in-Completed-clause-round
returns-in-Completed-clause-round g c =
    Completed (rw c.count-count.ensures.count at c.loop-before-test.true)
    c.loop-before.invariant.waiting c.in-Completed.ensures.does

pub returns-in-NoMemory-clause-round : goal.returns-in-NoMemory-clause-round
returns-in-NoMemory-clause-round g c =
    Refused (rw c.count-count.ensures.count at c.loop-before-test.true)
    c.loop-before.invariant.waiting c.in-NoMemory.ensures.does

pub returns-clause-round : goal.returns-clause-round
returns-clause-round g c =
    let all : c.loop-before.before ≡ c.count-count.result = omega arith in
    AllWait (rw (all, c.count-count.ensures.count) at c.loop-before.invariant.waiting)
