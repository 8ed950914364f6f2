-- Which way each turn takes a send.
use Rattle.std.proofs.Common.{refl}
use Rattle.flume_calls.specs.SendGates.{NoWaiter, AtPark, Parked}
use Rattle.flume_calls.proofs.gates.send.waiting_send.Goals as goal

pub returns-in_default-clause-run : goal.returns-in_default-clause-run
returns-in_default-clause-run g c start first = NoWaiter first c.in_default.ensures.does refl

pub returns-in-Done-clause-run : goal.returns-in-Done-clause-run
returns-in-Done-clause-run g c start first =
    AtPark {made = c.arm.new.self} first c.in-Some.ensures.does c.in-Done.ensures.does

pub returns-in-Park-clause-run : goal.returns-in-Park-clause-run
returns-in-Park-clause-run g c start first =
    Parked {made = c.arm.new.self} {parked = c.park.new.self} first c.in-Some.ensures.does c.in-Park.ensures.does
    c.parked_send.ensures.run
