-- Which way each turn takes a receive.
use Rattle.std.proofs.Common.{refl, inl, inr}
use Rattle.flume_calls.specs.ReceiveGates.{NoWaiter, AtPark, Parked}
use Rattle.flume_calls.proofs.gates.receive.waiting_receive.Goals as goal

pub returns-in_default : goal.returns-in_default
returns-in_default g c = record {
  run = λ start first. NoWaiter first c.in_default.ensures.does refl;
  no_memory = λ start first never e. inr (_, first, inl c.in_default.ensures.does);
}

pub returns-in-Done : goal.returns-in-Done
returns-in-Done g c = record {
  run = λ start first. AtPark first c.in-Some.ensures.does c.in-Done.ensures.does;
  no_memory = λ start first never e.
      inr (_, first, inr (_, c.in-Some.ensures.does, rw e at c.in-Done.ensures.does));
}

pub returns-in-Park : goal.returns-in-Park
returns-in-Park g c = record {
  run = λ start first.
      Parked first c.in-Some.ensures.does c.in-Park.ensures.does c.parked_receive.ensures.run;
  no_memory = λ start first never e. absurd (c.parked_receive.ensures.wants_no_memory never e);
}
