-- A send ends with its first turn, or goes on from the channel that it found full.
use Rattle.std.proofs.Common.{refl}
use Rattle.flume_calls.specs.SendGates.{AtFirst}
use Rattle.flume.proofs.FirstTurnLemmas.{after_first}
use Rattle.flume.proofs.StepLemmas.{one_step, step_made}
use Rattle.flume.proofs.sender.Sender.send_until.Goals as goal

pub call_step-requires : goal.call_step-requires
call_step-requires g c = record { one_step = λ old new answer does. one_step does.0 }

pub returns-in-Done-clause-made : goal.returns-in-Done-clause-made
returns-in-Done-clause-made g c = (
  c.args.deadline,
  AtFirst (record { same = refl; answers = c.in-Done.ensures.answers; made = step_made c.in-Done.ensures.made }),
)

pub returns-in-NeedSignal-clause-did : goal.returns-in-NeedSignal-clause-did
returns-in-NeedSignal-clause-did g c =
    let same = c.in-NeedSignal.ensures.answers in
    rw (← same) (after_first (rw (← same) at c.in-NeedSignal.ensures.did) c.send_to_full_until.ensures.did)
