use Rattle.std.proofs.Common.{refl, arith}
use Rattle.std.proofs.lemmas.Grind.{common_steps}
use Rattle.flume_laws.proofs.InvariantLemmas.{no_call_where, and_call_summed}
use Rattle.example_transfers.proofs.tellers.serve.Goals as goal

pub loop-amount-init : goal.loop-amount-init
loop-amount-init g c = no_call_where c.args.me refl

pub loop-amount-preserved : goal.loop-amount-preserved
loop-amount-preserved g c = and_call_summed (λ x. x) _ _ _ c.loop-amount.invariant
    c.in_ok-send.ensures.called (grind (arith, common_steps))

pub loop-preserved : goal.loop-preserved
loop-preserved g c = and_call_summed (λ x. x) _ _ _ c.loop.invariant c.in-Ok.ensures.called
    (grind (arith, common_steps))

pub returns-in-Err-Disconnected : goal.returns-in-Err-Disconnected
returns-in-Err-Disconnected g c = record {
  kept = and_call_summed (λ x. x) _ _ _ c.loop.invariant c.in-Err-Disconnected.ensures.called refl;
}
