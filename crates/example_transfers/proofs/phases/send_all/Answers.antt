use Rattle.std.proofs.Common.{refl, arith}
use Rattle.std.proofs.lemmas.Grind.{common_steps}
use Rattle.flume_laws.proofs.CallerLemmas.{no_call, and_call}
use Rattle.example_transfers.proofs.phases.send_all.Goals as goal

pub loop-item-init : goal.loop-item-init
loop-item-init g c = no_call c.args.me

pub loop-item-preserved : goal.loop-item-preserved
loop-item-preserved g c =
    and_call c.loop-item.invariant c.in_ok-send.ensures.called (grind (arith, common_steps)) refl
