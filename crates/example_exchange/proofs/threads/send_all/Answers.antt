use Rattle.std.proofs.Common.{refl, arith}
use Rattle.std.proofs.lemmas.Grind.{common_steps}
use Rattle.flume_laws.proofs.CallerLemmas.{and_call}
use Rattle.example_exchange.proofs.threads.send_all.Goals as goal

pub loop-item-preserved : goal.loop-item-preserved
loop-item-preserved g c =
    and_call c.loop-item.invariant c.in_ok-send.ensures.called (grind (arith, common_steps)) refl
