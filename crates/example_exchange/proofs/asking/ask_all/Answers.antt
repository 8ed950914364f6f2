use Rattle.std.proofs.Common.{refl, arith}
use Rattle.std.proofs.lemmas.Grind.{common_steps}
use Rattle.flume_laws.proofs.CallerLemmas.{and_call}
use Rattle.example_exchange.proofs.asking.ask_all.Goals as goal

pub loop-number-preserved : goal.loop-number-preserved
loop-number-preserved g c =
    let before = c.loop-number.invariant in (
      and_call before.0 c.in_ok-send.ensures.called (grind (arith, common_steps)) refl,
      and_call before.1 c.in_ok-recv.ensures.called refl c.in_ok-push.ensures.items,
    )
