-- The turn was made.
use Rattle.std.proofs.Common.{subst}
use Rattle.flume_state.specs.State.{State}
use Rattle.flume_calls.specs.Polls.{AtMostOneStep}
use Rattle.flume_keeper.proofs.KeepLemmas.{was_made}
use Rattle.flume_keeper.proofs.kept.Kept.make_without_bell.Goals as goal

pub make_without_bell-answer-requires-clause-one_step : goal.make_without_bell-answer-requires-clause-one_step
make_without_bell-answer-requires-clause-one_step g c = rw (c.self.view_is) (λ new answer does. c.requires.one_step new answer does)

pub keep-requires-clause-made : goal.keep-requires-clause-made
keep-requires-clause-made g c =
    rw (c.of-by.ensures, c.of-before.ensures, c.of.ensures, c.of-2.ensures)
    (was_made (g.C.Turn.leads c.args.turn _ _ _ c.make_without_bell-answer.ensures.does)
    (λ opening log same. same))
