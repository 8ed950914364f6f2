-- The turn was made.
use Rattle.flume_keeper.proofs.KeepLemmas.{was_made}
use Rattle.flume_keeper.proofs.kept.Kept.make_unowned.Goals as goal

pub keep_unowned-requires-clause-made : goal.keep_unowned-requires-clause-made
keep_unowned-requires-clause-made g c =
    let call = c.make-answer.ensures.call in
    rw (c.of-by.ensures, c.of-before.ensures, c.of.ensures, c.of-2.ensures)
    (was_made (g.C.Turn.leads c.args.turn _ _ _ call.turn) call.represents)
