-- The turn was made.
use Rattle.flume_keeper.proofs.KeepLemmas.{was_made}
use Rattle.flume_keeper.proofs.kept.Kept.make.Goals as goal

pub keep-requires-clause-made : goal.keep-requires-clause-made
keep-requires-clause-made g c =
    let call = c.make-answer.ensures.call in
    rw (c.of-by.ensures, c.of-before.ensures, c.of.ensures, c.of-2.ensures)
    (was_made (g.C.Turn.leads c.args.turn _ _ _ call.turn) call.represents)
