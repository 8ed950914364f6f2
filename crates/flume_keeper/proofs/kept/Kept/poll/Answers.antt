-- The poll was made.
use Rattle.flume_keeper.proofs.KeepLemmas.{was_made}
use Rattle.flume_keeper.proofs.kept.Kept.poll.Goals as goal

pub keep-requires-clause-made : goal.keep-requires-clause-made
keep-requires-clause-made g c =
    let call = c.poll-answer.ensures.call in
    rw (c.of-unpolled.ensures, c.of-before.ensures, c.of.ensures, c.of-2.ensures, c.of-3.ensures)
    (was_made (g.P.Polled.leads c.args.call.now _ _ _ _ _ call.polled) call.represents)

pub returns-clause-call : goal.returns-clause-call
returns-clause-call g c = rw (← c.self.view_is) c.poll-answer.ensures.call
