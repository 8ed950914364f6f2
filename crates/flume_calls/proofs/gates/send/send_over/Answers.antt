-- A send that its first turn didn't end.
use Rattle.flume_calls.proofs.gates.send.send_over.Goals as goal

pub returns-in-NeedSignal-clause-run : goal.returns-in-NeedSignal-clause-run
returns-in-NeedSignal-clause-run g c =
    let back = c.in-NeedSignal.ensures.answers in
    let run = rw back at c.waiting_send.ensures.run in
    run _ (rw back at c.in-NeedSignal.ensures.does)
