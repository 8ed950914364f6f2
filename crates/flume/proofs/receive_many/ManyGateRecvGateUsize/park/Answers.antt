-- The turn that may park answers as one does.
use Rattle.std.proofs.Common.{refl}
use Rattle.flume.proofs.ManyReceiveLemmas.{parks_many}
use Rattle.flume.proofs.receive_many.ManyGateRecvGateUsize.park.Goals as goal

pub returns-clause-answers : goal.returns-clause-answers
returns-clause-answers g c = parks_many c.receive_and_more.ensures.answers

pub returns-clause-does : goal.returns-clause-does
returns-clause-does g c =
    let answers = parks_many c.receive_and_more.ensures.answers in
    (refl, refl, refl, record { answers = answers; turn = c.receive_and_more.ensures.did })
