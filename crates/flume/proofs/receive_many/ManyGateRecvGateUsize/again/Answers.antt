-- A turn of a parked call answers as one does.
use Rattle.std.proofs.Common.{refl}
use Rattle.flume.proofs.ManyReceiveLemmas.{asks_many}
use Rattle.flume.proofs.receive_many.ManyGateRecvGateUsize.again.Goals as goal

pub returns-clause-answers : goal.returns-clause-answers
returns-clause-answers g c = (asks_many c.args.call c.args.last c.receive_and_more.ensures.answers).0

pub returns-clause-does : goal.returns-clause-does
returns-clause-does g c =
    let asked = asks_many c.args.call c.args.last c.receive_and_more.ensures.answers in (
      refl,
      refl,
      refl,
      record { answers = asked.0; had_memory = asked.1; turn = c.receive_and_more.ensures.did },
    )
