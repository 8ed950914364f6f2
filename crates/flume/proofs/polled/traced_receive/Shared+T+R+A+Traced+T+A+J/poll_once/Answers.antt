-- What the party did.
use Rattle.std.proofs.Common.{refl}
use Rattle.flume.proofs.TracedReceivePollLemmas.{receives_on, got_answer, still_can, gave_error}
use Rattle.flume.proofs.polled.traced_receive.Shared+T+R+A+Traced+T+A+J.poll_once.Goals as goal

pub returns-in-Some-Ok-clause-goes_on : goal.returns-in-Some-Ok-clause-goes_on
returns-in-Some-Ok-clause-goes_on g c = λ start can.
    let did = rw c.in-Some-Ok.field-0-is at c.in-Some-Ok.ensures.did in
    got_answer (receives_on _ _ _ _ _ _ can did.answered did.made)

pub returns-in-None-clause-goes_on : goal.returns-in-None-clause-goes_on
returns-in-None-clause-goes_on g c = λ start can.
    let did = c.in-None.ensures.did in
    receives_on _ _ _ _ _ _ can did.answered did.made

pub returns-in-Some-clause-goes_on : goal.returns-in-Some-clause-goes_on
returns-in-Some-clause-goes_on g c = λ start can.
    let did = rw c.in-Some-Err.field-0-is at c.in-Some-Err.ensures.did in
    got_answer (c.in-Some.ensures.got _ (still_can _ _ _ _ (receives_on _ _ _ _ _ _ can did.answered did.made))
    _ refl)

pub returns-in-None-leave-clause-goes_on : goal.returns-in-None-leave-clause-goes_on
returns-in-None-leave-clause-goes_on g c = λ start can.
    let did = rw c.in-Some-Err.field-0-is at c.in-Some-Err.ensures.did in
    let after = receives_on _ _ _ _ _ _ can did.answered did.made in
    gave_error _ _ _ _ _ after c.in-None-leave.ensures.unparked
    (c.in-None-leave.ensures.left _ (still_can _ _ _ _ after))
