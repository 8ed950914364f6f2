-- A poll that is ready has ended the send, one that is pending has parked it, and what comes back is what it was made
-- with.
use Rattle.std.proofs.Common.{◌≡◌, Some, Err, refl, ap}
use Rattle.flume_core.specs.declared.error.SendError.TheVariants.{Disconnected, NoMemory}
use Rattle.flume.proofs.SendPollLemmas.{poll_finishes, is_parked, keeps_ticket, error_holds_message}
use Rattle.flume.proofs.polled.send.SendFutFuture.poll.Goals as goal

pub returns-in-Some-clause-finished : goal.returns-in-Some-clause-finished
returns-in-Some-clause-finished g c = poll_finishes c.in-Some.ensures.polled.polled c.in-Some.answer refl

pub returns-in-Some-clause-disconnected : goal.returns-in-Some-clause-disconnected
returns-in-Some-clause-disconnected g c = λ message back unsent is.
    let said : c.in-Some.answer ≡ Err (Disconnected back) = cc in
    error_holds_message c.in-Some.ensures.polled.polled message unsent (Disconnected back) (ap Some said)

pub returns-in-Some-clause-no_memory : goal.returns-in-Some-clause-no_memory
returns-in-Some-clause-no_memory g c = λ message back unsent is.
    let said : c.in-Some.answer ≡ Err (NoMemory back) = cc in
    error_holds_message c.in-Some.ensures.polled.polled message unsent (NoMemory back) (ap Some said)

pub returns-in-None-clause-parked : goal.returns-in-None-clause-parked
returns-in-None-clause-parked g c = is_parked c.in-None.ensures.polled.polled refl

pub returns-in-None-clause-stays : goal.returns-in-None-clause-stays
returns-in-None-clause-stays g c = λ ticket parked. keeps_ticket c.in-None.ensures.polled.polled ticket parked refl
