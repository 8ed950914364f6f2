-- What the reply gives out is what is answered.
use Rattle.std.proofs.Common.{refl}
use Rattle.example_proved_callers.proofs.PassLemmas.{sum_of_one}
use Rattle.example_proved_callers.proofs.loops.receive_one.Goals as goal

pub returns-in-Got : goal.returns-in-Got
returns-in-Got g c = record { step = (_, c.in-Got.ensures.step, sum_of_one c.in-Got.message) }

pub returns-in-Empty : goal.returns-in-Empty
returns-in-Empty g c = record { step = (_, c.in-Empty.ensures.step, refl) }

pub returns-in-Ended : goal.returns-in-Ended
returns-in-Ended g c = record { step = (_, c.in-Ended.ensures.step, refl) }
