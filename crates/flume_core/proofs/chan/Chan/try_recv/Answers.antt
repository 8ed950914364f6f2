-- The front is handed out, or nothing is found.
use Rattle.std.proofs.Common.{◌≡◌, [], None, refl, rules}
use Rattle.flume_state.specs.Effects.{with_front}
use Rattle.flume_core.proofs.InvariantLemmas.{still}
use Rattle.flume_core.proofs.TakeLemmas.{takes}
use Rattle.flume_core.proofs.ViewLemmas.{open_at_log, closed_at_log}
use Rattle.flume_core.proofs.AnsweringLemmas.{empty_line, front_line, closed_where}
use Rattle.flume_core.proofs.dues.AfterStepLemmas.{unchanged, took}
use Rattle.flume_core.proofs.chan.Chan.try_recv.Goals as goal

pub returns-in-Some-clause-step : goal.returns-in-Some-clause-step
returns-in-Some-clause-step g c o log h =
    let taken = c.in-Some.ensures.some in
    takes o log _ c.args.self.now c.take_front.new.self c.in-Some.message None taken.0 h
    (front_line o log c.args.self.now c.in-Some.message taken.0 h taken.1) refl taken.1 taken.2

pub returns-in-None-clause-step : goal.returns-in-None-clause-step
returns-in-None-clause-step g c o log h =
    let none : (with_front c.args.self.now).queue ≡ [] = search rules in
    still o log _ c.args.self.now c.take_front.new.self h
    (empty_line o log c.args.self.now h none, open_at_log h (search rules)) refl (search rules)

pub returns-in-None-2-clause-step : goal.returns-in-None-2-clause-step
returns-in-None-2-clause-step g c o log h =
    let none : (with_front c.args.self.now).queue ≡ [] = search rules in
    still o log _ c.args.self.now c.take_front.new.self h
    (empty_line o log c.args.self.now h none, closed_at_log h (closed_where _ _ (search rules))) refl (search rules)

pub returns-in-Some-clause-becomes_due : goal.returns-in-Some-clause-becomes_due
returns-in-Some-clause-becomes_due g c = λ reachable.
    took c.args.self.now _ _ _ c.in-Some.ensures.some.0 (λ t. refl) reachable c.in-Some.ensures.some.2

pub returns-in-None-clause-becomes_due : goal.returns-in-None-clause-becomes_due
returns-in-None-clause-becomes_due g c = λ reachable. unchanged _ _ _ _ (λ t. refl) (search rules)

pub returns-in-None-2-clause-becomes_due : goal.returns-in-None-2-clause-becomes_due
returns-in-None-2-clause-becomes_due g c = λ reachable. unchanged _ _ _ _ (λ t. refl) (search rules)
