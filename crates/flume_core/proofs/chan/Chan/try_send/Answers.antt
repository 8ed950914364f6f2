-- A send that is refused, and one that is taken in.
use Rattle.std.proofs.Common.{◌≡◌, [], ◌∷◌, ◌++◌, refl, ◌∙◌, rules}
use Rattle.flume_model.specs.Entries.{round_for_fills}
use Rattle.flume_core.proofs.InvariantLemmas.{still}
use Rattle.flume_core.proofs.MoveLemmas.{queues}
use Rattle.flume_core.proofs.AnsweringLemmas.{takes_in, takes_none_in, fills_at_log}
use Rattle.flume_core.proofs.dues.AfterStepLemmas.{unchanged, woken}
use Rattle.flume_core.proofs.chan.Chan.try_send.Goals as goal

pub returns-then-not-is_open-clause-step : goal.returns-then-not-is_open-clause-step
returns-then-not-is_open-clause-step g c o log h = still o log _ _ _ h (search rules) refl refl

pub returns-then-not-has_room-clause-step : goal.returns-then-not-has_room-clause-step
returns-then-not-has_room-clause-step g c o log h =
    still o log _ _ _ h (takes_none_in h (search rules) (search rules) (search rules), refl) refl refl

pub returns-in-Err-clause-step : goal.returns-in-Err-clause-step
returns-in-Err-clause-step g c o log h =
    still o log _ _ _ h (takes_in h (search rules) (search rules), search rules) refl (search rules)

pub returns-clause-step : goal.returns-clause-step
returns-clause-step g c o log h =
    let fills : c.wake-filled.result ≡ round_for_fills
    (c.args.self.now.queue ++ c.args.message ∷ []) c.args.self.now.entries = search rules in
    queues o log _ _ _ c.args.message c.wake-filled.result c.push_queued.new.self.space h
    (takes_in h (search rules) (search rules), fills ∙ fills_at_log h c.args.message) refl fills
    (search rules)

pub returns-then-not-is_open-clause-becomes_due : goal.returns-then-not-is_open-clause-becomes_due
returns-then-not-is_open-clause-becomes_due g c = λ reachable. unchanged _ _ _ _ (λ t. refl) (search rules)

pub returns-then-not-has_room-clause-becomes_due : goal.returns-then-not-has_room-clause-becomes_due
returns-then-not-has_room-clause-becomes_due g c = λ reachable. unchanged _ _ _ _ (λ t. refl) (search rules)

pub returns-in-Err-clause-becomes_due : goal.returns-in-Err-clause-becomes_due
returns-in-Err-clause-becomes_due g c = λ reachable. unchanged _ _ _ _ (λ t. refl) (search rules)

pub returns-clause-becomes_due : goal.returns-clause-becomes_due
returns-clause-becomes_due g c = λ reachable.
    woken c.args.self.now _ _ _ (c.args.self.now.queue ++ c.args.message ∷ []) c.push_queued.new.self.space (λ t. refl) (search rules)
