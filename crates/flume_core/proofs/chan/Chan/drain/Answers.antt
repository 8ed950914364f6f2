-- All queued messages are handed out, and blocked ones move in.
use Rattle.std.proofs.Common.{◌≡◌, [], refl, ◌∙◌, sym, arith, rules}
use Rattle.flume_core.proofs.ViewLemmas.{queue_at_log, some_queued}
use Rattle.flume_core.proofs.InvariantLemmas.{still}
use Rattle.flume_core.proofs.DrainLemmas.{drains}
use Rattle.flume_state.specs.Effects.{after_admissions}
use Rattle.flume_state.specs.State.{State}
use Rattle.flume_core.proofs.SpaceLemmas.{space_filled_up}
use Rattle.flume_core.proofs.dues.AfterStepLemmas.{unchanged, drained}
use Rattle.flume_core.proofs.chan.Chan.drain.Goals as goal

pub returns-in_default-clause-step : goal.returns-in_default-clause-step
returns-in_default-clause-step g c o log h = still o log _ c.args.self.now _ h (some_queued h (search rules), refl) refl (search rules)

pub returns-clause-step : goal.returns-clause-step
returns-clause-step g c o log h =
    let list : c.in-Ok.list.items ≡ c.args.self.now.queue = search rules in
    drains o log _ c.args.self.now _ c.in-Ok.list.items h (list ∙ sym (queue_at_log h)) refl (search rules)

pub returns-clause-space : goal.returns-clause-space
returns-clause-space g c =
    let rest : State g.row.T.Denot g.row.S.Denot = record c.args.self.now { queue = [] } in
    let is : c.fill_up.new.self ≡ after_admissions rest = search rules in
    let same = space_filled_up rest c.fill_up.new.self is in
    omega (arith, same)

pub returns-in_default-clause-becomes_due : goal.returns-in_default-clause-becomes_due
returns-in_default-clause-becomes_due g c = λ reachable. unchanged _ _ _ _ (λ t. refl) (search rules)

pub returns-clause-becomes_due : goal.returns-clause-becomes_due
returns-clause-becomes_due g c = λ reachable. drained c.args.self.now _ _ _ (λ t. refl) reachable (search rules)
