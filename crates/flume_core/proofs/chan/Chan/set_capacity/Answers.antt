-- A channel without a capacity or a closed one stays, and blocked messages move into another.
use Rattle.std.proofs.Common.{◌≡◌, Some, None, refl, sym, ◌∙◌, subst, arith, rules}
use Rattle.flume_model.specs.Limits.{IsBounded, IsOpen, IsClosed}
use Rattle.flume_model.specs.Line.{greater}
use Rattle.flume_state.specs.Effects.{after_admissions}
use Rattle.flume_state.specs.State.{State}
use Rattle.flume_core.proofs.InvariantLemmas.{still}
use Rattle.flume_core.proofs.ResizeLemmas.{resizes}
use Rattle.flume_core.proofs.SpaceLemmas.{space_filled_up}
use Rattle.flume_core.proofs.ViewLemmas.{open_at_log, closed_at_log}
use Rattle.flume_core.proofs.dues.AfterStepLemmas.{resized_due}
use Rattle.flume_core.proofs.chan.Chan.set_capacity.Goals as goal

pub returns-then-is_none-clause-step : goal.returns-then-is_none-clause-step
returns-then-is_none-clause-step g c o log h =
    let none : c.args.self.now.capacity ≡ None = search rules in
    still o log _ c.args.self.now _ h (sym h.capacity_is ∙ none) refl refl

pub returns-then-not-is_open-clause-step : goal.returns-then-not-is_open-clause-step
returns-then-not-is_open-clause-step g c o log h =
    let some : IsBounded c.args.self.now.capacity = search rules in
    let closed : IsClosed c.args.self.now.senders c.args.self.now.receivers = search rules in
    still o log _ c.args.self.now _ h (subst IsBounded h.capacity_is some, closed_at_log h closed) refl refl

pub returns-clause-step : goal.returns-clause-step
returns-clause-step g c o log h =
    let some : IsBounded c.args.self.now.capacity = search rules in
    let open_ : IsOpen c.args.self.now.senders c.args.self.now.receivers = search rules in
    resizes o log _ c.args.self.now _ c.args.capacity h (subst IsBounded h.capacity_is some, open_at_log h open_) refl (search rules)

pub returns-clause-becomes_due : goal.returns-clause-becomes_due
returns-clause-becomes_due g c = λ reachable. resized_due c.args.self.now _ _ _ c.args.capacity (λ t. refl) reachable (search rules)

pub returns-clause-space : goal.returns-clause-space
returns-clause-space g c =
    let set_ : State g.row.T.Denot g.row.S.Denot = record c.args.self.now {
      capacity = Some c.args.capacity;
      greatest = greater c.args.self.now.greatest (Some c.args.capacity);
    } in
    let is : c.fill_up.new.self ≡ after_admissions set_ = search rules in
    let same = space_filled_up set_ c.fill_up.new.self is in
    omega (arith, same)
