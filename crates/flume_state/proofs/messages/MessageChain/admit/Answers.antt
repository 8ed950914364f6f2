use Rattle.std.proofs.Common.{◌≡◌, ◌-◌, Some, None, refl, sym, ap, subst, ◌∙◌}
use Rattle.flume_chain.specs.ChangedAt.{with_label_at}
use Rattle.flume_state.specs.layout.MessageLayout.{AdmitsSend, messages_of, space_of}
use Rattle.flume_state.proofs.MessageSpaceLemmas.{space_released}
use Rattle.flume_state.proofs.MessageStepLemmas.{Admitted, admitted}
use Rattle.flume_state.proofs.messages.MessageChain.admit.Given.{Over}
use Rattle.flume_state.proofs.messages.MessageChain.admit.Goals as goal

pub returns-in_err-send_place-clause-none_blocked : goal.returns-in_err-send_place-clause-none_blocked
returns-in_err-send_place-clause-none_blocked g c =
    let r = admitted _ _ _ _ _ _ _ _ c.self.invariant c.self.view_is c.facts.ensures.apart c.in_ok-place.was refl refl in
    let both : Some r.send_place ≡ None = sym r.is_first ∙ sym c.in_err-send_place.ensures.send_place in
    absurd (let no : ⊥ = cc in no)

-- what is there once the first blocked one has no owner
owner_leaves : (g : Over) (c : goal.After-self-2-1 g)
    → c.set_label.new.self.items ≡ with_label_at c.in_ok-place.place c.self.inside.chain.items None
owner_leaves g c = c.set_label.ensures.labelled ∙ ap (with_label_at c.in_ok-place.place c.self.inside.chain.items) c.none.ensures.none

admits : (g : Over) (c : goal.After-self-2-1 g) → Admitted c.self.inside.chain.items c.set_label.new.self.items c.next-self-inside.result
    (c.self.inside.blocked_len - 1) (space_of c.self.inside.chain) c.in_ok-place.place c.args.self.now
admits g c = admitted _ _ _ _ _ _ _ _ c.self.invariant c.self.view_is c.facts.ensures.apart c.in_ok-place.was
    (owner_leaves g c) c.next-self-inside.ensures.next

pub invariant_of-self : goal.invariant_of-self
invariant_of-self g c = (admits g c).layout

pub returns-clause-admitted : goal.returns-clause-admitted
returns-clause-admitted g c =
    let r = admits g c in
    let both : Some r.send_place ≡ Some c.in_ok-send_place.send_place = sym r.is_first ∙ sym c.in_ok-send_place.ensures.send_place in
    let same : r.send_place ≡ c.in_ok-send_place.send_place = cc in
    let space : space_of c.self.inside.chain ≡ space_of c.set_label.new.self =
    space_released c.self.inside.chain c.set_label.new.self c.in_ok-place.place (owner_leaves g c) c.set_label.ensures.room in
    rw (← same) (subst (λ n. AdmitsSend c.args.self.now (messages_of c.set_label.new.self.items n) r.send_place) space r.admits)
