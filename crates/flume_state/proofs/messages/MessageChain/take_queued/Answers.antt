use Rattle.std.proofs.Common.{◌≡◌, ◌∷◌, ap, sym, ◌∙◌}
use Rattle.flume_state.specs.layout.MessageLayout.{messages_of, queued_of, space_of}
use Rattle.flume_state.proofs.MessageSpaceLemmas.{space_behind}
use Rattle.flume_state.proofs.MessageStepLemmas.{Takes, takes}
use Rattle.flume_state.proofs.messages.MessageChain.take_queued.Given.{Over}
use Rattle.flume_state.proofs.messages.MessageChain.take_queued.Goals as goal

front_leaves : (g : Over) (c : goal.In_ok-pop_front g)
    → Takes c.self.inside.chain.items c.pop_front.new.self.items c.self.inside.blocked c.self.inside.blocked_len
    (space_of c.self.inside.chain) c.args.self.now
front_leaves g c = takes _ _ _ _ _ _ c.self.invariant c.self.view_is (λ e. c.if-queued_len-eq0.false (c.queued_len.ensures.len
    ∙ e)) c.in_ok-pop_front.ensures.taken

pub invariant_of-self-2 : goal.invariant_of-self-2
invariant_of-self-2 g c = (front_leaves g c).layout

pub returns-clause-taken : goal.returns-clause-taken
returns-clause-taken g c =
    let e = c.in_ok-pop_front.ensures in
    let r = front_leaves g c in
    let both = sym r.is_first ∙ sym e.first in
    let same : r.element.value ≡ c.in_ok-pop_front.field-0.value = cc in
    let space : space_of c.self.inside.chain ≡ space_of c.pop_front.new.self =
    space_behind c.self.inside.chain c.pop_front.new.self r.element r.is_first e.taken e.room in
    let items = c.pop_front.new.self.items in
    rw (← same) (r.view ∙ ap (λ n. record (messages_of items n) { queued = r.element.value ∷ queued_of items }) space)
