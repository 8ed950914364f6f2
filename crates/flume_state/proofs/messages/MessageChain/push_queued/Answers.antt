use Rattle.std.proofs.Common.{◌≡◌, false, true, ap, length, ◌∙◌}
use Rattle.flume_state.specs.layout.MessageLayout.{space_of}
use Rattle.flume_state.proofs.MessageSpaceLemmas.{grows, has_room, length-put}
use Rattle.flume_state.proofs.MessageStepLemmas.{queues}
use Rattle.flume_state.proofs.messages.MessageChain.push_queued.Goals as goal

pub returns-in-Err-clause-succeeds : goal.returns-in-Err-clause-succeeds
returns-in-Err-clause-succeeds g c more =
    let room = has_room c.self.inside.chain _ _ c.args.self.now c.self.invariant c.self.view_is more in
    let failed : false ≡ true = c.in-Err.ensures.succeeds room in
    absurd (let no : ⊥ = cc in no)

pub invariant_of-self-2 : goal.invariant_of-self-2
invariant_of-self-2 g c =
    (queues _ _ _ _ _ _ _ 0 _ _ c.self.invariant c.self.view_is c.facts.ensures.apart c.in_default.ensures.inserted
    c.none-label.ensures.none).layout

pub returns-clause-pushed : goal.returns-clause-pushed
returns-clause-pushed g c =
    (queues _ _ _ _ _ _ _ _ _ _ c.self.invariant c.self.view_is c.facts.ensures.apart c.in_default.ensures.inserted
    c.none-label.ensures.none).view

pub returns-clause-space : goal.returns-clause-space
returns-clause-space g c =
    let e = c.in_default.ensures in
    let long = ap length e.inserted ∙ length-put _ _ _ in
    let more = grows c.self.inside.chain c.insert_before.new.self e.room long in
    let space : space_of c.self.inside.chain ≡ c.args.self.now.space = ap (λ l. l.space) c.self.view_is in
    rw (← space) more
