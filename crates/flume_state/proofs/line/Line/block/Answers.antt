use Rattle.std.proofs.Common.{ap, ◌∙◌, option_map}
use Rattle.std.specs.FinMap.{remove}
use Rattle.flume_state.proofs.PairLemmas.{blocks, keeps, undone, at_one, removed_at, line_of}
use Rattle.flume_state.proofs.SendMapLemmas.{remove-insert}
use Rattle.flume_state.proofs.line.Line.block.Goals as goal

pub invariant_of-self-in-Ok-push_blocked : goal.invariant_of-self-in-Ok-push_blocked
invariant_of-self-in-Ok-push_blocked g c =
    let pushed = c.in-Ok-push_blocked.ensures in
    (blocks _ c.block.new.self _ c.self.inside.messages c.push_blocked.new.self _ _ _ _ c.self.invariant c.in-Ok.ensures.fresh
    c.in-Ok.ensures.link c.set_message.ensures.link
    (ap (λ m. m.blocked) pushed.pushed) pushed.fresh).paired

pub returns-in-Ok-push_blocked-clause-blocked : goal.returns-in-Ok-push_blocked-clause-blocked
returns-in-Ok-push_blocked-clause-blocked g c =
    let pushed = c.in-Ok-push_blocked.ensures in
    let queued = ap (λ m. m.queued) pushed.pushed in
    let blocked = (blocks _ c.block.new.self _ c.self.inside.messages c.push_blocked.new.self _ _ _ _ c.self.invariant
    c.in-Ok.ensures.fresh c.in-Ok.ensures.link c.set_message.ensures.link
    (ap (λ m. m.blocked) pushed.pushed) pushed.fresh).holds in
    let live = c.set_message.ensures.live ∙ c.in-Ok.ensures.live in
    rw (← c.self.view_is) (λ i. record { queued = queued i; blocked = blocked i; space = c.push_blocked.new.self.space; sends = live i })

pub returns-in-Err-clause-unchanged : goal.returns-in-Err-clause-unchanged
returns-in-Err-clause-unchanged g c =
    let old = c.self.inside.sends in
    let mid = c.block.new.self in
    let list = c.self.inside.messages in
    let links = undone c.spend.new.self mid old c.in-Ok.send_place _ c.in-Ok.ensures.link c.spend.ensures.link c.in-Ok.ensures.fresh in
    let names = (keeps c.spend.new.self old list.blocked links c.self.invariant).names in
    let live = removed_at _ c.args.ticket _ _ (ap (option_map (λ l. l.ticket)) (at_one mid old c.in-Ok.send_place _ c.in-Ok.ensures.link))
    c.spend.ensures.live
    ∙ ap (λ m. remove m c.args.ticket) c.in-Ok.ensures.live ∙ remove-insert _ c.args.ticket _ c.in-Ok.ensures.absent in
    rw (← c.self.view_is) (ap (λ m. line_of m c.spend.new.self) c.in-Err.ensures.unchanged
    ∙ (λ i. record { queued = list.queued; blocked = names i; space = list.space; sends = live i }))
