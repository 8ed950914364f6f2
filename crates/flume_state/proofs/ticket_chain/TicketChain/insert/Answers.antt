use Rattle.std.proofs.Common.{refl, sym, ap, ◌∙◌}
use Rattle.flume_chain.specs.ChainState.{found, without_place}
use Rattle.flume_state.proofs.Chains.{item, none_placed}
use Rattle.flume_state.proofs.TicketLemmas.{put_amid, put_undone, ticketed_in}
use Rattle.flume_state.proofs.ticket_chain.TicketChain.insert.Goals as goal

pub invariant_of-self-in-Ok-insert : goal.invariant_of-self-in-Ok-insert
invariant_of-self-in-Ok-insert g c =
    rw (c.in-Ok.ensures.inserted, c.in-Ok-insert.ensures.inserted)
    (ticketed_in _ _ _ _ (put_amid c.self.inside.chain.items c.args.next _) c.args.ticket refl
    (sym (c.self.invariant.found c.args.ticket) ∙ c.in-Ok-insert.ensures.absent) (none_placed _ _ c.in-Ok.ensures.fresh) c.self.invariant)

pub unreachable-requires : goal.unreachable-requires
unreachable-requires g c =
    let u = put_undone c.self.inside.chain.items c.args.next (item c.in-Ok.place (record { label = c.args.ticket; value = c.args.value }))
    c.self.invariant.apart c.in-Ok.ensures.fresh in
    let some = c.in-None.ensures.found ∙ ap (λ l. found l c.in-Ok.place) c.in-Ok.ensures.inserted ∙ u.0 in
    let no : ⊥ = cc in no

pub invariant_of-self-in-Err-insert : goal.invariant_of-self-in-Err-insert
invariant_of-self-in-Err-insert g c =
    let u = put_undone c.self.inside.chain.items c.args.next (item c.in-Ok.place (record { label = c.args.ticket; value = c.args.value }))
    c.self.invariant.apart c.in-Ok.ensures.fresh in
    rw (c.in-Some.ensures.taken, c.in-Ok.ensures.inserted, u.1, c.in-Err-insert.ensures.unchanged) c.self.invariant

pub returns-in-Some-clause-returned : goal.returns-in-Some-clause-returned
returns-in-Some-clause-returned g c =
    let u = put_undone c.self.inside.chain.items c.args.next (item c.in-Ok.place (record { label = c.args.ticket; value = c.args.value }))
    c.self.invariant.apart c.in-Ok.ensures.fresh in
    let same = c.in-Some.ensures.found ∙ ap (λ l. found l c.in-Ok.place) c.in-Ok.ensures.inserted ∙ u.0 in
    cc

pub returns-in-Some-clause-unchanged : goal.returns-in-Some-clause-unchanged
returns-in-Some-clause-unchanged g c =
    let u = put_undone c.self.inside.chain.items c.args.next (item c.in-Ok.place (record { label = c.args.ticket; value = c.args.value }))
    c.self.invariant.apart c.in-Ok.ensures.fresh in
    c.in-Some.ensures.taken ∙ ap (λ l. without_place l c.in-Ok.place) c.in-Ok.ensures.inserted ∙ u.1 ∙ c.self.view_is
