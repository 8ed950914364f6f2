use Rattle.std.proofs.Common.{◌≡◌, Some, true, sym, ap, ◌∙◌, option_map}
use Rattle.std.specs.FinMap.{get}
use Rattle.flume_state.specs.layout.Pairing.{link_at}
use Rattle.flume_state.proofs.PairLemmas.{spends, removed_at}
use Rattle.flume_state.proofs.line.Line.spend_accepted.Goals as goal

pub returns-in-Some : goal.returns-in-Some
returns-in-Some g c =
    let old = c.self.inside.sends in
    let list = c.self.inside.messages in
    let accepted : option_map (λ l. l.accepted) (link_at old c.in-Some.place) ≡ Some true =
    c.in-Some.ensures.accepted ∙ ap (λ l. option_map (λ s. s.accepted) (get l.sends c.args.ticket)) c.self.view_is ∙ c.requires.accepted in
    let names = (spends c.spend.new.self old list.blocked c.in-Some.place c.spend.ensures.link (λ l is.
    let both : Some l.accepted ≡ Some true = sym (ap (option_map (λ l. l.accepted)) is) ∙ accepted in
    let known : l.accepted ≡ true = cc in known) c.self.invariant).names in
    let live = removed_at _ c.args.ticket _ _ c.in-Some.ensures.found c.spend.ensures.live in
    record { spent = rw (← c.self.view_is) (λ i. record { queued = list.queued; blocked = names i; space = list.space; sends = live i }) }
