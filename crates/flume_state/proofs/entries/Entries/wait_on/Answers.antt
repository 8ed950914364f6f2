use Rattle.std.proofs.Common.{ap, arith, refl, sym, ◌∙◌}
use Rattle.flume_model.specs.Entries.{entry_of, is_woken}
use Rattle.flume_state.specs.layout.EntryLayout.{after_asking}
use Rattle.flume_state.specs.Receivers.{waits_on}
use Rattle.flume_state.proofs.EntryAskLemmas.{again_entries, again_sorted, asks_entries, asks_filled}
use Rattle.flume_state.proofs.EntryAskLemmas.{asks_none, asks_sorted, moved, woken_empty}
use Rattle.flume_state.proofs.EntryPartLemmas.{read_some, read_value}
use Rattle.flume_state.proofs.EntrySeatLemmas.{nobody, seated}
use Rattle.flume_state.proofs.EntrySortedLemmas.{waits_few}
use Rattle.flume_state.proofs.entries.Entries.wait_on.Goals as goal

pub returns-in_default-clause-waits : goal.returns-in_default-clause-waits
returns-in_default-clause-waits g c free =
    let none = nobody c.args.ticket _ (sym c.find.ensures.place ∙ c.in_default.is) in
    asks_none (waits_on c.args.signal) c.args.ticket c.args.self.now (ap (entry_of c.args.ticket) (sym c.self.view_is) ∙ none)

pub returns-in_default-get_mut-clause-waits : goal.returns-in_default-get_mut-clause-waits
returns-in_default-get_mut-clause-waits g c =
    let q = seated _ c.args.ticket _ c.self.invariant.apart (sym c.find.ensures.place ∙ c.in-Some.is) in
    absurd (read_some _ _ _ q.here c.in_default-get_mut.ensures.value)

pub invariant_of-self-then-not-ask_again : goal.invariant_of-self-then-not-ask_again
invariant_of-self-then-not-ask_again g c =
    let q = seated _ c.args.ticket _ c.self.invariant.apart (sym c.find.ensures.place ∙ c.in-Some.is) in
    let value = read_value _ _ _ _ q.here c.in-Some-get_mut.ensures.value in
    let asked = c.ask_again.ensures.asked ∙ ap (λ p. after_asking p.mark c.args.signal p) value in
    let asleep = ap (λ p. is_woken p.mark) (sym value) ∙ sym c.ask_again.ensures.woken ∙ c.if-not-ask_again.true in
    rw asked (asks_sorted _ _ _ _ _ _ c.args.signal _ c.self.invariant q refl asleep)

pub returns-then-not-ask_again-clause-waits : goal.returns-then-not-ask_again-clause-waits
returns-then-not-ask_again-clause-waits g c =
    let q = seated _ c.args.ticket _ c.self.invariant.apart (sym c.find.ensures.place ∙ c.in-Some.is) in
    let value = read_value _ _ _ _ q.here c.in-Some-get_mut.ensures.value in
    let asked = c.ask_again.ensures.asked ∙ ap (λ p. after_asking p.mark c.args.signal p) value in
    let asleep = ap (λ p. is_woken p.mark) (sym value) ∙ sym c.ask_again.ensures.woken ∙ c.if-not-ask_again.true in
    rw asked (asks_entries _ _ _ c.args.signal _ _ q c.self.view_is refl asleep)

pub returns-then-not-ask_again-clause-filled : goal.returns-then-not-ask_again-clause-filled
returns-then-not-ask_again-clause-filled g c =
    let q = seated _ c.args.ticket _ c.self.invariant.apart (sym c.find.ensures.place ∙ c.in-Some.is) in
    let value = read_value _ _ _ _ q.here c.in-Some-get_mut.ensures.value in
    let asked = c.ask_again.ensures.asked ∙ ap (λ p. after_asking p.mark c.args.signal p) value in
    rw asked (asks_filled _ _ _ c.args.signal _ _ q c.self.view_is refl)

pub overflow_add-self : goal.overflow_add-self
overflow_add-self g c = omega (arith, waits_few _ _ _ _ c.self.invariant)

pub invariant_of-self-2 : goal.invariant_of-self-2
invariant_of-self-2 g c =
    let q = seated _ c.args.ticket _ c.self.invariant.apart (sym c.find.ensures.place ∙ c.in-Some.is) in
    let value = read_value _ _ _ _ q.here c.in-Some-get_mut.ensures.value in
    let asked = c.ask_again.ensures.asked ∙ ap (λ p. after_asking p.mark c.args.signal p) value in
    let woken = ap (λ p. is_woken p.mark) (sym value) ∙ sym c.ask_again.ensures.woken ∙ c.if-not-ask_again.false in
    let back = moved _ _ _ _ _ _ q c.move_back.ensures.found c.move_back.ensures.moved in
    rw (
      back,
      c.or-self-inside.ensures,
      c.or-self-inside-2.ensures,
      c.start_without.ensures.start,
      c.start_without-2.ensures.start,
      asked,
    )
    (again_sorted _ _ _ _ _ _ _ c.args.signal _ c.self.invariant q refl woken c.next-next.ensures.next)

pub returns-clause-waits : goal.returns-clause-waits
returns-clause-waits g c free =
    let q = seated _ c.args.ticket _ c.self.invariant.apart (sym c.find.ensures.place ∙ c.in-Some.is) in
    let value = read_value _ _ _ _ q.here c.in-Some-get_mut.ensures.value in
    let asked = c.ask_again.ensures.asked ∙ ap (λ p. after_asking p.mark c.args.signal p) value in
    let woken = ap (λ p. is_woken p.mark) (sym value) ∙ sym c.ask_again.ensures.woken ∙ c.if-not-ask_again.false in
    let back = moved _ _ _ _ _ _ q c.move_back.ensures.found c.move_back.ensures.moved in
    rw (back, asked) (again_entries _ _ _ c.args.signal _ _ q c.self.view_is refl woken)

pub returns-clause-filled : goal.returns-clause-filled
returns-clause-filled g c =
    let q = seated _ c.args.ticket _ c.self.invariant.apart (sym c.find.ensures.place ∙ c.in-Some.is) in
    let value = read_value _ _ _ _ q.here c.in-Some-get_mut.ensures.value in
    let woken = ap (λ p. is_woken p.mark) (sym value) ∙ sym c.ask_again.ensures.woken ∙ c.if-not-ask_again.false in
    rw (woken_empty _ _ _ _ _ q c.self.view_is refl woken) tt
