use Rattle.std.proofs.Common.{arith, ap, sym, ◌∙◌}
use Rattle.flume_model.specs.Entries.{is_waiting, held_by, held_in, entry_of, without_ticket}
use Rattle.flume_state.specs.layout.EntryLayout.{entries_in}
use Rattle.flume_state.proofs.EntryListLemmas.{not_waiting}
use Rattle.flume_state.proofs.EntryPartLemmas.{read_some, read_value, without_written}
use Rattle.flume_state.proofs.EntrySeatLemmas.{nobody, seat_without, seated, without_none_of}
use Rattle.flume_state.proofs.EntrySortedLemmas.{one_waits, sorted_without}
use Rattle.flume_state.proofs.entries.Entries.remove.Goals as goal
use Rattle.flume_state.proofs.entries.Entries.remove.Goals.{in-Waiting, in_default}

pub returns-in_err-place-clause-held : goal.returns-in_err-place-clause-held
returns-in_err-place-clause-held g c =
    let none = nobody c.args.ticket _ (sym c.in_err-place.ensures.place) in
    c.from_residual.ensures ∙ sym (ap held_by (ap (entry_of c.args.ticket) (sym c.self.view_is) ∙ none))

pub returns-in_err-place-clause-removed : goal.returns-in_err-place-clause-removed
returns-in_err-place-clause-removed g c =
    let none = nobody c.args.ticket _ (sym c.in_err-place.ensures.place) in
    sym (without_none_of c.args.ticket c.args.self.now (ap (entry_of c.args.ticket) (sym c.self.view_is) ∙ none))

pub returns-in_err-parked-clause-held : goal.returns-in_err-parked-clause-held
returns-in_err-parked-clause-held g c =
    let s = seated _ c.args.ticket _ c.self.invariant.apart (sym c.in_ok-place.ensures.place) in
    absurd (read_some _ _ _ s.here c.in_err-parked.ensures.value)

pub returns-in_err-parked-clause-removed : goal.returns-in_err-parked-clause-removed
returns-in_err-parked-clause-removed g c =
    let s = seated _ c.args.ticket _ c.self.invariant.apart (sym c.in_ok-place.ensures.place) in
    absurd (read_some _ _ _ s.here c.in_err-parked.ensures.value)

pub overflow_sub-self : goal.overflow_sub-self
overflow_sub-self g c =
    let s = seated _ c.args.ticket _ c.self.invariant.apart (sym c.in_ok-place.ensures.place) in
    let mark = c.replace-mark.ensures.value ∙ ap (λ p. p.mark) (read_value _ _ _ _ s.here c.in_ok-parked.ensures.value) in
    one_waits _ _ _ _ _ _ c.self.invariant s.here (ap is_waiting (sym mark) ∙ ap is_waiting c.in-Waiting.is)

pub invariant_of-self-in-Waiting : goal.invariant_of-self-in-Waiting
invariant_of-self-in-Waiting g c =
    let s = seated _ c.args.ticket _ c.self.invariant.apart (sym c.in_ok-place.ensures.place) in
    let mark = c.replace-mark.ensures.value ∙ ap (λ p. p.mark) (read_value _ _ _ _ s.here c.in_ok-parked.ensures.value) in
    let waits = ap is_waiting (sym mark) ∙ ap is_waiting c.in-Waiting.is in
    let left = c.discard.ensures.removed ∙ without_written c.self.inside.chain c.in_ok-place.place _ in
    rw (left, c.start_without-self-inside.ensures.start, c.start_without-self-inside-2.ensures.start)
    (sorted_without _ _ _ _ _ _ _ _ c.self.invariant s.here c.next-next.ensures.next
    (rw waits (omega (arith, one_waits _ _ _ _ _ _ c.self.invariant s.here waits))))

pub invariant_of-self-in_default : goal.invariant_of-self-in_default
invariant_of-self-in_default g c =
    let s = seated _ c.args.ticket _ c.self.invariant.apart (sym c.in_ok-place.ensures.place) in
    let mark = c.replace-mark.ensures.value ∙ ap (λ p. p.mark) (read_value _ _ _ _ s.here c.in_ok-parked.ensures.value) in
    let awake = ap is_waiting (sym mark) ∙ not_waiting _ c.in_default.not-Waiting in
    let left = c.discard.ensures.removed ∙ without_written c.self.inside.chain c.in_ok-place.place _ in
    rw (left, c.start_without-self-inside.ensures.start, c.start_without-self-inside-2.ensures.start)
    (sorted_without _ _ _ _ _ _ _ _ c.self.invariant s.here c.next-next.ensures.next (rw awake (omega arith)))

pub returns-clause-held : goal.returns-clause-held
returns-clause-held g c =
    let s = seated _ c.args.ticket _ c.self.invariant.apart (sym c.in_ok-place.ensures.place) in
    let mark = c.replace-mark.ensures.value ∙ ap (λ p. p.mark) (read_value _ _ _ _ s.here c.in_ok-parked.ensures.value) in
    c.message_in.ensures.held ∙ ap held_in mark
    ∙ sym (ap held_by (ap (entry_of c.args.ticket) (sym c.self.view_is) ∙ s.entry))

pub returns-clause-removed : goal.returns-clause-removed
returns-clause-removed g c =
    let s = seated _ c.args.ticket _ c.self.invariant.apart (sym c.in_ok-place.ensures.place) in
    let left = ap entries_in (c.discard.ensures.removed ∙ without_written c.self.inside.chain c.in_ok-place.place _)
    ∙ seat_without _ _ _ s ∙ ap (without_ticket c.args.ticket) c.self.view_is in
    elim c.match-mark.branch [
      | in-Waiting w ↦ rw w.self-is left
      | in_default w ↦ rw w.self-is left
    ]
