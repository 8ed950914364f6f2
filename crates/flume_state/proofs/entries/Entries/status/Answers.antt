use Rattle.std.proofs.Common.{Some, ap, sym, ◌∙◌, option_map}
use Rattle.flume_model.specs.Entries.{entry_of}
use Rattle.flume_state.specs.Receivers.{status_by, status_of}
use Rattle.flume_state.proofs.EntryPartLemmas.{read_some, read_value}
use Rattle.flume_state.proofs.EntrySeatLemmas.{nobody, seated}
use Rattle.flume_state.proofs.entries.Entries.status.Goals as goal

pub returns-in_err-place : goal.returns-in_err-place
returns-in_err-place g c =
    let none = nobody c.args.ticket _ (sym c.in_err-place.ensures.place) in
    record { status = c.from_residual.ensures ∙ sym (ap (option_map status_of) (ap (entry_of c.args.ticket) (sym c.self.view_is) ∙ none)) }

pub returns-in_err-parked : goal.returns-in_err-parked
returns-in_err-parked g c =
    let s = seated _ c.args.ticket _ c.self.invariant.apart (sym c.in_ok-place.ensures.place) in
    absurd (read_some _ _ _ s.here c.in_err-parked.ensures.found)

pub returns : goal.returns
returns g c =
    let s = seated _ c.args.ticket _ c.self.invariant.apart (sym c.in_ok-place.ensures.place) in
    let value = read_value _ _ _ _ s.here c.in_ok-parked.ensures.found in
    record {
      status = ap Some c.of.ensures.status ∙ ap (λ p. Some (status_by p.kind p.mark)) value
          ∙ sym (ap (option_map status_of) (ap (entry_of c.args.ticket) (sym c.self.view_is) ∙ s.entry));
    }
