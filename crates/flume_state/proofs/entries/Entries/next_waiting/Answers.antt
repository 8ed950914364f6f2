use Rattle.std.proofs.Common.{Some, ap, ap₂, sym, ◌∙◌, option_map}
use Rattle.flume_state.specs.layout.EntryLayout.{first_waiting}
use Rattle.flume_state.proofs.EntryPartLemmas.{read_some, read_value}
use Rattle.flume_state.proofs.EntryDueLemmas.{nobody_waits, waits_at, waits_first}
use Rattle.flume_state.proofs.entries.Entries.next_waiting.Goals as goal

pub returns-in_err-place : goal.returns-in_err-place
returns-in_err-place g c = record {
  first = c.from_residual.ensures
      ∙ sym (ap (option_map (λ e. (e.ticket, e.kind))) (ap first_waiting (sym c.self.view_is)
      ∙ nobody_waits _ _ _ _ c.self.invariant c.in_err-place.was));
}

pub returns-in_err-ticket : goal.returns-in_err-ticket
returns-in_err-ticket g c =
    let w = waits_at _ _ _ _ _ c.self.invariant c.in_ok-place.was in
    absurd (read_some _ _ _ w.here c.in_err-ticket.ensures.ticket)

pub returns : goal.returns
returns g c =
    let w = waits_at _ _ _ _ _ c.self.invariant c.in_ok-place.was in
    let value = read_value _ _ _ _ w.here c.in_ok-parked.ensures.found in
    let ticket = read_value _ _ _ _ w.here c.in_ok-ticket.ensures.ticket in
    record {
      first = ap₂ (λ t p. Some (t, p.kind)) ticket value
          ∙ sym (ap (option_map (λ e. (e.ticket, e.kind))) (ap first_waiting (sym c.self.view_is)
          ∙ waits_first _ _ _ _ _ c.self.invariant w));
    }
