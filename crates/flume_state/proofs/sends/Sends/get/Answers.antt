use Rattle.std.proofs.Common.{sym, ap, ◌∙◌, option_copied}
use Rattle.flume_state.specs.layout.Pairing.{sends_in}
use Rattle.flume_state.proofs.ByTicketLemmas.{found_somewhere, stands_value}
use Rattle.flume_state.proofs.SendStepLemmas.{get_none}
use Rattle.flume_state.proofs.LinkLemmas.{place_sends, seat_at}
use Rattle.flume_state.proofs.sends.Sends.get.Goals as goal

pub returns-in_err-place : goal.returns-in_err-place
returns-in_err-place g c = record {
  value = rw (sym c.self.view_is) (ap option_copied c.from_residual.ensures
      ∙ sym (get_none (sends_in c.self.inside.chain) c.args.ticket (place_sends c.args.ticket c.self.inside.chain
      ∙ sym c.find.ensures.place ∙ c.in_err-place.was)));
}

pub returns-in_err-get : goal.returns-in_err-get
returns-in_err-get g c =
    absurd (found_somewhere c.args.ticket c.in_ok-place.place _ c.facts.ensures.apart (sym c.find.ensures.place
    ∙ c.in_ok-place.was) c.in_err-get.ensures.found)

pub returns : goal.returns
returns g c = record {
  value = rw (sym c.self.view_is) (sym (stands_value c.args.ticket _ _ _
      (seat_at _ c.in_ok-place.place c.args.ticket _ c.facts.ensures.apart c.facts.ensures.single
      (sym c.find.ensures.place ∙ c.in_ok-place.was) c.in_ok-get.ensures.found).occupied));
}
