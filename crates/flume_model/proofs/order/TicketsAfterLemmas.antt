-- Each change that fits leaves the tickets rising, and withdraws an offer with one that was issued.
use Rattle.flume_model.proofs.Common.{◌≡◌, ℕ, ◌+◌, ◌<◌, ◌≤◌, false, not, [], ◌∷◌, ◌++◌, Some, refl, sym, ◌∙◌, ap, arith, ne_eqb}
use Rattle.flume_model.proofs.Common.{append_assoc, append-nil, channel, Rising, tickets_issued, next_ticket}
use Rattle.flume_model.proofs.Common.{Log, Opening, Change, Queues, Blocks}
use Rattle.flume_model.proofs.Common.{Withdraws, Parks, offers_made, withdraws, offers, withdrawn, kept}
use Rattle.flume_model.proofs.TicketLemmas.{below_earlier, earlier_none, rising_filter, rising_below, rising_push, rising_more}
use Rattle.flume_model.proofs.LawfulReplyLemmas.{Fits}
use Rattle.flume_model.proofs.order.PartLemmas.{Shape, withdrawn_at}

module _ {T A : Type 0} where
  -- no ticket more
  rising_same : (o : Opening) (past : Log T A) → Shape o past → Rising (next_ticket o past + 0) (offers past ++ [])
  rising_same o past shape =
      rw append-nil (rising_more (next_ticket o past) (next_ticket o past + 0) (offers past) (omega arith) shape.rising)

  -- the tickets after a change that fits
  pub rising_after : (o : Opening) (past : Log T A) (done : Change T) → Shape o past → Fits (channel o past) done
      → Rising (next_ticket o past + tickets_issued done) (offers past ++ offers_made done)
  rising_after o past (Queues m filled) shape h =
      rising_push (next_ticket o past) (next_ticket o past + 0) _ (offers past) (omega arith) tt (λ u lt. earlier_none u) shape.rising
  rising_after o past (Blocks m t) shape h =
      let same : t ≡ next_ticket o past = h.2 in
      rising_push (next_ticket o past) (next_ticket o past + 1) _ (offers past) (omega arith) (omega arith)
      (λ u lt. below_earlier (next_ticket o past) t u (omega arith) lt) shape.rising
  rising_after o past (Parks t kind) shape h =
      rw append-nil (rising_more (next_ticket o past) (next_ticket o past + 1) (offers past) (omega arith) shape.rising)
  rising_after o past _ shape h = rising_same o past shape

  -- what a change that fits withdraws was issued
  pub unissued_after : (o : Opening) (past : Log T A) (done : Change T) → Shape o past → Fits (channel o past) done
      → (t : ℕ) (m : T) → next_ticket o past + tickets_issued done ≤ t → withdraws done (record { message = m; ticket = Some t }) ≡ false
  unissued_after o past (Withdraws u) shape h t m le =
      let at = withdrawn_at o past u h.0 shape h.1 in
      let rest = shape.parts.gone ++ at.front in
      let all : kept past ≡ rest ++ record { message = h.0; ticket = Some u } ∷ at.later =
      shape.parts.kept_are ∙ ap (λ l. shape.parts.gone ++ l) at.rest_are ∙ sym (append_assoc shape.parts.gone at.front _) in
      let kept_rise = rising_filter (next_ticket o past) (λ offer. not (withdrawn past offer)) (offers past) shape.rising in
      let below : u < next_ticket o past = rising_below (next_ticket o past) rest at.later _ (rw all at kept_rise) in
      ne_eqb t u (λ e. omega arith)
  unissued_after o past _ shape h t m le = refl
