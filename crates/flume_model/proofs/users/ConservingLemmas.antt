-- By every weight, what was offered is what was given out and what is still there.
use Rattle.flume_model.proofs.Common.{◌≡◌, ℕ, ◌+◌, ◌≤◌, Bool, true, false, List, [], ◌∷◌, Some, None, refl, ◌∙◌, ap, arith, take, sum_by}
use Rattle.flume_model.proofs.Common.{subst, take-nil, sum_by-append, channel, held_messages, gives, given_out, IsConserved, Conserved}
use Rattle.flume_model.proofs.Common.{is_over}
use Rattle.flume_model.proofs.Common.{entry_of, line, queue_len, messages, Log, Opening, Change, Withdraws, Takes, Drains, Collects}
use Rattle.flume_model.proofs.Common.{SenderJoins, ReceiverJoins, SenderLeaves, ReceiverLeaves, change, offers_made, offers, entries, IsRun}
use Rattle.flume_model.proofs.Common.{Reply, Step}
use Rattle.flume_model.proofs.LawfulReplyLemmas.{Fits, not_over_yet}
use Rattle.flume_model.proofs.EntryShapeLemmas.{filled_if_named, fits_run}
use Rattle.flume_model.proofs.order.PartLemmas.{front_at, blocked_at, open_at}
use Rattle.flume_model.proofs.order.RunLemmas.{shape_of}
use Rattle.flume_model.proofs.order.LineStepLemmas.{line_over, over_by}
use Rattle.flume_model.proofs.waits.WaitingStepLemmas.{stepped, nobody_once_over}
use Rattle.flume_model.proofs.users.GivingLemmas.{GivesOut, gives_out}
use Rattle.flume_model.proofs.users.BalanceLemmas.{weighs, weighs-append, balanced_by}

module _ {T A : Type 0} where
  -- once both sides have disconnected, a change that fits gives out nothing
  open_gives : (o : Opening) (past : Log T A) → IsRun o past → (done : Change T) → Fits (channel o past) done → (given : List T)
      → GivesOut (channel o past) done given → is_over past ≡ true → given ≡ []
  open_gives o past run (Withdraws t) h given g over =
      let place = blocked_at o past t g.0 (shape_of o past run).within g.1 in
      let is_open = open_at past place.0 place.1 _ place.2 in
      absurd (let none : ⊥ = cc in none)
  open_gives o past run (Takes m None) h given g over =
      let front = front_at (line past) m h.0 h.1 in
      let is_open = open_at past [] front.1 front.0 front.2 in
      absurd (let none : ⊥ = cc in none)
  open_gives o past run (Takes m (Some t)) h given g over =
      let front = front_at (line past) m h.0.0 h.0.1 in
      let is_open = open_at past [] front.1 front.0 front.2 in
      absurd (let none : ⊥ = cc in none)
  open_gives o past run (Drains list) h given g over =
      g ∙ h ∙ ap (λ l. messages (take (queue_len o past) l)) (line_over past over) ∙ ap messages (take-nil (queue_len o past))
  open_gives o past run (Collects t) h given g over =
      let nobody : entry_of t (entries o past) ≡ None = ap (entry_of t) (nobody_once_over o past over) in
      let found = g.2 in
      absurd (let none : ⊥ = cc in none)
  open_gives o past run _ h given g over = g

  -- a step that leaves both sides disconnected gives out no message
  over_gives : (o : Opening) (past : Log T A) → IsRun o past → (done : Change T) → Fits (channel o past) done → (given : List T)
      → GivesOut (channel o past) done given → over_by past done ≡ true → given ≡ []
  over_gives o past run SenderJoins h given g over = g
  over_gives o past run ReceiverJoins h given g over = g
  over_gives o past run SenderLeaves h given g over = g
  over_gives o past run ReceiverLeaves h given g over = g
  over_gives o past run (Withdraws t) h given g over = open_gives o past run (Withdraws t) h given g over
  over_gives o past run (Takes m receiver) h given g over = open_gives o past run (Takes m receiver) h given g over
  over_gives o past run (Drains list) h given g over = open_gives o past run (Drains list) h given g over
  over_gives o past run (Collects t) h given g over = open_gives o past run (Collects t) h given g over
  over_gives o past run _ h given g over = g

  -- after one more pair of a run
  conserved_more : (weight : T → ℕ) (o : Opening) (past : Log T A) (p : Step T × Reply T A) → IsRun o (p ∷ past)
      → IsConserved o past weight (is_over past) → IsConserved o (p ∷ past) weight (is_over (p ∷ past))
  conserved_more weight o past p run before = by_case (is_over (p ∷ past)) refl
    where
      more : weighs weight (offers (p ∷ past)) ≡ weighs weight (offers past) + weighs weight (offers_made (change past p.0 p.1))
      more = weighs-append weight (offers past) (offers_made (change past p.0 p.1))

      given_more : sum_by weight (given_out (p ∷ past)) ≡ sum_by weight (gives p.1) + sum_by weight (given_out past)
      given_more = sum_by-append weight (gives p.1) (given_out past)

      at_most : (b : Bool) → IsConserved o past weight b → sum_by weight (given_out past) ≤ weighs weight (offers past)
      at_most true le = le
      at_most false same = omega arith

      by_case : (b : Bool) → is_over (p ∷ past) ≡ b → IsConserved o (p ∷ past) weight b
      by_case true over =
          let fit = fits_run o past p run in
          let given = gives_out o past p.0 p.1 (filled_if_named o past run.1) run.0 in
          let none = ap (sum_by weight) (over_gives o past run.1 (change past p.0 p.1) fit (gives p.1) given over) in
          let le = at_most (is_over past) before in
          omega (arith, more, given_more)
      by_case false still =
          let open_ = not_over_yet o past p (filled_if_named o past run.1) run still in
          let s = stepped o past p run still in
          let given = gives_out o past p.0 p.1 (filled_if_named o past run.1) run.0 in
          let main = balanced_by weight o past p s.closes (change past p.0 p.1) refl run.1 s.fit (gives p.1) given open_ still in
          let after = ap (λ es. sum_by weight (held_messages es)) s.entries_are in
          let was : IsConserved o past weight false = subst (IsConserved o past weight) open_ before in
          omega (arith, more, given_more)

  -- by every weight, what was offered is what was given out and what is still there
  pub conserved : (o : Opening) (log : Log T A) → IsRun o log → Conserved o log
  conserved o [] run weight = refl
  conserved o (p ∷ past) run weight = conserved_more weight o past p run (conserved o past run.1 weight)
