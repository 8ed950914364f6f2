-- The offers that are blocked after a run have tickets that are live.
use Rattle.std.proofs.Common.{◌≡◌, ℕ, ◌+◌, ◌<◌, ◌≤◌, ◌==◌, Bool, true, false, not, ◌&&◌, ◌||◌}
use Rattle.std.proofs.Common.{List, [], ◌∷◌}
use Rattle.std.proofs.Common.{◌++◌, length, take, drop, Option, Some, None, refl, ap, sym, ◌∙◌}
use Rattle.std.proofs.Common.{arith}
use Rattle.std.proofs.Common.{length-take-le, drop_at, take-append-drop, eq-eqb, ne_eqb}
use Rattle.std.proofs.Common.{subst}
use Rattle.std.proofs.lemmas.Bool.{or_left, or_right, or_from, and_from, and_parts}
use Rattle.std.proofs.lemmas.Grind.{common_steps}
use Rattle.std.proofs.lemmas.List.{drop_all, drop-append-le, length-map}
use Rattle.flume_model.specs.declared.step.Step.{Step}
use Rattle.flume_model.specs.declared.step.Reply.{Reply}
use Rattle.flume_model.specs.Log.{Log, Opening, Offer, Change, Queues, Blocks, Accepts, Withdraws}
use Rattle.flume_model.specs.Log.{Takes, Drains, Leaves, change}
use Rattle.flume_model.specs.Counts.{is_over}
use Rattle.flume_model.specs.Line.{line, capacity, queue_len, queue_len_after, blocked, issues}
use Rattle.flume_model.specs.Line.{spends}
use Rattle.flume_model.specs.Line.{fill_count, is_live}
use Rattle.flume_model.specs.Limits.{HasRoom, IsAtCapacity}
use Rattle.flume_model.specs.Entries.{some_wait}
use Rattle.flume_model.specs.Parked.{entries}
use Rattle.flume_model.specs.Channel.{channel, has_ticket}
use Rattle.flume_model.specs.Replies.{IsRun}
use Rattle.flume_model.proofs.TicketLemmas.{has_ticket-append}
use Rattle.flume_model.proofs.EntryShapeLemmas.{filled_if_named}
use Rattle.flume_model.proofs.LawfulReplyLemmas.{Fits, not_over_yet}
use Rattle.flume_model.proofs.order.LineStepLemmas.{line_blocks, line_takes, line_drains}
use Rattle.flume_model.proofs.order.LineStepLemmas.{line_leaves}
use Rattle.flume_model.proofs.order.LineStepLemmas.{line_withdraws, line_stays, apart_in_line}
use Rattle.flume_model.proofs.order.PartLemmas.{at_most, front_at}
use Rattle.flume_model.proofs.order.KeptLemmas.{keeps_line}
use Rattle.flume_model.proofs.order.RunLemmas.{shape_of}
use Rattle.flume_model.proofs.waits.WaitingStepLemmas.{Long, line_long, stepped}
use Rattle.flume_laws.proofs.LiveOfferLemmas.{all_live, live_parts, live_both, live_behind}
use Rattle.flume_laws.proofs.LiveOfferLemmas.{live_still}

-- all is queued if more than is queued is only there at capacity, and there is room
all_queued : (c : Option ℕ) (q long : ℕ) → HasRoom c q → (q < long → IsAtCapacity c q) → long ≤ q
all_queued c q long room full = grind (arith, common_steps)

module _ {T A : Type 0} where
  -- which tickets are live after a change
  abbrev live_by : Log T A → Change T → ℕ → Bool
  live_by past done t = issues done t || (is_live past t && not (spends done t))

  -- those that were, unless the change spends them
  stays_live : (past : Log T A) (done : Change T) (t : ℕ) → spends done t ≡ false
      → is_live past t ≡ true → live_by past done t ≡ true
  stays_live past done t unspent is = or_right (issues done t) _ (and_from _ _ is (ap not unspent))

  -- if the change spends none
  unspent_live : (past : Log T A) (done : Change T) (some : List (Offer T))
      → ((t : ℕ) → spends done t ≡ false) → all_live (is_live past) some ≡ true
      → all_live (live_by past done) some ≡ true
  unspent_live past done some unspent =
      live_still (is_live past) (live_by past done) some
      (λ t has. stays_live past done t (unspent t))

  -- if it spends one that none of them has
  others_live : (past : Log T A) (done : Change T) (t : ℕ) (some : List (Offer T))
      → ((u : ℕ) → spends done u ≡ (t == u)) → has_ticket t some ≡ false
      → all_live (is_live past) some ≡ true → all_live (live_by past done) some ≡ true
  others_live past done t some spent none =
      live_still (is_live past) (live_by past done) some
      (λ u has. stays_live past done u (spent u ∙ ne_eqb t u (λ same.
      (let none : ⊥ = cc in none))))

  -- if it leaves the line, but for some of the front
  front_gone : (o : Opening) (past : Log T A) (done : Change T) (d n : ℕ) (later : List (Offer T))
      → ((t : ℕ) → spends done t ≡ false) → later ≡ drop d (line past) → queue_len o past ≤ d + n
      → all_live (is_live past) (blocked o past) ≡ true
      → all_live (live_by past done) (drop n later) ≡ true
  front_gone o past done d n later unspent is le all =
      unspent_live past done (drop n later) unspent
      (live_behind (is_live past) (queue_len o past) d n (line past) later is le all)

  -- after a change that fits
  blocked_by : (o : Opening) (past : Log T A) (p : Step T × Reply T A) (done : Change T)
      (n long : ℕ)
      → change past p.0 p.1 ≡ done → IsRun o past → Fits (channel o past) done
      → is_over past ≡ false → is_over (p ∷ past) ≡ false → length (line (p ∷ past)) ≡ long
      → Long (channel o past) done long
      → n ≡ queue_len_after (capacity o (p ∷ past)) long (queue_len o past) done
      → all_live (is_live past) (blocked o past) ≡ true
      → all_live (live_by past done) (drop n (line (p ∷ past))) ≡ true
  blocked_by o past p (Queues m filled) n long e run fit open_ still long_is line_is n_is all =
      let in_queue = by_case (some_wait (entries o past)) refl in
      let one = at_most filled in
      let same = line_long o past in
      ap (all_live (live_by past (Queues m filled))) (drop_all n (line (p ∷ past)) (omega arith))
    where
      by_case : (b : Bool) → some_wait (entries o past) ≡ b → length (line past) ≤ queue_len o past
      by_case true some = let whole = (shape_of o past run).waits some in omega arith
      by_case false none =
          all_queued (capacity o past) (queue_len o past) (length (line past)) (fit.0.1 none)
          (shape_of o past run).full
  blocked_by o past p (Blocks m t) n long e run fit open_ still long_is line_is n_is all =
      let x : Offer T = record { message = m; ticket = Some t } in
      let live : List (Offer T) → Bool = all_live (live_by past (Blocks m t)) in
      let within = (shape_of o past run).within in
      ap (λ q. live (drop q (line (p ∷ past)))) n_is
      ∙ (ap (λ some. live (drop (queue_len o past) some))
      (line_blocks o past p m t run e fit.2 open_)
      ∙ (ap live (drop-append-le (queue_len o past) (line past) (x ∷ []) within)
      ∙ live_both (live_by past (Blocks m t)) (blocked o past) (x ∷ [])
      (unspent_live past (Blocks m t) (blocked o past) (λ u. refl) all)
      (and_from _ _ (or_left _ _ (eq-eqb t t refl)) refl)))
  blocked_by o past p (Withdraws t) n long e run fit open_ still long_is line_is n_is all =
      let before = fit.1.1 in
      let after = fit.1.2 in
      let front = take (queue_len o past) (line past) in
      let place = sym (take-append-drop (queue_len o past) (line past))
      ∙ ap (λ some. front ++ some) fit.1.3 in
      let apart = apart_in_line o past run front before after t fit.0 place in
      let parts = live_parts (is_live past) before _
      (ap (all_live (is_live past)) (sym fit.1.3) ∙ all) in
      let long = length-take-le (queue_len o past) (line past) (shape_of o past run).within in
      ap (all_live (live_by past (Withdraws t)))
      (ap (drop n) (line_withdraws o past p t fit.0 front before after run e open_ place)
      ∙ drop_at front (before ++ after) n (long ∙ sym n_is))
      ∙ others_live past (Withdraws t) t (before ++ after) (λ u. refl)
      (has_ticket-append t before after ∙ or_from _ _ apart.0 apart.1)
      (live_both (is_live past) before after parts.0 (and_parts _ _ parts.1).1)
  blocked_by o past p (Accepts t) n long e run fit open_ still long_is line_is n_is all =
      ap (all_live (live_by past (Accepts t)))
      (ap (drop n) (line_stays o past p run (ap keeps_line e) open_ still)
      ∙ ap (λ q. drop q (line past)) n_is)
      ∙ others_live past (Accepts t) t (blocked o past) (λ u. refl) fit.1 all
  blocked_by o past p (Takes m None) n long e run fit open_ still long_is line_is n_is all =
      let front = front_at (line past) m fit.0 fit.1 in
      front_gone o past (Takes m None) 1 n (line (p ∷ past)) (λ t. refl)
      (line_takes o past p m None front.0 front.1 run e open_ front.2 ∙ ap (drop 1) (sym front.2))
      (omega arith) all
  blocked_by o past p (Takes m (Some t)) n long e run fit open_ still long_is line_is n_is all =
      let front = front_at (line past) m fit.0.0 fit.0.1 in
      front_gone o past (Takes m (Some t)) 1 n (line (p ∷ past)) (λ u. refl)
      (line_takes o past p m (Some t) front.0 front.1 run e open_ front.2
      ∙ ap (drop 1) (sym front.2)) (omega arith) all
  blocked_by o past p (Drains list) n long e run fit open_ still long_is line_is n_is all =
      let q = queue_len o past in
      let front = take q (line past) in
      let long = length-take-le q (line past) (shape_of o past run).within in
      let many = ap length fit ∙ (length-map front (λ offer. offer.message) ∙ long) in
      front_gone o past (Drains list) q n (line (p ∷ past)) (λ t. refl)
      (line_drains o past p list front (drop q (line past)) run e open_
      (sym (take-append-drop q (line past))) (long ∙ sym many)) (omega arith) all
  blocked_by o past p (Leaves t filled) n long e run fit open_ still long_is line_is n_is all =
      front_gone o past (Leaves t filled) (fill_count filled) n (line (p ∷ past)) (λ u. refl)
      (line_leaves o past p t filled run e open_) (omega arith) all
  blocked_by o past p done n long e run fit open_ still long_is line_is n_is all =
      front_gone o past done 0 n (line (p ∷ past)) (λ t. refl)
      (line_stays o past p run (ap keeps_line e) open_ still) (omega arith) all

  -- each blocked offer has a live ticket
  pub blocked_live : (o : Opening) (log : Log T A) → IsRun o log → is_over log ≡ false
      → all_live (is_live log) (blocked o log) ≡ true
  blocked_live o [] run still = refl
  blocked_live o (p ∷ past) run still =
      let open_ = not_over_yet o past p (filled_if_named o past run.1) run still in
      let s = stepped o past p run still in
      let done = change past p.0 p.1 in
      subst (λ b. all_live (λ t. not b && live_by past done t) (blocked o (p ∷ past)) ≡ true)
      (sym still)
      (blocked_by o past p done (queue_len o (p ∷ past)) s.long refl run.1 s.fit open_ still (sym s.long_is) s.line_is s.queue_len_is (blocked_live o past run.1 open_))
