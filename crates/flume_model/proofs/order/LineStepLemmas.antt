-- What one pair of a run does to the line, and that tickets in the line are apart.
use Rattle.flume_model.proofs.Common.{◌≡◌, ℕ, ◌≤◌, Bool, true, false, List, [], ◌∷◌, ◌++◌, length, drop, take, Option, None, Some, refl}
use Rattle.flume_model.proofs.Common.{sym, ◌∙◌, ap, eqb, ◌+◌, not, arith, drop_at, cond-true, append_assoc, take-append-drop, has_ticket}
use Rattle.flume_model.proofs.Common.{is_over, senders, receivers, senders_after, receivers_after, line, next_ticket, fill_count, Log}
use Rattle.flume_model.proofs.Common.{Opening, Offer, Change, Queues, Blocks, Withdraws, Takes, Drains, Leaves, change, withdrawn, kept}
use Rattle.flume_model.proofs.Common.{handed_out, hand_outs, offers, IsRun, Reply, Step}
use Rattle.flume_model.proofs.TicketLemmas.{apart, none_apart, rising_filter}
use Rattle.flume_model.proofs.order.KeptLemmas.{open_line, line_by, line_is_open, line_more, line_queued, line_after_leave}
use Rattle.flume_model.proofs.order.KeptLemmas.{line_drained, line_front}
use Rattle.flume_model.proofs.order.KeptLemmas.{line_less, line_same, keeps_line}
use Rattle.flume_model.proofs.order.PartLemmas.{given_within, open_at}
use Rattle.flume_model.proofs.order.RunLemmas.{shape_of}

module _ {T A : Type 0} where
  -- the line after one more pair goes by its change, while the channel isn't over
  line_next : (past : Log T A) (p : Step T × Reply T A) (done : Change T) → change past p.0 p.1 ≡ done → is_over (p ∷ past) ≡ false
      → line (p ∷ past) ≡ line_by past done
  line_next past p done e open_ = line_is_open (p ∷ past) open_ ∙ ap (line_by past) e

  -- no more was handed out than kept
  kept_enough : (o : Opening) (past : Log T A) → IsRun o past → hand_outs past ≤ length (kept past)
  kept_enough o past run = given_within (kept past) (handed_out past) (shape_of o past run).parts

  -- whether both sides have disconnected after a change
  abbrev pub over_by : Log T A → Change T → Bool
  over_by past done = eqb (senders_after (senders past) done + receivers_after (receivers past) done) 0

  -- after a change that leaves the ends as they are, the channel is over only if it was
  over_as_before : (past : Log T A) (p : Step T × Reply T A) (done : Change T) → change past p.0 p.1 ≡ done
      → over_by past done ≡ is_over past → is_over past ≡ false → is_over (p ∷ past) ≡ false
  over_as_before past p done e same open_ = ap (over_by past) e ∙ same ∙ open_

  -- a queued message comes last, and the front goes if a receiver is filled
  pub line_queues : (o : Opening) (past : Log T A) (p : Step T × Reply T A) (m : T) (filled : Option ℕ) → IsRun o past
      → change past p.0 p.1 ≡ Queues m filled → is_over past ≡ false
      → line (p ∷ past) ≡ drop (fill_count filled) (line past ++ record { message = m; ticket = None } ∷ [])
  line_queues o past p m filled run e open_ =
      let x : Offer T = record { message = m; ticket = None } in
      line_next past p (Queues m filled) e (over_as_before past p (Queues m filled) e refl open_)
      ∙ line_queued past m filled (kept_enough o past run)
      ∙ ap (λ l. drop (fill_count filled) (l ++ x ∷ [])) (sym (line_is_open past open_))

  -- a blocked message comes last, under the next ticket
  pub line_blocks : (o : Opening) (past : Log T A) (p : Step T × Reply T A) (m : T) (t : ℕ) → IsRun o past
      → change past p.0 p.1 ≡ Blocks m t → t ≡ next_ticket o past → is_over past ≡ false
      → line (p ∷ past) ≡ line past ++ record { message = m; ticket = Some t } ∷ []
  line_blocks o past p m t run e next open_ =
      let x : Offer T = record { message = m; ticket = Some t } in
      line_next past p (Blocks m t) e (over_as_before past p (Blocks m t) e refl open_)
      ∙ line_more past x ((shape_of o past run).unissued t m (omega arith)) (kept_enough o past run)
      ∙ ap (λ l. l ++ x ∷ []) (sym (line_is_open past open_))

  -- a message that is handed out leaves the rest
  pub line_takes : (o : Opening) (past : Log T A) (p : Step T × Reply T A) (m : T) (receiver : Option ℕ) (x : Offer T)
      (rest : List (Offer T)) → IsRun o past
      → change past p.0 p.1 ≡ Takes m receiver → is_over past ≡ false → line past ≡ x ∷ rest → line (p ∷ past) ≡ rest
  line_takes o past p m receiver x rest run e open_ front =
      line_next past p (Takes m receiver) e (over_as_before past p (Takes m receiver) e refl open_)
      ∙ line_front past m receiver x rest (sym (line_is_open past open_) ∙ front)

  -- the messages that are drained leave the rest
  pub line_drains : (o : Opening) (past : Log T A) (p : Step T × Reply T A) (list : List T) (front rest : List (Offer T)) → IsRun o past
      → change past p.0 p.1 ≡ Drains list → is_over past ≡ false → line past ≡ front ++ rest → length front ≡ length list
      → line (p ∷ past) ≡ rest
  line_drains o past p list front rest run e open_ at long =
      line_next past p (Drains list) e (over_as_before past p (Drains list) e refl open_)
      ∙ line_drained past list ∙ ap (drop (length list)) (sym (line_is_open past open_) ∙ at)
      ∙ drop_at front rest (length list) long

  -- a receiver leaves, and the front goes if another one is filled
  pub line_leaves : (o : Opening) (past : Log T A) (p : Step T × Reply T A) (t : ℕ) (filled : Option ℕ) → IsRun o past
      → change past p.0 p.1 ≡ Leaves t filled → is_over past ≡ false → line (p ∷ past) ≡ drop (fill_count filled) (line past)
  line_leaves o past p t filled run e open_ =
      line_next past p (Leaves t filled) e (over_as_before past p (Leaves t filled) e refl open_)
      ∙ line_after_leave past t filled ∙ ap (drop (fill_count filled)) (sym (line_is_open past open_))

  -- a message that is withdrawn leaves the others
  pub line_withdraws : (o : Opening) (past : Log T A) (p : Step T × Reply T A) (t : ℕ) (m : T)
      (front before later : List (Offer T)) → IsRun o past
      → change past p.0 p.1 ≡ Withdraws t → is_over past ≡ false
      → line past ≡ front ++ (before ++ record { message = m; ticket = Some t } ∷ later) → line (p ∷ past) ≡ front ++ (before ++ later)
  line_withdraws o past p t m front before later run e open_ at =
      let place = sym (line_is_open past open_) ∙ at ∙ sym (append_assoc front before _) in
      line_next past p (Withdraws t) e (over_as_before past p (Withdraws t) e refl open_)
      ∙ line_less past (next_ticket o past) t m (front ++ before) later (shape_of o past run).rising (kept_enough o past run) place
      ∙ append_assoc front before later

  -- all else leaves the line, while the channel isn't over
  pub line_stays : (o : Opening) (past : Log T A) (p : Step T × Reply T A) → IsRun o past
      → keeps_line (change past p.0 p.1) ≡ true → is_over past ≡ false → is_over (p ∷ past) ≡ false → line (p ∷ past) ≡ line past
  line_stays o past p run keeps open_ still =
      line_is_open (p ∷ past) still ∙ line_same past (change past p.0 p.1) keeps ∙ sym (line_is_open past open_)

  -- once over, nothing is left
  pub line_over : (log : Log T A) → is_over log ≡ true → line log ≡ []
  line_over log over = cond-true (is_over log) [] (open_line log) over

  -- tickets in the line are apart
  pub apart_in_line : (o : Opening) (log : Log T A) → IsRun o log → (front before later : List (Offer T)) (t : ℕ) (m : T)
      → line log ≡ front ++ (before ++ record { message = m; ticket = Some t } ∷ later)
      → (has_ticket t before ≡ false) × (has_ticket t later ≡ false) × (has_ticket t front ≡ false)
  apart_in_line o log run front before later t m e =
      let shape = shape_of o log run in
      let gone = take (hand_outs log) (kept log) in
      let x : Offer T = record { message = m; ticket = Some t } in
      let place : line log ≡ (front ++ before) ++ x ∷ later = e ∙ sym (append_assoc front before _) in
      let open_ = open_at log (front ++ before) later x place in
      let all : kept log ≡ (gone ++ (front ++ before)) ++ x ∷ later =
      sym (take-append-drop (hand_outs log) (kept log)) ∙ ap (λ l. gone ++ l) (sym (line_is_open log open_) ∙ place)
      ∙ sym (append_assoc gone (front ++ before) _) in
      let kept_rise = rising_filter (next_ticket o log) (λ offer. not (withdrawn log offer)) (offers log) shape.rising in
      let none = apart (next_ticket o log) (gone ++ (front ++ before)) later t m (rw all at kept_rise) in
      let before_all = none_apart t gone (front ++ before) none.0 in
      let in_line = none_apart t front before before_all.1 in
      (in_line.1, none.1, in_line.0)
