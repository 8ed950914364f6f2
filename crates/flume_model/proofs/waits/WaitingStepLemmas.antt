-- What is before a step of a run, and how long the line is after it: numbers alone, for the laws of
-- parked receivers.
use Rattle.flume_model.proofs.Common.{◌≡◌, ℕ, ◌+◌, ◌-◌, ◌≤◌, Bool, true, false, not, ◌&&◌, [], ◌∷◌, ◌++◌, length, drop, take, Some, None}
use Rattle.flume_model.proofs.Common.{refl, sym, ◌∙◌, ap, arith, length-append, length-take-le, cond-true, cond-false, take-append-drop}
use Rattle.flume_model.proofs.Common.{length-drop, length-map, length_push, Channel, channel, is_over, some_wait, line, queue_len}
use Rattle.flume_model.proofs.Common.{queue_len_after, capacity, queue, fill_count, Log, Opening, Offer, Change, Queues, Blocks, Withdraws}
use Rattle.flume_model.proofs.Common.{Takes}
use Rattle.flume_model.proofs.Common.{Drains, Leaves, change, entries_after, entries, is_closed_after, IsRun, Reply, Step}
use Rattle.flume_model.proofs.LawfulReplyLemmas.{Fits, not_over_yet}
use Rattle.flume_model.proofs.EntryShapeLemmas.{filled_if_named, fits_run}
use Rattle.flume_model.proofs.order.PartLemmas.{at_most, front_at, blocked_at, leave_within}
use Rattle.flume_model.proofs.order.RunLemmas.{shape_of}
use Rattle.flume_model.proofs.order.KeptLemmas.{keeps_line}
use Rattle.flume_model.proofs.order.LineStepLemmas.{line_queues, line_blocks, line_takes, line_drains, line_leaves, line_withdraws}
use Rattle.flume_model.proofs.order.LineStepLemmas.{line_stays}

module _ {T : Type 0} where
  -- what holds of the channel before a step of a run
  pub record Stood (c : Channel T) : Type 0 where
    pub within : c.queue_len ≤ length c.line
    pub whole : some_wait c.entries ≡ true → c.queue_len ≡ length c.line
    pub queued : length c.queue ≡ c.queue_len

  -- how long the line is after a change
  abbrev pub Long : Channel T → Change T → ℕ → Type 0
  Long c (Queues m filled) n = n + fill_count filled ≡ length c.line + 1
  Long c (Blocks m t) n = n ≡ length c.line + 1
  Long c (Withdraws t) n = n + 1 ≡ length c.line
  Long c (Takes m receiver) n = n + 1 ≡ length c.line
  Long c (Drains list) n = n + c.queue_len ≡ length c.line
  Long c (Leaves t filled) n = n + fill_count filled ≡ length c.line
  Long c _ n = n ≡ length c.line

module _ {T A : Type 0} where
  -- the messages of the line are as many as its offers
  pub line_long : (o : Opening) (log : Log T A) → length (channel o log).line ≡ length (line log)
  line_long o log = length-map (line log) (λ offer. offer.message)

  -- `queue_len` counts the queued messages
  queue_long : (o : Opening) (log : Log T A) → IsRun o log → length (queue o log) ≡ queue_len o log
  queue_long o log run =
      length-map (take (queue_len o log) (line log)) (λ offer. offer.message)
      ∙ length-take-le (queue_len o log) (line log) (shape_of o log run).within

  -- what holds of the channel after each run
  pub stood : (o : Opening) (log : Log T A) → IsRun o log → Stood (channel o log)
  stood o log run =
      let long = line_long o log in
      let shape = shape_of o log run in
      let in_line = shape.within in
      record { within = omega arith; whole = λ some. shape.waits some ∙ sym long; queued = queue_long o log run }

  -- all else leaves it as long
  long_same : (o : Opening) (past : Log T A) (p : Step T × Reply T A) (done : Change T) → change past p.0 p.1 ≡ done
      → keeps_line done ≡ true → IsRun o past → is_over past ≡ false → is_over (p ∷ past) ≡ false
      → length (line (p ∷ past)) ≡ length (channel o past).line
  long_same o past p done e keeps run open_ still =
      ap length (line_stays o past p run (ap keeps_line e ∙ keeps) open_ still) ∙ sym (line_long o past)

  -- how long the line is after one more pair of a run, while the channel isn't over
  pub long_after : (o : Opening) (past : Log T A) (p : Step T × Reply T A) (done : Change T) → change past p.0 p.1 ≡ done
      → IsRun o past → Fits (channel o past) done → is_over past ≡ false → is_over (p ∷ past) ≡ false
      → Long (channel o past) done (length (line (p ∷ past)))
  long_after o past p (Queues m filled) e run h open_ still =
      let x : Offer T = record { message = m; ticket = None } in
      let long = ap length (line_queues o past p m filled run e open_) ∙ length-drop (fill_count filled) (line past ++ x ∷ [])
      ∙ ap (λ n. n - fill_count filled) (length_push (line past) x) in
      let same = line_long o past in
      let one = at_most filled in
      omega arith
  long_after o past p (Blocks m t) e run h open_ still =
      let long = ap length (line_blocks o past p m t run e h.2 open_) ∙ length_push (line past) _ in
      let same = line_long o past in
      omega arith
  long_after o past p (Withdraws t) e run h open_ still =
      let place = blocked_at o past t h.0 (shape_of o past run).within h.1 in
      let long = ap length (line_withdraws o past p t h.0 place.0 [] place.1 run e open_ place.2) ∙ length-append place.0 place.1 in
      let was = ap length place.2 ∙ length-append place.0 _ in
      let same = line_long o past in
      omega arith
  long_after o past p (Takes m None) e run h open_ still =
      let front = front_at (line past) m h.0 h.1 in
      let long = ap length (line_takes o past p m None front.0 front.1 run e open_ front.2) in
      let was = ap length front.2 in
      let same = line_long o past in
      omega arith
  long_after o past p (Takes m (Some t)) e run h open_ still =
      let front = front_at (line past) m h.0.0 h.0.1 in
      let long = ap length (line_takes o past p m (Some t) front.0 front.1 run e open_ front.2) in
      let was = ap length front.2 in
      let same = line_long o past in
      omega arith
  long_after o past p (Drains list) e run h open_ still =
      let n = queue_len o past in
      let within = (shape_of o past run).within in
      let queued = ap length h ∙ queue_long o past run in
      let front_long = length-take-le n (line past) within in
      let long = ap length (line_drains o past p list (take n (line past)) (drop n (line past)) run e open_
      (sym (take-append-drop n (line past))) (front_long ∙ sym queued)) ∙ length-drop n (line past) in
      let same = line_long o past in
      omega arith
  long_after o past p (Leaves t filled) e run h open_ still =
      let long = ap length (line_leaves o past p t filled run e open_) ∙ length-drop (fill_count filled) (line past) in
      let same = line_long o past in
      let few = leave_within o past t in
      let fills = ap fill_count h.1 in
      omega arith
  long_after o past p done e run h open_ still = long_same o past p done e refl run open_ still

  -- what is after one more pair of a run, while the channel isn't over
  pub record Stepped (o : Opening) (past : Log T A) (p : Step T × Reply T A) : Type 0 where
    pub stood : Stood (channel o past)
    pub fit : Fits (channel o past) (change past p.0 p.1)
    pub closes : Bool
    pub closes_is : closes ≡ (not (is_closed_after past) && is_closed_after (p ∷ past))
    pub long : ℕ
    pub long_is : long ≡ length (line (p ∷ past))
    pub line_is : Long (channel o past) (change past p.0 p.1) long
    pub queue_len_is : queue_len o (p ∷ past) ≡ queue_len_after (capacity o (p ∷ past)) long (queue_len o past) (change past p.0 p.1)
    pub in_line : queue_len_after (capacity o (p ∷ past)) long (queue_len o past) (change past p.0 p.1) ≤ long
    pub entries_are : entries o (p ∷ past) ≡ entries_after (queue o past) closes (entries o past) (change past p.0 p.1)

  -- of each run
  pub stepped : (o : Opening) (past : Log T A) (p : Step T × Reply T A) → IsRun o (p ∷ past) → is_over (p ∷ past) ≡ false → Stepped o past p
  stepped o past p run still =
      let open_ = not_over_yet o past p (filled_if_named o past run.1) run still in
      let fit = fits_run o past p run in
      let queued : queue_len o (p ∷ past) ≡ queue_len_after (capacity o (p ∷ past)) (length (line (p ∷ past))) (queue_len o past)
      (change past p.0 p.1) =
      cond-false (is_over (p ∷ past)) 0 _ still in
      let in_line = (shape_of o (p ∷ past) run).within in
      record {
        stood = stood o past run.1;
        fit = fit;
        closes = not (is_closed_after past) && is_closed_after (p ∷ past);
        closes_is = refl;
        long = length (line (p ∷ past));
        long_is = refl;
        line_is = long_after o past p (change past p.0 p.1) refl run.1 fit open_ still;
        queue_len_is = queued;
        in_line = omega arith;
        entries_are = cond-false (is_over (p ∷ past)) [] _ still;
      }

  -- once over nobody is parked
  pub nobody_once_over : (o : Opening) (log : Log T A) → is_over log ≡ true → entries o log ≡ []
  nobody_once_over o [] over = refl
  nobody_once_over o (p ∷ past) over = cond-true (is_over (p ∷ past)) [] _ over
