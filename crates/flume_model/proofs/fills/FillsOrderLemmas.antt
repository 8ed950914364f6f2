-- Of each run, a hand-out that filled a receiver is of the message of the kept offer at its place.
use Rattle.flume_model.proofs.Common.{◌≡◌, ℕ, ◌+◌, Bool, false, not, ◌&&◌, List, [], ◌∷◌, ◌++◌, drop, take, Option, Some, None, zero, suc}
use Rattle.flume_model.proofs.Common.{refl, sym, ◌∙◌, ap, arith, inl, inr, ◌⊎◌, map, cond-false, append-nil, drop-append-le, map-append}
use Rattle.flume_model.proofs.Common.{take_all, take-append-drop, slice_get_within, slice_get, channel, is_over, entry_of, held_by, FillIs}
use Rattle.flume_model.proofs.Common.{IsHandOutOf, shows_to, shown, InOrder, line, queue_len, queue, messages, Log}
use Rattle.flume_model.proofs.Common.{Opening, Offer, HandOut, Shown}
use Rattle.flume_model.proofs.Common.{FilledIn, Change, Queues, Takes, Collects, Leaves, change, fill, hands_out, kept, handed_out}
use Rattle.flume_model.proofs.Common.{hand_outs}
use Rattle.flume_model.proofs.Common.{LogEntry, entries_after, entries, is_closed_after, IsRun, Reply, Step, common_steps}
use Rattle.flume_model.proofs.EntryChangeLemmas.{fills}
use Rattle.flume_model.proofs.fills.FillsKeptLemmas.{held_by_change, first_up, filled_holds, filled_stood}
use Rattle.flume_model.proofs.fills.FillsShownLemmas.{shows_leaves, collects_shows, shows_held, shows_stood, neither, unshown}
use Rattle.flume_model.proofs.LawfulReplyLemmas.{Fits, not_over_yet}
use Rattle.flume_model.proofs.EntryShapeLemmas.{filled_if_named, entries_apart, fits_run}
use Rattle.flume_model.proofs.order.KeptLemmas.{kept_by, line_is_open, not_withdrawn, kept_more, kept_same}
use Rattle.flume_model.proofs.order.PartLemmas.{ShownIs, Shape, given_within}
use Rattle.flume_model.proofs.PlaceLemmas.{rest_at, at_either, at_front}
use Rattle.flume_model.proofs.order.RunLemmas.{shape_of, placed}
use Rattle.flume_model.proofs.order.TicketLemmas.{handed_out_stay}
use Rattle.flume_model.proofs.WaitListLemmas.{fills_waiting}
use Rattle.flume_model.proofs.waits.WaitingStepLemmas.{nobody_once_over}

module _ {T : Type 0} where
  -- what a reply shows fills nobody
  shown_fills_none : (list : List T) (k t : ℕ) → slice_get (map (λ m. Shown m) list) k ≡ Some (FilledIn t) → ⊥
  shown_fills_none [] k t e = (let none : ⊥ = cc in none)
  shown_fills_none (m ∷ list) zero t e = (let none : ⊥ = cc in none)
  shown_fills_none (m ∷ list) (suc k) t e = shown_fills_none list k t e

  -- if a receiver is filled, nobody else is
  fill_is : (filled : Option ℕ) (k t : ℕ) → slice_get (fill {T = T} filled) k ≡ Some (FilledIn t) → (filled ≡ Some t) × (k ≡ 0)
  fill_is filled k t e = grind (arith, common_steps)

  -- a change that hands out to a receiver that it fills hands out nothing else
  fill_at : (done : Change T) (k t : ℕ) → slice_get (hands_out done) k ≡ Some (FilledIn t) → (fills done ≡ Some t) × (k ≡ 0)
  fill_at done k t e = grind (arith, common_steps, fill_is, shown_fills_none)

  -- if the message was shown, the hand-out is of it
  by_shown : (over : Bool) (got held : Option T) (x m : T) → got ≡ Some x → x ≡ m → FillIs over got held m
  by_shown over got held x m is same = rw is same

  -- if a message was shown, the fill is of it
  shown_is : (over : Bool) (got held : Option T) (x m : T) → got ≡ Some x → FillIs over got held m → x ≡ m
  shown_is over got held x m is h = rw is at h

  -- if nothing was shown, what an entry holds is of it, or the channel is over
  by_held : (over : Bool) (got held : Option T) (m : T) → got ≡ None → (over ≡ false → held ≡ Some m) → FillIs over got held m
  by_held over got held m is holds = grind (arith, common_steps)

  -- if nothing was shown, and the channel isn't over, an entry holds the message that the fill is
  -- of
  held_is : (over : Bool) (got held : Option T) (m : T) → got ≡ None → over ≡ false → FillIs over got held m → held ≡ Some m
  held_is over got held m is open_ h = grind (arith, common_steps)

module _ {T A : Type 0} where
  -- the hand-out that filled the receiver with this ticket is of the message
  abbrev Fill : Opening → Log T A → ℕ → T → Type 0
  Fill o log t m = IsHandOutOf (entries o log) log (FilledIn t) m

  -- while a receiver is parked the channel isn't over
  stood_open : (o : Opening) (log : Log T A) (t : ℕ) (e : LogEntry T) → entry_of t (entries o log) ≡ Some e → is_over log ≡ false
  stood_open o log t e found = grind (arith, common_steps, nobody_once_over o log)

  -- a fill is of the same message after one more pair of a run
  fill_stays : (o : Opening) (p : Step T × Reply T A) (past : Log T A) (t : ℕ) (m : T) → IsRun o (p ∷ past) → Fill o past t m
      → Fill o (p ∷ past) t m
  fill_stays o p past t m run h = by_both (shows_to t p.0 p.1) (shown past t) refl refl
    where
      over_now : Bool
      over_now = is_over (p ∷ past)

      held_past : Option T
      held_past = held_by (entry_of t (entries o past))

      held_now : Option T
      held_now = held_by (entry_of t (entries o (p ∷ past)))

      done : Change T
      done = change past p.0 p.1

      closes : Bool
      closes = not (is_closed_after past) && is_closed_after (p ∷ past)

      by_both : (now before : Option T) → shows_to t p.0 p.1 ≡ now → shown past t ≡ before → Fill o (p ∷ past) t m
      by_both None (Some x) now before =
          by_shown over_now (shown (p ∷ past) t) held_now x m (rw now before)
          (shown_is (is_over past) (shown past t) held_past x m before h)
      by_both (Some y) (Some x) now before =
          let stood = shows_stood o past p t y run now in
          let unseen = (unshown o past run.1).parked t stood.0 stood.1 in
          absurd (let none : ⊥ = cc in none)
      by_both (Some y) None now before =
          let stood = shows_stood o past p t y run now in
          let open_ = stood_open o past t stood.0 stood.1 in
          let held = held_is (is_over past) (shown past t) held_past m before open_ h in
          by_shown over_now (shown (p ∷ past) t) held_now y m (rw now refl) (shows_held (channel o past) p.0 p.1 t y m run.0 now held)
      by_both None None now before = by_held over_now (shown (p ∷ past) t) held_now m (rw now before) (λ open_.
          (let open_before = not_over_yet o past p (filled_if_named o past run.1) run open_ in
          let held = held_is (is_over past) (shown past t) held_past m before open_before h in
          let after : entries o (p ∷ past) ≡ entries_after (queue o past) closes (entries o past) done =
          cond-false (is_over (p ∷ past)) [] _ open_ in
          ap (λ es. held_by (entry_of t es)) after
          ∙ held_by_change (channel o past) closes done t m (fits_run o past p run)
          (λ is. (let shows = (collects_shows past p.0 p.1 t is).1 in let none : ⊥ = cc in none)) held))

  -- before a change that fills a receiver, the messages not handed out begin with those of which it gets the first
  first_are : (o : Opening) (past : Log T A) (done : Change T) (t : ℕ) → Shape o past → Fits (channel o past) done → is_over past ≡ false
      → fills done ≡ Some t
      → (later : List T) × (messages (drop (hand_outs past) (kept_by past done)) ≡ first_up (channel o past) done ++ later)
  first_are o past (Queues m filled) t shape h open_ is =
      let x : Offer T = record { message = m; ticket = None } in
      let within = given_within (kept past) (handed_out past) shape.parts in
      let whole = shape.waits (fills_waiting (entries o past) t (sym h.1 ∙ is)) in
      let queued : queue o past ≡ messages (line past) = ap messages (take_all (queue_len o past) (line past) (omega arith)) in (
        [],
        ap (λ l. messages (drop (hand_outs past) l)) (kept_more past x (not_withdrawn past m))
            ∙ ap messages (drop-append-le (hand_outs past) (kept past) (x ∷ []) within)
            ∙ ap (λ l. messages (l ++ x ∷ [])) (sym (line_is_open past open_)) ∙ map-append (λ y. y.message) (line past) (x ∷ [])
            ∙ ap (λ l. l ++ m ∷ []) (sym queued) ∙ sym (append-nil (queue o past ++ m ∷ [])),
      )
  first_are o past (Leaves u filled) t shape h open_ is =
      let front = take (queue_len o past) (line past) in
      let later = drop (queue_len o past) (line past) in (
        messages later,
        ap (λ l. messages (drop (hand_outs past) l)) (kept_same past) ∙ ap messages (sym (line_is_open past open_))
            ∙ ap messages (sym (take-append-drop (queue_len o past) (line past))) ∙ map-append (λ y. y.message) front later,
      )
  first_are o past _ t shape h open_ is = absurd (let none : ⊥ = cc in none)

  -- a new hand-out that fills a receiver is of the message of the kept offer at its place
  fill_new : (o : Opening) (p : Step T × Reply T A) (past : Log T A) (t : ℕ) (offer : Offer T) → IsRun o (p ∷ past)
      → fills (change past p.0 p.1) ≡ Some t → slice_get (kept (p ∷ past)) (hand_outs past) ≡ Some offer
      → Fill o (p ∷ past) t offer.message
  fill_new o p past t offer run is at =
      by_held (is_over (p ∷ past)) (shown (p ∷ past) t) (held_by (entry_of t (entries o (p ∷ past)))) offer.message
      (neither (shows_to t p.0 p.1) (shown past t) nothing_now ((unshown o past run.1).parked t stood.0 stood.1)) holds
    where
      done : Change T
      done = change past p.0 p.1

      closes : Bool
      closes = not (is_closed_after past) && is_closed_after (p ∷ past)

      fit : Fits (channel o past) done
      fit = fits_run o past p run

      stood : (e : LogEntry T) × (entry_of t (entries o past) ≡ Some e)
      stood = filled_stood (channel o past) done t fit is

      nothing_now : (x : T) → shows_to t p.0 p.1 ≡ Some x → ⊥
      nothing_now x shows = by_change (shows_leaves past p.0 p.1 t x shows)
        where
          by_change : (change past p.0 p.1 ≡ Collects t) ⊎ (change past p.0 p.1 ≡ Takes x (Some t)) → ⊥
          by_change (inl e) = (let nobody : fills (change past p.0 p.1) ≡ None = ap fills e in let none : ⊥ = cc in none)
          by_change (inr e) = (let nobody : fills (change past p.0 p.1) ≡ None = ap fills e in let none : ⊥ = cc in none)

      holds : is_over (p ∷ past) ≡ false → held_by (entry_of t (entries o (p ∷ past))) ≡ Some offer.message
      holds open_ =
          let open_before = not_over_yet o past p (filled_if_named o past run.1) run open_ in
          let filled = filled_holds (channel o past) closes done t fit (entries_apart o past run.1) is in
          let first = first_are o past done t (shape_of o past run.1) fit open_before is in
          let place = rest_at (kept (p ∷ past)) (hand_outs past) offer at in
          let here : offer.message ∷ messages (drop (hand_outs past + 1) (kept (p ∷ past))) ≡ filled.0 ∷ (filled.1 ++ first.0) =
          sym (ap messages place) ∙ first.1 ∙ ap (λ l. l ++ first.0) filled.2 in
          let same : filled.0 ≡ offer.message = cc in
          let after : entries o (p ∷ past) ≡ entries_after (queue o past) closes (entries o past) done =
          cond-false (is_over (p ∷ past)) [] _ open_ in
          ap (λ es. held_by (entry_of t es)) after ∙ filled.3 ∙ ap (λ m. Some m) same

  -- each fill is of the kept offer at its place
  fill_placed : (o : Opening) (log : Log T A) → IsRun o log → (j t : ℕ) (offer : Offer T) → slice_get (handed_out log) j ≡ Some (FilledIn t)
      → slice_get (kept log) j ≡ Some offer → Fill o log t offer.message
  fill_placed o [] run j t offer given at = absurd (let none : ⊥ = cc in none)
  fill_placed o (p ∷ past) run j t offer given at =
      by_cases (fill_placed o past run.1) (at_either (handed_out past) (hands_out (change past p.0 p.1)) j (FilledIn t) given)
    where
      Placed : Type 0
      Placed = (j t : ℕ) (offer : Offer T) → slice_get (handed_out past) j ≡ Some (FilledIn t) → slice_get (kept past) j ≡ Some offer
          → Fill o past t offer.message

      by_cases : Placed → (slice_get (handed_out past) j ≡ Some (FilledIn t))
          ⊎ ((k : ℕ) × (j ≡ hand_outs past + k) × (slice_get (hands_out (change past p.0 p.1)) k ≡ Some (FilledIn t)))
          → Fill o (p ∷ past) t offer.message
      by_cases earlier (inl before) =
          let within = slice_get_within (handed_out past) j (FilledIn t) before in
          let same = at_front (hand_outs past) (kept (p ∷ past)) (kept past) j within (handed_out_stay o p past run) in
          fill_stays o p past t offer.message run (earlier j t offer before (sym same ∙ at))
      by_cases earlier (inr new) =
          let one = fill_at (change past p.0 p.1) new.0 t new.2 in
          let place : j ≡ hand_outs past = (let sum = new.1 in let first = one.1 in omega arith) in
          fill_new o p past t offer run one.0 (ap (slice_get (kept (p ∷ past))) (sym place) ∙ at)

  -- the j-th message handed out is the j-th kept offer's
  pub in_order : (o : Opening) (log : Log T A) → IsRun o log → InOrder (entries o log) log
  in_order o log run j given at_j = by_given given at_j (placed o log run j given at_j)
    where
      by_given : (given : HandOut T) → slice_get (handed_out log) j ≡ Some given
          → (offer : Offer T) × (slice_get (kept log) j ≡ Some offer) × ShownIs given offer.message
          → (offer : Offer T) × (slice_get (kept log) j ≡ Some offer) × IsHandOutOf (entries o log) log given offer.message
      by_given (Shown m) at h = h
      by_given (FilledIn t) at h = (h.0, h.1, fill_placed o log run j t h.0 at h.1)
