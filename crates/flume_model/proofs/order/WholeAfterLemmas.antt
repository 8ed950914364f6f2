-- While a receiver waits, the queue is the whole line: so it is after each change that fits.
use Rattle.flume_model.proofs.Common.{◌≡◌, ℕ, ◌-◌, Bool, true, false, if◌then◌else◌, List, [], ◌∷◌, ◌++◌, length, max, Option, Some, None}
use Rattle.flume_model.proofs.Common.{refl, sym, ◌∙◌, ◌⊎◌, inl, inr, ap, arith, take, length-append, length-take-le, length-map, channel}
use Rattle.flume_model.proofs.Common.{is_over, is_woken, some_wait, entry_of, all_woken, line, queue}
use Rattle.flume_model.proofs.Common.{queue_len, queue_len_after, capacity, capacity_after, Log}
use Rattle.flume_model.proofs.Common.{Opening, Change, Queues, Blocks, Withdraws, Takes, Drains, Parks, Asks, Collects, Leaves}
use Rattle.flume_model.proofs.Common.{SenderLeaves, ReceiverLeaves, Resizes, capped, LogEntry, same_notice}
use Rattle.flume_model.proofs.Common.{entries, entries_after, common_steps}
use Rattle.flume_model.proofs.WaitingCountLemmas.{wait_round_for, wait_without, wait_after_leave, wait_woken}
use Rattle.flume_model.proofs.WaitListLemmas.{wait_again}
use Rattle.flume_model.proofs.LawfulReplyLemmas.{Fits}
use Rattle.flume_model.proofs.order.KeptLemmas.{line_by, line_is_open}
use Rattle.flume_model.proofs.order.KeptLemmas.{line_same, keeps_line}
use Rattle.flume_model.proofs.order.PartLemmas.{Shape, blocked_at}
use Rattle.flume_model.proofs.order.RoomAfterLemmas.{long_queued, long_left, long_drained, long_taken}

-- if the queue was the whole line and one was taken, it is that again
taken_whole : (capacity : Option ℕ) (n long : ℕ) → n ≡ long → max n (capped capacity long) ≡ long
taken_whole capacity n long e = grind (arith, common_steps)

-- of an empty line nothing is queued
capped_none : (capacity : Option ℕ) → capped capacity 0 ≡ 0
capped_none capacity = grind (arith, common_steps)

module _ {T : Type 0} where
  -- if one waits after an end left, one waited before
  wait_closing : (closes : Bool) (es : List (LogEntry T)) → some_wait (if closes then all_woken same_notice es else es) ≡ true
      → some_wait es ≡ true
  wait_closing closes es some = grind (arith, common_steps, wait_woken same_notice es)

module _ {T A : Type 0} where
  -- if the entries stay and so does the line, the queue is the whole line as before
  waits_same : (o : Opening) (past : Log T A) (done : Change T) → Shape o past → is_over past ≡ false → keeps_line done ≡ true
      → some_wait (entries o past) ≡ true → queue_len o past ≡ length (line_by past done)
  waits_same o past done shape open_ keeps some =
      shape.waits some ∙ sym (ap length (line_same past done keeps ∙ sym (line_is_open past open_)))

  -- while a receiver waits after a change that fits, the queue is the whole line
  pub waits_after : (o : Opening) (past : Log T A) (done : Change T) (closes : Bool) → Shape o past → Fits (channel o past) done
      → is_over past ≡ false → some_wait (entries_after (queue o past) closes (entries o past) done) ≡ true
      → queue_len_after (capacity_after (capacity o past) done) (length (line_by past done)) (queue_len o past) done ≡ length
      (line_by past done)
  waits_after o past (Queues m filled) closes shape h open_ some =
      let long = long_queued o past m filled shape open_ in
      let before = shape.waits (wait_round_for same_notice (queue o past ++ m ∷ []) (entries o past) some) in
      omega arith
  waits_after o past (Blocks m t) closes shape h open_ some = absurd (let none : ⊥ = cc (h.0.1, some) in none)
  waits_after o past (Withdraws t) closes shape h open_ some =
      let place = blocked_at o past t h.0 shape.within h.1 in
      let long = ap length place.2 ∙ length-append place.0 _ in
      let before = shape.waits some in
      let behind = place.3 in
      absurd (omega arith)
  waits_after o past (Takes m None) closes shape h open_ some =
      let long = long_taken o past m None shape h open_ in
      let before = shape.waits some in
      taken_whole (capacity o past) (queue_len o past - 1) (length (line_by past (Takes m None))) (omega arith)
  waits_after o past (Takes m (Some t)) closes shape h open_ some =
      let long = long_taken o past m (Some t) shape h.0 open_ in
      let before = shape.waits (wait_without t (entries o past) some) in
      taken_whole (capacity o past) (queue_len o past - 1) (length (line_by past (Takes m (Some t)))) (omega arith)
  waits_after o past (Drains list) closes shape h open_ some =
      let before = shape.waits some in
      let drained : length list ≡ length (line past) = ap length h ∙ length-map (take (queue_len o past) (line past)) (λ x. x.message)
      ∙ length-take-le (queue_len o past) (line past) shape.within ∙ before in
      let long = long_drained past list open_ in
      let none : length (line_by past (Drains list)) ≡ 0 = omega arith in
      rw none (capped_none (capacity o past))
  waits_after o past (Parks t kind) closes shape h open_ some =
      let none : length (line past) ≡ 0 = sym (length-map (line past) (λ x. x.message)) ∙ ap length h.0 in
      let same : length (line_by past (Parks t kind)) ≡ length (line past) =
      ap length (line_same past (Parks t kind) refl ∙ sym (line_is_open past open_)) in
      let n_within = shape.within in
      omega arith
  waits_after o past (Asks t) closes shape h open_ some = by_cases (wait_again t (entries o past) some)
    where
      by_cases : (some_wait (entries o past) ≡ true)
          ⊎ ((e : LogEntry T) × (entry_of t (entries o past) ≡ Some e) × (is_woken e.mark ≡ true))
          → queue_len o past ≡ length (line_by past (Asks t))
      by_cases (inl one) = waits_same o past (Asks t) shape open_ refl one
      by_cases (inr woken) =
          let is : woken.0 ≡ h.0 = (let found = woken.1 in let same = h.1 in cc) in
          let none : length (line past) ≡ 0 =
          sym (length-map (line past) (λ x. x.message)) ∙ ap length (h.2 (sym (ap (λ e. is_woken e.mark) is) ∙ woken.2)).0 in
          let same : length (line_by past (Asks t)) ≡ length (line past) =
          ap length (line_same past (Asks t) refl ∙ sym (line_is_open past open_)) in
          let n_within = shape.within in
          omega arith
  waits_after o past (Collects t) closes shape h open_ some =
      waits_same o past (Collects t) shape open_ refl (wait_without t (entries o past) some)
  waits_after o past (Leaves t filled) closes shape h open_ some =
      let long = long_left past t filled open_ in
      let before = shape.waits (wait_after_leave same_notice t (queue o past) (entries o past) some) in
      omega arith
  waits_after o past SenderLeaves closes shape h open_ some =
      waits_same o past SenderLeaves shape open_ refl (wait_closing closes (entries o past) some)
  waits_after o past ReceiverLeaves closes shape h open_ some =
      waits_same o past ReceiverLeaves shape open_ refl (wait_closing closes (entries o past) some)
  waits_after o past (Resizes new) closes shape h open_ some =
      taken_whole (Some new) (queue_len o past) (length (line_by past (Resizes new)))
      (waits_same o past (Resizes new) shape open_ refl some)
  waits_after o past done closes shape h open_ some = waits_same o past done shape open_ refl some
