-- After each change that fits as much is queued as the line and the capacity allow.
use Rattle.flume_model.proofs.Common.{◌≡◌, ℕ, ◌+◌, ◌-◌, ◌<◌, ◌≤◌, Bool, true, false, List, [], ◌∷◌, ◌++◌, length, max, Option, Some, None}
use Rattle.flume_model.proofs.Common.{refl, sym, ◌∙◌, ap, arith, drop, length-append, suc, subst, length_push, length-drop, IsFront}
use Rattle.flume_model.proofs.Common.{channel, is_over, some_wait, leave_fills, HasRoom, IsAtCapacity, line, queue, queue_len}
use Rattle.flume_model.proofs.Common.{queue_len_after, capacity, capacity_after, next_ticket, fill_count, Log, Opening, Offer, Change}
use Rattle.flume_model.proofs.Common.{Queues, Blocks, Withdraws, Takes}
use Rattle.flume_model.proofs.Common.{Drains, Leaves, Resizes, capped, kept, handed_out, entries, common_steps}
use Rattle.flume_model.proofs.WaitListLemmas.{leave_fills_waiting}
use Rattle.flume_model.proofs.LawfulReplyLemmas.{Fits}
use Rattle.flume_model.proofs.order.KeptLemmas.{open_line, line_by, line_is_open, line_more, line_queued, line_after_leave, line_drained}
use Rattle.flume_model.proofs.order.KeptLemmas.{line_front, line_less, line_same, keeps_line}
use Rattle.flume_model.proofs.order.PartLemmas.{Shape, at_most, given_within, rest_is, front_at, withdrawn_at}

-- what is queued of a line so long
pub record Room (capacity : Option ℕ) (n long : ℕ) : Type 0 where
  pub in_line : n ≤ long
  pub at_capacity : n < long → IsAtCapacity capacity n

-- a queue with room isn't at capacity
pub room_or_full : (capacity : Option ℕ) (n : ℕ) → HasRoom capacity n → IsAtCapacity capacity n → ⊥
room_or_full capacity n h k = grind (arith, common_steps)

-- what is queued after a message was taken
room_taken : (capacity : Option ℕ) (n long : ℕ) → n ≤ long → Room capacity (max n (capped capacity long)) long
room_taken None n long le = record { in_line = omega arith; at_capacity = λ lt. absurd (omega arith) }
room_taken (Some c) n long le = record { in_line = omega arith; at_capacity = λ lt. omega arith }

-- what is queued after all that was queued was drained
room_drained : (capacity : Option ℕ) (long : ℕ) → Room capacity (capped capacity long) long
room_drained None long = record { in_line = omega arith; at_capacity = λ lt. absurd (omega arith) }
room_drained (Some c) long = record { in_line = omega arith; at_capacity = λ lt. omega arith }

-- what isn't true is false
pub unlike_true : (b : Bool) → (b ≡ true → ⊥) → b ≡ false
unlike_true b no_ = grind (arith, common_steps)

module _ {T A : Type 0} where
  -- as much is queued of a line as long
  room_same : (o : Opening) (past : Log T A) (done : Change T) → Shape o past → is_over past ≡ false → keeps_line done ≡ true
      → Room (capacity o past) (queue_len o past) (length (line_by past done))
  room_same o past done shape open_ keeps =
      let same : line_by past done ≡ line past = line_same past done keeps ∙ sym (line_is_open past open_) in
      rw same (record { in_line = shape.within; at_capacity = shape.full })

  -- how long the line is if one more message is queued
  pub long_queued : (o : Opening) (past : Log T A) (m : T) (filled : Option ℕ) → Shape o past → is_over past ≡ false
      → length (line_by past (Queues m filled)) ≡ length (line past) + 1 - fill_count filled
  long_queued o past m filled shape open_ =
      let x : Offer T = record { message = m; ticket = None } in
      let given = given_within (kept past) (handed_out past) shape.parts in
      ap length (line_queued past m filled given ∙ ap (λ l. drop (fill_count filled) (l ++ x ∷ [])) (sym (line_is_open past open_)))
      ∙ length-drop (fill_count filled) (line past ++ x ∷ []) ∙ ap (λ n. n - fill_count filled) (length_push (line past) x)

  -- how long it is if a receiver leaves
  pub long_left : (past : Log T A) (t : ℕ) (filled : Option ℕ) → is_over past ≡ false
      → length (line_by past (Leaves t filled)) ≡ length (line past) - fill_count filled
  long_left past t filled open_ =
      ap length (line_after_leave past t filled ∙ ap (drop (fill_count filled)) (sym (line_is_open past open_)))
      ∙ length-drop (fill_count filled) (line past)

  -- how long it is if this many messages are drained
  pub long_drained : (past : Log T A) (list : List T) → is_over past ≡ false
      → length (line_by past (Drains list)) ≡ length (line past) - length list
  long_drained past list open_ =
      ap length (line_drained past list ∙ ap (drop (length list)) (sym (line_is_open past open_)))
      ∙ length-drop (length list) (line past)

  -- the line is one shorter if its front is taken
  pub long_taken : (o : Opening) (past : Log T A) (m : T) (receiver : Option ℕ) → Shape o past → IsFront (channel o past) m
      → is_over past ≡ false → length (line past) ≡ suc (length (line_by past (Takes m receiver)))
  long_taken o past m receiver shape h open_ =
      let front = front_at (line past) m h.0 h.1 in
      let rest : open_line past ≡ front.0 ∷ front.1 = sym (line_is_open past open_) ∙ front.2 in
      ap length front.2 ∙ sym (ap (λ l. suc (length l)) (line_front past m receiver front.0 front.1 rest))

  -- if one that leaves fills another, one waits, so no sender is blocked
  full_left : (o : Opening) (past : Log T A) (t : ℕ) (filled : Option ℕ) → Shape o past
      → filled ≡ leave_fills t (queue o past) (entries o past) → queue_len o past < length (line past)
      → IsAtCapacity (capacity o past) (queue_len o past - fill_count filled)
  full_left o past t None shape fills lt =
      let same : queue_len o past ≡ queue_len o past - 0 = omega arith in
      subst (IsAtCapacity (capacity o past)) same (shape.full lt)
  full_left o past t (Some u) shape fills lt =
      let some = leave_fills_waiting t (queue o past) (entries o past) u (sym fills) in
      absurd (omega (arith, shape.waits some))

  -- what is queued after a change that fits
  pub room_after : (o : Opening) (past : Log T A) (done : Change T) → Shape o past → Fits (channel o past) done → is_over past ≡ false
      → Room (capacity_after (capacity o past) done)
      (queue_len_after (capacity_after (capacity o past) done) (length (line_by past done)) (queue_len o past) done)
      (length (line_by past done))
  room_after o past (Queues m filled) shape h open_ =
      let long = long_queued o past m filled shape open_ in
      let n_within = shape.within in
      let one = at_most filled in
      record {
        in_line = omega arith;
        at_capacity = λ lt. absurd (room_or_full (capacity o past) (queue_len o past)
            (h.0.1 (unlike_true (some_wait (entries o past)) (λ some. omega (arith, shape.waits some)))) (shape.full (omega arith)));
      }
  room_after o past (Blocks m t) shape h open_ =
      let x : Offer T = record { message = m; ticket = Some t } in
      let given = given_within (kept past) (handed_out past) shape.parts in
      let long : length (line_by past (Blocks m t)) ≡ length (line past) + 1 =
      ap length (line_more past x (shape.unissued t m (omega arith)) given
      ∙ ap (λ l. l ++ x ∷ []) (sym (line_is_open past open_))) ∙ length_push (line past) x in
      let n_within = shape.within in
      record { in_line = omega arith; at_capacity = λ lt. h.0.2 }
  room_after o past (Withdraws t) shape h open_ =
      let at = withdrawn_at o past t h.0 shape h.1 in
      let given = given_within (kept past) (handed_out past) shape.parts in
      let before : open_line past ≡ at.front ++ record { message = h.0; ticket = Some t } ∷ at.later =
      rest_is (kept past) (handed_out past) shape.parts ∙ at.rest_are in
      let was : length (line past) ≡ length at.front + suc (length at.later) =
      ap length (line_is_open past open_ ∙ before) ∙ length-append at.front _ in
      let long : length (line_by past (Withdraws t)) ≡ length at.front + length at.later =
      ap length (line_less past (next_ticket o past) t h.0 at.front at.later shape.rising given before) ∙ length-append at.front at.later in
      let queued = at.queued in
      record { in_line = omega arith; at_capacity = λ lt. shape.full (omega arith) }
  room_after o past (Takes m None) shape h open_ =
      let long = long_taken o past m None shape h open_ in
      let n_within = shape.within in
      room_taken (capacity o past) (queue_len o past - 1) (length (line_by past (Takes m None))) (omega arith)
  room_after o past (Takes m (Some t)) shape h open_ =
      let long = long_taken o past m (Some t) shape h.0 open_ in
      let n_within = shape.within in
      room_taken (capacity o past) (queue_len o past - 1) (length (line_by past (Takes m (Some t)))) (omega arith)
  room_after o past (Drains list) shape h open_ = room_drained (capacity o past) (length (line_by past (Drains list)))
  room_after o past (Leaves t filled) shape h open_ =
      let long = long_left past t filled open_ in
      let n_within = shape.within in
      record {
        in_line = omega arith;
        at_capacity = λ lt. full_left o past t filled shape h.1 (omega arith);
      }
  room_after o past (Resizes new) shape h open_ =
      let same : length (line_by past (Resizes new)) ≡ length (line past) =
      ap length (line_same past (Resizes new) refl ∙ sym (line_is_open past open_)) in
      let n_within = shape.within in
      room_taken (Some new) (queue_len o past) (length (line_by past (Resizes new))) (omega arith)
  room_after o past done shape h open_ = room_same o past done shape open_ refl
