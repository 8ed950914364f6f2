-- The tickets of blocked messages are live.
use Rattle.std.proofs.Common.{◌≡◌, ℕ, ◌+◌, ◌-◌, ◌≤◌, Bool, true, false, not, ◌&&◌, ◌||◌, List, [], ◌∷◌, ◌++◌, length, drop, take, max}
use Rattle.std.proofs.Common.{Option, Some, None, refl, sym, ◌∙◌, ◌⊎◌, inl, inr, ap, arith, append_assoc}
use Rattle.std.proofs.Common.{take-append-drop, drop-drop, length-take-le, eqb, ne_eqb}
use Rattle.std.proofs.Math.Bool.{or-false}
use Rattle.std.proofs.Math.Seq.{drop-nil}
use Rattle.std.proofs.lemmas.Bool.{or_cases, or_from, or_left, or_right, and_from, cond-true, cond-false}
use Rattle.std.proofs.lemmas.List.{drop-append-le, drop_at, length-map, length-drop}
use Rattle.flume_model.specs.Log.{Log, Opening, Offer, Change, Queues, Blocks, Accepts, Withdraws, Takes, Drains, Parks, Asks, Collects}
use Rattle.flume_model.specs.Log.{Leaves, SenderJoins, ReceiverJoins, SenderLeaves, ReceiverLeaves, Resizes, Stays, capped, change}
use Rattle.flume_model.specs.Offers.{kept, handed_out}
use Rattle.flume_model.specs.Counts.{is_over}
use Rattle.flume_model.specs.Line.{line, capacity, capacity_after, queue_len, queue_len_after, blocked, issues, spends, is_live, fill_count}
use Rattle.flume_model.specs.Line.{next_ticket}
use Rattle.flume_model.specs.Entries.{some_wait}
use Rattle.flume_model.specs.Parked.{entries}
use Rattle.flume_model.specs.Channel.{IsFront, channel, has_ticket}
use Rattle.flume_model.specs.Replies.{IsRun}
use Rattle.flume_model.proofs.TicketLemmas.{has_ticket-append}
use Rattle.flume_model.proofs.LawfulReplyLemmas.{Fits, fits, not_over_yet}
use Rattle.flume_model.proofs.EntryShapeLemmas.{filled_if_named}
use Rattle.flume_model.proofs.order.KeptLemmas.{open_line, line_by, line_is_open, line_more, line_after_leave, line_drained, line_front}
use Rattle.flume_model.proofs.order.KeptLemmas.{line_less, line_same, keeps_line}
use Rattle.flume_model.proofs.order.PartLemmas.{at_most, given_within, front_at}
use Rattle.flume_model.proofs.order.RunLemmas.{shape_of}
use Rattle.flume_model.proofs.order.LineStepLemmas.{apart_in_line}
use Rattle.flume_model.proofs.order.RoomAfterLemmas.{long_queued, unlike_true}
use Rattle.flume_core.proofs.ViewLemmas.{nil_by, room_or_full}

module _ {T : Type 0} where
  -- a ticket among the rest of some offers is among them
  has_drop : (t k : ℕ) (xs : List (Offer T)) → has_ticket t (drop k xs) ≡ true → has_ticket t xs ≡ true
  has_drop t k xs h =
      sym (ap (has_ticket t) (take-append-drop k xs)) ∙ has_ticket-append t (take k xs) (drop k xs) ∙ or_right _ _ h

  -- behind more of them are no others
  has_behind : (t n k : ℕ) (xs : List (Offer T)) → n ≤ k → has_ticket t (drop k xs) ≡ true → has_ticket t (drop n xs) ≡ true
  has_behind t n k xs le h =
      let sum : n + (k - n) ≡ k = omega arith in
      has_drop t (k - n) (drop n xs) (ap (has_ticket t) (drop-drop (k - n) n xs ∙ ap (λ i. drop i xs) sum) ∙ h)

  -- a ticket among two lists of offers is among them if one more is between
  has_among : (t : ℕ) (x : Offer T) (before later : List (Offer T)) → (has_ticket t before || has_ticket t later) ≡ true
      → has_ticket t (before ++ x ∷ later) ≡ true
  has_among t x before later h =
      has_ticket-append t before (x ∷ later)
      ∙ (elim (or_cases (has_ticket t before) (has_ticket t later) h) as (λ _. (has_ticket t before || has_ticket t (x ∷ later)) ≡ true)
      [ inl e ↦ or_left _ _ e | inr e ↦ or_right _ _ (or_right _ _ e) ])

-- of two that are false none is true
absent : (a b : Bool) → a ≡ false → b ≡ false → (a || b) ≡ true → ⊥
absent a b e f h = let no : (a || b) ≡ false = or_from a b e f in let none : ⊥ = cc in none

module _ {T A : Type 0} where
  -- a ticket that a change leaves to be live: it issues it, or it was that of a blocked message and isn't spent
  abbrev Left : Opening → Log T A → Change T → ℕ → Type 0
  Left o past done t =
      (issues done t ≡ true) ⊎ ((has_ticket t (blocked o past) ≡ true) × (spends done t ≡ false))

  -- the offers blocked after a change
  abbrev blocked_by : Opening → Log T A → Change T → List (Offer T)
  blocked_by o past done =
      drop (queue_len_after (capacity_after (capacity o past) done) (length (line_by past done)) (queue_len o past) done)
      (line_by past done)

  -- a change that leaves the line leaves the blocked messages
  left_same : (o : Opening) (past : Log T A) (done : Change T) (t : ℕ) → is_over past ≡ false → keeps_line done ≡ true
      → has_ticket t (drop (queue_len o past) (line_by past done)) ≡ true → has_ticket t (blocked o past) ≡ true
  left_same o past done t open_ keeps h =
      sym (ap (λ l. has_ticket t (drop (queue_len o past) l)) (line_same past done keeps ∙ sym (line_is_open past open_))) ∙ h

  -- if the front is taken, no more are blocked
  left_taken : (o : Opening) (past : Log T A) (m : T) (receiver : Option ℕ) → IsRun o past → IsFront (channel o past) m
      → is_over past ≡ false → (t : ℕ) → has_ticket t (blocked_by o past (Takes m receiver)) ≡ true → has_ticket t (blocked o past) ≡ true
  left_taken o past m receiver run h open_ t is =
      let front = front_at (line past) m h.0 h.1 in
      let left = line_by past (Takes m receiver) in
      let k = max (queue_len o past - 1) (capped (capacity o past) (length left)) in
      let same : left ≡ drop 1 (line past) =
      line_front past m receiver front.0 front.1 (sym (line_is_open past open_) ∙ front.2) ∙ sym (ap (drop 1) front.2) in
      let all : drop k left ≡ drop (1 + k) (line past) = ap (drop k) same ∙ drop-drop k 1 (line past) in
      has_behind t (queue_len o past) (1 + k) (line past) (omega arith) (sym (ap (has_ticket t) all) ∙ is)

  -- after a change that fits, each blocked message's ticket is left so
  left_by : (o : Opening) (past : Log T A) (done : Change T) → IsRun o past → Fits (channel o past) done → is_over past ≡ false → (t : ℕ)
      → has_ticket t (blocked_by o past done) ≡ true → Left o past done t
  left_by o past (Queues m filled) run h open_ t is =
      let shape = shape_of o past run in
      let long = long_queued o past m filled shape open_ in
      let one = at_most filled in
      let none : blocked_by o past (Queues m filled) ≡ [] =
      nil_by (blocked_by o past (Queues m filled)) (λ more.
      let cut = length-drop (queue_len o past + 1 - fill_count filled) (line_by past (Queues m filled)) in
      room_or_full (capacity o past) (queue_len o past)
      (h.0.1 (unlike_true (some_wait (entries o past)) (λ some. omega (arith, shape.waits some)))) (shape.full (omega arith))) in
      let no : has_ticket t (blocked_by o past (Queues m filled)) ≡ false = ap (has_ticket t) none in
      absurd (let none : ⊥ = cc in none)
  left_by o past (Blocks m u) run h open_ t is =
      let shape = shape_of o past run in
      let x : Offer T = record { message = m; ticket = Some u } in
      let given = given_within (kept past) (handed_out past) shape.parts in
      let same : line_by past (Blocks m u) ≡ line past ++ x ∷ [] =
      line_more past x (shape.unissued u m (omega arith)) given ∙ ap (λ l. l ++ x ∷ []) (sym (line_is_open past open_)) in
      let all : blocked_by o past (Blocks m u) ≡ blocked o past ++ x ∷ [] =
      ap (drop (queue_len o past)) same ∙ drop-append-le (queue_len o past) (line past) (x ∷ []) shape.within in
      let has : (has_ticket t (blocked o past) || has_ticket t (x ∷ [])) ≡ true =
      sym (has_ticket-append t (blocked o past) (x ∷ [])) ∙ sym (ap (has_ticket t) all) ∙ is in
      elim (or_cases (has_ticket t (blocked o past)) (has_ticket t (x ∷ [])) has) as (λ _. Left o past (Blocks m u) t)
      [ inl e ↦ inr (e, refl) | inr e ↦ inl (sym (or-false (eqb u t)) ∙ e) ]
  left_by o past (Withdraws u) run h open_ t is =
      let shape = shape_of o past run in
      let x : Offer T = record { message = h.0; ticket = Some u } in
      let before = h.1.1 in
      let later = h.1.2 in
      let front = take (queue_len o past) (line past) in
      let given = given_within (kept past) (handed_out past) shape.parts in
      let place : line past ≡ front ++ (before ++ x ∷ later) =
      sym (take-append-drop (queue_len o past) (line past)) ∙ ap (λ l. front ++ l) h.1.3 in
      let none = apart_in_line o past run front before later u h.0 place in
      let same : line_by past (Withdraws u) ≡ front ++ (before ++ later) =
      line_less past (next_ticket o past) u h.0 (front ++ before) later shape.rising given
      (sym (line_is_open past open_) ∙ place ∙ sym (append_assoc front before (x ∷ later))) ∙ append_assoc front before later in
      let all : blocked_by o past (Withdraws u) ≡ before ++ later =
      ap (drop (queue_len o past)) same
      ∙ drop_at front (before ++ later) (queue_len o past) (length-take-le (queue_len o past) (line past) shape.within) in
      let has : (has_ticket t before || has_ticket t later) ≡ true =
      sym (has_ticket-append t before later) ∙ sym (ap (has_ticket t) all) ∙ is in
      inr (
        ap (has_ticket t) h.1.3 ∙ has_among t x before later has,
        ne_eqb u t (λ e. absent (has_ticket u before) (has_ticket u later) none.0 none.1
            (ap (λ v. has_ticket v before || has_ticket v later) e ∙ has)),
      )
  left_by o past (Takes m None) run h open_ t is = inr (left_taken o past m None run h open_ t is, refl)
  left_by o past (Takes m (Some u)) run h open_ t is = inr (left_taken o past m (Some u) run h.0 open_ t is, refl)
  left_by o past (Drains list) run h open_ t is =
      let shape = shape_of o past run in
      let left = line_by past (Drains list) in
      let many : length list ≡ queue_len o past =
      ap length h ∙ length-map (take (queue_len o past) (line past)) (λ x. x.message)
      ∙ length-take-le (queue_len o past) (line past) shape.within in
      let k = capped (capacity o past) (length left) in
      let all : blocked_by o past (Drains list) ≡ drop (length list + k) (line past) =
      ap (drop k) (line_drained past list ∙ ap (drop (length list)) (sym (line_is_open past open_)))
      ∙ drop-drop k (length list) (line past) in
      inr (has_behind t (queue_len o past) (length list + k) (line past) (omega arith) (sym (ap (has_ticket t) all) ∙ is), refl)
  left_by o past (Leaves u filled) run h open_ t is =
      let k = queue_len o past - fill_count filled in
      let all : blocked_by o past (Leaves u filled) ≡ drop (fill_count filled + k) (line past) =
      ap (drop k) (line_after_leave past u filled ∙ ap (drop (fill_count filled)) (sym (line_is_open past open_)))
      ∙ drop-drop k (fill_count filled) (line past) in
      inr (has_behind t (queue_len o past) (fill_count filled + k) (line past) (omega arith) (sym (ap (has_ticket t) all) ∙ is), refl)
  left_by o past (Accepts u) run h open_ t is =
      let was = left_same o past (Accepts u) t open_ refl is in
      inr (
        was,
        ne_eqb u t (λ e.
            (let gone : has_ticket t (blocked o past) ≡ false = ap (λ v. has_ticket v (blocked o past)) (sym e) ∙ h.1 in
            let none : ⊥ = cc in none)),
      )
  left_by o past (Parks u kind) run h open_ t is = inr (left_same o past (Parks u kind) t open_ refl is, refl)
  left_by o past (Asks u) run h open_ t is = inr (left_same o past (Asks u) t open_ refl is, refl)
  left_by o past (Collects u) run h open_ t is = inr (left_same o past (Collects u) t open_ refl is, refl)
  left_by o past SenderJoins run h open_ t is = inr (left_same o past SenderJoins t open_ refl is, refl)
  left_by o past ReceiverJoins run h open_ t is = inr (left_same o past ReceiverJoins t open_ refl is, refl)
  left_by o past SenderLeaves run h open_ t is = inr (left_same o past SenderLeaves t open_ refl is, refl)
  left_by o past ReceiverLeaves run h open_ t is = inr (left_same o past ReceiverLeaves t open_ refl is, refl)
  left_by o past (Resizes new) run h open_ t is =
      let same : line_by past (Resizes new) ≡ line past = line_same past (Resizes new) refl ∙ sym (line_is_open past open_) in
      let k = max (queue_len o past) (capped (Some new) (length (line_by past (Resizes new)))) in
      inr (has_behind t (queue_len o past) k (line past) (omega arith) (sym (ap (λ l. has_ticket t (drop k l)) same) ∙ is), refl)
  left_by o past Stays run h open_ t is = inr (left_same o past Stays t open_ refl is, refl)

  -- the ticket of each blocked message is live
  pub blocked_are_live : (o : Opening) (log : Log T A) → IsRun o log → (t : ℕ) → has_ticket t (blocked o log) ≡ true → is_live log t ≡ true
  blocked_are_live o [] run t is = absurd (let none : ⊥ = cc in none)
  blocked_are_live o (p ∷ past) run t is = by_case (is_over (p ∷ past)) refl (blocked_are_live o past run.1 t)
    where
      done : Change T
      done = change past p.0 p.1

      go : (has_ticket t (blocked o past) ≡ true → is_live past t ≡ true) → Left o past done t
          → (issues done t || (is_live past t && not (spends done t))) ≡ true
      go rest (inl e) = or_left _ _ e
      go rest (inr e) = or_right _ _ (and_from _ _ (rest e.0) (ap not e.1))

      by_case : (b : Bool) → is_over (p ∷ past) ≡ b → (has_ticket t (blocked o past) ≡ true → is_live past t ≡ true)
          → is_live (p ∷ past) t ≡ true
      by_case true over rest =
          let none : blocked o (p ∷ past) ≡ [] =
          ap (drop (queue_len o (p ∷ past))) (cond-true (is_over (p ∷ past)) [] (open_line (p ∷ past)) over)
          ∙ drop-nil (queue_len o (p ∷ past)) in
          let no : has_ticket t (blocked o (p ∷ past)) ≡ false = ap (has_ticket t) none in
          absurd (let none : ⊥ = cc in none)
      by_case false open_ rest =
          let filled_marks = filled_if_named o past run.1 in
          let same : line (p ∷ past) ≡ line_by past done = line_is_open (p ∷ past) open_ in
          let queued : queue_len o (p ∷ past) ≡ queue_len_after (capacity o (p ∷ past)) (length (line (p ∷ past))) (queue_len o past) done =
          cond-false (is_over (p ∷ past)) 0 _ open_ in
          let all : blocked o (p ∷ past) ≡ blocked_by o past done =
          ap (λ n. drop n (line (p ∷ past))) queued
          ∙ ap (λ l. drop (queue_len_after (capacity o (p ∷ past)) (length l) (queue_len o past) done) l) same in
          let left = left_by o past done run.1 (fits o past p.0 p.1 filled_marks run.0) (not_over_yet o past p filled_marks run open_) t
          (sym (ap (has_ticket t) all) ∙ is) in
          ap (λ b. not b && (issues done t || (is_live past t && not (spends done t)))) open_ ∙ go rest left
