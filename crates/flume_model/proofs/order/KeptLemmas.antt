-- What each change leaves of the kept offers and of those not handed out.
use Rattle.flume_model.proofs.Common.{◌≡◌, ℕ, ◌≤◌, Bool, true, false, not, ◌||◌, List, [], ◌∷◌, ◌++◌, length, drop, take, Option, Some}
use Rattle.flume_model.proofs.Common.{None, refl, sym, ◌∙◌, ap, map, length-append, drop-drop, length-take-le, drop_at, or_from, cond-false}
use Rattle.flume_model.proofs.Common.{append_assoc, append-nil, take-append-drop, drop-append-le, length-map, filter-append, filter}
use Rattle.flume_model.proofs.Common.{is_over, Rising, line, fill_count, Log, Offer, HandOut, Shown, Change, Queues, Blocks, Withdraws}
use Rattle.flume_model.proofs.Common.{Takes}
use Rattle.flume_model.proofs.Common.{Drains, Leaves, is_ticket, change, offers_made, withdraws, fill, hands_out, offers, withdrawn, kept}
use Rattle.flume_model.proofs.Common.{handed_out, hand_outs, arith, common_steps}
use Rattle.flume_model.proofs.TicketLemmas.{filter_two, filter_one, apart, rising_filter}

-- as many messages, of whatever type, are handed out as receivers are filled
pub length_fill : (T : Type 0) (filled : Option ℕ) → length (fill {T = T} filled) ≡ fill_count filled
length_fill T None = refl
length_fill T (Some t) = refl

module _ {T A : Type 0} where
  -- the kept offers after a change
  abbrev pub kept_by : Log T A → Change T → List (Offer T)
  kept_by past done = filter (λ offer. not (withdraws done offer || withdrawn past offer)) (offers past ++ offers_made done)

  -- the hand-outs after a change
  abbrev pub handed_by : Log T A → Change T → List (HandOut T)
  handed_by past done = handed_out past ++ hands_out done

  -- the offers not handed out
  abbrev pub open_line : Log T A → List (Offer T)
  open_line log = drop (hand_outs log) (kept log)

  -- the offers not handed out after a change
  abbrev pub line_by : Log T A → Change T → List (Offer T)
  line_by past done = drop (length (handed_by past done)) (kept_by past done)

module _ {T : Type 0} where
  -- whether a change leaves the line as it is
  abbrev pub keeps_line : Change T → Bool
  keeps_line (Queues m filled) = false
  keeps_line (Blocks m t) = false
  keeps_line (Withdraws t) = false
  keeps_line (Takes m receiver) = false
  keeps_line (Drains list) = false
  keeps_line (Leaves t filled) = false
  keeps_line _ = true

module _ {T A : Type 0} where
  -- while the channel isn't over the line is all that wasn't handed out
  pub line_is_open : (log : Log T A) → is_over log ≡ false → line log ≡ open_line log
  line_is_open log open_ = cond-false (is_over log) [] (open_line log) open_

module _ {T : Type 0} where
  -- no change withdraws an offer with no ticket
  withdraws_no : (done : Change T) (m : T) → withdraws done (record { message = m; ticket = None }) ≡ false
  withdraws_no done m = grind (arith, common_steps)

module _ {T A : Type 0} where
  -- an offer with no ticket was never withdrawn
  pub not_withdrawn : (past : Log T A) (m : T) → withdrawn past (record { message = m; ticket = None }) ≡ false
  not_withdrawn [] m = refl
  not_withdrawn (p ∷ past) m = or_from _ _ (withdraws_no (change past p.0 p.1) m) (not_withdrawn past m)

  -- one more offer, which wasn't withdrawn, is kept last
  pub kept_more : (past : Log T A) (x : Offer T) → withdrawn past x ≡ false
      → filter (λ offer. not (withdrawn past offer)) (offers past ++ x ∷ []) ≡ kept past ++ x ∷ []
  kept_more past x e = rw (filter-append, e)

  -- the offer with this ticket is withdrawn
  pub kept_less : (past : Log T A) (n t : ℕ) (m : T) (xs ys : List (Offer T)) → Rising n (offers past)
      → kept past ≡ xs ++ record { message = m; ticket = Some t } ∷ ys → kept_by past (Withdraws t) ≡ xs ++ ys
  kept_less past n t m xs ys rising e =
      let none = apart n xs ys t m (rw e at (rising_filter n (λ offer. not (withdrawn past offer)) (offers past) rising)) in
      rw append-nil (filter_two (λ offer. is_ticket t offer.ticket) (withdrawn past) (offers past)
      ∙ ap (filter (λ x. not (is_ticket t x.ticket))) e ∙ filter_one t m xs ys none.0 none.1)

  -- a change that neither offers nor withdraws
  pub kept_same : (past : Log T A) → filter (λ offer. not (withdrawn past offer)) (offers past ++ []) ≡ kept past
  kept_same past = ap (filter (λ offer. not (withdrawn past offer))) (append-nil (offers past))

  -- one more offer comes last in the line
  pub line_more : (past : Log T A) (x : Offer T) → withdrawn past x ≡ false → hand_outs past ≤ length (kept past)
      → drop (length (handed_out past ++ [])) (filter (λ offer. not (withdrawn past offer)) (offers past ++ x ∷ []))
      ≡ open_line past ++ x ∷ []
  line_more past x e within =
      rw (append-nil (handed_out past), kept_more past x e) (drop-append-le (hand_outs past) (kept past) (x ∷ []) within)

  -- what a change hands out leaves the front of what was there
  line_moved : (past : Log T A) (done : Change T)
      → line_by past done ≡ drop (length (hands_out done)) (drop (hand_outs past) (kept_by past done))
  line_moved past done =
      ap (λ n. drop n (kept_by past done)) (length-append (handed_out past) (hands_out done))
      ∙ sym (drop-drop (length (hands_out done)) (hand_outs past) (kept_by past done))

  -- one more offer comes last, and the front one goes if a receiver is filled
  pub line_queued : (past : Log T A) (m : T) (filled : Option ℕ) → hand_outs past ≤ length (kept past)
      → line_by past (Queues m filled) ≡ drop (fill_count filled) (open_line past ++ record { message = m; ticket = None } ∷ [])
  line_queued past m filled within =
      let x : Offer T = record { message = m; ticket = None } in
      line_moved past (Queues m filled)
      ∙ ap (λ l. drop (length (fill {T = T} filled)) (drop (hand_outs past) l)) (kept_more past x (not_withdrawn past m))
      ∙ ap (drop (length (fill {T = T} filled))) (drop-append-le (hand_outs past) (kept past) (x ∷ []) within)
      ∙ ap (λ n. drop n (open_line past ++ x ∷ [])) (length_fill T filled)

  -- a receiver leaves, and the front offer goes if another one is filled
  pub line_after_leave : (past : Log T A) (t : ℕ) (filled : Option ℕ)
      → line_by past (Leaves t filled) ≡ drop (fill_count filled) (open_line past)
  line_after_leave past t filled =
      line_moved past (Leaves t filled)
      ∙ ap (λ l. drop (length (fill {T = T} filled)) (drop (hand_outs past) l)) (kept_same past)
      ∙ ap (λ n. drop n (open_line past)) (length_fill T filled)

  -- a drain hands out as many offers as messages
  pub line_drained : (past : Log T A) (list : List T) → line_by past (Drains list) ≡ drop (length list) (open_line past)
  line_drained past list =
      line_moved past (Drains list)
      ∙ ap (λ l. drop (length (map (λ m. Shown m) list)) (drop (hand_outs past) l)) (kept_same past)
      ∙ ap (λ n. drop n (open_line past)) (length-map list (λ m. Shown m))

  -- the first offer is handed out
  pub line_front : (past : Log T A) (m : T) (receiver : Option ℕ) (x : Offer T) (rest : List (Offer T)) → open_line past ≡ x ∷ rest
      → line_by past (Takes m receiver) ≡ rest
  line_front past m receiver x rest e =
      rw (kept_same past, length-append) (sym (drop-drop 1 (hand_outs past) (kept past)) ∙ ap (drop 1) e)

  -- an offer among them is withdrawn
  pub line_less : (past : Log T A) (n t : ℕ) (m : T) (xs ys : List (Offer T)) → Rising n (offers past) → hand_outs past ≤ length (kept past)
      → open_line past ≡ xs ++ record { message = m; ticket = Some t } ∷ ys → line_by past (Withdraws t) ≡ xs ++ ys
  line_less past n t m xs ys rising within e =
      let gone = take (hand_outs past) (kept past) in
      let long : length gone ≡ hand_outs past = length-take-le (hand_outs past) (kept past) within in
      let all : kept past ≡ (gone ++ xs) ++ record { message = m; ticket = Some t } ∷ ys =
      sym (take-append-drop (hand_outs past) (kept past)) ∙ ap (λ l. gone ++ l) e ∙ sym (append_assoc gone xs _) in
      let left : kept_by past (Withdraws t) ≡ gone ++ (xs ++ ys) =
      kept_less past n t m (gone ++ xs) ys rising all ∙ append_assoc gone xs ys in
      ap (λ l. drop (length (handed_out past ++ [])) l) left
      ∙ drop_at gone (xs ++ ys) _ (long ∙ sym (ap length (append-nil (handed_out past))))

  -- all else leaves them
  pub line_same : (past : Log T A) (done : Change T) → keeps_line done ≡ true → line_by past done ≡ open_line past
  line_same past (Queues m filled) h = absurd (let none : ⊥ = cc in none)
  line_same past (Blocks m t) h = absurd (let none : ⊥ = cc in none)
  line_same past (Withdraws t) h = absurd (let none : ⊥ = cc in none)
  line_same past (Takes m receiver) h = absurd (let none : ⊥ = cc in none)
  line_same past (Drains list) h = absurd (let none : ⊥ = cc in none)
  line_same past (Leaves t filled) h = absurd (let none : ⊥ = cc in none)
  line_same past _ h = rw (append-nil (handed_out past)) (ap (drop (hand_outs past)) (kept_same past))
