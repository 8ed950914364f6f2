-- What the tickets of a run tell: what was handed out stays, and a live ticket taken in is below the blocked ones.
use Rattle.flume_model.proofs.Common.{◌≡◌, ℕ, ◌<◌, true, false, not, ◌||◌, ◌&&◌, List, [], ◌∷◌, ◌++◌, length, take, Some, None, refl, sym}
use Rattle.flume_model.proofs.Common.{◌∙◌, ◌⊎◌, inl, inr, ap, arith, ne_eqb, eqb-true, eq-eqb, eqb, Option, and_parts, or_cases, or_left}
use Rattle.flume_model.proofs.Common.{or_right, append_assoc, append-nil, take-append-drop, take_at, take-append-le, any-filter_same}
use Rattle.flume_model.proofs.Common.{AllZip-long, filter, has_ticket, channel, is_over, IsEarlier, Rising}
use Rattle.flume_model.proofs.Common.{line, queue_len, blocked, next_ticket, issues, spends, is_live, Log, Opening}
use Rattle.flume_model.proofs.Common.{Offer, Change, Queues, Blocks, Withdraws, is_ticket, change, withdrawn, offers, kept, handed_out}
use Rattle.flume_model.proofs.Common.{hand_outs, IsRun, Reply, Step}
use Rattle.flume_model.proofs.TicketLemmas.{filter_two, has_ticket-append, ticket_place, All-at_seam, rising_filter}
use Rattle.flume_model.proofs.LawfulReplyLemmas.{Fits, fits}
use Rattle.flume_model.proofs.EntryShapeLemmas.{filled_if_named}
use Rattle.flume_model.proofs.order.KeptLemmas.{kept_by, line_is_open, not_withdrawn, kept_more, kept_less, kept_same}
use Rattle.flume_model.proofs.order.PartLemmas.{Shape, given_within, withdrawn_at}
use Rattle.flume_model.proofs.order.RunLemmas.{shape_of}

module _ {T A : Type 0} where
  -- a change that neither offers nor withdraws leaves what was handed out
  same_stays : (past : Log T A) → take (hand_outs past) (filter (λ offer. not (withdrawn past offer)) (offers past ++ []))
      ≡ take (hand_outs past) (kept past)
  same_stays past = ap (take (hand_outs past)) (kept_same past)

  -- one more offer leaves what was handed out
  more_stays : (o : Opening) (past : Log T A) (x : Offer T) → Shape o past → withdrawn past x ≡ false
      → take (hand_outs past) (filter (λ offer. not (withdrawn past offer)) (offers past ++ x ∷ [])) ≡ take (hand_outs past) (kept past)
  more_stays o past x shape e =
      ap (take (hand_outs past)) (kept_more past x e)
      ∙ take-append-le (hand_outs past) (kept past) (x ∷ []) (given_within (kept past) (handed_out past) shape.parts)

  -- a change that fits leaves what was handed out
  stays_by : (o : Opening) (past : Log T A) (done : Change T) → Shape o past → Fits (channel o past) done
      → take (hand_outs past) (kept_by past done) ≡ take (hand_outs past) (kept past)
  stays_by o past (Queues m filled) shape h = more_stays o past (record { message = m; ticket = None }) shape (not_withdrawn past m)
  stays_by o past (Blocks m t) shape h =
      more_stays o past (record { message = m; ticket = Some t }) shape (shape.unissued t m (omega arith))
  stays_by o past (Withdraws t) shape h =
      let at = withdrawn_at o past t h.0 shape h.1 in
      let gone = shape.parts.gone in
      let long : length gone ≡ hand_outs past = AllZip-long _ (handed_out past) gone shape.parts.given_are in
      let all : kept past ≡ (gone ++ at.front) ++ record { message = h.0; ticket = Some t } ∷ at.later =
      shape.parts.kept_are ∙ ap (λ l. gone ++ l) at.rest_are ∙ sym (append_assoc gone at.front _) in
      let left : kept_by past (Withdraws t) ≡ gone ++ (at.front ++ at.later) =
      kept_less past (next_ticket o past) t h.0 (gone ++ at.front) at.later shape.rising all ∙ append_assoc gone at.front at.later in
      ap (take (hand_outs past)) left ∙ take_at gone (at.front ++ at.later) (hand_outs past) long
      ∙ sym (ap (take (hand_outs past)) shape.parts.kept_are ∙ take_at gone shape.parts.rest (hand_outs past) long)
  stays_by o past _ shape h = same_stays past

  -- no step moves the place of a message that was handed out
  pub handed_out_stay : (o : Opening) (p : Step T × Reply T A) (past : Log T A) → IsRun o (p ∷ past)
      → take (hand_outs past) (kept (p ∷ past)) ≡ take (hand_outs past) (kept past)
  handed_out_stay o p past run =
      stays_by o past (change past p.0 p.1) (shape_of o past run.1) (fits o past p.0 p.1 (filled_if_named o past run.1) run.0)

module _ {T : Type 0} where
  -- to cut out the offers of one ticket leaves those of another
  has_another : (t u : ℕ) (xs : List (Offer T)) → (u ≡ t → ⊥) → has_ticket t (filter (λ x. not (is_ticket u x.ticket)) xs) ≡ has_ticket t xs
  has_another t u xs ne = any-filter_same (λ x. is_ticket t x.ticket) (λ x. not (is_ticket u x.ticket)) true other xs
    where
      of : (o : Option ℕ) → is_ticket t o ≡ true → not (is_ticket u o) ≡ true
      of None e = refl
      of (Some v) e = ap not (ne_eqb v u (λ same. ne (sym same ∙ eqb-true v t e)))

      other : (x : Offer T) → is_ticket t x.ticket ≡ true → not (is_ticket u x.ticket) ≡ true
      other x = of x.ticket

module _ {T A : Type 0} where
  -- one more offer leaves the tickets of the kept ones
  has_more : (past : Log T A) (x : Offer T) (t : ℕ) → withdrawn past x ≡ false
      → (has_ticket t (kept past) ≡ true) ⊎ (has_ticket t (x ∷ []) ≡ true)
      → has_ticket t (filter (λ offer. not (withdrawn past offer)) (offers past ++ x ∷ [])) ≡ true
  has_more past x t e (inl h) = ap (has_ticket t) (kept_more past x e) ∙ has_ticket-append t (kept past) (x ∷ []) ∙ or_left _ _ h
  has_more past x t e (inr h) = ap (has_ticket t) (kept_more past x e) ∙ has_ticket-append t (kept past) (x ∷ []) ∙ or_right _ _ h

  -- a change that neither offers nor withdraws leaves them
  has_same : (past : Log T A) (t : ℕ) → has_ticket t (kept past) ≡ true
      → has_ticket t (filter (λ offer. not (withdrawn past offer)) (offers past ++ [])) ≡ true
  has_same past t h = ap (has_ticket t) (kept_same past) ∙ h

  -- after a change that fits, a kept offer has a ticket that it issued, or that lived and wasn't spent by it
  live_by : (o : Opening) (past : Log T A) (done : Change T) → Shape o past → Fits (channel o past) done
      → ((t : ℕ) → is_live past t ≡ true → has_ticket t (kept past) ≡ true)
      → (t : ℕ) → (issues done t ≡ true) ⊎ ((is_live past t && not (spends done t)) ≡ true) → has_ticket t (kept_by past done) ≡ true
  live_by o past (Blocks m u) shape h rest t (inl e) =
      has_more past (record { message = m; ticket = Some u }) t (shape.unissued u m (omega arith)) (inr (or_left _ _ e))
  live_by o past (Blocks m u) shape h rest t (inr e) =
      has_more past (record { message = m; ticket = Some u }) t (shape.unissued u m (omega arith)) (inl (rest t (and_parts _ _ e).0))
  live_by o past (Queues m filled) shape h rest t (inr e) =
      has_more past (record { message = m; ticket = None }) t (not_withdrawn past m) (inl (rest t (and_parts _ _ e).0))
  live_by o past (Withdraws u) shape h rest t (inr e) =
      let parts = and_parts (is_live past t) (not (eqb u t)) e in
      let ne : u ≡ t → ⊥ = λ same. (let eq : eqb u t ≡ true = eq-eqb u t same in let none : ⊥ = cc (parts.1, eq) in none) in
      let left : kept_by past (Withdraws u) ≡ filter (λ x. not (is_ticket u x.ticket)) (kept past) =
      rw append-nil (filter_two (λ offer. is_ticket u offer.ticket) (withdrawn past) (offers past)) in
      ap (has_ticket t) left ∙ has_another t u (kept past) ne ∙ rest t parts.0
  live_by o past _ shape h rest t (inr e) = has_same past t (rest t (and_parts _ _ e).0)
  live_by o past _ shape h rest t (inl e) = absurd (let none : ⊥ = cc in none)

  -- a live ticket's offer is kept
  pub live_are_kept : (o : Opening) (log : Log T A) → IsRun o log → (t : ℕ) → is_live log t ≡ true → has_ticket t (kept log) ≡ true
  live_are_kept o [] run t live = absurd (let none : ⊥ = cc in none)
  live_are_kept o (p ∷ past) run t live =
      let done = change past p.0 p.1 in
      live_by o past done (shape_of o past run.1) (fits o past p.0 p.1 (filled_if_named o past run.1) run.0) (live_are_kept o past run.1) t
      (or_cases (issues done t) (is_live past t && not (spends done t)) (and_parts (not (is_over (p ∷ past))) _ live).1)

  -- while a ticket lives the channel isn't over
  live_open : (log : Log T A) (t : ℕ) → is_live log t ≡ true → is_over log ≡ false
  live_open [] t live = absurd (let none : ⊥ = cc in none)
  live_open (p ∷ past) t live =
      let open_ = (and_parts (not (is_over (p ∷ past))) _ live).0 in
      elim (is_over (p ∷ past)) as (λ b. not b ≡ true → b ≡ false)
      [ true ↦ λ e. (let no : false ≡ true = e in cc) | false ↦ λ e. refl ] open_

module _ {T : Type 0} where
  -- a ticket is below those behind it
  below_later : (n : ℕ) (xs ys zs : List (Offer T)) (t u : ℕ) (m k : T)
      → Rising n (xs ++ record { message = m; ticket = Some t } ∷ (ys ++ record { message = k; ticket = Some u } ∷ zs)) → t < u
  below_later n [] ys zs t u m k h = All-at_seam (λ later. IsEarlier (Some t) later.ticket) ys _ zs h.1
  below_later n (x ∷ xs) ys zs t u m k h = below_later n xs ys zs t u m k h.2

  -- a ticket of these is below one of those, if together they rise
  below_across : (n : ℕ) (xs ys : List (Offer T)) (t u : ℕ) → Rising n (xs ++ ys) → has_ticket t xs ≡ true → has_ticket u ys ≡ true → t < u
  below_across n xs ys t u h of_t of_u =
      let a = ticket_place t xs of_t in
      let b = ticket_place u ys of_u in
      let x : Offer T = record { message = a.0; ticket = Some t } in
      let y : Offer T = record { message = b.0; ticket = Some u } in
      let all : xs ++ ys ≡ a.1 ++ x ∷ ((a.2 ++ b.1) ++ y ∷ b.2) =
      ap (λ l. l ++ ys) a.3 ∙ append_assoc a.1 (x ∷ a.2) ys
      ∙ ap (λ l. a.1 ++ x ∷ (a.2 ++ l)) b.3 ∙ ap (λ l. a.1 ++ x ∷ l) (sym (append_assoc a.2 b.1 (y ∷ b.2))) in
      below_later n a.1 (a.2 ++ b.1) b.2 t u a.0 b.0 (rw all at h)

module _ {T A : Type 0} where
  -- a live ticket whose message was taken in is below that of each blocked message
  pub accepted_below_blocked : (o : Opening) (log : Log T A) → IsRun o log → (t u : ℕ) → is_live log t ≡ true
      → has_ticket t (blocked o log) ≡ false → has_ticket u (blocked o log) ≡ true → t < u
  accepted_below_blocked o log run t u live taken waits =
      let gone = take (hand_outs log) (kept log) in
      let queued = take (queue_len o log) (line log) in
      let open_ = live_open log t live in
      let all : kept log ≡ (gone ++ queued) ++ blocked o log =
      sym (take-append-drop (hand_outs log) (kept log)) ∙ ap (λ l. gone ++ l) (sym (line_is_open log open_))
      ∙ ap (λ l. gone ++ l) (sym (take-append-drop (queue_len o log) (line log))) ∙ sym (append_assoc gone queued (blocked o log)) in
      let rising = rising_filter (next_ticket o log) (λ offer. not (withdrawn log offer)) (offers log) (shape_of o log run).rising in
      let has : (has_ticket t (gone ++ queued) || has_ticket t (blocked o log)) ≡ true =
      sym (has_ticket-append t (gone ++ queued) (blocked o log)) ∙ ap (has_ticket t) (sym all) ∙ live_are_kept o log run t live in
      let in_front : has_ticket t (gone ++ queued) ≡ true =
      elim (or_cases (has_ticket t (gone ++ queued)) (has_ticket t (blocked o log)) has) as (λ _. has_ticket t (gone ++ queued) ≡ true)
      [ inl e ↦ e | inr e ↦ absurd (let none : ⊥ = cc in none) ] in
      below_across (next_ticket o log) (gone ++ queued) (blocked o log) t u (rw all at rising) in_front waits
