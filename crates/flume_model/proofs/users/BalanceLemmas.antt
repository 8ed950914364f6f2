-- What one more pair of a run offers, and what was there before it, weighs as much as what it gives
-- out and leaves.
use Rattle.flume_model.proofs.Common.{◌≡◌, ℕ, ◌+◌, ◌≤◌, Bool, true, false, if◌then◌else◌, List, [], ◌∷◌, ◌++◌, Some, None, refl, sym, ◌∙◌}
use Rattle.flume_model.proofs.Common.{ap, arith, inl, inr, drop, take, length, sum_by, length-take-le, cases_lt, take-append-drop}
use Rattle.flume_model.proofs.Common.{map-append, drop-map, take_all, length-map, sum_by-cons, sum_by-append, sum_by_push, channel}
use Rattle.flume_model.proofs.Common.{held_messages}
use Rattle.flume_model.proofs.Common.{is_over, is_woken, is_filled, some_wait, round_fills, all_woken, entry_of, without_ticket, again}
use Rattle.flume_model.proofs.Common.{after_leave, leave_fills, HasRoom, line, capacity, queue_len, queue, messages, fill_count, Log}
use Rattle.flume_model.proofs.Common.{Opening, Offer}
use Rattle.flume_model.proofs.Common.{Change, Queues, Blocks, Withdraws, Takes, Drains, Parks, Asks, Collects, Leaves, SenderLeaves}
use Rattle.flume_model.proofs.Common.{ReceiverLeaves, change, offers_made, LogEntry, same_notice, new_entry, entries_after, entries, IsRun}
use Rattle.flume_model.proofs.Common.{Mark}
use Rattle.flume_model.proofs.Common.{Waiting, Reply, Step, common_steps}
use Rattle.flume_model.proofs.LawfulReplyLemmas.{Fits}
use Rattle.flume_model.proofs.EntryListLemmas.{again_cases, leave_cases}
use Rattle.flume_model.proofs.order.KeptLemmas.{keeps_line}
use Rattle.flume_model.proofs.order.PartLemmas.{front_at, blocked_at}
use Rattle.flume_model.proofs.order.RoomAfterLemmas.{room_or_full}
use Rattle.flume_model.proofs.order.RunLemmas.{shape_of}
use Rattle.flume_model.proofs.order.LineStepLemmas.{line_queues, line_blocks, line_takes, line_drains, line_leaves, line_withdraws}
use Rattle.flume_model.proofs.order.LineStepLemmas.{line_stays}
use Rattle.flume_model.proofs.users.GivingLemmas.{GivesOut}
use Rattle.flume_model.proofs.users.HoldingLemmas.{mark_weighs, held_without, held_push, held_woken, round_front, queued_weighs}

module _ {T : Type 0} where
  -- the weight of the messages of some offers
  abbrev pub weighs : (T → ℕ) → List (Offer T) → ℕ
  weighs weight some = sum_by weight (messages some)

  -- of two lists of offers
  pub weighs-append : (weight : T → ℕ) (xs ys : List (Offer T)) → weighs weight (xs ++ ys) ≡ weighs weight xs + weighs weight ys
  weighs-append weight xs ys =
      ap (sum_by weight) (map-append (λ offer. offer.message) xs ys) ∙ sum_by-append weight (messages xs) (messages ys)

  -- of an offer and others
  weighs-cons : (weight : T → ℕ) (x : Offer T) (xs : List (Offer T)) → weighs weight (x ∷ xs) ≡ weight x.message + weighs weight xs
  weighs-cons weight x xs = sum_by-cons weight x.message (messages xs)

  -- one that isn't filled holds nothing
  unfilled_weighs : (weight : T → ℕ) (m : Mark T) → is_filled m ≡ false → mark_weighs weight m ≡ 0
  unfilled_weighs weight m e = grind (arith, common_steps)

  -- one that is woken holds nothing
  woken_weighs : (weight : T → ℕ) (m : Mark T) → is_woken m ≡ true → mark_weighs weight m ≡ 0
  woken_weighs weight m e = grind (arith, common_steps)

  -- if an end leaves
  balanced_close : (weight : T → ℕ) (closes : Bool) (es : List (LogEntry T))
      → sum_by weight (held_messages es) ≡ 0 + sum_by weight (held_messages (if closes then all_woken same_notice es else es))
  balanced_close weight closes es = grind (arith, common_steps, held_woken same_notice es)

  -- if one that asks waits again, or keeps its place
  balanced_again : (weight : T → ℕ) (t : ℕ) (es : List (LogEntry T))
      → sum_by weight (held_messages es) ≡ 0 + sum_by weight (held_messages (again t es))
  balanced_again weight t es =
      again_cases (λ after. sum_by weight (held_messages es) ≡ 0 + sum_by weight (held_messages after)) t es (omega arith)
      (λ e found woken.
      (let left = held_without weight t e es found in
      let none = woken_weighs weight e.mark woken in
      let pushed = held_push weight (without_ticket t es) (record e { mark = Waiting }) in
      omega arith))

module _ {T A : Type 0} where
  -- what one more pair offers, gives out and leaves
  abbrev pub Balanced : (T → ℕ) → Opening → Log T A → Step T × Reply T A → List (Offer T) → List T → List (LogEntry T) → Type 0
  Balanced weight o past p more given after =
      weighs weight more + weighs weight (line past) + sum_by weight (held_messages (entries o past))
      ≡ sum_by weight given + weighs weight (line (p ∷ past)) + sum_by weight (held_messages after)

  -- if a message is taken in at once, all of the line is queued
  queue_whole : (o : Opening) (past : Log T A) → IsRun o past
      → (some_wait (entries o past) ≡ false → HasRoom (capacity o past) (queue_len o past)) → queue o past ≡ messages (line past)
  queue_whole o past run room = ap messages (take_all (queue_len o past) (line past) (by_case (some_wait (entries o past)) refl))
    where
      by_case : (b : Bool) → some_wait (entries o past) ≡ b → length (line past) ≤ queue_len o past
      by_case true some = let whole = (shape_of o past run).waits some in omega arith
      by_case false none =
          elim (cases_lt (queue_len o past) (length (line past))) as (λ _. length (line past) ≤ queue_len o past) [
            | inl lt ↦ absurd (room_or_full (capacity o past) (queue_len o past) (room none) ((shape_of o past run).full lt))
            | inr le ↦ le
          ]

  -- what isn't queued is behind the queue
  queue_behind : (o : Opening) (past : Log T A) → messages (line past) ≡ queue o past ++ messages (drop (queue_len o past) (line past))
  queue_behind o past =
      ap messages (sym (take-append-drop (queue_len o past) (line past)))
      ∙ map-append (λ offer. offer.message) (take (queue_len o past) (line past)) (drop (queue_len o past) (line past))

  -- if the line stays
  balanced_same : (weight : T → ℕ) (o : Opening) (past : Log T A) (p : Step T × Reply T A) (closes : Bool) (done : Change T)
      → change past p.0 p.1 ≡ done → keeps_line done ≡ true → IsRun o past → is_over past ≡ false → is_over (p ∷ past) ≡ false
      → (given : List T) → sum_by weight (held_messages (entries o past))
      ≡ sum_by weight given + sum_by weight (held_messages (entries_after (queue o past) closes (entries o past) done))
      → Balanced weight o past p [] given (entries_after (queue o past) closes (entries o past) done)
  balanced_same weight o past p closes done e keeps run open_ still given entries_weigh =
      let stays = ap (weighs weight) (line_stays o past p run (ap keeps_line e ∙ keeps) open_ still) in
      omega arith

  -- if one that leaves passes its wake on, or doesn't
  balanced_left : (weight : T → ℕ) (o : Opening) (past : Log T A) (t : ℕ) (e : LogEntry T) → entry_of t (entries o past) ≡ Some e
      → is_filled e.mark ≡ false
      → sum_by weight (drop (fill_count (leave_fills t (queue o past) (entries o past))) (messages (line past)))
      + sum_by weight (held_messages (after_leave same_notice t (queue o past) (entries o past)))
      ≡ weighs weight (line past) + sum_by weight (held_messages (entries o past))
  balanced_left weight o past t e found empty =
      let others = held_without weight t e (entries o past) found in
      let none_held = unfilled_weighs weight e.mark empty in
      leave_cases (λ es f. sum_by weight (drop (fill_count f) (messages (line past))) + sum_by weight (held_messages es)
      ≡ weighs weight (line past) + sum_by weight (held_messages (entries o past))) same_notice t (queue o past) (entries o past)
      (λ none. omega arith)
      (λ passes front rest queued.
      (let all : messages (line past) ≡ front ∷ rest ++ messages (drop (queue_len o past) (line past)) = queue_behind o past
      ∙ ap (λ l. l ++ messages (drop (queue_len o past) (line past))) queued in
      let rounded = round_front weight same_notice front (rest ++ messages (drop (queue_len o past) (line past)))
      (without_ticket t (entries o past)) in
      let whole = ap (sum_by weight) all in
      let dropped = ap (λ l. sum_by weight (drop (fill_count (round_fills (without_ticket t (entries o past)))) l)) all in
      omega arith))

  -- a step of a run keeps the balance, by its change
  pub balanced_by : (weight : T → ℕ) (o : Opening) (past : Log T A) (p : Step T × Reply T A) (closes : Bool) (done : Change T)
      → change past p.0 p.1 ≡ done → IsRun o past → Fits (channel o past) done → (given : List T) → GivesOut (channel o past) done given
      → is_over past ≡ false → is_over (p ∷ past) ≡ false
      → Balanced weight o past p (offers_made done) given (entries_after (queue o past) closes (entries o past) done)
  balanced_by weight o past p closes (Queues m filled) e run h given g open_ still =
      let whole = queue_whole o past run h.0.1 in
      let x : Offer T = record { message = m; ticket = None } in
      let next : messages (line (p ∷ past)) ≡ drop (fill_count (round_fills (entries o past))) (queue o past ++ m ∷ []) =
      ap messages (line_queues o past p m filled run e open_)
      ∙ sym (drop-map (λ offer. offer.message) (fill_count filled) (line past ++ x ∷ []))
      ∙ ap (drop (fill_count filled)) (map-append (λ offer. offer.message) (line past) (x ∷ []) ∙ ap (λ l. l ++ m ∷ []) (sym whole))
      ∙ ap (λ f. drop (fill_count f) (queue o past ++ m ∷ [])) h.1 in
      let after = ap (sum_by weight) next in
      let before = sum_by_push weight (queue o past) m in
      let same = ap (sum_by weight) whole in
      let rounded = queued_weighs weight same_notice (queue o past) m (entries o past) in
      let none = ap (sum_by weight) g in
      omega arith
  balanced_by weight o past p closes (Blocks m t) e run h given g open_ still =
      let next = ap (weighs weight) (line_blocks o past p m t run e h.2 open_) ∙ weighs-append weight (line past) _ in
      let none = ap (sum_by weight) g in
      omega arith
  balanced_by weight o past p closes (Withdraws t) e run h given g open_ still =
      let m = g.0 in
      let x : Offer T = record { message = m; ticket = Some t } in
      let place = blocked_at o past t m (shape_of o past run).within g.1 in
      let next = ap (weighs weight) (line_withdraws o past p t m place.0 [] place.1 run e open_ place.2)
      ∙ weighs-append weight place.0 place.1 in
      let before = ap (weighs weight) place.2 ∙ weighs-append weight place.0 (x ∷ place.1) in
      let behind = weighs-cons weight x place.1 in
      let one = ap (sum_by weight) g.2 in
      omega arith
  balanced_by weight o past p closes (Takes m None) e run h given g open_ still =
      let front = front_at (line past) m h.0 h.1 in
      let next = ap (weighs weight) (line_takes o past p m None front.0 front.1 run e open_ front.2) in
      let before = ap (weighs weight) front.2 ∙ weighs-cons weight front.0 front.1 in
      let message = ap weight front.3 in
      let one = ap (sum_by weight) g in
      omega arith
  balanced_by weight o past p closes (Takes m (Some t)) e run h given g open_ still =
      let front = front_at (line past) m h.0.0 h.0.1 in
      let next = ap (weighs weight) (line_takes o past p m (Some t) front.0 front.1 run e open_ front.2) in
      let before = ap (weighs weight) front.2 ∙ weighs-cons weight front.0 front.1 in
      let message = ap weight front.3 in
      let one = ap (sum_by weight) g in
      let unfilled = h.1 in
      let others = held_without weight t unfilled.entry (entries o past) unfilled.found in
      let none = unfilled_weighs weight unfilled.entry.mark unfilled.empty in
      omega arith
  balanced_by weight o past p closes (Drains list) e run h given g open_ still =
      let n = queue_len o past in
      let front_long = length-take-le n (line past) (shape_of o past run).within in
      let long : length list ≡ length (take n (line past)) = ap length h ∙ length-map (take n (line past)) (λ offer. offer.message) in
      let next = ap (weighs weight) (line_drains o past p list (take n (line past)) (drop n (line past)) run e open_
      (sym (take-append-drop n (line past))) (sym long)) in
      let before = ap (weighs weight) (sym (take-append-drop n (line past)))
      ∙ weighs-append weight (take n (line past)) (drop n (line past)) in
      let drained = ap (sum_by weight) (g ∙ h) in
      omega arith
  balanced_by weight o past p closes (Leaves t filled) e run h given g open_ still =
      let unfilled = h.0 in
      let next : messages (line (p ∷ past)) ≡ drop (fill_count (leave_fills t (queue o past) (entries o past))) (messages (line past)) =
      ap messages (line_leaves o past p t filled run e open_)
      ∙ sym (drop-map (λ offer. offer.message) (fill_count filled) (line past))
      ∙ ap (λ f. drop (fill_count f) (messages (line past))) h.1 in
      let after = ap (sum_by weight) next in
      let left_ = balanced_left weight o past t unfilled.entry unfilled.found unfilled.empty in
      let none = ap (sum_by weight) g in
      omega arith
  balanced_by weight o past p closes (Parks t kind) e run h given g open_ still =
      let none = ap (sum_by weight) g in
      let pushed = held_push weight (entries o past) (new_entry t kind) in
      balanced_same weight o past p closes (Parks t kind) e refl run open_ still given (omega arith)
  balanced_by weight o past p closes (Asks t) e run h given g open_ still =
      let none = ap (sum_by weight) g in
      let again_ = balanced_again weight t (entries o past) in
      balanced_same weight o past p closes (Asks t) e refl run open_ still given (omega arith)
  balanced_by weight o past p closes (Collects t) e run h given g open_ still =
      let one = ap (sum_by weight) g.4 in
      let holds = ap (mark_weighs weight) g.3 in
      let others = held_without weight t g.0 (entries o past) g.2 in
      balanced_same weight o past p closes (Collects t) e refl run open_ still given (omega arith)
  balanced_by weight o past p closes SenderLeaves e run h given g open_ still =
      let none = ap (sum_by weight) g in
      let close = balanced_close weight closes (entries o past) in
      balanced_same weight o past p closes SenderLeaves e refl run open_ still given (omega arith)
  balanced_by weight o past p closes ReceiverLeaves e run h given g open_ still =
      let none = ap (sum_by weight) g in
      let close = balanced_close weight closes (entries o past) in
      balanced_same weight o past p closes ReceiverLeaves e refl run open_ still given (omega arith)
  balanced_by weight o past p closes done e run h given g open_ still =
      let none = ap (sum_by weight) g in balanced_same weight o past p closes done e refl run open_ still given (omega arith)
