-- What holds of each run: the laws.
use Rattle.flume_model.proofs.Common.{◌≡◌, ℕ, Bool, true, false, List, [], ◌∷◌, ◌++◌, length, Some, zero, suc, refl, sym, ◌∙◌, ap, subst}
use Rattle.flume_model.proofs.Common.{subst₂, not, ◌&&◌, arith, or_from, cond-true, cond-false, AllZip, slice_get, is_over, some_wait}
use Rattle.flume_model.proofs.Common.{◌<◌, IsAtCapacity, Rising, next_ticket, offers, line, queue, queue_len}
use Rattle.flume_model.proofs.Common.{queue_len_after, capacity, Log, Opening, Offer}
use Rattle.flume_model.proofs.Common.{HandOut}
use Rattle.flume_model.proofs.Common.{change, kept, handed_out, entries, entries_after, is_closed_after, IsRun, Reply, Step}
use Rattle.flume_model.proofs.LawfulReplyLemmas.{fits, not_over_yet}
use Rattle.flume_model.proofs.EntryShapeLemmas.{filled_if_named}
use Rattle.flume_model.proofs.order.KeptLemmas.{line_by, line_is_open}
use Rattle.flume_model.proofs.order.PartLemmas.{ShownIs, Shape}
use Rattle.flume_model.proofs.order.PartsAfterLemmas.{parts_after}
use Rattle.flume_model.proofs.order.RoomAfterLemmas.{Room, room_after}
use Rattle.flume_model.proofs.order.TicketsAfterLemmas.{rising_after, unissued_after}
use Rattle.flume_model.proofs.order.WholeAfterLemmas.{waits_after}

module _ {T A : Type 0} where
  -- what is queued of the line after one more pair
  room_more : (o : Opening) (past : Log T A) (p : Step T × Reply T A) → IsRun o (p ∷ past) → Shape o past
      → Room (capacity o (p ∷ past)) (queue_len o (p ∷ past)) (length (line (p ∷ past)))
  room_more o past p run shape = by_case (is_over (p ∷ past)) refl
    where
      by_case : (b : Bool) → is_over (p ∷ past) ≡ b → Room (capacity o (p ∷ past)) (queue_len o (p ∷ past)) (length (line (p ∷ past)))
      by_case true over =
          let none : queue_len o (p ∷ past) ≡ 0 = cond-true (is_over (p ∷ past)) 0 _ over in
          let empty : line (p ∷ past) ≡ [] = cond-true (is_over (p ∷ past)) [] _ over in
          let long : length (line (p ∷ past)) ≡ 0 = ap length empty in
          record { in_line = omega arith; at_capacity = λ lt. absurd (omega arith) }
      by_case false open_ =
          let done = change past p.0 p.1 in
          let same : line (p ∷ past) ≡ line_by past done = line_is_open (p ∷ past) open_ in
          let queued : queue_len o (p ∷ past) ≡ queue_len_after (capacity o (p ∷ past)) (length (line (p ∷ past))) (queue_len o past) done =
          cond-false (is_over (p ∷ past)) 0 _ open_ in
          let named = filled_if_named o past run.1 in
          let room = room_after o past done shape (fits o past p.0 p.1 named run.0) (not_over_yet o past p named run open_) in
          let R : ℕ → ℕ → Type 0 = λ n long. Room (capacity o (p ∷ past)) n long in
          let long : length (line (p ∷ past)) ≡ length (line_by past done) = ap length same in
          let counted = queued ∙ ap (λ n. queue_len_after (capacity o (p ∷ past)) n (queue_len o past) done) long in
          subst₂ R (sym counted) (sym long) room

  -- while a receiver waits after one more pair, the queue is the whole line
  waits_more : (o : Opening) (past : Log T A) (p : Step T × Reply T A) → IsRun o (p ∷ past) → Shape o past
      → some_wait (entries o (p ∷ past)) ≡ true → queue_len o (p ∷ past) ≡ length (line (p ∷ past))
  waits_more o past p run shape some = by_case (is_over (p ∷ past)) refl
    where
      by_case : (b : Bool) → is_over (p ∷ past) ≡ b → queue_len o (p ∷ past) ≡ length (line (p ∷ past))
      by_case true over =
          let none : entries o (p ∷ past) ≡ [] = cond-true (is_over (p ∷ past)) [] _ over in
          let nobody : some_wait (entries o (p ∷ past)) ≡ false = ap some_wait none in
          absurd (let none : ⊥ = cc in none)
      by_case false open_ =
          let done = change past p.0 p.1 in
          let named = filled_if_named o past run.1 in
          let closes = not (is_closed_after past) && is_closed_after (p ∷ past) in
          let long : length (line (p ∷ past)) ≡ length (line_by past done) = ap length (line_is_open (p ∷ past) open_) in
          let queued : queue_len o (p ∷ past) ≡ queue_len_after (capacity o (p ∷ past)) (length (line (p ∷ past))) (queue_len o past) done =
          cond-false (is_over (p ∷ past)) 0 _ open_ in
          let parked : entries o (p ∷ past) ≡ entries_after (queue o past) closes (entries o past) done =
          cond-false (is_over (p ∷ past)) [] _ open_ in
          queued ∙ ap (λ n. queue_len_after (capacity o (p ∷ past)) n (queue_len o past) done) long
          ∙ waits_after o past done closes shape (fits o past p.0 p.1 named run.0) (not_over_yet o past p named run open_)
          (sym (ap some_wait parked) ∙ some) ∙ sym long

  -- each run has the shape
  pub shape_of : (o : Opening) (log : Log T A) → IsRun o log → Shape o log
  shape_of o [] run = record {
    parts = record { gone = []; rest = []; kept_are = refl; given_are = tt };
    within = omega arith;
    rising = tt;
    full = λ lt. absurd (omega arith);
    waits = λ some. refl;
    unissued = λ t m le. refl;
  }
  shape_of o (p ∷ past) run =
      let done = change past p.0 p.1 in
      let shape = shape_of o past run.1 in
      let fit = fits o past p.0 p.1 (filled_if_named o past run.1) run.0 in
      let room = room_more o past p run shape in
      record {
        parts = parts_after o past done shape fit;
        within = room.in_line;
        rising = rising_after o past done shape fit;
        full = room.at_capacity;
        waits = waits_more o past p run shape;
        unissued = λ t m le. or_from _ _ (unissued_after o past done shape fit t m le) (shape.unissued t m (omega arith));
      }

module _ {T : Type 0} where
  -- what is at a place of the first of two matching lists has its match at that place
  matched : (given : List (HandOut T)) (gone rest : List (Offer T)) → AllZip (λ hand_out offer. ShownIs hand_out offer.message) given gone
      → (j : ℕ) (x : HandOut T) → slice_get given j ≡ Some x
      → (offer : Offer T) × (slice_get (gone ++ rest) j ≡ Some offer) × ShownIs x offer.message
  matched [] gone rest zip j x e = absurd (let none : ⊥ = cc in none)
  matched (g ∷ given) [] rest zip j x e = absurd zip
  matched (g ∷ given) (o ∷ gone) rest zip zero x e =
      (o, refl, (let P : HandOut T → Type 0 = λ h. ShownIs h o.message in subst P (let same : g ≡ x = cc in same) zip.0))
  matched (g ∷ given) (o ∷ gone) rest zip (suc j) x e = matched given gone rest zip.1 j x e

module _ {T A : Type 0} where
  -- at the place of each hand-out is a kept offer, whose message it is if its reply shows one
  pub placed : (o : Opening) (log : Log T A) → IsRun o log → (j : ℕ) (given : HandOut T) → slice_get (handed_out log) j ≡ Some given
      → (offer : Offer T) × (slice_get (kept log) j ≡ Some offer) × ShownIs given offer.message
  placed o log run j given at_j =
      let parts = (shape_of o log run).parts in
      rw parts.kept_are (matched (handed_out log) parts.gone parts.rest parts.given_are j given at_j)

  -- the tickets of the offers rise
  pub tickets_rise : (o : Opening) (log : Log T A) → IsRun o log → Rising (next_ticket o log) (offers log)
  tickets_rise o log run = (shape_of o log run).rising

  -- a sender is blocked only if the queue is at capacity
  pub blocked_at_capacity : (o : Opening) (log : Log T A) → IsRun o log → queue_len o log < length (line log)
      → IsAtCapacity (capacity o log) (queue_len o log)
  blocked_at_capacity o log run = (shape_of o log run).full

  -- while a receiver waits the queue is the whole line
  pub waits_whole : (o : Opening) (log : Log T A) → IsRun o log → some_wait (entries o log) ≡ true → queue_len o log ≡ length (line log)
  waits_whole o log run = (shape_of o log run).waits
