-- Messages are received in the order in which they were sent.
use Rattle.std.proofs.Common.{◌≡◌, ℕ, ◌<◌, ◌≤◌, Bool, true, false, List, [], ◌∷◌, ◌++◌, Some, ◌⊎◌, inl, inr, zero, suc, sym}
use Rattle.std.proofs.Common.{ap, ◌∙◌, subst, length, take, drop, append_assoc, take-append-drop, drop-cons, arith}
use Rattle.std.proofs.lemmas.Bool.{cases_lt}
use Rattle.std.proofs.lemmas.List.Elements.{Contains-push}
use Rattle.std.proofs.lemmas.Option.{slice_get_within}
use Rattle.std.specs.List.{slice_get, Contains}
use Rattle.flume_model.specs.Log.{Log, Opening, Offer}
use Rattle.flume_model.specs.Offers.{offers, kept, hand_outs}
use Rattle.flume_model.specs.Producers.{HandedOutInOrder}
use Rattle.flume_model.proofs.users.ProducingLemmas.{handed_out_in_order}
use Rattle.judge_calls.specs.declared.call.Answer.TheVariants.{Got}
use Rattle.judge_calls.specs.declared.event.Event.{Event}
use Rattle.judge_calls.specs.declared.event.Event.TheVariants.{Begins, Returns}
use Rattle.judge_calls.specs.declared.event.Item.{Item}
use Rattle.judge_calls.specs.declared.event.Item.TheVariants.{Happens}
use Rattle.judge_calls.specs.Explanations.{events_in, steps_in, open_call, returns, IsExplanation, IsExplained}
use Rattle.judge_calls.specs.Patterns.{begins_send, all_returned, IsOutOfOrder}
use Rattle.judge_calls.proofs.BeginningLemmas.{older}
use Rattle.judge_calls.proofs.OffersMadeLemmas.{Lacks, lacks_at, AreOthers, OffersOthers, offers_others, offers_none}
use Rattle.judge_calls.proofs.OffersMadeLemmas.{begins_none}
use Rattle.judge_calls.proofs.SendsReturnedLemmas.{all_others}
use Rattle.judge_calls.proofs.CallStartLemmas.{BegunIn}
use Rattle.judge_calls.proofs.ReceivedLemmas.{HandedTo, HandedOut, received, received_later, hand_outs_rise, kept_stays}
use Rattle.judge_calls.proofs.SplitItemLemmas.{told_all, Split, split, split_at}

module _ {X : Type 0} where
  -- an element of a list is between two parts of it
  parted : (xs : List X) (x : X) → Contains xs x → (before : List X) × (after : List X) × (xs ≡ before ++ x ∷ after)
  parted xs x h = (
    take h.0 xs,
    drop (suc h.0) xs,
    sym (take-append-drop h.0 xs) ∙ ap (λ l. take h.0 xs ++ l) (drop-cons xs h.0 x h.1)
        ∙ ap (λ y. take h.0 xs ++ y ∷ drop (suc h.0) xs) h.2,
  )

  -- an element of two lists is in the first, or behind its length and in the second
  at_parts : (xs ys : List X) (k : ℕ) (x : X) → slice_get (xs ++ ys) k ≡ Some x
      → (slice_get xs k ≡ Some x) ⊎ ((length xs ≤ k) × (j : ℕ) × (slice_get ys j ≡ Some x))
  at_parts [] ys k x at = inr (omega arith, k, at)
  at_parts (y ∷ xs) ys zero x at = inl at
  at_parts (y ∷ xs) ys (suc k) x at =
      elim (at_parts xs ys k x at) as (λ _. (slice_get (y ∷ xs) (suc k) ≡ Some x)
      ⊎ ((length (y ∷ xs) ≤ suc k) × (j : ℕ) × (slice_get ys j ≡ Some x)))
      [ inl h ↦ inl h | inr h ↦ inr (let le = h.0 in omega arith, h.1, h.2) ]

  -- an element at a place within the first is in the first
  at_first : (xs ys : List X) (k : ℕ) (x : X) → k < length xs → slice_get (xs ++ ys) k ≡ Some x → slice_get xs k ≡ Some x
  at_first xs ys k x lt at =
      elim (at_parts xs ys k x at) as (λ _. slice_get xs k ≡ Some x)
      [ inl h ↦ h | inr h ↦ absurd (let le = h.0 in omega arith) ]

module _ {T : Type 0} where
  -- an offer behind the first ones is none of such a message, if none of the others is
  in_others : (such : T → Bool) (first more : List (Offer T)) (k : ℕ) (offer : Offer T) → slice_get (first ++ more) k ≡ Some offer
      → length first ≤ k → Lacks such more → such offer.message ≡ false
  in_others such first more k offer at le lacks =
      elim (at_parts first more k offer at) as (λ _. such offer.message ≡ false) [
        | inl h ↦ (let lt = slice_get_within first k offer h in absurd (omega arith))
        | inr h ↦ lacks_at such more h.1 offer lacks h.2
      ]

module _ {T A : Type 0} (equal : T → T → Bool) where
  -- where the hand-out of this number is among all offers
  place_of : (log : Log T A) (line : HandedOutInOrder log) (j : ℕ) (offer : Offer T) → j < hand_outs log
      → slice_get (kept log) j ≡ Some offer → slice_get (offers log) (line.place j) ≡ Some offer
  place_of log line j offer lt at =
      let k = line.is_kept j lt in
      let same : k.0 ≡ offer = (let one = k.2 in cc) in
      k.1 ∙ ap (λ o. Some o) same

  -- If one offer was handed out before another one, and none of its kind was made by some moment, the other one wasn't made after it.
  offers_not_swapped : (o : Opening) (past newer : List (Item T A)) (first second : Offer T) (j k : ℕ) (such other : T → Bool)
      → (all : IsExplanation equal o (newer ++ past)) → OffersOthers such newer past → Lacks other (offers (steps_in past))
      → j < k → k < hand_outs (steps_in (newer ++ past))
      → slice_get (kept (steps_in (newer ++ past))) j ≡ Some second → slice_get (kept (steps_in (newer ++ past))) k ≡ Some first
      → such first.message ≡ true → other second.message ≡ true → ⊥
  offers_not_swapped o past newer first second j k such other all others lacks lt within at_j at_k is is_other =
      let log = steps_in (newer ++ past) in
      let line = handed_out_in_order o log all.run in
      let rises = line.rises j k lt within in
      let second_at = sym (ap (λ l. slice_get l (line.place j)) others.offers_are) ∙ place_of log line j second (omega arith) at_j in
      let first_at = sym (ap (λ l. slice_get l (line.place k)) others.offers_are) ∙ place_of log line k first within at_k in
      elim (cases_lt (line.place j) (length (offers (steps_in past)))) as (λ _. ⊥) [
        | inl early ↦ (let at = at_first (offers (steps_in past)) others.more (line.place j) second early second_at in
            let none = lacks_at other (offers (steps_in past)) (line.place j) second lacks at in
            let no_way : ⊥ = cc in no_way)
        | inr late ↦ (let after : length (offers (steps_in past)) ≤ line.place k = omega arith in
            let none = in_others such (offers (steps_in past)) others.more (line.place k) first first_at after others.lacks in
            let no_way : ⊥ = cc in no_way)
      ]

  -- The second message was received before the newer items, and the first by a call that began in them. So the second was handed out
  -- first. If the early items don't offer it, the late ones offer the first.
  hand_outs_not_swapped : (o : Opening) (all newer past more start grown late early : List (Item T A)) (first second : T)
      → all ≡ newer ++ past → all ≡ more ++ start → past ≡ grown ++ start → all ≡ late ++ early → IsExplanation equal o all
      → HandedTo equal newer past first → HandedOut equal start second → OffersOthers (equal first) late early
      → Lacks (equal second) (offers (steps_in early)) → ⊥
  hand_outs_not_swapped o all newer past more start grown late early first second by_newer by_more by_grown by_late x a b others lacks =
      let rise =
      hand_outs_rise equal o grown start
      (subst (IsExplanation equal o) by_grown (older equal o newer past (subst (IsExplanation equal o) by_newer x))) in
      let in_past : hand_outs (steps_in start) ≤ hand_outs (steps_in past) =
      subst (λ l. hand_outs (steps_in start) ≤ hand_outs (steps_in l)) (sym by_grown) rise in
      let stays = kept_stays equal o more start (subst (IsExplanation equal o) by_more x) b.number b.handed ∙ b.is_kept in
      let b_handed = b.handed in
      let a_after = a.after_past in
      offers_not_swapped o early late a.offer b.offer b.number a.number (equal first) (equal second)
      (subst (IsExplanation equal o) by_late x) others lacks (omega arith)
      (subst (λ l. a.number < hand_outs (steps_in l)) (sym by_newer ∙ by_late) a.handed)
      (subst (λ l. slice_get (kept (steps_in l)) b.number ≡ Some b.offer) (sym by_more ∙ by_late) stays)
      (subst (λ l. slice_get (kept (steps_in l)) a.number ≡ Some a.offer) (sym by_newer ∙ by_late) a.is_kept)
      a.same b.same

  -- so it is by what calls begin and return in these items
  returns_not_swapped : (o : Opening) (all newer past between start late early : List (Item T A)) (first second : T) (receiver other : ℕ)
      → IsExplanation equal o all → all ≡ newer ++ past → past ≡ between ++ Happens (Returns other (Got second)) ∷ start
      → all ≡ late ++ early → BegunIn newer receiver → returns equal (open_call all receiver) (Got first) ≡ true
      → AreOthers (equal first) early → begins_send (equal first) (events_in late) ≡ false
      → begins_send (equal second) (events_in early) ≡ false → ⊥
  returns_not_swapped o all newer past between start late early first second receiver other
      x by_newer past_is by_late begun is others no_first no_second =
      let back : Item T A = Happens (Returns other (Got second)) in
      let by_grown : past ≡ (between ++ back ∷ []) ++ start = past_is ∙ sym (append_assoc between (back ∷ []) start) in
      let whole = subst (IsExplanation equal o) by_newer x in
      let second_back = older equal o between (back ∷ start) (subst (IsExplanation equal o) past_is (older equal o newer past whole)) in
      let split_late = subst (IsExplanation equal o) by_late x in
      hand_outs_not_swapped o all newer past (newer ++ (between ++ back ∷ [])) start (between ++ back ∷ []) late early first second
      by_newer
      (by_newer ∙ ap (λ l. newer ++ l) by_grown ∙ sym (append_assoc newer (between ++ back ∷ []) start))
      by_grown by_late x
      (received_later equal o newer past whole receiver first begun
      (ap (λ l. returns equal (open_call l receiver) (Got first)) (sym by_newer) ∙ is))
      (received equal o start (record { calls = second_back.calls.1; run = second_back.run }) other second second_back.calls.0)
      (offers_others (equal first) equal late early split_late.calls others no_first)
      (offers_none (equal second) equal early (older equal o late early split_late).calls no_second)

  -- and if they are split at the events of the pattern
  items_not_swapped : (o : Opening) (events : List (Event T A)) (p : IsOutOfOrder equal events) (all : List (Item T A))
      → IsExplanation equal o all → returns equal (open_call all p.receiver) (Got p.first) ≡ true
      → (late : Split [] all p.early (p.between ++ Begins p.receiver p.call ∷ p.inner))
      → (call_at : Split (Happens (Begins p.receiver p.call) ∷ []) late.newer p.between p.inner) → (before after : List (Event T A))
      → Split (Happens (Returns p.other (Got p.second)) ∷ []) call_at.older before after → ⊥
  items_not_swapped o events p all x is late call_at before after back_at =
      let begins : Item T A = Happens (Begins p.receiver p.call) in
      returns_not_swapped o all (call_at.newer ++ begins ∷ []) (call_at.older ++ late.older) back_at.newer (back_at.older ++ late.older)
      late.newer late.older p.first p.second p.receiver p.other x
      (late.parts ∙ ap (λ l. l ++ late.older) call_at.parts ∙ append_assoc call_at.newer (begins ∷ call_at.older) late.older
      ∙ sym (append_assoc call_at.newer (begins ∷ []) (call_at.older ++ late.older)))
      (ap (λ l. l ++ late.older) back_at.parts
      ∙ append_assoc back_at.newer (Happens (Returns p.other (Got p.second)) ∷ back_at.older) late.older)
      late.parts (p.call, Contains-push call_at.newer begins) is
      (all_others (equal p.first) late.older (ap (all_returned (equal p.first)) late.older_are ∙ p.first_sent))
      (begins_none (equal p.first) (events_in late.newer) (ap (begins_send (equal p.first)) late.newer_are ∙ p.no_first))
      (begins_none (equal p.second) (events_in late.older) (ap (begins_send (equal p.second)) late.older_are ∙ p.no_second))

  pub in_order : (o : Opening) (events : List (Event T A)) → IsExplained equal o events → IsOutOfOrder equal events → ⊥
  in_order o events h p =
      let begins = Begins p.receiver p.call in
      let end = split_at h.0 (p.early ++ p.between ++ begins ∷ p.inner) (Returns p.receiver (Got p.first)) []
      (told_all h.0 ∙ h.1 ∙ p.parts) in
      let x = older equal o end.newer _ (subst (IsExplanation equal o) end.parts h.2) in
      let late = split end.older p.early (p.between ++ begins ∷ p.inner)
      (end.older_are ∙ append_assoc p.early p.between (begins ∷ p.inner)) in
      let call_at = split_at late.newer p.between begins p.inner late.newer_are in
      let place = parted p.between (Returns p.other (Got p.second)) p.second_received in
      items_not_swapped o events p end.older (record { calls = x.calls.1; run = x.run }) x.calls.0 late call_at place.0 place.1
      (split_at call_at.older place.0 (Returns p.other (Got p.second)) place.1 (call_at.older_are ∙ place.2))
