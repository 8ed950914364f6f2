-- Since a moment of a run: which receivers were filled, and that a message that a receiver got was handed out.
use Rattle.flume_model.proofs.Common.{◌≡◌, ℕ, zero, suc, ◌<◌, ◌≤◌, Bool, true, false, if◌then◌else◌, List, [], ◌∷◌, ◌++◌, Option, Some}
use Rattle.flume_model.proofs.Common.{None}
use Rattle.flume_model.proofs.Common.{refl, sym, ap, ◌∙◌, arith, ◌⊎◌, inl, inr, common_steps, length, length-append, eq-eqb, eqb-true}
use Rattle.flume_model.proofs.Common.{or_cases, or_from, slice_get, slice_get_within, Log, Opening, Offer, Shown, FilledIn, channel}
use Rattle.flume_model.proofs.Common.{Change, Queues, Takes, Collects, Leaves, change, is_ticket, filled_by, was_filled, fill, hands_out}
use Rattle.flume_model.proofs.Common.{handed_out}
use Rattle.flume_model.proofs.Common.{hand_outs, kept, next_ticket, is_over, entry_of, entries, held_by, FillIs, shows_to, shown, option_or}
use Rattle.flume_model.proofs.Common.{IsReply, IsRun}
use Rattle.flume_model.specs.declared.step.Step.{Step}
use Rattle.flume_model.specs.declared.step.Step.TheVariants.{TryRecv, Recv, Poll, Withdraw}
use Rattle.flume_model.specs.declared.step.Reply.{Reply}
use Rattle.flume_model.specs.declared.step.Reply.TheVariants as reply
use Rattle.flume_model.proofs.AskingCaseLemmas.{polled_cases, gone_cases}
use Rattle.flume_model.proofs.EntryMarkLemmas.{none_past}
use Rattle.flume_model.proofs.EntryChangeLemmas.{fills, fills_none}
use Rattle.flume_model.proofs.EntryShapeLemmas.{entries_apart, fits_run}
use Rattle.flume_model.proofs.PlaceLemmas.{at_front}
use Rattle.flume_model.proofs.fills.FillsOrderLemmas.{in_order}
use Rattle.flume_model.proofs.order.RunLemmas.{placed}
use Rattle.flume_model.proofs.order.TicketLemmas.{handed_out_stay}

module _ {X : Type 0} where
  -- what is at a place of a list is there too if more is put behind the list
  get_more : (xs ys : List X) (j : ℕ) (x : X) → slice_get xs j ≡ Some x → slice_get (xs ++ ys) j ≡ Some x
  get_more [] ys j x e = absurd (let none : ⊥ = cc in none)
  get_more (y ∷ xs) ys zero x e = e
  get_more (y ∷ xs) ys (suc j) x e = get_more xs ys j x e

  -- the element behind a list is at the place that is the list's length
  get_behind : (xs : List X) (x : X) → slice_get (xs ++ x ∷ []) (length xs) ≡ Some x
  get_behind [] x = refl
  get_behind (y ∷ xs) x = get_behind xs x

-- if this is the ticket, then it is there
ticket_is : (t : ℕ) (found : Option ℕ) → is_ticket t found ≡ true → found ≡ Some t
ticket_is t None e = absurd (let none : ⊥ = cc in none)
ticket_is t (Some u) e = ap (λ v. Some v) (eqb-true u t e)

module _ {T : Type 0} where
  -- a change that fills a receiver hands out to it, and nothing else
  fills_hand_out : (done : Change T) (t : ℕ) → fills done ≡ Some t → hands_out done ≡ FilledIn t ∷ []
  fills_hand_out (Queues m filled) t e = ap fill e
  fills_hand_out (Leaves u filled) t e = ap fill e
  fills_hand_out _ t e = absurd (let none : ⊥ = cc in none)

  -- a receiver that gets a message fills none
  got_fills_none : (was : Bool) (t : ℕ) (m : T) → None ≡ fills (if was then Collects t else Takes m (Some t))
  got_fills_none true t m = refl
  got_fills_none false t m = refl

  -- the receiver that a step is of, if it is of a parked one, has a ticket that isn't below this
  abbrev pub IsFrom : ℕ → Step T → Type 0
  IsFrom k (Poll t) = k ≤ t
  IsFrom k (Withdraw t) = k ≤ t
  IsFrom k _ = Unit {0}

  -- if the message was shown, the fill is of it
  shown_is : (over : Bool) (got held : Option T) (x m : T) → got ≡ Some x → FillIs over got held m → x ≡ m
  shown_is over got held x m is h = rw is at h

module _ {T A : Type 0} where
  -- a lawful reply tells as filled what its change fills
  told_is : (o : Opening) (past : Log T A) (step : Step T) (r : Reply T A) → IsReply (channel o past) step r
      → filled_by r ≡ fills (change past step r)
  told_is o past (Poll t) r h =
      polled_cases (channel o past) t (λ x. filled_by x ≡ fills (change past (Poll t) x)) r h (record {
        unknown = refl;
        collects = λ e held found is. got_fills_none (was_filled past t) t held;
        takes = λ u m front. got_fills_none (was_filled past t) t m;
        waits_on = λ u woken. refl;
        ends = λ u empty. refl;
        refused = λ back. refl;
      })
  told_is o past (Withdraw t) r h =
      gone_cases (channel o past) t (λ x. filled_by x ≡ fills (change past (Withdraw t) x)) r h (record {
        unknown = refl;
        collects = λ e held found is. got_fills_none (was_filled past t) t held;
        takes = λ u m front. got_fills_none (was_filled past t) t m;
        fills_none = λ u closed empty. refl;
        passes_on = λ u closed. refl;
      })
  told_is o past step r h = grind (arith, common_steps)

  -- no receiver is filled under a ticket that wasn't issued
  unissued_not_filled : (o : Opening) (log : Log T A) → IsRun o log → (t : ℕ) → next_ticket o log ≤ t → was_filled log t ≡ false
  unissued_not_filled o [] run t le = refl
  unissued_not_filled o (p ∷ past) run t le =
      let none = none_past (next_ticket o past) t (entries o past) (omega arith) (entries_apart o past run.1) in
      or_from _ _ (ap (is_ticket t) (told_is o past p.0 p.1 run.0)
      ∙ fills_none (channel o past) (change past p.0 p.1) t (fits_run o past p run) none)
      (unissued_not_filled o past run.1 t (omega arith))

  -- Since a moment at which this many messages had been handed out, and this was the next ticket:
  -- no fewer are handed out, no lesser ticket is next, and each receiver that was filled under a
  -- later ticket was so by a hand-out after that moment.
  pub record Since (n k : ℕ) (o : Opening) (log : Log T A) : Type 0 where
    pub more_handed : n ≤ hand_outs log
    pub more_issued : k ≤ next_ticket o log
    pub filled_at : (t : ℕ) → k ≤ t → was_filled log t ≡ true → (j : ℕ) × (n ≤ j) × (slice_get (handed_out log) j ≡ Some (FilledIn t))

  -- it is so at that moment
  pub since_now : (o : Opening) (log : Log T A) → IsRun o log → Since (hand_outs log) (next_ticket o log) o log
  since_now o log run = record {
    more_handed = omega arith;
    more_issued = omega arith;
    filled_at = λ t le was. (let not = unissued_not_filled o log run t le in absurd (let none : ⊥ = cc in none));
  }

  -- and stays so by one more step
  pub since_more : (n k : ℕ) (o : Opening) (past : Log T A) (p : Step T × Reply T A) → IsRun o (p ∷ past) → Since n k o past
      → Since n k o (p ∷ past)
  since_more n k o past p run h = record {
    more_handed = (let long = length-append (handed_out past) (hands_out (change past p.0 p.1)) in let before = h.more_handed in
        omega arith);
    more_issued = (let before = h.more_issued in omega arith);
    filled_at = λ t le was. by_step t le (or_cases (is_ticket t (filled_by p.1)) (was_filled past t) was);
  }
    where
      by_step : (t : ℕ) → k ≤ t → (is_ticket t (filled_by p.1) ≡ true) ⊎ (was_filled past t ≡ true)
          → (j : ℕ) × (n ≤ j) × (slice_get (handed_out (p ∷ past)) j ≡ Some (FilledIn t))
      by_step t le (inl now) = (
        hand_outs past,
        h.more_handed,
        ap (λ l. slice_get (handed_out past ++ l) (hand_outs past))
            (fills_hand_out (change past p.0 p.1) t (sym (told_is o past p.0 p.1 run.0) ∙ ticket_is t (filled_by p.1) now))
            ∙ get_behind (handed_out past) (FilledIn t),
      )
      by_step t le (inr before) =
          let at = h.filled_at t le before in
          (at.0, at.1, get_more (handed_out past) (hands_out (change past p.0 p.1)) at.0 (FilledIn t) at.2)

  -- a step leaves the kept offers that were handed out, each at its place
  pub kept_on : (o : Opening) (past : Log T A) (p : Step T × Reply T A) → IsRun o (p ∷ past) → (j : ℕ) → j < hand_outs past
      → slice_get (kept (p ∷ past)) j ≡ slice_get (kept past) j
  kept_on o past p run j lt = at_front (hand_outs past) (kept (p ∷ past)) (kept past) j lt (handed_out_stay o p past run)

  -- the message was handed out, after this many others at least
  pub record IsHandedSince (n : ℕ) (log : Log T A) (own : T) : Type 0 where
    pub number : ℕ
    pub offer : Offer T
    pub not_before : n ≤ number
    pub handed : number < hand_outs log
    pub is_kept : slice_get (kept log) number ≡ Some offer
    pub same : own ≡ offer.message

  -- it stays so by one more step
  pub handed_on : (n : ℕ) (o : Opening) (past : Log T A) (p : Step T × Reply T A) (own : T) → IsRun o (p ∷ past) → IsHandedSince n past own
      → IsHandedSince n (p ∷ past) own
  handed_on n o past p own run h = record {
    number = h.number;
    offer = h.offer;
    not_before = h.not_before;
    handed = (let long = length-append (handed_out past) (hands_out (change past p.0 p.1)) in let before = h.handed in omega arith);
    is_kept = kept_on o past p run h.number h.handed ∙ h.is_kept;
    same = h.same;
  }

  -- a message that a step takes from the line is handed out by it
  takes_hands_out : (n : ℕ) (o : Opening) (past : Log T A) (p : Step T × Reply T A) (m : T) (receiver : Option ℕ) → IsRun o (p ∷ past)
      → n ≤ hand_outs past → change past p.0 p.1 ≡ Takes m receiver → IsHandedSince n (p ∷ past) m
  takes_hands_out n o past p m receiver run le is =
      let at : slice_get (handed_out (p ∷ past)) (hand_outs past) ≡ Some (Shown m) =
      ap (λ done. slice_get (handed_out past ++ hands_out done) (hand_outs past)) is ∙ get_behind (handed_out past) (Shown m) in
      let kept_at = placed o (p ∷ past) run (hand_outs past) (Shown m) at in
      record {
        number = hand_outs past;
        offer = kept_at.0;
        not_before = le;
        handed = slice_get_within (handed_out (p ∷ past)) (hand_outs past) (Shown m) at;
        is_kept = kept_at.1;
        same = kept_at.2;
      }

  -- a message that a filled receiver gets was handed out when it was filled
  collects_message : (n k : ℕ) (o : Opening) (past : Log T A) (step : Step T) (m : T) (u : ℕ) → IsRun o ((step, reply.Got m) ∷ past)
      → Since n k o past → k ≤ u → was_filled past u ≡ true → shows_to {A = A} u step (reply.Got m) ≡ Some m
      → IsHandedSince n ((step, reply.Got m) ∷ past) m
  collects_message n k o past step m u run since le was shows =
      let log : Log T A = (step, reply.Got m) ∷ past in
      let filled = since.filled_at u le was in
      let at = get_more (handed_out past) (hands_out (change past step (reply.Got m))) filled.0 (FilledIn u) filled.2 in
      let kept_at = in_order o log run filled.0 (FilledIn u) at in
      record {
        number = filled.0;
        offer = kept_at.0;
        not_before = filled.1;
        handed = slice_get_within (handed_out log) filled.0 (FilledIn u) at;
        is_kept = kept_at.1;
        same = shown_is (is_over log) (shown log u) (held_by (entry_of u (entries o log))) m kept_at.0.message
            (ap (λ first. option_or first (shown past u)) shows) kept_at.2;
      }

  -- a message that a parked receiver gets was handed out, by the step or when it was filled
  parked_gets : (n k : ℕ) (o : Opening) (past : Log T A) (step : Step T) (m : T) (u : ℕ) → IsRun o ((step, reply.Got m) ∷ past)
      → Since n k o past → k ≤ u → shows_to {A = A} u step (reply.Got m) ≡ Some m
      → change past step (reply.Got m) ≡ (if was_filled past u then Collects u else Takes m (Some u))
      → IsHandedSince n ((step, reply.Got m) ∷ past) m
  parked_gets n k o past step m u run since le shows is = by_filled (was_filled past u) refl
    where
      by_filled : (was : Bool) → was_filled past u ≡ was → IsHandedSince n ((step, reply.Got m) ∷ past) m
      by_filled true was = collects_message n k o past step m u run since le was shows
      by_filled false was =
          takes_hands_out n o past (step, reply.Got m) m (Some u) run since.more_handed
          (is ∙ ap (λ b. if b then Collects u else Takes m (Some u)) was)

  -- a message that a step got was handed out
  pub gets_message : (n k : ℕ) (o : Opening) (past : Log T A) (step : Step T) (m : T) → IsRun o ((step, reply.Got m) ∷ past)
      → Since n k o past → IsFrom k step → IsHandedSince n ((step, reply.Got m) ∷ past) m
  gets_message n k o past TryRecv m run since from =
      takes_hands_out n o past (TryRecv, reply.Got m) m None run since.more_handed refl
  gets_message n k o past (Recv kind) m run since from =
      takes_hands_out n o past (Recv kind, reply.Got m) m None run since.more_handed refl
  gets_message n k o past (Poll u) m run since from =
      parked_gets n k o past (Poll u) m u run since from (ap (λ b. if b then Some m else None) (eq-eqb u u refl)) refl
  gets_message n k o past (Withdraw u) m run since from =
      parked_gets n k o past (Withdraw u) m u run since from (ap (λ b. if b then Some m else None) (eq-eqb u u refl)) refl
  gets_message n k o past _ m run since from = absurd run.0
