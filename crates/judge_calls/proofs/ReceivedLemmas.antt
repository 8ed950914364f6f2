-- A message that an open call may return was handed out, and not before the call began.
use Rattle.std.proofs.Common.{◌≡◌, ℕ, ◌<◌, ◌≤◌, Bool, true, false, eqb, if◌then◌else◌, List, [], ◌∷◌, ◌++◌, Option, Some}
use Rattle.std.proofs.Common.{None, ◌⊎◌}
use Rattle.std.proofs.Common.{inl, inr, refl, sym, ◌∙◌, subst, arith, eq-eqb, eqb-true}
use Rattle.std.proofs.lemmas.Bool.{or_cases}
use Rattle.std.proofs.lemmas.List.{append-nil}
use Rattle.std.specs.List.{slice_get}
use Rattle.flume_model.specs.Log.{Log, Opening, Offer}
use Rattle.flume_model.specs.Offers.{hand_outs, kept}
use Rattle.flume_model.specs.Line.{next_ticket}
use Rattle.flume_model.specs.Replies.{IsRun}
use Rattle.judge_calls.specs.declared.call.Call.{Call}
use Rattle.judge_calls.specs.declared.call.Call.TheVariants as call
use Rattle.judge_calls.specs.declared.call.Answer.{Answer}
use Rattle.judge_calls.specs.declared.call.Answer.TheVariants as answer
use Rattle.judge_calls.specs.declared.event.Event.TheVariants.{Begins, Returns}
use Rattle.judge_calls.specs.declared.event.Item.{Item}
use Rattle.judge_calls.specs.declared.event.Item.TheVariants.{Happens, Makes}
use Rattle.judge_calls.specs.declared.stage.Stage.{Stage}
use Rattle.judge_calls.specs.declared.stage.Stage.TheVariants.{Begun, Tried, Parked, Refused, Answered}
use Rattle.judge_calls.specs.Answers.{is_dropped, may_return}
use Rattle.judge_calls.specs.Explanations.{steps_in, after_reply, open_call, IsNextStep, returns, AreCalls, IsExplanation}
use Rattle.judge_calls.proofs.HandedSinceLemmas.{Since, since_now, since_more, kept_on}
use Rattle.judge_calls.proofs.CallStartLemmas.{BegunIn, begun_before, IsThere, open_begun}
use Rattle.judge_calls.proofs.CallsSinceLemmas.{Stands, StandsIn, stands_in_on, stands_in_after}

module _ {T : Type 0} (A : Type 0) where
  -- an answer that gives a message isn't that the future was dropped
  not_dropped : (c : Call T) (recorded : T) → is_dropped {A = A} c (answer.Got recorded) ≡ true → ⊥
  not_dropped (call.SendAsync m) recorded e = let none : ⊥ = cc in none
  not_dropped _ recorded e = let none : ⊥ = cc in none

-- if `equal` compares messages
module _ {T A : Type 0} (equal : T → T → Bool) where
  -- what was handed out and filled after the past came after it
  since : (o : Opening) (newer past : List (Item T A)) → IsRun o (steps_in (newer ++ past))
      → Since (hand_outs (steps_in past)) (next_ticket o (steps_in past)) o (steps_in (newer ++ past))
  since o [] past run = since_now o (steps_in past) run
  since o (Happens event ∷ newer) past run = since o newer past run
  since o (Makes u step r ∷ newer) past run =
      since_more (hand_outs (steps_in past)) (next_ticket o (steps_in past)) o (steps_in (newer ++ past)) (step, r) run
      (since o newer past run.1)

  -- the open call, if it began among the newer items, was parked and got its message after the past
  begun_stands : (o : Opening) (newer past : List (Item T A)) → AreCalls equal (newer ++ past) → IsRun o (steps_in (newer ++ past))
      → (t : ℕ) → BegunIn newer t
      → StandsIn (hand_outs (steps_in past)) (next_ticket o (steps_in past)) (steps_in (newer ++ past)) (open_call (newer ++ past) t)
  begun_stands o [] past calls run t h = absurd (let lt = h.1.1 in omega arith)
  begun_stands o (Happens (Begins u c) ∷ newer) past calls run t h =
      by_thread (eqb u t) refl (begun_stands o newer past calls.1 run t) (begun_before (Happens (Begins u c)) newer t h)
    where
      Stand : Option (Call T × Stage T A) → Type 0
      Stand current = StandsIn (hand_outs (steps_in past)) (next_ticket o (steps_in past)) (steps_in (newer ++ past)) current

      by_thread : (b : Bool) → eqb u t ≡ b → (BegunIn newer t → Stand (open_call (newer ++ past) t))
          → ((call : Call T) × (Path (Item T A) (Happens (Begins u c)) (Happens (Begins t call)))) ⊎ BegunIn newer t
          → Stand (if b then Some (c, Begun) else open_call (newer ++ past) t)
      by_thread true is before begun = tt
      by_thread false is before (inr begun) = before begun
      by_thread false is before (inl now) =
          let begins = now.1 in
          let same : u ≡ t = cc in
          let own = eq-eqb u t same in
          absurd (let none : ⊥ = cc in none)
  begun_stands o (Happens (Returns u recorded) ∷ newer) past calls run t h =
      by_thread (eqb u t) (begun_stands o newer past calls.1 run t) (begun_before (Happens (Returns u recorded)) newer t h)
    where
      Stand : Option (Call T × Stage T A) → Type 0
      Stand current = StandsIn (hand_outs (steps_in past)) (next_ticket o (steps_in past)) (steps_in (newer ++ past)) current

      by_thread : (b : Bool) → (BegunIn newer t → Stand (open_call (newer ++ past) t))
          → ((call : Call T) × (Path (Item T A) (Happens (Returns u recorded)) (Happens (Begins t call)))) ⊎ BegunIn newer t
          → Stand (if b then None else open_call (newer ++ past) t)
      by_thread true before begun = tt
      by_thread false before (inr begun) = before begun
      by_thread false before (inl now) = absurd (let is = now.1 in let none : ⊥ = cc in none)
  begun_stands o (Makes u step r ∷ newer) past calls run t h =
      by_thread (eqb u t) refl (begun_stands o newer past calls.1 run.1 t) (begun_before (Makes u step r) newer t h)
    where
      n : ℕ
      n = hand_outs (steps_in past)

      k : ℕ
      k = next_ticket o (steps_in past)

      log : Log T A
      log = steps_in (newer ++ past)

      by_thread : (b : Bool) → eqb u t ≡ b → (BegunIn newer t → StandsIn n k log (open_call (newer ++ past) t))
          → ((call : Call T) × (Path (Item T A) (Makes u step r) (Happens (Begins t call)))) ⊎ BegunIn newer t
          → StandsIn n k ((step, r) ∷ log) (if b then after_reply r (open_call (newer ++ past) t) else open_call (newer ++ past) t)
      by_thread b is before (inl now) = absurd (let same = now.1 in let none : ⊥ = cc in none)
      by_thread true is before (inr begun) =
          stands_in_after n k o log (open_call (newer ++ past) t) step r run (since o newer past run.1)
          (subst (λ v. IsNextStep (open_call (newer ++ past) v) step) (eqb-true u t is) calls.0) (before begun)
      by_thread false is before (inr begun) = stands_in_on n k o log (step, r) run (open_call (newer ++ past) t) (before begun)

  -- a message was handed out that equals the recorded one, and it was after the past
  pub record HandedTo (newer past : List (Item T A)) (recorded : T) : Type 0 where
    pub number : ℕ
    pub offer : Offer T
    pub after_past : hand_outs (steps_in past) ≤ number
    pub handed : number < hand_outs (steps_in (newer ++ past))
    pub is_kept : slice_get (kept (steps_in (newer ++ past))) number ≡ Some offer
    pub same : equal recorded offer.message ≡ true

  -- a message that a call may return that is so far was handed out
  handed_at_stage : (newer past : List (Item T A)) (recorded : T) (k : ℕ) (c : Call T) (stage : Stage T A)
      → Stands (hand_outs (steps_in past)) k (steps_in (newer ++ past)) stage → may_return equal c stage (answer.Got recorded) ≡ true
      → HandedTo newer past recorded
  handed_at_stage newer past recorded k c (Answered (answer.Got own)) h e =
      by_case (or_cases (equal recorded own) false e)
    where
      by_case : (equal recorded own ≡ true) ⊎ (Path Bool false true) → HandedTo newer past recorded
      by_case (inl same) = record {
        number = h.number;
        offer = h.offer;
        after_past = h.not_before;
        handed = h.handed;
        is_kept = h.is_kept;
        same = subst (λ x. equal recorded x ≡ true) h.same same;
      }
      by_case (inr dropped) = absurd (let none : ⊥ = cc in none)
  handed_at_stage newer past recorded k c Begun h e = absurd (not_dropped A c recorded e)
  handed_at_stage newer past recorded k c Tried h e = absurd (not_dropped A c recorded e)
  handed_at_stage newer past recorded k c (Parked t) h e = absurd (let none : ⊥ = cc in none)
  handed_at_stage newer past recorded k c (Refused t) h e = absurd (let none : ⊥ = cc in none)
  handed_at_stage newer past recorded k c (Answered _) h e = absurd (not_dropped A c recorded e)

  -- a message that the open call, if there is one, may return was handed out
  handed_in_call : (newer past : List (Item T A)) (recorded : T) (k : ℕ) (current : Option (Call T × Stage T A))
      → StandsIn (hand_outs (steps_in past)) k (steps_in (newer ++ past)) current → returns equal current (answer.Got recorded) ≡ true
      → HandedTo newer past recorded
  handed_in_call newer past recorded k None h e = absurd (let none : ⊥ = cc in none)
  handed_in_call newer past recorded k (Some current) h e = handed_at_stage newer past recorded k current.0 current.1 h e

  -- a message that an open call may return was handed out after what came before its call began
  pub received_later : (o : Opening) (newer past : List (Item T A)) → IsExplanation equal o (newer ++ past) → (t : ℕ) (recorded : T)
      → BegunIn newer t → returns equal (open_call (newer ++ past) t) (answer.Got recorded) ≡ true → HandedTo newer past recorded
  received_later o newer past x t recorded begun e =
      handed_in_call newer past recorded (next_ticket o (steps_in past)) (open_call (newer ++ past) t)
      (begun_stands o newer past x.calls x.run t begun) e

  -- what may return is an open call
  returns_there : (current : Option (Call T × Stage T A)) (recorded : Answer T A) → returns equal current recorded ≡ true → IsThere current
  returns_there None recorded e = let none : ⊥ = cc in none
  returns_there (Some current) recorded e = tt

  -- a message was handed out that equals the recorded one
  pub record HandedOut (items : List (Item T A)) (recorded : T) : Type 0 where
    pub number : ℕ
    pub offer : Offer T
    pub handed : number < hand_outs (steps_in items)
    pub is_kept : slice_get (kept (steps_in items)) number ≡ Some offer
    pub same : equal recorded offer.message ≡ true

  -- a message that an open call may return was handed out
  pub received : (o : Opening) (items : List (Item T A)) → IsExplanation equal o items → (t : ℕ) (recorded : T)
      → returns equal (open_call items t) (answer.Got recorded) ≡ true → HandedOut items recorded
  received o items x t recorded e =
      let all = append-nil items in
      let begun = open_begun items t (returns_there (open_call items t) (answer.Got recorded) e) in
      let h = received_later o items [] (subst (IsExplanation equal o) (sym all) x) t recorded begun
      (subst (λ l. returns equal (open_call l t) (answer.Got recorded) ≡ true) (sym all) e) in
      record {
        number = h.number;
        offer = h.offer;
        handed = subst (λ l. h.number < hand_outs (steps_in l)) all h.handed;
        is_kept = subst (λ l. slice_get (kept (steps_in l)) h.number ≡ Some h.offer) all h.is_kept;
        same = h.same;
      }

  -- no fewer are handed out after more items
  pub hand_outs_rise : (o : Opening) (more past : List (Item T A)) → IsExplanation equal o (more ++ past)
      → hand_outs (steps_in past) ≤ hand_outs (steps_in (more ++ past))
  hand_outs_rise o more past x = (since o more past x.run).more_handed

  -- by more steps of a run the kept offers that were handed out keep their places
  kept_over : (o : Opening) (more past : List (Item T A)) → IsRun o (steps_in (more ++ past)) → (j : ℕ) → j < hand_outs (steps_in past)
      → slice_get (kept (steps_in (more ++ past))) j ≡ slice_get (kept (steps_in past)) j
  kept_over o [] past run j lt = refl
  kept_over o (Happens event ∷ more) past run j lt = kept_over o more past run j lt
  kept_over o (Makes u step r ∷ more) past run j lt =
      let rise = (since o more past run.1).more_handed in
      kept_on o (steps_in (more ++ past)) (step, r) run j (omega arith) ∙ kept_over o more past run.1 j lt

  -- after more items the kept offers that were handed out are the same, each at its place
  pub kept_stays : (o : Opening) (more past : List (Item T A)) → IsExplanation equal o (more ++ past) → (j : ℕ)
      → j < hand_outs (steps_in past) → slice_get (kept (steps_in (more ++ past))) j ≡ slice_get (kept (steps_in past)) j
  kept_stays o more past x j lt = kept_over o more past x.run j lt
