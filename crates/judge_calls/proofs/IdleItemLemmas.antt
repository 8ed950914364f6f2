-- Items with the newest first: which step may be before which item, and why a call that asked goes
-- on asking.
use Rattle.std.proofs.Common.{◌≡◌, ℕ, Bool, true, false, List, [], ◌∷◌, ◌++◌, Option, Some, None, inl, inr}
use Rattle.std.proofs.Common.{refl, sym, ap, ◌∙◌, subst, append_assoc, reverse}
use Rattle.std.proofs.lemmas.List.{reverse-append}
use Rattle.flume_model.specs.declared.step.Step.{Step}
use Rattle.flume_model.specs.declared.step.Reply.{Reply}
use Rattle.judge_calls.specs.declared.call.Call.{Call}
use Rattle.judge_calls.specs.declared.call.Call.TheVariants.{Send}
use Rattle.judge_calls.specs.declared.call.Answer.{Answer}
use Rattle.judge_calls.specs.declared.event.Event.TheVariants.{Begins, Returns}
use Rattle.judge_calls.specs.declared.event.Item.{Item}
use Rattle.judge_calls.specs.declared.event.Item.TheVariants.{Happens, Makes}
use Rattle.judge_calls.specs.declared.stage.Stage.{Stage}
use Rattle.judge_calls.specs.declared.stage.Stage.TheVariants.{Begun, Tried, Parked, Refused, Answered}
use Rattle.judge_calls.specs.Answers.{may_return}
use Rattle.judge_calls.specs.Calls.{first_step, parking_step, next_step, alternative_step}
use Rattle.judge_calls.specs.Explanations.{events_in, IsNextStep, returns}
use Rattle.judge_calls.specs.LateSteps.{IsFollowed, AreLate}
use Rattle.judge_calls.proofs.IdleReplyLemmas.{asks}

module _ {T A : Type 0} where
  -- a step of this thread may come just before this item, if there is one
  abbrev pub Follows : Option (Item T A) → ℕ → Type 0
  Follows None t = ⊥
  Follows (Some (Makes u step reply)) t = Unit {0}
  Follows (Some (Happens (Begins u call))) t = ⊥
  Follows (Some (Happens (Returns u answer))) t = t ≡ u

  -- each step comes late, if this item comes next; the newest comes first
  abbrev pub Ends : Option (Item T A) → List (Item T A) → Type 0
  Ends next [] = Unit {0}
  Ends next (Happens event ∷ past) = Ends (Some (Happens event)) past
  Ends next (Makes t step reply ∷ past) = Follows next t × Ends (Some (Makes t step reply)) past

  -- before one step may come what may come before another
  pub ends_before : (t u : ℕ) (step other : Step T) (reply recorded : Reply T A) (past : List (Item T A))
      → Ends (Some (Makes t step reply)) past → Ends (Some (Makes u other recorded)) past
  ends_before t u step other reply recorded [] h = tt
  ends_before t u step other reply recorded (Happens event ∷ past) h = h
  ends_before t u step other reply recorded (Makes v made back ∷ past) h = (tt, h.1)

  -- the first of the items
  abbrev first_of_items : List (Item T A) → Option (Item T A)
  first_of_items [] = None
  first_of_items (item ∷ items) = Some item

  shift : (item : Item T A) (xs ys : List (Item T A)) → reverse (item ∷ xs) ++ ys ≡ reverse xs ++ item ∷ ys
  shift item xs ys =
      ap (λ l. l ++ ys) (reverse-append (item ∷ []) xs) ∙ append_assoc (reverse xs) (item ∷ []) ys

  is_followed : (items : List (Item T A)) (t : ℕ) → Follows (first_of_items items) t → IsFollowed t items
  is_followed [] t h = h
  is_followed (Makes u step reply ∷ items) t h = h
  is_followed (Happens (Begins u call) ∷ items) t h = h
  is_followed (Happens (Returns u answer) ∷ items) t h = h

  follows : (items : List (Item T A)) (t : ℕ) → IsFollowed t items → Follows (first_of_items items) t
  follows [] t h = h
  follows (Makes u step reply ∷ items) t h = h
  follows (Happens (Begins u call) ∷ items) t h = h
  follows (Happens (Returns u answer) ∷ items) t h = h

  -- that the steps come late, by the items with the newest first, and the other way round
  pub ends_late : (items past : List (Item T A)) → AreLate items → Ends (first_of_items items) past → Ends None (reverse items ++ past)
  ends_late [] past late h = h
  ends_late (Happens event ∷ items) past late h =
      subst (Ends None) (sym (shift (Happens event) items past)) (ends_late items (Happens event ∷ past) late h)
  ends_late (Makes t step reply ∷ items) past late h =
      subst (Ends None) (sym (shift (Makes t step reply) items past))
      (ends_late items (Makes t step reply ∷ past) late.1 (follows items t late.0, h))

  pub late_ends : (past later : List (Item T A)) → Ends (first_of_items later) past → AreLate later → AreLate (reverse past ++ later)
  late_ends [] later h late = late
  late_ends (Happens event ∷ past) later h late =
      subst AreLate (sym (shift (Happens event) past later)) (late_ends past (Happens event ∷ later) h late)
  late_ends (Makes t step reply ∷ past) later h late =
      subst AreLate (sym (shift (Makes t step reply) past later))
      (late_ends past (Makes t step reply ∷ later) h.1 (is_followed later t h.0, late))

  -- the events of items in the other order are the events in the other order
  events_append : (xs ys : List (Item T A)) → events_in (xs ++ ys) ≡ events_in xs ++ events_in ys
  events_append [] ys = refl
  events_append (Happens event ∷ xs) ys = ap (λ l. event ∷ l) (events_append xs ys)
  events_append (Makes t step reply ∷ xs) ys = events_append xs ys

  one_event : (item : Item T A) → reverse (events_in (item ∷ [])) ≡ events_in (item ∷ [])
  one_event (Happens event) = refl
  one_event (Makes t step reply) = refl

  pub events_reverse : (items : List (Item T A)) → events_in (reverse items) ≡ reverse (events_in items)
  events_reverse [] = refl
  events_reverse (item ∷ items) =
      ap events_in (reverse-append (item ∷ []) items) ∙ events_append (reverse items) (item ∷ [])
      ∙ ap (λ l. l ++ events_in (item ∷ [])) (events_reverse items)
      ∙ ap (λ l. reverse (events_in items) ++ l) (sym (one_event item))
      ∙ sym (reverse-append (events_in (item ∷ [])) (events_in items))
      ∙ ap reverse (sym (events_append (item ∷ []) items))

module _ {T : Type 0} where
  -- whether it is a step that asks, if it is one
  abbrev some_asks : Option (Step T) → Bool
  some_asks None = false
  some_asks (Some step) = asks step

  -- no first step asks, nor one by which a call parks
  first_asks_not : (call : Call T) → some_asks (Some (first_step call)) ≡ false
  first_asks_not (Send m) = refl
  first_asks_not _ = refl

  parking_asks_not : (call : Call T) → some_asks (parking_step call) ≡ false
  parking_asks_not (Send m) = refl
  parking_asks_not _ = refl

  -- a step that asks is none of these
  not_that : (step : Step T) (own : Option (Step T)) → asks step ≡ true → some_asks own ≡ false → own ≡ Some step → ⊥
  not_that step own a b is = let none : ⊥ = no_way (sym a ∙ sym (ap some_asks is) ∙ b) in none
    where
      no_way : true ≡ false → ⊥
      no_way e = let none : ⊥ = cc in none

module _ {T : Type 0} (A : Type 0) where
  -- nor does a step ask that a call makes instead, unless it is parked
  other_begun : (call : Call T) → some_asks (alternative_step {A = A} call Begun) ≡ false
  other_begun (Send m) = refl
  other_begun _ = refl

  other_tried : (call : Call T) → some_asks (alternative_step {A = A} call Tried) ≡ false
  other_tried (Send m) = refl
  other_tried _ = refl

module _ {T A : Type 0} where
  other_answered : (call : Call T) (own : Answer T A) → some_asks (alternative_step call (Answered own)) ≡ false
  other_answered (Send m) own = refl
  other_answered _ own = refl

  at_stage : (equal : T → T → Bool) (call : Call T) (stage : Stage T A) (step : Step T) (recorded : Answer T A) → asks step ≡ true
      → IsNextStep (Some (call, stage)) step → may_return equal call stage recorded ≡ true → ⊥
  at_stage equal call Begun step recorded a (inl is) r = not_that step (next_step {A = A} call Begun) a (first_asks_not call) is
  at_stage equal call Begun step recorded a (inr is) r = not_that step (alternative_step {A = A} call Begun) a (other_begun A call) is
  at_stage equal call Tried step recorded a (inl is) r = not_that step (next_step {A = A} call Tried) a (parking_asks_not call) is
  at_stage equal call Tried step recorded a (inr is) r = not_that step (alternative_step {A = A} call Tried) a (other_tried A call) is
  at_stage equal call (Answered own) step recorded a (inl is) r = let none : ⊥ = cc in none
  at_stage equal call (Answered own) step recorded a (inr is) r = not_that step (alternative_step call (Answered own)) a
      (other_answered call own) is
  at_stage equal call (Parked t) step recorded a m r = let none : ⊥ = cc in none
  at_stage equal call (Refused t) step recorded a m r = let none : ⊥ = cc in none

  -- a call that may ask may not return
  pub asks_on : (equal : T → T → Bool) (c : Option (Call T × Stage T A)) (step : Step T) (recorded : Answer T A) → asks step ≡ true
      → IsNextStep c step → returns equal c recorded ≡ true → ⊥
  asks_on equal None step recorded a m r = m
  asks_on equal (Some current) step recorded a m r = at_stage equal current.0 current.1 step recorded a m r
