-- Of which messages the steps of calls make no offer.
use Rattle.std.proofs.Common.{◌≡◌, ℕ, zero, suc, ◌==◌, Bool, true, false, if◌then◌else◌, List, [], ◌∷◌, ◌++◌, Option, Some}
use Rattle.std.proofs.Common.{None, inl, inr, refl, sym, ap, ◌∙◌, subst, append_assoc, reverse}
use Rattle.std.proofs.lemmas.Bool.{or_from, or_parts}
use Rattle.std.proofs.lemmas.List.{append-nil, reverse-append}
use Rattle.std.specs.List.{slice_get}
use Rattle.flume_model.specs.declared.step.Step.{Step}
use Rattle.flume_model.specs.declared.step.Step.TheVariants as step
use Rattle.flume_model.specs.declared.step.Reply.{Reply}
use Rattle.flume_model.specs.declared.step.Reply.TheVariants as reply
use Rattle.flume_model.specs.Log.{Log, Offer, Takes, Collects, was_filled, change}
use Rattle.flume_model.specs.Offers.{offers_made, offers}
use Rattle.judge_calls.specs.declared.call.Call.{Call}
use Rattle.judge_calls.specs.declared.call.Call.TheVariants as call
use Rattle.judge_calls.specs.declared.event.Event.{Event}
use Rattle.judge_calls.specs.declared.event.Event.TheVariants.{Begins, Returns}
use Rattle.judge_calls.specs.declared.event.Item.{Item}
use Rattle.judge_calls.specs.declared.event.Item.TheVariants.{Happens, Makes}
use Rattle.judge_calls.specs.declared.stage.Stage.{Stage}
use Rattle.judge_calls.specs.declared.stage.Stage.TheVariants.{Begun, Tried, Parked, Refused, Answered}
use Rattle.judge_calls.specs.Calls.{first_step, parking_step, is_send, next_step, alternative_step}
use Rattle.judge_calls.specs.Explanations.{events_in, steps_in, after_reply, open_call, IsNextStep, AreCalls}
use Rattle.judge_calls.specs.Patterns.{sends, begins_send}

module _ {T : Type 0} (such : T → Bool) where
  -- no offer is of such a message
  abbrev pub Lacks : List (Offer T) → Type 0
  Lacks [] = Unit {0}
  Lacks (offer ∷ offers) = (such offer.message ≡ false) × Lacks offers

  pub lacks_both : (xs ys : List (Offer T)) → Lacks xs → Lacks ys → Lacks (xs ++ ys)
  lacks_both [] ys h k = k
  lacks_both (x ∷ xs) ys h k = (h.0, lacks_both xs ys h.1 k)

  pub lacks_at : (xs : List (Offer T)) (k : ℕ) (offer : Offer T) → Lacks xs → slice_get xs k ≡ Some offer
      → such offer.message ≡ false
  lacks_at [] k offer h at = absurd (let none : ⊥ = cc in none)
  lacks_at (x ∷ xs) zero offer h at =
      let same : x ≡ offer = cc in
      subst (λ (o : Offer T). such o.message ≡ false) same h.0
  lacks_at (x ∷ xs) (suc k) offer h at = lacks_at xs k offer h.1 at

  -- whether a step hands in such a message
  abbrev hands_in : Step T → Bool
  hands_in (step.TrySend m) = such m
  hands_in (step.Send m) = such m
  hands_in _ = false

  -- the same of one that there may be
  abbrev hands_in_if : Option (Step T) → Bool
  hands_in_if None = false
  hands_in_if (Some s) = hands_in s

  -- a call that sends no such message makes no step that does
  first_none : (c : Call T) → sends such c ≡ false → hands_in (first_step c) ≡ false
  first_none (call.Send m) h = h
  first_none (call.SendTimeout m) h = h
  first_none (call.SendAsync m) h = h
  first_none (call.TrySend m) h = h
  first_none _ h = refl

  parking_none : (c : Call T) → sends such c ≡ false → hands_in_if (parking_step c) ≡ false
  parking_none (call.Send m) h = h
  parking_none (call.SendTimeout m) h = h
  parking_none _ h = refl

  asking_none : (b : Bool) (t : ℕ) → hands_in (if b then step.PollSend t else step.Poll t) ≡ false
  asking_none true t = refl
  asking_none false t = refl

  -- a receiver that asks offers nothing
  asked_lacks : (b : Bool) (t : ℕ) (m : T) → Lacks (offers_made (if b then Collects t else Takes m (Some t)))
  asked_lacks true t m = tt
  asked_lacks false t m = tt

module _ {T A : Type 0} (such : T → Bool) where
  next_none : (c : Call T) (stage : Stage T A) → sends such c ≡ false → hands_in_if such (next_step c stage) ≡ false
  next_none c Begun h = first_none such c h
  next_none c Tried h = parking_none such c h
  next_none c (Parked t) h = asking_none such (is_send c) t
  next_none c (Refused t) h = refl
  next_none c (Answered own) h = refl

  other_none : (c : Call T) (stage : Stage T A) → sends such c ≡ false → hands_in_if such (alternative_step c stage) ≡ false
  other_none (call.SendAsync m) Begun h = h
  other_none call.RecvAsync Begun h = refl
  other_none call.RecvAsync Tried h = refl
  other_none (call.SendTimeout m) (Parked t) h = refl
  other_none (call.SendAsync m) (Parked t) h = refl
  other_none call.RecvTimeout (Parked t) h = refl
  other_none call.RecvAsync (Parked t) h = refl
  other_none _ _ h = refl

  -- the open call, if there is one, sends no such message
  abbrev pub IsOther : Option (Call T × Stage T A) → Type 0
  IsOther None = Unit {0}
  IsOther (Some current) = sends such current.0 ≡ false

  pub made_none : (current : Option (Call T × Stage T A)) (s : Step T) → IsOther current → IsNextStep current s → hands_in such s ≡ false
  made_none None s others made = absurd made
  made_none (Some current) s others (inl made) =
      subst (λ x. hands_in_if such x ≡ false) made (next_none current.0 current.1 others)
  made_none (Some current) s others (inr made) =
      subst (λ x. hands_in_if such x ≡ false) made (other_none current.0 current.1 others)

  -- a step that hands in no such message offers none
  pub made_lacks : (log : Log T A) (s : Step T) (r : Reply T A) → hands_in such s ≡ false → Lacks such (offers_made (change log s r))
  made_lacks log (step.TrySend m) (reply.Sent filled) h = (h, tt)
  made_lacks log (step.Send m) (reply.Sent filled) h = (h, tt)
  made_lacks log (step.Send m) (reply.Pending t) h = (h, tt)
  made_lacks log (step.PollSend t) reply.Accepted h = tt
  made_lacks log (step.PollSend t) (reply.Returned m closed) h = tt
  made_lacks log (step.WithdrawSend t) reply.Accepted h = tt
  made_lacks log (step.WithdrawSend t) (reply.Returned m closed) h = tt
  made_lacks log step.TryRecv (reply.Got m) h = tt
  made_lacks log (step.Recv kind) (reply.Got m) h = tt
  made_lacks log (step.Recv kind) (reply.Parked t) h = tt
  made_lacks log (step.Poll t) (reply.Got m) h = asked_lacks such (was_filled log t) t m
  made_lacks log (step.Poll t) reply.Waiting h = tt
  made_lacks log (step.Poll t) reply.Ended h = tt
  made_lacks log (step.Withdraw t) (reply.Got m) h = asked_lacks such (was_filled log t) t m
  made_lacks log (step.Withdraw t) (reply.Gone closed filled) h = tt
  made_lacks log step.Drain (reply.Drained list) h = tt
  made_lacks log step.CloneSender reply.Done h = tt
  made_lacks log step.CloneReceiver reply.Done h = tt
  made_lacks log step.DropSender reply.Done h = tt
  made_lacks log step.DropReceiver reply.Done h = tt
  made_lacks log (step.SetCapacity n) reply.Done h = tt
  made_lacks log _ _ h = tt

  -- no thread has a call open that sends one
  abbrev pub AreOthers : List (Item T A) → Type 0
  AreOthers past = (t : ℕ) → IsOther (open_call past t)

  other_further : (current : Option (Call T × Stage T A)) (r : Reply T A) → IsOther current → IsOther (after_reply r current)
  other_further None r others = tt
  other_further (Some current) r others = others

  other_either : (b : Bool) (x y : Option (Call T × Stage T A)) → IsOther x → IsOther y → IsOther (if b then x else y)
  other_either true x y h k = h
  other_either false x y h k = k

  -- after the newer items too no thread has such a call open, and they offer no such message
  pub record OffersOthers (newer past : List (Item T A)) : Type 0 where
    pub more : List (Offer T)
    pub offers_are : offers (steps_in (newer ++ past)) ≡ offers (steps_in past) ++ more
    pub lacks : Lacks such more
    pub others : AreOthers (newer ++ past)

  module _ (equal : T → T → Bool) where
    -- so it is if none was open before them, and none begins in them
    pub offers_others : (newer past : List (Item T A)) → AreCalls equal (newer ++ past) → AreOthers past
        → begins_send such (events_in newer) ≡ false → OffersOthers newer past
    offers_others [] past calls others none =
        record { more = []; offers_are = sym (append-nil (offers (steps_in past))); lacks = tt; others = others }
    offers_others (Happens (Begins t c) ∷ newer) past calls others none =
        let apart = or_parts (sends such c) (begins_send such (events_in newer)) none in
        let k = offers_others newer past calls.1 others apart.1 in
        record {
          more = k.more;
          offers_are = k.offers_are;
          lacks = k.lacks;
          others = λ u. other_either (t == u) (Some (c, Begun)) (open_call (newer ++ past) u) apart.0 (k.others u);
        }
    offers_others (Happens (Returns t recorded) ∷ newer) past calls others none =
        let k = offers_others newer past calls.1 others none in
        record {
          more = k.more;
          offers_are = k.offers_are;
          lacks = k.lacks;
          others = λ u. other_either (t == u) None (open_call (newer ++ past) u) tt (k.others u);
        }
    offers_others (Makes t s r ∷ newer) past calls others none =
        let k = offers_others newer past calls.1 others none in
        let made = offers_made (change (steps_in (newer ++ past)) s r) in
        record {
          more = k.more ++ made;
          offers_are = ap (λ l. l ++ made) k.offers_are ∙ append_assoc (offers (steps_in past)) k.more made;
          lacks = lacks_both such k.more made k.lacks
              (made_lacks (steps_in (newer ++ past)) s r
              (made_none (open_call (newer ++ past) t) s (k.others t) calls.0));
          others = λ u. other_either (t == u) (after_reply r (open_call (newer ++ past) u)) (open_call (newer ++ past) u)
              (other_further (open_call (newer ++ past) u) r (k.others u)) (k.others u);
        }

    -- if no such call begins at all, no such message is offered
    pub offers_none : (past : List (Item T A)) → AreCalls equal past → begins_send such (events_in past) ≡ false
        → Lacks such (offers (steps_in past))
    offers_none past calls none =
        let k = offers_others past [] (subst (AreCalls equal) (sym (append-nil past)) calls) (λ t. tt) none in
        subst (Lacks such) (sym k.offers_are ∙ ap (λ l. offers (steps_in l)) (append-nil past)) k.lacks

  -- if none of these events begins such a send, none of them does so in the other order
  begins_parts : (xs ys : List (Event T A)) → begins_send such (xs ++ ys) ≡ false
      → (begins_send such xs ≡ false) × (begins_send such ys ≡ false)
  begins_parts [] ys none = (refl, none)
  begins_parts (Begins t c ∷ xs) ys none =
      let apart = or_parts (sends such c) (begins_send such (xs ++ ys)) none in
      let k = begins_parts xs ys apart.1 in
      (or_from (sends such c) (begins_send such xs) apart.0 k.0, k.1)
  begins_parts (Returns t recorded ∷ xs) ys none = begins_parts xs ys none

  begins_more : (event : Event T A) (events : List (Event T A)) → begins_send such events ≡ false
      → begins_send such (event ∷ []) ≡ false → begins_send such (event ∷ events) ≡ false
  begins_more (Begins t c) events h k =
      or_from (sends such c) (begins_send such events) (or_parts (sends such c) false k).0 h
  begins_more (Returns t recorded) events h k = h

  pub begins_none : (events : List (Event T A)) → begins_send such (reverse events) ≡ false → begins_send such events ≡ false
  begins_none [] none = refl
  begins_none (event ∷ events) none =
      let k = begins_parts (reverse events) (event ∷ [])
      (ap (begins_send such) (sym (reverse-append (event ∷ []) events)) ∙ none) in
      begins_more event events (begins_none events k.0) k.1
