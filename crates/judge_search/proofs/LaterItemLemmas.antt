-- What is so after more items, the oldest first: what an open call got, what was offered, and what of that is kept.
use Rattle.std.proofs.Common.{◌≡◌, inl, inr, ◌⊎◌, ℕ, ◌≤◌, ◌<◌, ◌==◌, Bool, true, false, not, if◌then◌else◌, List, [], ◌∷◌, ◌++◌}
use Rattle.std.proofs.Common.{Option, Some, None, refl, sym, ap, ◌∙◌, subst, append_assoc, eqb-true, arith}
use Rattle.std.proofs.lemmas.Bool.{or_cases, or_parts, or_right}
use Rattle.std.proofs.lemmas.List.{append-nil}
use Rattle.std.proofs.lemmas.List.Elements.{filter-append}
use Rattle.std.specs.List.{slice_get, filter}
use Rattle.flume_model.specs.declared.step.Step.{Step}
use Rattle.flume_model.specs.declared.step.Reply.{Reply}
use Rattle.flume_model.specs.Log.{Log, Opening, Offer, change}
use Rattle.flume_model.specs.Offers.{offers, offers_made, withdraws, withdrawn, kept, hand_outs}
use Rattle.flume_model.specs.Replies.{IsRun}
use Rattle.judge_calls.specs.declared.call.Call.{Call}
use Rattle.judge_calls.specs.declared.call.Call.TheVariants as call
use Rattle.judge_calls.specs.declared.call.Answer.{Answer}
use Rattle.judge_calls.specs.declared.call.Answer.TheVariants as answer
use Rattle.judge_calls.specs.declared.event.Event.{Event}
use Rattle.judge_calls.specs.declared.event.Event.TheVariants.{Begins, Returns}
use Rattle.judge_calls.specs.declared.event.Item.{Item}
use Rattle.judge_calls.specs.declared.event.Item.TheVariants.{Happens, Makes}
use Rattle.judge_calls.specs.declared.stage.Stage.{Stage}
use Rattle.judge_calls.specs.declared.stage.Stage.TheVariants.{Begun, Tried, Parked, Refused, Answered}
use Rattle.judge_calls.specs.Answers.{is_dropped, may_return}
use Rattle.judge_calls.specs.Explanations.{events_in, steps_in, after_reply, open_call, IsNextStep, returns, IsExplanation}
use Rattle.judge_calls.specs.Patterns.{sends, begins_send}
use Rattle.judge_calls.proofs.HandedSinceLemmas.{Since, since_more, kept_on}
use Rattle.judge_calls.proofs.CallsSinceLemmas.{Stands, StandsIn, stands_in_on, stands_in_after}
use Rattle.judge_calls.proofs.OffersMadeLemmas.{Lacks, lacks_both, made_none, made_lacks}
use Rattle.judge_search.specs.Dead.{onto}
use Rattle.judge_search.proofs.DeadReceiveLemmas.{before, no_step}

module _ {X : Type 0} where
  -- a list filtered by one test and then by one that passes no more is filtered by the second alone
  filter_again : (f g : X → Bool) → ((x : X) → g x ≡ false → f x ≡ false) → (xs : List X) → filter f (filter g xs) ≡ filter f xs
  filter_again f g less [] = refl
  filter_again f g less (x ∷ xs) = by (filter_again f g less xs) (g x) refl
    where
      by : filter f (filter g xs) ≡ filter f xs → (b : Bool) → g x ≡ b
          → filter f (if b then x ∷ filter g xs else filter g xs) ≡ filter f (x ∷ xs)
      by others true is = ap (λ l. if f x then x ∷ l else l) others
      by others false is = others ∙ ap (λ b. if b then x ∷ filter f xs else filter f xs) (sym (less x is))

module _ {T A : Type 0} (equal : T → T → Bool) (events : List (Event T A)) where
  -- the items up to the first of more ones
  one_more : (o : Opening) (item : Item T A) (items past : List (Item T A)) → IsExplanation equal o (onto (item ∷ items) past)
      → IsExplanation equal o (item ∷ past)
  one_more o item items past x = before equal events o (item ∷ past) items x

  since_item : (n k : ℕ) (o : Opening) (item : Item T A) (past : List (Item T A)) → IsRun o (steps_in (item ∷ past))
      → Since n k o (steps_in past) → Since n k o (steps_in (item ∷ past))
  since_item n k o (Happens event) past run since = since
  since_item n k o (Makes t step r) past run since = since_more n k o (steps_in past) (step, r) run since

  pub since_onto : (n k : ℕ) (o : Opening) (items past : List (Item T A)) → IsExplanation equal o (onto items past)
      → Since n k o (steps_in past) → Since n k o (steps_in (onto items past))
  since_onto n k o [] past x since = since
  since_onto n k o (item ∷ items) past x since =
      since_onto n k o items (item ∷ past) x (since_item n k o item past (one_more o item items past x).run since)

  -- what an open call got since a moment was handed out since
  stands_item : (n k : ℕ) (o : Opening) (item : Item T A) (past : List (Item T A)) → IsExplanation equal o (item ∷ past)
      → Since n k o (steps_in past) → (t : ℕ) → StandsIn n k (steps_in past) (open_call past t)
      → StandsIn n k (steps_in (item ∷ past)) (open_call (item ∷ past) t)
  stands_item n k o (Happens (Begins u c)) past x since t h = either (u == t)
    where
      either : (b : Bool) → StandsIn n k (steps_in past) (if b then Some (c, Begun) else open_call past t)
      either true = tt
      either false = h
  stands_item n k o (Happens (Returns u recorded)) past x since t h = either (u == t)
    where
      either : (b : Bool) → StandsIn n k (steps_in past) (if b then None else open_call past t)
      either true = tt
      either false = h
  stands_item n k o (Makes u step r) past x since t h = by (u == t) refl
    where
      by : (b : Bool) → (u == t) ≡ b
          → StandsIn n k ((step, r) ∷ steps_in past) (if b then after_reply r (open_call past t) else open_call past t)
      by true is =
          stands_in_after n k o (steps_in past) (open_call past t) step r x.run since
          (subst (λ v. IsNextStep (open_call past v) step) (eqb-true u t is) x.calls.0) h
      by false is = stands_in_on n k o (steps_in past) (step, r) x.run (open_call past t) h

  pub stands_onto : (n k : ℕ) (o : Opening) (items past : List (Item T A)) → IsExplanation equal o (onto items past)
      → Since n k o (steps_in past) → (t : ℕ) → StandsIn n k (steps_in past) (open_call past t)
      → StandsIn n k (steps_in (onto items past)) (open_call (onto items past) t)
  stands_onto n k o [] past x since t h = h
  stands_onto n k o (item ∷ items) past x since t h =
      let one = one_more o item items past x in
      stands_onto n k o items (item ∷ past) x (since_item n k o item past one.run since) t (stands_item n k o item past one since t h)

  -- a message that equals this was handed out, after this many others at least
  pub record IsGotSince (n : ℕ) (log : Log T A) (recorded : T) : Type 0 where
    pub number : ℕ
    pub offer : Offer T
    pub not_before : n ≤ number
    pub handed : number < hand_outs log
    pub is_kept : slice_get (kept log) number ≡ Some offer
    pub same : equal recorded offer.message ≡ true

  not_dropped : (c : Call T) (recorded : T) → is_dropped {A = A} c (answer.Got recorded) ≡ true → ⊥
  not_dropped (call.SendAsync m) recorded e = let none : ⊥ = cc in none
  not_dropped _ recorded e = let none : ⊥ = cc in none

  got_at : (n k : ℕ) (log : Log T A) (recorded : T) (c : Call T) (stage : Stage T A) → Stands n k log stage
      → may_return equal c stage (answer.Got recorded) ≡ true → IsGotSince n log recorded
  got_at n k log recorded c (Answered (answer.Got own)) h e = by (or_cases (equal recorded own) false e)
    where
      by : (equal recorded own ≡ true) ⊎ (Path Bool false true) → IsGotSince n log recorded
      by (inl same) = record {
        number = h.number;
        offer = h.offer;
        not_before = h.not_before;
        handed = h.handed;
        is_kept = h.is_kept;
        same = subst (λ m. equal recorded m ≡ true) h.same same;
      }
      by (inr dropped) = absurd (let none : ⊥ = cc in none)
  got_at n k log recorded c Begun h e = absurd (not_dropped c recorded e)
  got_at n k log recorded c Tried h e = absurd (not_dropped c recorded e)
  got_at n k log recorded c (Parked t) h e = absurd (let none : ⊥ = cc in none)
  got_at n k log recorded c (Refused t) h e = absurd (let none : ⊥ = cc in none)
  got_at n k log recorded c (Answered _) h e = absurd (not_dropped c recorded e)

  -- so a message that an open call may return was handed out since it had none
  pub got_since : (n k : ℕ) (log : Log T A) (recorded : T) (current : Option (Call T × Stage T A)) → StandsIn n k log current
      → returns equal current (answer.Got recorded) ≡ true → IsGotSince n log recorded
  got_since n k log recorded None h e = absurd (let none : ⊥ = cc in none)
  got_since n k log recorded (Some current) h e = got_at n k log recorded current.0 current.1 h e

  -- what was handed out keeps its number
  pub kept_onto : (n k : ℕ) (o : Opening) (items past : List (Item T A)) (j : ℕ) → IsExplanation equal o (onto items past)
      → Since n k o (steps_in past) → j < n
      → slice_get (kept (steps_in (onto items past))) j ≡ slice_get (kept (steps_in past)) j
  kept_onto n k o [] past j x since lt = refl
  kept_onto n k o (Happens event ∷ items) past j x since lt = kept_onto n k o items (Happens event ∷ past) j x since lt
  kept_onto n k o (Makes t step r ∷ items) past j x since lt =
      let run = (one_more o (Makes t step r) items past x).run in
      let handed = since.more_handed in
      kept_onto n k o items (Makes t step r ∷ past) j x (since_more n k o (steps_in past) (step, r) run since) lt
      ∙ kept_on o (steps_in past) (step, r) run j (omega arith)

  -- what was withdrawn stays so
  still_withdrawn : (items past : List (Item T A)) (offer : Offer T) → withdrawn (steps_in past) offer ≡ true
      → withdrawn (steps_in (onto items past)) offer ≡ true
  still_withdrawn [] past offer was = was
  still_withdrawn (Happens event ∷ items) past offer was = still_withdrawn items (Happens event ∷ past) offer was
  still_withdrawn (Makes t step r ∷ items) past offer was =
      still_withdrawn items (Makes t step r ∷ past) offer
      (or_right (withdraws (change (steps_in past) step r) offer) (withdrawn (steps_in past) offer) was)

module _ {T A : Type 0} (equal : T → T → Bool) (events : List (Event T A)) (such : T → Bool) where
  -- the open call, if there is one, offers no such message any more
  abbrev pub IsQuiet : Option (Call T × Stage T A) → Type 0
  IsQuiet None = Unit {0}
  IsQuiet (Some current) = (sends such current.0 ≡ false) ⊎ ((own : Answer T A) × (current.1 ≡ Answered own))

  -- none does
  abbrev pub AreQuiet : List (Item T A) → Type 0
  AreQuiet past = (t : ℕ) → IsQuiet (open_call past t)

  -- what is offered after a log is none of such a message
  pub record OffersNoMore (log later : Log T A) : Type 0 where
    pub more : List (Offer T)
    pub offers_are : offers later ≡ offers log ++ more
    pub lacks : Lacks such more

  quiet_lacks : (log : Log T A) (current : Option (Call T × Stage T A)) (step : Step T) (r : Reply T A) → IsQuiet current
      → IsNextStep current step → Lacks such (offers_made (change log step r))
  quiet_lacks log None step r quiet next = absurd next
  quiet_lacks log (Some current) step r (inl others) next =
      made_lacks such log step r (made_none such (Some current) step others next)
  quiet_lacks log (Some current) step r (inr done) next =
      absurd (no_step equal events (Some current) current.0 done.0 (ap (λ s. Some (current.0, s)) done.1) step next)

  quiet_further : (current : Option (Call T × Stage T A)) (step : Step T) (r : Reply T A) → IsQuiet current → IsNextStep current step
      → IsQuiet (after_reply r current)
  quiet_further None step r quiet next = absurd next
  quiet_further (Some current) step r (inl others) next = inl others
  quiet_further (Some current) step r (inr done) next =
      absurd (no_step equal events (Some current) current.0 done.0 (ap (λ s. Some (current.0, s)) done.1) step next)

  quiet_step : (u : ℕ) (step : Step T) (r : Reply T A) (past : List (Item T A)) → AreQuiet past → IsNextStep (open_call past u) step
      → AreQuiet (Makes u step r ∷ past)
  quiet_step u step r past quiet next t = by (u == t) refl
    where
      by : (b : Bool) → (u == t) ≡ b → IsQuiet (if b then after_reply r (open_call past t) else open_call past t)
      by true is =
          quiet_further (open_call past t) step r (quiet t) (subst (λ v. IsNextStep (open_call past v) step) (eqb-true u t is) next)
      by false is = quiet t

  either_quiet : (b : Bool) (one other : Option (Call T × Stage T A)) → IsQuiet one → IsQuiet other → IsQuiet (if b then one else other)
  either_quiet true one other h k = h
  either_quiet false one other h k = k

  -- if no open call sends one, and none begins, no such message is offered
  pub offers_onto : (o : Opening) (items past : List (Item T A)) → IsExplanation equal o (onto items past) → AreQuiet past
      → begins_send such (events_in items) ≡ false → OffersNoMore (steps_in past) (steps_in (onto items past))
  offers_onto o [] past x quiet none = record { more = []; offers_are = sym (append-nil (offers (steps_in past))); lacks = tt }
  offers_onto o (Happens (Begins u c) ∷ items) past x quiet none =
      let apart = or_parts (sends such c) (begins_send such (events_in items)) none in
      offers_onto o items (Happens (Begins u c) ∷ past) x
      (λ t. either_quiet (u == t) (Some (c, Begun)) (open_call past t) (inl apart.0) (quiet t)) apart.1
  offers_onto o (Happens (Returns u recorded) ∷ items) past x quiet none =
      offers_onto o items (Happens (Returns u recorded) ∷ past) x
      (λ t. either_quiet (u == t) None (open_call past t) tt (quiet t)) none
  offers_onto o (Makes u step r ∷ items) past x quiet none =
      let next = (one_more equal events o (Makes u step r) items past x).calls.0 in
      let made = offers_made (change (steps_in past) step r) in
      let k = offers_onto o items (Makes u step r ∷ past) x (quiet_step u step r past quiet next) none in
      record {
        more = made ++ k.more;
        offers_are = k.offers_are ∙ append_assoc (offers (steps_in past)) made k.more;
        lacks = lacks_both such made k.more (quiet_lacks (steps_in past) (open_call past u) step r (quiet u) next) k.lacks;
      }

  -- what is kept later: of what was kept before, what isn't withdrawn; and of what was offered since
  pub kept_later : (items past : List (Item T A)) (k : OffersNoMore (steps_in past) (steps_in (onto items past)))
      → kept (steps_in (onto items past))
      ≡ filter (λ offer. not (withdrawn (steps_in (onto items past)) offer)) (kept (steps_in past))
      ++ filter (λ offer. not (withdrawn (steps_in (onto items past)) offer)) k.more
  kept_later items past k =
      let stays = λ (offer : Offer T). not (withdrawn (steps_in (onto items past)) offer) in
      ap (filter stays) k.offers_are ∙ filter-append stays (offers (steps_in past)) k.more
      ∙ ap (λ l. l ++ filter stays k.more)
      (sym (filter_again stays (λ offer. not (withdrawn (steps_in past) offer)) (λ offer is. ap not (less offer is)) (offers (steps_in past))))
    where
      gone : (b : Bool) → not b ≡ false → b ≡ true
      gone true is = refl
      gone false is = let none : ⊥ = cc in absurd none

      less : (offer : Offer T) → not (withdrawn (steps_in past) offer) ≡ false → withdrawn (steps_in (onto items past)) offer ≡ true
      less offer is = still_withdrawn equal events items past offer (gone (withdrawn (steps_in past) offer) is)
