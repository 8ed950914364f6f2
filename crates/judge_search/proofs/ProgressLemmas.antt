-- How far a call is after a reply: its progress is that of its stage, unless its answer is wrong.
use Rattle.std.proofs.Common.{◌≡◌, ◌≢◌, ℕ, Bool, true, false, not, List, Option, Some, None, refl, sym, ◌∙◌, ap}
use Rattle.flume_model.specs.declared.step.Reply.{Reply}
use Rattle.flume_model.specs.declared.step.Reply.TheVariants as own
use Rattle.judge_calls.specs.declared.call.Call.{Call}
use Rattle.judge_calls.specs.declared.call.Call.TheVariants.{RecvTimeout, RecvAsync, SendTimeout, TrySend, TryRecv}
use Rattle.judge_calls.specs.declared.call.Answer.{Answer}
use Rattle.judge_calls.specs.declared.event.Event.{Event}
use Rattle.judge_calls.specs.declared.stage.Stage.{Stage}
use Rattle.judge_calls.specs.declared.stage.Stage.TheVariants.{Begun, Tried, Parked, Refused, Answered}
use Rattle.judge_calls.specs.Answers.{may_return}
use Rattle.judge_calls.specs.Calls.{is_send, stage_after}
use Rattle.judge_search.specs.declared.configuration.Progress.{Progress}
use Rattle.judge_search.specs.declared.configuration.Progress.TheVariants as progress
use Rattle.judge_search.specs.declared.place_reply.PlaceReply.{PlaceReply}
use Rattle.judge_search.specs.declared.place_reply.PlaceReply.TheVariants as reply
use Rattle.judge_search.specs.Configurations.{is_parked}
use Rattle.judge_search.specs.Mirrors.{Corresponds}
use Rattle.judge_search.proofs.MoveAnswers.{stays_parked, with_ticket, tickets_after}
use Rattle.judge_search.specs.Agreement.{IsProgress}
use Rattle.judge_search.specs.Moves.{is_refusal}
use Rattle.judge_search.specs.Progresses.{progress_of, clear_ticket, is_wrong}
use Rattle.judge_search.proofs.StageLemmas.{IsMet}
use Rattle.std.proofs.Common.{eq-eqb, if◌then◌else◌}

module _ {T A : Type 0} where
  -- the ticket at a stage is this one
  abbrev pub HasTicket : Call T → ℕ → Stage T A → Type 0
  HasTicket call n (Parked t) = t ≡ n
  HasTicket call n (Refused t) = (t ≡ n) × (is_send call ≡ false)
  HasTicket call n _ = Unit {0}

  -- without a ticket there is nothing to say
  full_free : (call : Call T) (n : ℕ) (stage : Stage T A) (back : T) → HasTicket call n (stage_after call stage (own.Full back))
  full_free (TrySend m) n stage back = tt
  full_free _ n stage back = tt

  empty_free : (call : Call T) (n : ℕ) (stage : Stage T A) → HasTicket call n (stage_after call stage own.Empty)
  empty_free TryRecv n stage = tt
  empty_free _ n stage = tt

  returned_free : (call : Call T) (n : ℕ) (stage : Stage T A) (back : T) (closed : Bool)
      → HasTicket call n (stage_after call stage (own.Returned back closed))
  returned_free call n stage back true = tt
  returned_free (SendTimeout m) n stage back false = tt
  returned_free _ n stage back false = tt

  none_free : (call : Call T) (n : ℕ) (stage : Stage T A) → HasTicket call n (stage_after call stage own.NoTicket)
  none_free call n Begun = tt
  none_free call n Tried = tt
  none_free call n (Parked t) = tt
  none_free call n (Refused t) = tt
  none_free call n (Answered a) = tt

  gone_free : (call : Call T) (n : ℕ) (stage : Stage T A) (closed : Bool) (filled : Option ℕ)
      → HasTicket call n (stage_after call stage (own.Gone closed filled))
  gone_free RecvTimeout n (Parked t) true filled = tt
  gone_free RecvTimeout n (Parked t) false filled = tt
  gone_free RecvTimeout n Begun closed filled = tt
  gone_free RecvTimeout n Tried closed filled = tt
  gone_free RecvTimeout n (Refused t) closed filled = tt
  gone_free RecvTimeout n (Answered a) closed filled = tt
  gone_free _ n stage closed filled = tt

  -- who isn't parked
  full_off : (call : Call T) (stage : Stage T A) (back : T) → is_parked (progress_of (stage_after call stage (own.Full back))) ≡ false
  full_off (TrySend m) stage back = refl
  full_off _ stage back = refl

  empty_off : (call : Call T) (stage : Stage T A) → is_parked (progress_of (stage_after call stage own.Empty)) ≡ false
  empty_off TryRecv stage = refl
  empty_off _ stage = refl

  returned_off : (call : Call T) (stage : Stage T A) (back : T) (closed : Bool)
      → is_parked (progress_of (stage_after call stage (own.Returned back closed))) ≡ false
  returned_off call stage back true = refl
  returned_off (SendTimeout m) stage back false = refl
  returned_off _ stage back false = refl

  none_off : (call : Call T) (stage : Stage T A) → is_parked (progress_of (stage_after call stage own.NoTicket)) ≡ false
  none_off call Begun = refl
  none_off call Tried = refl
  none_off call (Parked t) = refl
  none_off call (Refused t) = refl
  none_off call (Answered a) = refl

  gone_off : (call : Call T) (stage : Stage T A) (closed : Bool) (filled : Option ℕ)
      → is_parked (progress_of (stage_after call stage (own.Gone closed filled))) ≡ false
  gone_off RecvTimeout (Parked t) true filled = refl
  gone_off RecvTimeout (Parked t) false filled = refl
  gone_off RecvTimeout Begun closed filled = refl
  gone_off RecvTimeout Tried closed filled = refl
  gone_off RecvTimeout (Refused t) closed filled = refl
  gone_off RecvTimeout (Answered a) closed filled = refl
  gone_off _ stage closed filled = refl

-- a place has the ticket that it was given
ticket_given : (place next : ℕ) (tickets : ℕ → ℕ) → with_ticket place next tickets place ≡ next
ticket_given place next tickets = ap (λ b. if b then next else tickets place) (eq-eqb place place refl)

module _ {T A : Type 0} (equal : T → T → Bool) (events : List (Event T A)) (call : Call T) where
  -- the ticket at a stage is the call's
  pub has_ticket : (recorded : Option (Answer T A)) (n : ℕ) (p : Progress) (stage : Stage T A)
      → IsProgress equal events call recorded n p stage → HasTicket call n stage
  has_ticket recorded n p Begun h = tt
  has_ticket recorded n p Tried h = tt
  has_ticket recorded n progress.Parked (Parked t) h = h
  has_ticket recorded n progress.Refused (Refused t) h = h
  has_ticket recorded n _ (Parked t) h = absurd h
  has_ticket recorded n _ (Refused t) h = absurd h
  has_ticket recorded n p (Answered a) h = tt

  -- who was refused memory doesn't send
  pub refused_receives : (recorded : Option (Answer T A)) (n : ℕ) (stage : Stage T A)
      → IsProgress equal events call recorded n progress.Refused stage → is_send call ≡ false
  refused_receives recorded n (Refused t) h = h.1
  refused_receives recorded n _ h = absurd h

  -- a call's progress is that of its stage
  pub progress_is : (recorded : Option (Answer T A)) (n : ℕ) (p : Progress) (stage : Stage T A)
      → IsProgress equal events call recorded n p stage → progress_of stage ≡ p
  progress_is recorded n progress.Begun Begun h = refl
  progress_is recorded n progress.Tried Tried h = refl
  progress_is recorded n progress.Parked (Parked t) h = refl
  progress_is recorded n progress.Refused (Refused t) h = refl
  progress_is recorded n progress.Done (Answered a) h = refl
  progress_is recorded n _ _ h = absurd h

  -- and it is that with its ticket, unless its answer is wrong
  pub progress_right : (recorded : Option (Answer T A)) (n : ℕ) (stage : Stage T A) → HasTicket call n stage
      → is_wrong equal call recorded stage ≡ false → IsProgress equal events call recorded n (progress_of stage) stage
  progress_right recorded n Begun h right = tt
  progress_right recorded n Tried h right = tt
  progress_right recorded n (Parked t) h right = h
  progress_right recorded n (Refused t) h right = h
  progress_right None n (Answered a) h right = refl
  progress_right (Some recorded) n (Answered a) h right = by_case (may_return equal call (Answered a) recorded) right
    where
      by_case : (b : Bool) → not b ≡ false → b ≡ true
      by_case true e = refl
      by_case false e = let none : ⊥ = cc in absurd none

  -- the ticket after a reply
  ticket_after : (recorded : Option (Answer T A)) (place next : ℕ) (tickets : ℕ → ℕ) (queue : List ℕ) (p : Progress) (stage : Stage T A)
      (reply_by_place : PlaceReply) (r : Reply T A) → Corresponds events next queue reply_by_place r
      → IsProgress equal events call recorded (tickets place) p stage
      → HasTicket call (tickets_after reply_by_place place next tickets place) (stage_after call stage r)
  ticket_after recorded place next tickets queue p stage reply.Full (own.Full back) h so = full_free call (tickets place) stage back
  ticket_after recorded place next tickets queue p stage reply.Pending (own.Pending t) h so = h ∙ sym (ticket_given place next tickets)
  ticket_after recorded place next tickets queue p stage reply.Accepted own.NoTicket h so = none_free call (tickets place) stage
  ticket_after recorded place next tickets queue p stage reply.Waiting own.Waiting h so = has_ticket recorded (tickets place) p stage so
  ticket_after recorded place next tickets queue p stage (reply.Returned closed) (own.Returned back shut) h so =
      returned_free call (tickets place) stage back shut
  ticket_after recorded place next tickets queue p stage reply.NoTicket own.NoTicket h so = none_free call (tickets place) stage
  ticket_after recorded place next tickets queue p stage reply.Empty own.Empty h so = empty_free call (tickets place) stage
  ticket_after recorded place next tickets queue p stage reply.Parked (own.Parked t) h so = h ∙ sym (ticket_given place next tickets)
  ticket_after recorded place next tickets queue p stage (reply.Gone closed) (own.Gone shut filled) h so =
      gone_free call (tickets place) stage shut filled
  ticket_after recorded place next tickets queue p stage _ (own.NoMemory back) h so = absurd h
  ticket_after recorded place next tickets queue p stage _ (own.Spent back) h so = absurd h
  ticket_after recorded place next tickets queue p stage _ (own.Full back) h so = absurd h
  ticket_after recorded place next tickets queue p stage _ (own.Pending t) h so = absurd h
  ticket_after recorded place next tickets queue p stage _ own.NoTicket h so = absurd h
  ticket_after recorded place next tickets queue p stage _ own.Waiting h so = absurd h
  ticket_after recorded place next tickets queue p stage _ (own.Returned back shut) h so = absurd h
  ticket_after recorded place next tickets queue p stage _ own.Empty h so = absurd h
  ticket_after recorded place next tickets queue p stage _ (own.Parked t) h so = absurd h
  ticket_after recorded place next tickets queue p stage _ (own.Gone shut filled) h so = absurd h
  ticket_after recorded place next tickets queue p stage _ _ h so = tt

  -- so far is the call after a reply, unless its answer is wrong
  pub progress_after : (recorded : Option (Answer T A)) (place next : ℕ) (tickets : ℕ → ℕ) (queue : List ℕ) (p : Progress)
      (stage : Stage T A)
      (reply_by_place : PlaceReply) (r : Reply T A) → Corresponds events next queue reply_by_place r
      → IsProgress equal events call recorded (tickets place) p stage
      → is_wrong equal call recorded (stage_after call stage r) ≡ false
      → IsProgress equal events call recorded (tickets_after reply_by_place place next tickets place)
      (progress_of (stage_after call stage r))
      (stage_after call stage r)
  progress_after recorded place next tickets queue p stage reply_by_place r h so right =
      progress_right recorded (tickets_after reply_by_place place next tickets place) (stage_after call stage r)
      (ticket_after recorded place next tickets queue p stage reply_by_place r h so) right

  -- and it is parked or not as the reply says
  pub parked_after : (next : ℕ) (queue : List ℕ) (stage : Stage T A) (reply_by_place : PlaceReply) (r : Reply T A)
      → Corresponds events next queue reply_by_place r → IsMet call reply_by_place (progress_of stage)
      → is_parked (progress_of (stage_after call stage r)) ≡ stays_parked reply_by_place
  parked_after next queue stage reply.Sent (own.Sent filled) h met = refl
  parked_after next queue stage reply.Full (own.Full back) h met = full_off call stage back
  parked_after next queue stage reply.Closed (own.Closed back) h met = refl
  parked_after next queue stage reply.Pending (own.Pending t) h met = refl
  parked_after next queue stage reply.Accepted own.Accepted h met = refl
  parked_after next queue stage reply.Accepted own.NoTicket h met = none_off call stage
  parked_after next queue stage reply.Waiting own.Waiting h met = ap is_parked met
  parked_after next queue stage (reply.Returned closed) (own.Returned back shut) h met = returned_off call stage back shut
  parked_after next queue stage reply.NoTicket own.NoTicket h met = none_off call stage
  parked_after next queue stage (reply.Got p) (own.Got m) h met = refl
  parked_after next queue stage reply.Empty own.Empty h met = empty_off call stage
  parked_after next queue stage reply.Ended own.Ended h met = refl
  parked_after next queue stage reply.Parked (own.Parked t) h met = refl
  parked_after next queue stage (reply.Gone closed) (own.Gone shut filled) h met = gone_off call stage shut filled
  parked_after next queue stage reply.Drained (own.Drained list) h met = refl
  parked_after next queue stage reply.Done own.Done h met = refl
  parked_after next queue stage reply.NoEnd own.NoEnd h met = refl
  parked_after next queue stage reply.CountFull own.CountFull h met = refl
  parked_after next queue stage (reply.Number n) (own.Number m) h met = refl
  parked_after next queue stage (reply.Flag n) (own.Flag m) h met = refl
  parked_after next queue stage (reply.Capacity n) (own.Capacity m) h met = refl
  parked_after next queue stage reply.Unbounded own.Unbounded h met = refl
  parked_after next queue stage _ _ h met = absurd h
