-- Replies that are alike lead a call as far, apart from its ticket.
use Rattle.std.proofs.Common.{◌≡◌, ◌≢◌, ℕ, Bool, true, false, map, List, [], ◌∷◌, Option, Some, None, refl, sym, ◌∙◌, ap, ap₂, subst}
use Rattle.std.proofs.Common.{if◌then◌else◌}
use Rattle.flume_model.specs.declared.step.Reply.{Reply}
use Rattle.flume_model.specs.declared.step.Reply.TheVariants as own
use Rattle.judge_calls.specs.declared.call.Call.{Call}
use Rattle.judge_calls.specs.declared.call.Call.TheVariants.{RecvTimeout, SendTimeout, TrySend, TryRecv}
use Rattle.judge_calls.specs.declared.call.Answer.{Answer}
use Rattle.judge_calls.specs.declared.call.Answer.TheVariants as answer
use Rattle.judge_calls.specs.declared.event.Event.{Event}
use Rattle.judge_calls.specs.declared.stage.Stage.{Stage}
use Rattle.judge_calls.specs.declared.stage.Stage.TheVariants.{Begun, Tried, Parked, Refused, Answered}
use Rattle.judge_calls.specs.Calls.{is_send, stage_after}
use Rattle.judge_search.specs.declared.configuration.Progress.{Progress}
use Rattle.judge_search.specs.declared.configuration.Progress.TheVariants as progress
use Rattle.judge_search.specs.declared.place_reply.PlaceReply.{PlaceReply}
use Rattle.judge_search.specs.declared.place_reply.PlaceReply.TheVariants as reply
use Rattle.judge_search.specs.Configurations.{message_at}
use Rattle.judge_search.specs.Mirrors.{Corresponds}
use Rattle.judge_search.specs.Progresses.{progress_of, clear_ticket}

module _ {T : Type 0} where
  -- a call that is answered so is parked; a send, if it was accepted
  abbrev pub IsMet : Call T → PlaceReply → Progress → Type 0
  IsMet call reply.Accepted p = (p ≡ progress.Parked) × (is_send call ≡ true)
  IsMet call reply.Waiting p = p ≡ progress.Parked
  IsMet call _ p = Unit {0}

module _ {T A : Type 0} (events : List (Event T A)) (call : Call T) where
  -- messages that are there are the same, if they are told the same
  pub some_apart : (xs ys : List T) → map Some xs ≡ map Some ys → xs ≡ ys
  some_apart [] [] e = refl
  some_apart [] (y ∷ ys) e = absurd (let none : ⊥ = cc in none)
  some_apart (x ∷ xs) [] e = absurd (let none : ⊥ = cc in none)
  some_apart (x ∷ xs) (y ∷ ys) e =
      let first : x ≡ y = cc in
      let rest : map Some xs ≡ map Some ys = cc in
      ap₂ (λ a l. a ∷ l) first (some_apart xs ys rest)

  again : (stage : Stage T A) → clear_ticket stage ≡ clear_ticket (clear_ticket stage)
  again Begun = refl
  again Tried = refl
  again (Parked t) = refl
  again (Refused t) = refl
  again (Answered a) = refl

  accepted : (stage : Stage T A) (r : Reply T A) → progress_of stage ≡ progress.Parked → is_send call ≡ true
      → Corresponds events 0 [] reply.Accepted r → stage_after call stage r ≡ Answered answer.Sent
  accepted stage own.Accepted at sends h = refl
  accepted (Parked t) own.NoTicket at sends h = ap (λ b. Answered (if b then answer.Sent else answer.Disconnected)) sends
  accepted Begun own.NoTicket at sends h = let none : ⊥ = cc in absurd none
  accepted Tried own.NoTicket at sends h = let none : ⊥ = cc in absurd none
  accepted (Refused t) own.NoTicket at sends h = let none : ⊥ = cc in absurd none
  accepted (Answered a) own.NoTicket at sends h = let none : ⊥ = cc in absurd none
  accepted stage _ at sends h = absurd h

  none_taken : (stage : Stage T A) → stage_after call stage own.NoTicket ≡ stage_after call (clear_ticket stage) own.NoTicket
  none_taken Begun = refl
  none_taken Tried = refl
  none_taken (Parked t) = refl
  none_taken (Refused t) = refl
  none_taken (Answered a) = refl

module _ {T A : Type 0} where
  -- what depends on the call, the stage and the reply's case alone
  gone : (call : Call T) (closed : Bool) (filled other : Option ℕ) (stage : Stage T A)
      → stage_after call stage (own.Gone closed filled) ≡ stage_after call (clear_ticket stage) (own.Gone closed other)
  gone RecvTimeout true filled other (Parked t) = refl
  gone RecvTimeout false filled other (Parked t) = refl
  gone RecvTimeout closed filled other Begun = refl
  gone RecvTimeout closed filled other Tried = refl
  gone RecvTimeout closed filled other (Refused t) = refl
  gone RecvTimeout closed filled other (Answered a) = refl
  gone _ closed filled other stage = refl

  returned : (call : Call T) (closed : Bool) (back other : T) (stage before : Stage T A)
      → stage_after call stage (own.Returned back closed) ≡ stage_after call before (own.Returned other closed)
  returned call true back other stage before = refl
  returned (SendTimeout m) false back other stage before = refl
  returned _ false back other stage before = refl

  full : (call : Call T) (back other : T) (stage before : Stage T A)
      → stage_after call stage (own.Full back) ≡ stage_after call before (own.Full other)
  full (TrySend m) back other stage before = refl
  full _ back other stage before = refl

  empty : (call : Call T) (stage before : Stage T A) → stage_after call stage own.Empty ≡ stage_after call before own.Empty
  empty TryRecv stage before = refl
  empty _ stage before = refl

module _ {T A : Type 0} (events : List (Event T A)) (call : Call T) where
  -- replies that are alike by places lead as far
  abbrev Leads : PlaceReply → Stage T A → Reply T A → Reply T A → Type 0
  Leads reply_by_place stage r s = clear_ticket (stage_after call stage r) ≡ clear_ticket (stage_after call (clear_ticket stage) s)

  pub alike_leads : (n m : ℕ) (queue : List ℕ) (reply_by_place : PlaceReply) (r s : Reply T A) → Corresponds events n queue reply_by_place r
      → Corresponds events m queue reply_by_place s → (stage : Stage T A) → IsMet call reply_by_place (progress_of stage)
      → Leads reply_by_place stage r s
  alike_leads n m queue reply.Sent (own.Sent a) (own.Sent b) h k stage met = refl
  alike_leads n m queue reply.Sent (own.Sent a) _ h k stage met = absurd k
  alike_leads n m queue reply.Full (own.Full a) (own.Full b) h k stage met = ap clear_ticket (full call a b stage (clear_ticket stage))
  alike_leads n m queue reply.Full (own.Full a) _ h k stage met = absurd k
  alike_leads n m queue reply.Closed (own.Closed a) (own.Closed b) h k stage met = refl
  alike_leads n m queue reply.Closed (own.Closed a) _ h k stage met = absurd k
  alike_leads n m queue reply.Pending (own.Pending a) (own.Pending b) h k stage met = refl
  alike_leads n m queue reply.Pending (own.Pending a) _ h k stage met = absurd k
  alike_leads n m queue reply.Accepted r s h k stage met =
      ap clear_ticket (accepted events call stage r met.0 met.1 (either n r h))
      ∙ sym (ap clear_ticket (accepted events call (clear_ticket stage) s (still stage ∙ met.0) met.1 (either m s k)))
    where
      still : (stage : Stage T A) → progress_of (clear_ticket stage) ≡ progress_of stage
      still Begun = refl
      still Tried = refl
      still (Parked t) = refl
      still (Refused t) = refl
      still (Answered a) = refl

      either : (i : ℕ) (r : Reply T A) → Corresponds events i queue reply.Accepted r → Corresponds events 0 [] reply.Accepted r
      either i own.Accepted h = h
      either i own.NoTicket h = h
      either i _ h = absurd h
  alike_leads n m queue reply.Waiting own.Waiting own.Waiting h k stage met = again events call stage
  alike_leads n m queue reply.Waiting own.Waiting _ h k stage met = absurd k
  alike_leads n m queue (reply.Returned closed) (own.Returned a x) (own.Returned b y) h k stage met =
      ap (λ c. clear_ticket (stage_after call stage (own.Returned a c))) (sym h ∙ k)
      ∙ ap clear_ticket (returned call y a b stage (clear_ticket stage))
  alike_leads n m queue (reply.Returned closed) (own.Returned a x) _ h k stage met = absurd k
  alike_leads n m queue reply.NoTicket own.NoTicket own.NoTicket h k stage met = ap clear_ticket (none_taken events call stage)
  alike_leads n m queue reply.NoTicket own.NoTicket _ h k stage met = absurd k
  alike_leads n m queue (reply.Got p) (own.Got a) (own.Got b) h k stage met =
      let both : Some a ≡ Some b = sym h ∙ k in
      let same : a ≡ b = cc in
      ap (λ x. Answered (answer.Got x)) same
  alike_leads n m queue (reply.Got p) (own.Got a) _ h k stage met = absurd k
  alike_leads n m queue reply.Empty own.Empty own.Empty h k stage met = ap clear_ticket (empty call stage (clear_ticket stage))
  alike_leads n m queue reply.Empty own.Empty _ h k stage met = absurd k
  alike_leads n m queue reply.Ended own.Ended own.Ended h k stage met = refl
  alike_leads n m queue reply.Ended own.Ended _ h k stage met = absurd k
  alike_leads n m queue reply.Parked (own.Parked a) (own.Parked b) h k stage met = refl
  alike_leads n m queue reply.Parked (own.Parked a) _ h k stage met = absurd k
  alike_leads n m queue (reply.Gone closed) (own.Gone x f) (own.Gone y g) h k stage met =
      ap (λ c. clear_ticket (stage_after call stage (own.Gone c f))) (sym h ∙ k) ∙ ap clear_ticket (gone call y f g stage)
  alike_leads n m queue (reply.Gone closed) (own.Gone x f) _ h k stage met = absurd k
  alike_leads n m queue reply.Drained (own.Drained a) (own.Drained b) h k stage met =
      ap (λ l. Answered (answer.Drained l)) (some_apart events call a.items b.items (sym h ∙ k))
  alike_leads n m queue reply.Drained (own.Drained a) _ h k stage met = absurd k
  alike_leads n m queue reply.Done own.Done own.Done h k stage met = refl
  alike_leads n m queue reply.Done own.Done _ h k stage met = absurd k
  alike_leads n m queue reply.NoEnd own.NoEnd own.NoEnd h k stage met = refl
  alike_leads n m queue reply.NoEnd own.NoEnd _ h k stage met = absurd k
  alike_leads n m queue reply.CountFull own.CountFull own.CountFull h k stage met = refl
  alike_leads n m queue reply.CountFull own.CountFull _ h k stage met = absurd k
  alike_leads n m queue (reply.Number x) (own.Number a) (own.Number b) h k stage met = ap (λ x. Answered (answer.Number x)) (sym h ∙ k)
  alike_leads n m queue (reply.Number x) (own.Number a) _ h k stage met = absurd k
  alike_leads n m queue (reply.Flag x) (own.Flag a) (own.Flag b) h k stage met = ap (λ x. Answered (answer.Flag x)) (sym h ∙ k)
  alike_leads n m queue (reply.Flag x) (own.Flag a) _ h k stage met = absurd k
  alike_leads n m queue (reply.Capacity x) (own.Capacity a) (own.Capacity b) h k stage met = ap (λ x. Answered (answer.Capacity x)) (sym h
      ∙ k)
  alike_leads n m queue (reply.Capacity x) (own.Capacity a) _ h k stage met = absurd k
  alike_leads n m queue reply.Unbounded own.Unbounded own.Unbounded h k stage met = refl
  alike_leads n m queue reply.Unbounded own.Unbounded _ h k stage met = absurd k
  alike_leads n m queue _ _ s h k stage met = absurd h
