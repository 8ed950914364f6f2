-- What is so of a call that began since a moment of a run: a message that it may return was handed out since.
use Rattle.flume_model.proofs.Common.{◌≡◌, ℕ, ◌≤◌, Bool, true, false, if◌then◌else◌, ◌∷◌, Option, Some, None}
use Rattle.flume_model.proofs.Common.{refl, subst, arith, inl, inr}
use Rattle.flume_model.proofs.Common.{Log, Opening, Channel, channel, entry_of, IsPollReply, IsWithdrawReply, IsReply, IsRun}
use Rattle.flume_model.specs.declared.step.Step.{Step}
use Rattle.flume_model.specs.declared.step.Step.TheVariants.{Send, PollSend, Recv, Poll, Withdraw}
use Rattle.flume_model.specs.declared.step.Reply.{Reply}
use Rattle.flume_model.specs.declared.step.Reply.TheVariants as reply
use Rattle.flume_model.proofs.AskingCaseLemmas.{polled_cases, gone_cases}
use Rattle.judge_calls.specs.declared.call.Call.{Call}
use Rattle.judge_calls.specs.declared.call.Call.TheVariants as call
use Rattle.judge_calls.specs.declared.call.Answer.{Answer}
use Rattle.judge_calls.specs.declared.call.Answer.TheVariants as answer
use Rattle.judge_calls.specs.declared.stage.Stage.{Stage}
use Rattle.judge_calls.specs.declared.stage.Stage.TheVariants.{Begun, Tried, Parked, Refused, Answered}
use Rattle.judge_calls.specs.Calls.{first_step, parking_step, is_send, next_step, alternative_step, stage_after}
use Rattle.judge_calls.specs.Explanations.{after_reply, IsNextStep}
use Rattle.judge_calls.proofs.HandedSinceLemmas.{Since, IsHandedSince, handed_on, IsFrom, gets_message}

-- a parked call that asks does so under its ticket, if it is a send or a receive
asking_from : (T : Type 0) (k t : ℕ) (send : Bool) → k ≤ t → IsFrom {T = T} k (if send then PollSend t else Poll t)
asking_from T k t true le = tt
asking_from T k t false le = le

module _ {T : Type 0} where
  -- a step, if it is one of a parked receiver, is of a ticket that isn't below this
  abbrev IsFromIn : ℕ → Option (Step T) → Type 0
  IsFromIn k None = Unit {0}
  IsFromIn k (Some step) = IsFrom k step

  -- the first step of a call is of no parked receiver
  first_from : (k : ℕ) (c : Call T) → IsFrom k (first_step c)
  first_from k (call.Send m) = tt
  first_from k _ = tt

  -- nor does a call park by a step of one that is parked
  parking_from : (k : ℕ) (c : Call T) → IsFromIn k (parking_step c)
  parking_from k (call.Send m) = tt
  parking_from k _ = tt

module _ {T A : Type 0} where
  -- whether a reply issues no ticket
  abbrev issues_none : Reply T A → Bool
  issues_none (reply.Pending t) = false
  issues_none (reply.Parked t) = false
  issues_none _ = true

  -- a reply to a parked receiver that asks issues none
  polled_issues_none : (c : Channel T) (t : ℕ) (r : Reply T A) → IsPollReply c (entry_of t c.entries) r → issues_none r ≡ true
  polled_issues_none c t r h =
      polled_cases c t (λ x. issues_none x ≡ true) r h (record {
        unknown = refl;
        collects = λ e held found is. refl;
        takes = λ u m front. refl;
        waits_on = λ u woken. refl;
        ends = λ u empty. refl;
        refused = λ back. refl;
      })

  -- nor does one to a parked receiver that leaves
  gone_issues_none : (c : Channel T) (t : ℕ) (r : Reply T A) → IsWithdrawReply c t (entry_of t c.entries) r → issues_none r ≡ true
  gone_issues_none c t r h =
      gone_cases c t (λ x. issues_none x ≡ true) r h (record {
        unknown = refl;
        collects = λ e held found is. refl;
        takes = λ u m front. refl;
        fills_none = λ u closed empty. refl;
        passes_on = λ u closed. refl;
      })

module _ {T : Type 0} (A : Type 0) where
  -- the ticket of a send that is blocked is the next one
  pending_next : (c : Channel T) (step : Step T) (t : ℕ) → IsReply {A = A} c step (reply.Pending t) → t ≡ c.next_ticket
  pending_next c (Send m) t h = h.2
  pending_next c (Poll u) t h = let some = polled_issues_none c u (reply.Pending t) h in absurd (let none : ⊥ = cc in none)
  pending_next c (Withdraw u) t h = let some = gone_issues_none c u (reply.Pending t) h in absurd (let none : ⊥ = cc in none)
  pending_next c _ t h = absurd h

  -- the ticket of a receiver that parks is the next one
  parked_next : (c : Channel T) (step : Step T) (t : ℕ) → IsReply {A = A} c step (reply.Parked t) → t ≡ c.next_ticket
  parked_next c (Recv kind) t h = h.3
  parked_next c (Poll u) t h = let some = polled_issues_none c u (reply.Parked t) h in absurd (let none : ⊥ = cc in none)
  parked_next c (Withdraw u) t h = let some = gone_issues_none c u (reply.Parked t) h in absurd (let none : ⊥ = cc in none)
  parked_next c _ t h = absurd h

module _ {T A : Type 0} where
  -- the message that an answer gives, if it gives one, was handed out, after this many others at
  -- least
  abbrev pub AnswerSince : ℕ → Log T A → Answer T A → Type 0
  AnswerSince n log (answer.Got own) = IsHandedSince n log own
  AnswerSince n log _ = Unit {0}

  -- a call that is so far is parked under a ticket that isn't below this, or answers so
  abbrev pub Stands : ℕ → ℕ → Log T A → Stage T A → Type 0
  Stands n k log Begun = Unit {0}
  Stands n k log Tried = Unit {0}
  Stands n k log (Parked t) = k ≤ t
  Stands n k log (Refused t) = k ≤ t
  Stands n k log (Answered own) = AnswerSince n log own

  -- a thread's open call, if it has one, does
  abbrev pub StandsIn : ℕ → ℕ → Log T A → Option (Call T × Stage T A) → Type 0
  StandsIn n k log None = Unit {0}
  StandsIn n k log (Some current) = Stands n k log current.1

  -- an answer stays so by one more step
  told_on : (n : ℕ) (o : Opening) (past : Log T A) (p : Step T × Reply T A) → IsRun o (p ∷ past) → (own : Answer T A)
      → AnswerSince n past own
      → AnswerSince n (p ∷ past) own
  told_on n o past p run (answer.Got own) h = handed_on n o past p own run h
  told_on n o past p run _ h = tt

  -- and a call that is so far, by a step of another one
  stands_on : (n k : ℕ) (o : Opening) (past : Log T A) (p : Step T × Reply T A) → IsRun o (p ∷ past) → (stage : Stage T A)
      → Stands n k past stage → Stands n k (p ∷ past) stage
  stands_on n k o past p run (Answered own) h = told_on n o past p run own h
  stands_on n k o past p run Begun h = tt
  stands_on n k o past p run Tried h = tt
  stands_on n k o past p run (Parked t) h = h
  stands_on n k o past p run (Refused t) h = h

  -- a thread's open call stays so by a step of another thread
  pub stands_in_on : (n k : ℕ) (o : Opening) (past : Log T A) (p : Step T × Reply T A) → IsRun o (p ∷ past)
      → (current : Option (Call T × Stage T A)) → StandsIn n k past current → StandsIn n k (p ∷ past) current
  stands_in_on n k o past p run None h = tt
  stands_in_on n k o past p run (Some current) h = stands_on n k o past p run current.1 h

  -- the next step of a call, if it is one of a parked receiver, is of its ticket
  next_from : (n k : ℕ) (log : Log T A) (c : Call T) (stage : Stage T A) → Stands n k log stage → IsFromIn k (next_step c stage)
  next_from n k log c Begun h = first_from k c
  next_from n k log c Tried h = parking_from k c
  next_from n k log c (Parked t) h = asking_from T k t (is_send c) h
  next_from n k log c (Refused t) h = h
  next_from n k log c (Answered own) h = tt

  -- so is the step that it may make instead
  other_from : (n k : ℕ) (log : Log T A) (c : Call T) (stage : Stage T A) → Stands n k log stage → IsFromIn k (alternative_step c stage)
  other_from n k log (call.SendAsync m) Begun h = tt
  other_from n k log call.RecvAsync Begun h = tt
  other_from n k log call.RecvAsync Tried h = tt
  other_from n k log (call.SendTimeout m) (Parked t) h = tt
  other_from n k log (call.SendAsync m) (Parked t) h = tt
  other_from n k log call.RecvTimeout (Parked t) h = h
  other_from n k log call.RecvAsync (Parked t) h = h
  other_from n k log _ _ h = tt

  -- so is each step that it may make
  step_from : (n k : ℕ) (log : Log T A) (c : Call T) (stage : Stage T A) (step : Step T) → Stands n k log stage
      → IsNextStep (Some (c, stage)) step → IsFrom k step
  step_from n k log c stage step h (inl is) = subst (IsFromIn k) is (next_from n k log c stage h)
  step_from n k log c stage step h (inr is) = subst (IsFromIn k) is (other_from n k log c stage h)

  -- of an answer that gives no message nothing is said
  told_by_side : (n : ℕ) (log : Log T A) (send : Bool) → AnswerSince n log (if send then answer.Sent else answer.Disconnected)
  told_by_side n log true = tt
  told_by_side n log false = tt

  -- a call stays so by its own step, whatever the reply
  stands_after : (n k : ℕ) (o : Opening) (past : Log T A) (c : Call T) (stage : Stage T A) (step : Step T) (r : Reply T A)
      → IsRun o ((step, r) ∷ past) → Since n k o past → IsNextStep (Some (c, stage)) step → Stands n k past stage
      → Stands n k ((step, r) ∷ past) (stage_after c stage r)
  stands_after n k o past c stage step (reply.Got m) run since made h =
      gets_message n k o past step m run since (step_from n k past c stage step h made)
  stands_after n k o past c stage step (reply.Pending t) run since made h =
      let next = pending_next A (channel o past) step t run.0 in
      let before = since.more_issued in
      omega arith
  stands_after n k o past c stage step (reply.Parked t) run since made h =
      let next = parked_next A (channel o past) step t run.0 in
      let before = since.more_issued in
      omega arith
  stands_after n k o past c stage step reply.Waiting run since made h = stands_on n k o past (step, reply.Waiting) run stage h
  stands_after n k o past call.RecvAsync (Parked t) step (reply.NoMemory back) run since made h = h
  stands_after n k o past c (Parked t) step (reply.NoMemory back) run since made h = h
  stands_after n k o past c stage step (reply.NoMemory back) run since made h = tt
  stands_after n k o past (call.TrySend m) stage step (reply.Full back) run since made h = tt
  stands_after n k o past c stage step (reply.Full back) run since made h = tt
  stands_after n k o past call.TryRecv stage step reply.Empty run since made h = tt
  stands_after n k o past c stage step reply.Empty run since made h = tt
  stands_after n k o past c stage step (reply.Returned back true) run since made h = tt
  stands_after n k o past (call.SendTimeout m) stage step (reply.Returned back false) run since made h = tt
  stands_after n k o past c stage step (reply.Returned back false) run since made h = tt
  stands_after n k o past c (Refused t) step reply.NoTicket run since made h = tt
  stands_after n k o past c stage step reply.NoTicket run since made h = told_by_side n ((step, reply.NoTicket) ∷ past) (is_send c)
  stands_after n k o past call.RecvTimeout (Parked t) step (reply.Gone true filled) run since made h = tt
  stands_after n k o past call.RecvTimeout (Parked t) step (reply.Gone false filled) run since made h = tt
  stands_after n k o past c stage step (reply.Gone closed filled) run since made h = tt
  stands_after n k o past c stage step _ run since made h = tt

  -- a thread's open call stays so by its own step
  pub stands_in_after : (n k : ℕ) (o : Opening) (past : Log T A) (current : Option (Call T × Stage T A)) (step : Step T) (r : Reply T A)
      → IsRun o ((step, r) ∷ past) → Since n k o past → IsNextStep current step → StandsIn n k past current
      → StandsIn n k ((step, r) ∷ past) (after_reply r current)
  stands_in_after n k o past None step r run since made h = tt
  stands_in_after n k o past (Some current) step r run since made h = stands_after n k o past current.0 current.1 step r run since made h
