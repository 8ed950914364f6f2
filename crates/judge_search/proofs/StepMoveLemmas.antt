-- The step of an open call is a move of it.
use Rattle.std.proofs.Common.{◌≡◌, ℕ, Bool, true, false, List, ◌∷◌, Option, Some, None, refl, sym, ◌∙◌, ap, subst, if◌then◌else◌}
use Rattle.std.specs.List.{All, Contains}
use Rattle.std.specs.Option.{option_and_then}
use Rattle.std.proofs.lemmas.List.Elements.{All-contains}
use Rattle.flume_model.specs.declared.step.Step.{Step}
use Rattle.flume_model.specs.declared.step.Step.TheVariants as step
use Rattle.flume_model.specs.declared.step.Reply.{Reply}
use Rattle.flume_model.specs.Log.{Opening}
use Rattle.flume_model.specs.Replies.{IsRun}
use Rattle.judge_calls.specs.declared.call.Call.{Call}
use Rattle.judge_calls.specs.declared.call.Call.TheVariants as call
use Rattle.judge_calls.specs.declared.call.Answer.{Answer}
use Rattle.judge_calls.specs.declared.event.Event.{Event}
use Rattle.judge_calls.specs.declared.event.Item.{Item}
use Rattle.judge_calls.specs.declared.event.Item.TheVariants.{Happens, Makes}
use Rattle.judge_calls.specs.declared.stage.Stage.{Stage}
use Rattle.judge_calls.specs.declared.stage.Stage.TheVariants as stage
use Rattle.judge_calls.specs.Calls.{is_send, first_step, parking_step, next_step, alternative_step}
use Rattle.judge_calls.specs.Explanations.{open_call, steps_in}
use Rattle.judge_search.specs.declared.configuration.OpenCall.{OpenCall}
use Rattle.judge_search.specs.declared.configuration.Progress.{Progress}
use Rattle.judge_search.specs.declared.configuration.Progress.TheVariants as progress
use Rattle.judge_search.specs.declared.step_of.Move.{Move}
use Rattle.judge_search.specs.declared.step_of.Move.TheVariants as move
use Rattle.judge_search.specs.Configurations.{State, call_at, thread_at, call_by, first_answer}
use Rattle.judge_search.specs.Agreement.{Agrees, IsOpenAs, IsOwn, IsProgress}
use Rattle.judge_search.specs.Moves.{first_move, parking_move, next_move, alternative_move, move_of, step_for, is_refusal, IsStepOf}
use Rattle.judge_search.specs.Moves.{IsMove}
use Rattle.judge_search.specs.Leads.{IsMade, LeadsTo, LeadsNowhere, MoveLeadsTo, MoveLeadsNowhere}

module _ {T : Type 0} where
  -- the step of a move, if there is one
  abbrev pub step_by : Call T → ℕ → Option Move → Option (Step T)
  step_by own ticket mv = option_and_then (λ m. step_for own ticket m) mv

  first_so : (own : Call T) (ticket : ℕ) → Some (first_step own) ≡ step_for own ticket (first_move own)
  first_so (call.Send m) ticket = refl
  first_so _ ticket = refl

  parking_so : (own : Call T) (ticket : ℕ) → parking_step own ≡ step_by own ticket (parking_move own)
  parking_so (call.Send m) ticket = refl
  parking_so _ ticket = refl

  asking_so : (own : Call T) (ticket : ℕ) (b : Bool)
      → Some (if b then step.PollSend ticket else step.Poll ticket) ≡ step_for own ticket (if b then move.PollSend else move.Poll)
  asking_so own ticket true = refl
  asking_so own ticket false = refl

module _ {T A : Type 0} (equal : T → T → Bool) (events : List (Event T A)) where
  next_so : (own : Call T) (recorded : Option (Answer T A)) (ticket : ℕ) (p : Progress) (s : Stage T A)
      → IsProgress equal events own recorded ticket p s → next_step own s ≡ step_by own ticket (next_move own p)
  next_so own recorded ticket progress.Begun stage.Begun h = first_so own ticket
  next_so own recorded ticket progress.Tried stage.Tried h = parking_so own ticket
  next_so own recorded ticket progress.Parked (stage.Parked t) h =
      subst (λ (u : ℕ). Some (if is_send own then step.PollSend u else step.Poll u) ≡ step_by own ticket (next_move own progress.Parked))
      (sym h)
      (asking_so own ticket (is_send own))
  next_so own recorded ticket progress.Refused (stage.Refused t) h = ap (λ u. Some (step.Withdraw u)) h.0
  next_so own recorded ticket progress.Done (stage.Answered a) h = refl
  next_so own recorded ticket _ _ h = absurd h

  other_so : (own : Call T) (recorded : Option (Answer T A)) (ticket : ℕ) (p : Progress) (s : Stage T A)
      → IsProgress equal events own recorded ticket p s → alternative_step own s ≡ step_by own ticket (alternative_move own p)
  other_so (call.SendAsync m) recorded ticket progress.Parked (stage.Parked t) h = ap (λ u. Some (step.WithdrawSend u)) h
  other_so (call.SendTimeout m) recorded ticket progress.Parked (stage.Parked t) h = ap (λ u. Some (step.WithdrawSend u)) h
  other_so call.RecvTimeout recorded ticket progress.Parked (stage.Parked t) h = ap (λ u. Some (step.Withdraw u)) h
  other_so call.RecvAsync recorded ticket progress.Parked (stage.Parked t) h = ap (λ u. Some (step.Withdraw u)) h
  other_so _ recorded ticket progress.Begun stage.Begun h = refl
  other_so _ recorded ticket progress.Tried stage.Tried h = refl
  other_so _ recorded ticket progress.Parked (stage.Parked t) h = refl
  other_so _ recorded ticket progress.Refused (stage.Refused t) h = refl
  other_so _ recorded ticket progress.Done (stage.Answered a) h = refl
  other_so _ recorded ticket _ _ h = absurd h

  -- the step that a call makes is that of its move
  pub step_so : (own : Call T) (recorded : Option (Answer T A)) (ticket : ℕ) (p : Progress) (s : Stage T A) (other : Bool)
      → IsProgress equal events own recorded ticket p s
      → (if other then alternative_step own s else next_step own s) ≡ step_by own ticket (move_of own p other)
  step_so own recorded ticket p s true h = other_so own recorded ticket p s h
  step_so own recorded ticket p s false h = next_so own recorded ticket p s h

  -- what is known of a step of an open call: the call, and, if it has such a move, that the move is made
  pub record IsFound (c : State) (rest : List (Event T A)) (t : ℕ) (one : OpenCall) (other refused : Bool) (o : Opening)
      (past : List (Item T A)) (step : Step T) (reply : Reply T A) : Type 0 where
    pub own : Call T
    pub call_is : call_at events one.place ≡ Some own
    pub moves : move_of own one.progress other ≡ None → ⊥
    pub outcome : (mv : Move) → move_of own one.progress other ≡ Some mv → IsMade equal events c rest t one own mv refused o past step reply

  pub found : (c : State) (rest : List (Event T A)) (t : ℕ) (one : OpenCall) (other refused : Bool) (o : Opening)
      (past : List (Item T A)) (step : Step T) (reply : Reply T A) (u : ℕ) → Contains c.calls one → thread_at events one.place ≡ Some t
      → Agrees equal events o past rest c → IsMove past t other refused (Makes u step reply)
      → IsRun o (steps_in (Makes u step reply ∷ past))
      → IsFound c rest t one other refused o past step reply
  found c rest t one other refused o past step reply u has there agrees moved run =
      by_call (open_call past t) refl (subst (λ x. IsOpenAs equal events agrees.tickets (first_answer t rest) x (open_call past t)) is_own
      (agrees.calls_are t)) moved.2
    where
      is_own : call_by events t c.calls ≡ Some one
      is_own =
          let mine = All-contains (IsOwn equal events c.calls) c.calls one agrees.threads_apart has in
          let threads : Some mine.0 ≡ Some t = sym mine.1 ∙ there in
          let same : mine.0 ≡ t = cc in
          ap (λ v. call_by events v c.calls) (sym same) ∙ mine.2

      by_call : (current : Option (Call T × Stage T A)) → open_call past t ≡ current
          → IsOpenAs equal events agrees.tickets (first_answer t rest) (Some one) current → IsStepOf other (open_call past t) step
          → IsFound c rest t one other refused o past step reply
      by_call None opened h stepped = absurd h
      by_call (Some current) opened h stepped =
          let of : IsStepOf other (Some current) step = subst (λ x. IsStepOf other x step) opened stepped in
          let so : step_by current.0 (agrees.tickets one.place) (move_of current.0 one.progress other) ≡ Some step =
          sym (step_so current.0 (first_answer t rest) (agrees.tickets one.place) one.progress current.1 other h.1) ∙ of in
          record {
            own = current.0;
            call_is = h.0;
            moves = λ none. let gone : step_by current.0 (agrees.tickets one.place) (move_of current.0 one.progress other) ≡ None =
                ap (λ (m : Option Move). step_by current.0 (agrees.tickets one.place) m) none in let no : ⊥ = cc in no;
            outcome = λ mv chosen. record {
              agrees = agrees;
              is_own = is_own;
              call_is = h.0;
              stage = current.1;
              is_open = opened;
              progress_is = h.1;
              step_is = sym (ap (λ (m : Option Move). step_by current.0 (agrees.tickets one.place) m) chosen) ∙ so;
              refused_is = moved.1;
              lawful = run.0;
            };
          }
