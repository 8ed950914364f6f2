-- A configuration agrees with one more step that isn't refused, as the move leaves it.
use Rattle.std.proofs.Common.{◌≡◌, ◌≢◌, ◌⊎◌, inl, inr, ℕ, ◌<◌, ◌≤◌, Bool, true, false, not, eqb, if◌then◌else◌, List, [], ◌∷◌, map, Option}
use Rattle.std.proofs.Common.{Some, None, refl, sym, ◌∙◌, ap, subst, eq-eqb, arith}
use Rattle.std.specs.List.{All, Contains}
use Rattle.std.proofs.lemmas.List.Elements.{All-weaker, All-contains, All-map, All-head, All-tail, All-nil, All-cons}
use Rattle.flume_model.specs.declared.step.Step.{Step}
use Rattle.flume_model.specs.declared.step.Reply.{Reply}
use Rattle.flume_model.specs.declared.step.Reply.TheVariants.{NoMemory, Drained}
use Rattle.flume_model.specs.Log.{Log, Opening, change}
use Rattle.flume_model.specs.Line.{tickets_issued}
use Rattle.flume_model.specs.Channel.{channel}
use Rattle.flume_model.specs.Replies.{IsReply, SameReply}
use Rattle.flume_state.specs.State.{State as Channel}
use Rattle.flume_core.specs.Represents.{Represents}
use Rattle.flume_history.specs.SameRuns.{IsNoMemory}
use Rattle.flume_history.proofs.OneBlockedLemmas.{one_blocked}
use Rattle.flume_history.proofs.OneReplyLemmas.{one_reply}
use Rattle.judge_calls.specs.declared.call.Call.{Call}
use Rattle.judge_calls.specs.declared.call.Answer.{Answer}
use Rattle.judge_calls.specs.declared.event.Event.{Event}
use Rattle.judge_calls.specs.declared.event.Item.{Item}
use Rattle.judge_calls.specs.declared.event.Item.TheVariants.{Makes}
use Rattle.judge_calls.specs.declared.stage.Stage.{Stage}
use Rattle.judge_calls.specs.declared.stage.Stage.TheVariants as stage
use Rattle.judge_calls.specs.Answers.{may_return}
use Rattle.judge_calls.specs.Calls.{is_send, stage_after}
use Rattle.std.specs.Option.{option_map_or}
use Rattle.judge_calls.specs.Explanations.{open_call, steps_in, after_reply}
use Rattle.judge_search.specs.declared.configuration.OpenCall.{OpenCall}
use Rattle.judge_search.specs.declared.configuration.ParkedReceive.{ParkedReceive}
use Rattle.judge_search.specs.declared.configuration.Progress.{Progress}
use Rattle.judge_search.specs.declared.configuration.Progress.TheVariants as progress
use Rattle.judge_search.specs.declared.place_reply.PlaceReply.{PlaceReply}
use Rattle.judge_search.specs.declared.place_reply.PlaceReply.TheVariants as reply
use Rattle.judge_search.specs.declared.step_of.Move.{Move}
use Rattle.judge_search.specs.declared.step_of.Move.TheVariants as move
use Rattle.judge_search.specs.Configurations.{State, calls_with_progress, is_parked, call_at, call_by, first_answer}
use Rattle.judge_search.specs.Outcomes.{outcome}
use Rattle.judge_search.specs.Mirrors.{Mirrors, Corresponds}
use Rattle.judge_search.proofs.MoveAnswers.{Answers, IsPlaceAfter, parks, stays_parked, tickets_after}
use Rattle.judge_search.specs.Agreement.{Agrees, AreParked, IsOwn, IsProgress, parked_at, is_send_at}
use Rattle.judge_search.specs.Moves.{move_of, is_refusal}
use Rattle.judge_search.specs.Leads.{IsMade, IsWrong}
use Rattle.judge_search.specs.Progresses.{progress_of, clear_ticket, is_wrong}
use Rattle.judge_search.proofs.MoveAnswerLemmas.{MoveAnswers, IsReady, IsNew, IsApart}
use Rattle.judge_search.proofs.CallListLemmas.{parked_self, parked_there}
use Rattle.judge_search.proofs.SameReplyLemmas.{stands_same}
use Rattle.judge_search.proofs.StageLemmas.{IsMet, alike_leads}
use Rattle.judge_search.proofs.ProgressLemmas.{progress_is, progress_after, parked_after}
use Rattle.judge_search.proofs.MoveFactLemmas.{IsAllowed, allowed, move_for, step_move, may_answer, made_may, met_by_move, parking_issues}
use Rattle.judge_search.proofs.ParkingLemmas.{IsLeftParked, tickets_if, ticket_kept, parked_if}
use Rattle.judge_search.proofs.AgreeingLemmas.{agrees_after}

module _ {T A : Type 0} (events : List (Event T A)) where
  -- the same reply is alike
  pub same_alike : (n : ℕ) (queue : List ℕ) (reply_by_place : PlaceReply) (r other : Reply T A) → SameReply r other
      → Corresponds events n queue reply_by_place r
      → Corresponds events n queue reply_by_place other
  same_alike n queue reply.Drained (Drained list) (Drained other) same h = h ∙ ap (map Some) same
  same_alike n queue _ (Drained list) (Drained other) same h = absurd h
  same_alike n queue reply_by_place r other same h = subst (Corresponds events n queue reply_by_place) same h

  -- no reply by places is want of memory
  pub had_memory : (n : ℕ) (queue : List ℕ) (reply_by_place : PlaceReply) (r : Reply T A) → Corresponds events n queue reply_by_place r
      → IsNoMemory r → ⊥
  had_memory n queue reply.Sent (NoMemory back) h w = h
  had_memory n queue _ (NoMemory back) h w = h
  had_memory n queue reply_by_place _ h w = w

module _ {T A : Type 0} where
  pub not_refused : (r : Reply T A) → is_refusal r ≡ false → IsNoMemory r → ⊥
  not_refused (NoMemory back) e w = let none : ⊥ = cc in none
  not_refused _ e w = w

  -- a stage and the one without its ticket have the same progress
  pub progress_same : (s : Stage T A) → progress_of (clear_ticket s) ≡ progress_of s
  progress_same stage.Begun = refl
  progress_same stage.Tried = refl
  progress_same (stage.Parked t) = refl
  progress_same (stage.Refused t) = refl
  progress_same (stage.Answered a) = refl

  pub progress_by : (s r : Stage T A) → clear_ticket s ≡ clear_ticket r → progress_of s ≡ progress_of r
  progress_by s r e = sym (progress_same s) ∙ ap progress_of e ∙ progress_same r

module _ {T A : Type 0} (equal : T → T → Bool) where
  wrong_same : (own : Call T) (recorded : Option (Answer T A)) (s : Stage T A)
      → is_wrong equal own recorded (clear_ticket s) ≡ is_wrong equal own recorded s
  wrong_same own None s = refl
  wrong_same own (Some recorded) stage.Begun = refl
  wrong_same own (Some recorded) stage.Tried = refl
  wrong_same own (Some recorded) (stage.Parked t) = refl
  wrong_same own (Some recorded) (stage.Refused t) = refl
  wrong_same own (Some recorded) (stage.Answered a) = refl

  pub wrong_by : (own : Call T) (recorded : Option (Answer T A)) (s r : Stage T A) → clear_ticket s ≡ clear_ticket r
      → is_wrong equal own recorded s ≡ is_wrong equal own recorded r
  wrong_by own recorded s r e =
      sym (wrong_same own recorded s) ∙ ap (λ (x : Stage T A). is_wrong equal own recorded x) e ∙ wrong_same own recorded r

  -- a call that has come to a wrong answer
  pub wrong_answer : (events : List (Event T A)) (own : Call T) (recorded : Option (Answer T A)) (s : Stage T A)
      → is_wrong equal own recorded s ≡ true → IsWrong equal events (Some (own, s)) recorded
  wrong_answer events own None s e = absurd (let none : ⊥ = cc in none)
  wrong_answer events own (Some recorded) stage.Begun e = absurd (let none : ⊥ = cc in none)
  wrong_answer events own (Some recorded) stage.Tried e = absurd (let none : ⊥ = cc in none)
  wrong_answer events own (Some recorded) (stage.Parked t) e = absurd (let none : ⊥ = cc in none)
  wrong_answer events own (Some recorded) (stage.Refused t) e = absurd (let none : ⊥ = cc in none)
  wrong_answer events own (Some recorded) (stage.Answered a) e = (by_case (may_return equal own (stage.Answered a) recorded) e, (a, refl))
    where
      by_case : (b : Bool) → not b ≡ true → b ≡ false
      by_case true e = let none : ⊥ = cc in absurd none
      by_case false e = refl

-- what is so of each place of some receives
pub placed_all : (P : ℕ → Type 0) (rs : List ParkedReceive) → All P (map (λ r. r.place) rs) → All (λ r. P r.place) rs
placed_all P [] h = All-nil (λ r. P r.place)
placed_all P (r ∷ rs) h =
    All-cons (λ (r : ParkedReceive). P r.place) r rs (All-head P r.place (map (λ r. r.place) rs) h)
    (placed_all P rs (All-tail P r.place (map (λ r. r.place) rs) h))

-- who isn't parked by a step is parked as before
pub waits_on : {T : Type 0} (own : Call T) (p : Progress) (reply_by_place : PlaceReply) → parks reply_by_place ≡ false
    → stays_parked reply_by_place ≡ true → IsMet own reply_by_place p
    → is_parked p ≡ true
waits_on own p reply.Waiting off on met = ap is_parked met
waits_on own p reply.Pending off on met = absurd (let none : ⊥ = cc in none)
waits_on own p reply.Parked off on met = absurd (let none : ⊥ = cc in none)
waits_on own p _ off on met = absurd (let none : ⊥ = cc in none)

module _ {T A : Type 0} (equal : T → T → Bool) (events : List (Event T A)) where
  -- the call that moves is as its move needs it
  pub ready : (c : State) (t : ℕ) (one : OpenCall) (own : Call T) (mv : Move) (tickets : ℕ → ℕ) (next : ℕ)
      → All (IsOwn equal events c.calls) c.calls
      → call_at events one.place ≡ Some own → (one.progress ≡ progress.Refused → is_send own ≡ false)
      → call_by events t c.calls ≡ Some one → AreParked events tickets next c → IsAllowed own one.progress mv
      → IsReady mv tickets one.place c
  ready c t one own mv tickets next apart call_is refuses is_own parked_ may = by_move mv may
    where
      fresh : is_parked one.progress ≡ false → IsNew one.place c
      fresh off =
          let other : (p : ℕ) → parked_at c.calls p ≡ true → p ≢ one.place = λ p a e.
          let on : is_parked one.progress ≡ true =
          parked_self equal events t c.calls one apart is_own (subst (λ (n : ℕ). parked_at c.calls n ≡ true) e a) in
          (let none : ⊥ = cc in none) in
          record {
            not_blocked = All-weaker (λ p. parked_at c.calls p ≡ true) (λ p. p ≢ one.place) other c.blocked parked_.blocked_parked;
            not_parked = All-weaker (λ (r : ParkedReceive). parked_at c.calls r.place ≡ true) (λ r. r.place ≢ one.place)
                (λ r a. other r.place a) c.receives parked_.receives_parked;
          }

      alone : is_parked one.progress ≡ true → IsApart tickets one.place c
      alone on =
          let here = parked_there events t c.calls one is_own on in
          record {
            from_blocked = All-weaker (λ p. parked_at c.calls p ≡ true) (λ p. tickets p ≡ tickets one.place → p ≡ one.place)
                (λ p a e. parked_.tickets_apart p one.place a here e) c.blocked parked_.blocked_parked;
            from_parked = All-weaker (λ (r : ParkedReceive). parked_at c.calls r.place ≡ true)
                (λ r. tickets r.place ≡ tickets one.place → r.place ≡ one.place)
                (λ r a e. parked_.tickets_apart r.place one.place a here e) c.receives parked_.receives_parked;
          }

      sends_at : is_send_at events one.place ≡ is_send own
      sends_at = ap (λ (x : Option (Call T)). option_map_or is_send x false) call_is

      no_entry : is_send own ≡ true → All (λ r. r.place ≢ one.place) c.receives
      no_entry sends =
          All-weaker (λ (r : ParkedReceive). is_send_at events r.place ≡ false) (λ r. r.place ≢ one.place)
          (λ r a e. let both : is_send_at events one.place ≡ false = subst (λ (n : ℕ). is_send_at events n ≡ false) e a in
          let none : true ≡ false = sym sends ∙ sym sends_at ∙ both in (let no : ⊥ = cc in no)) c.receives parked_.receives_apart

      none_blocked : is_send own ≡ false → All (λ q. q ≢ one.place) c.blocked
      none_blocked sends =
          All-weaker (λ p. is_send_at events p ≡ true) (λ p. p ≢ one.place)
          (λ p a e. let both : is_send_at events one.place ≡ true = subst (λ (n : ℕ). is_send_at events n ≡ true) e a in
          let none : false ≡ true = sym sends ∙ sym sends_at ∙ both in (let no : ⊥ = cc in no)) c.blocked parked_.blocked_send

      by_move : (mv : Move) → IsAllowed own one.progress mv → IsReady mv tickets one.place c
      by_move move.PollSend h = (alone (ap is_parked h.0), no_entry h.1)
      by_move move.WithdrawSend h = (alone (ap is_parked h.0), no_entry h.1)
      by_move move.Poll h = (alone (ap is_parked h.0), none_blocked h.1)
      by_move move.Withdraw (inl h) = (alone (ap is_parked h.0), none_blocked h.1)
      by_move move.Withdraw (inr h) = (alone (ap is_parked h), none_blocked (refuses h))
      by_move move.Send h = fresh h.0
      by_move (move.Recv kind) h = fresh h.0
      by_move _ h = fresh h
