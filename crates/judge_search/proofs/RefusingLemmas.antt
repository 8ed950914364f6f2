-- Where a refused move leads: the channel stays, and the call is as far as it is without memory.
use Rattle.std.proofs.Common.{◌≡◌, ◌≢◌, ◌⊎◌, inl, inr, ℕ, ◌+◌, ◌<◌, ◌≤◌, Bool, true, false, not, eqb, if◌then◌else◌, List, [], ◌∷◌, map}
use Rattle.std.proofs.Common.{Option, Some, None, refl, sym, ◌∙◌, ap, subst, eq-eqb, arith}
use Rattle.std.specs.List.{All, Contains}
use Rattle.std.proofs.lemmas.List.Elements.{All-weaker, All-contains, All-map, All-head, All-tail, All-nil, All-cons}
use Rattle.flume_model.specs.declared.step.Step.{Step}
use Rattle.flume_model.specs.declared.step.Reply.{Reply}
use Rattle.flume_model.specs.declared.step.Reply.TheVariants.{NoMemory, Drained}
use Rattle.flume_model.specs.Log.{Log, Opening, change}
use Rattle.flume_model.specs.Line.{tickets_issued}
use Rattle.flume_model.specs.Channel.{channel}
use Rattle.flume_model.specs.Replies.{IsReply, SameReply}
use Rattle.flume_state.specs.State.{State as Channel}
use Rattle.flume_core.specs.Represents.{Represents}
use Rattle.flume_history.specs.SameRuns.{IsNoMemory}
use Rattle.flume_history.proofs.OneBlockedLemmas.{one_blocked}
use Rattle.flume_history.proofs.OneReplyLemmas.{one_reply}
use Rattle.judge_calls.specs.declared.call.Call.{Call}
use Rattle.judge_calls.specs.declared.call.Answer.{Answer}
use Rattle.judge_calls.specs.declared.event.Event.{Event}
use Rattle.judge_calls.specs.declared.event.Item.{Item}
use Rattle.judge_calls.specs.declared.event.Item.TheVariants.{Makes}
use Rattle.judge_calls.specs.declared.stage.Stage.{Stage}
use Rattle.judge_calls.specs.declared.stage.Stage.TheVariants as stage
use Rattle.judge_calls.specs.Answers.{may_return}
use Rattle.judge_calls.specs.Calls.{stage_after}
use Rattle.judge_calls.specs.Explanations.{open_call, steps_in, after_reply}
use Rattle.judge_search.specs.declared.configuration.OpenCall.{OpenCall}
use Rattle.judge_search.specs.declared.configuration.ParkedReceive.{ParkedReceive}
use Rattle.judge_search.specs.declared.configuration.Progress.{Progress}
use Rattle.judge_search.specs.declared.configuration.Progress.TheVariants as progress
use Rattle.judge_search.specs.declared.place_reply.PlaceReply.{PlaceReply}
use Rattle.judge_search.specs.declared.place_reply.PlaceReply.TheVariants as reply
use Rattle.judge_search.specs.declared.step_of.Move.{Move}
use Rattle.judge_search.specs.declared.step_of.Move.TheVariants as move
use Rattle.judge_search.specs.Configurations.{State, calls_with_progress, is_parked, call_at, call_by, first_answer}
use Rattle.judge_search.specs.Outcomes.{outcome}
use Rattle.judge_search.specs.Mirrors.{Mirrors, Corresponds}
use Rattle.judge_search.proofs.MoveAnswers.{Answers, IsPlaceAfter, parks, stays_parked, tickets_after}
use Rattle.judge_search.specs.Agreement.{Agrees, AreParked, IsOwn, IsProgress, parked_at}
use Rattle.judge_search.specs.Moves.{move_of, is_refusal}
use Rattle.judge_search.specs.Leads.{IsMade, IsWrong}
use Rattle.judge_search.specs.Progresses.{progress_of, clear_ticket, is_wrong}
use Rattle.judge_search.proofs.MoveAnswerLemmas.{MoveAnswers, IsReady, IsNew, IsApart}
use Rattle.judge_search.proofs.CallListLemmas.{parked_self, parked_there}
use Rattle.judge_search.proofs.SameReplyLemmas.{stands_same}
use Rattle.judge_search.proofs.StageLemmas.{IsMet, alike_leads}
use Rattle.judge_search.proofs.ProgressLemmas.{progress_is, progress_after, parked_after}
use Rattle.judge_search.proofs.MoveFactLemmas.{IsAllowed, allowed, move_for, step_move, may_answer, made_may, met_by_move, parking_issues}
use Rattle.judge_search.proofs.ParkingLemmas.{IsLeftParked, tickets_if, ticket_kept, parked_if}
use Rattle.judge_search.proofs.AgreeingLemmas.{agrees_after}
use Rattle.judge_search.proofs.AnsweringLemmas.{same_alike, had_memory, not_refused, progress_by, wrong_by, wrong_answer, placed_all}
use Rattle.judge_search.proofs.AnsweringLemmas.{waits_on, ready}
use Rattle.judge_search.proofs.SteppingLemmas.{wrong_step, mirrors_calls}
use Rattle.judge_search.proofs.RefusalLemmas.{IsRefused, refused_may, refused_stays, refused_leads}
use Rattle.judge_search.proofs.ProgressLemmas.{has_ticket, progress_right}
use Rattle.flume_core.proofs.InvariantLemmas.{still}
use Rattle.judge_search.specs.Configurations.{with_progress}
use Rattle.judge_search.proofs.MoveAnswers.{may_refuse}
use Rattle.judge_search.proofs.CallListLemmas.{differ}
use Rattle.std.proofs.Common.{eqb-true}

module _ {T A : Type 0} (equal : T → T → Bool) (events : List (Event T A))
    (c : State) (rest : List (Event T A)) (t : ℕ) (one : OpenCall) (own : Call T) (mv : Move) (other : Bool)
    (o : Opening) (past : List (Item T A)) (step : Step T) (reply : Reply T A)
    (h : IsMade equal events c rest t one own mv true o past step reply) (chosen : move_of own one.progress other ≡ Some mv) where
  is_for : move_for step ≡ mv
  is_for = step_move own (h.agrees.tickets one.place) mv step h.step_is

  stage_so : progress_of h.stage ≡ one.progress
  stage_so = progress_is equal events own (first_answer t rest) (h.agrees.tickets one.place) one.progress h.stage h.progress_is

  may_so : IsAllowed own (progress_of h.stage) (move_for step)
  may_so =
      subst (λ (m : Move). IsAllowed own (progress_of h.stage) m) (sym is_for)
      (subst (λ (p : Progress). IsAllowed own p mv) (sym stage_so) (allowed own one.progress other mv chosen))

  refused : IsRefused own h.stage reply
  refused = refused_leads (channel o (steps_in past)) own h.stage step reply h.refused_is h.lawful may_so

  -- the move is one that may be refused
  pub is_refusable : may_refuse mv ≡ true
  is_refusable = ap may_refuse (sym is_for) ∙ refused_may A (channel o (steps_in past)) step reply h.refused_is h.lawful

  -- the stage that it leads to, and how far the call is then
  abbrev pub refused_stage : Stage T A
  refused_stage = stage_after own (clear_ticket h.stage) (NoMemory None)

  -- how far the call is after this reply
  abbrev q : Progress
  q = progress_of (stage_after own h.stage reply)

  q_so : q ≡ progress_of refused_stage
  q_so = progress_by (stage_after own h.stage reply) refused_stage refused.leads

  parks_so : is_parked q ≡ is_parked one.progress
  parks_so = refused.parks ∙ ap is_parked stage_so

  left_parked : (p : ℕ) → parked_at c.calls p ≡ true → IsLeftParked c.calls one.place q p
  left_parked p there = by_case (eqb p one.place) refl
    where
      by_case : (b : Bool) → eqb p one.place ≡ b → IsLeftParked c.calls one.place q p
      by_case true is =
          let at : p ≡ one.place = eqb-true p one.place is in
          inr (
            at,
            parks_so ∙ parked_self equal events t c.calls one h.agrees.threads_apart h.is_own
                (subst (λ (n : ℕ). parked_at c.calls n ≡ true) at there),
          )
      by_case false is = inl (differ p one.place is, there)

  pub refused_agrees : is_wrong equal own (first_answer t rest) refused_stage ≡ false
      → Agrees equal events o (Makes t step reply ∷ past) rest (with_progress one.place (progress_of refused_stage) c)
  refused_agrees right =
      subst (λ (p : Progress). Agrees equal events o (Makes t step reply ∷ past) rest (with_progress one.place p c)) q_so
      (agrees_after equal events o past rest c (with_progress one.place q c) t one own h.stage step reply q h.agrees.tickets h.agrees.state
      h.agrees h.is_own h.call_is h.is_open refl (λ p differs. refl)
      (progress_right equal events own (first_answer t rest) (h.agrees.tickets one.place) (stage_after own h.stage reply)
      (refused.ticket (h.agrees.tickets one.place)
      (has_ticket equal events own (first_answer t rest) (h.agrees.tickets one.place) one.progress h.stage h.progress_is))
      (wrong_by equal own (first_answer t rest) (stage_after own h.stage reply) refused_stage refused.leads ∙ right))
      (still o (steps_in past) (step, reply) h.agrees.state h.agrees.state h.agrees.represents h.lawful
      (refused_stays (steps_in past) step reply h.refused_is) refl)
      (mirrors_calls events h.agrees.tickets h.agrees.state c (calls_with_progress one.place q c.calls) h.agrees.channel)
      (parked_if events c (with_progress one.place q c) t one q h.is_own refl h.agrees.tickets h.agrees.state.next_ticket
      h.agrees.state.next_ticket
      h.agrees.parked (omega arith) false (λ e. absurd (let none : ⊥ = cc in none)) (λ off on. sym parks_so ∙ on)
      (All-weaker (λ p. parked_at c.calls p ≡ true) (IsLeftParked c.calls one.place q) left_parked c.blocked h.agrees.parked.blocked_parked)
      (All-weaker (λ (r : ParkedReceive). parked_at c.calls r.place ≡ true) (λ r. IsLeftParked c.calls one.place q r.place)
      (λ r a. left_parked r.place a) c.receives h.agrees.parked.receives_parked) h.agrees.parked.blocked_send
      h.agrees.parked.receives_apart))

  pub refused_wrong : is_wrong equal own (first_answer t rest) refused_stage ≡ true
      → IsWrong equal events (open_call (Makes t step reply ∷ past) t) (first_answer t rest)
  refused_wrong wrong =
      wrong_step equal events o past rest t own h.stage step reply h.is_open
      (wrong_by equal own (first_answer t rest) (stage_after own h.stage reply) refused_stage refused.leads ∙ wrong)
