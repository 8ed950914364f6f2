-- Where a move leads that isn't refused: the configuration that it leaves agrees with its step, or the call has come to a wrong
-- answer.
use Rattle.std.proofs.Common.{◌≡◌, ◌≢◌, ◌⊎◌, inl, inr, ℕ, ◌+◌, ◌<◌, ◌≤◌, Bool, true, false, not, eqb, if◌then◌else◌, List, [], ◌∷◌, map}
use Rattle.std.proofs.Common.{Option, Some, None, refl, sym, ◌∙◌, ap, subst, eq-eqb, arith}
use Rattle.std.specs.List.{All, Contains}
use Rattle.std.proofs.lemmas.List.Elements.{All-weaker, All-contains, All-map, All-head, All-tail, All-nil, All-cons}
use Rattle.flume_model.specs.declared.step.Step.{Step}
use Rattle.flume_model.specs.declared.step.Reply.{Reply}
use Rattle.flume_model.specs.declared.step.Reply.TheVariants.{NoMemory, Drained}
use Rattle.flume_model.specs.Log.{Log, Opening, change}
use Rattle.flume_model.specs.Line.{tickets_issued}
use Rattle.flume_model.specs.Channel.{channel}
use Rattle.flume_model.specs.Replies.{IsReply, SameReply}
use Rattle.flume_state.specs.State.{State as Channel}
use Rattle.flume_core.specs.Represents.{Represents}
use Rattle.flume_history.specs.SameRuns.{IsNoMemory}
use Rattle.flume_history.proofs.OneBlockedLemmas.{one_blocked}
use Rattle.flume_history.proofs.OneReplyLemmas.{one_reply}
use Rattle.judge_calls.specs.declared.call.Call.{Call}
use Rattle.judge_calls.specs.declared.call.Answer.{Answer}
use Rattle.judge_calls.specs.declared.event.Event.{Event}
use Rattle.judge_calls.specs.declared.event.Item.{Item}
use Rattle.judge_calls.specs.declared.event.Item.TheVariants.{Makes}
use Rattle.judge_calls.specs.declared.stage.Stage.{Stage}
use Rattle.judge_calls.specs.declared.stage.Stage.TheVariants as stage
use Rattle.judge_calls.specs.Answers.{may_return}
use Rattle.judge_calls.specs.Calls.{is_send, stage_after}
use Rattle.std.specs.Option.{option_map_or}
use Rattle.judge_calls.specs.Explanations.{open_call, steps_in, after_reply}
use Rattle.judge_search.specs.declared.configuration.OpenCall.{OpenCall}
use Rattle.judge_search.specs.declared.configuration.ParkedReceive.{ParkedReceive}
use Rattle.judge_search.specs.declared.configuration.Progress.{Progress}
use Rattle.judge_search.specs.declared.configuration.Progress.TheVariants as progress
use Rattle.judge_search.specs.declared.place_reply.PlaceReply.{PlaceReply}
use Rattle.judge_search.specs.declared.place_reply.PlaceReply.TheVariants.{Pending, Parked}
use Rattle.judge_search.specs.declared.step_of.Move.{Move}
use Rattle.judge_search.specs.declared.step_of.Move.TheVariants as move
use Rattle.judge_search.specs.Configurations.{State, calls_with_progress, is_parked, call_at, call_by, first_answer}
use Rattle.judge_search.specs.Outcomes.{outcome}
use Rattle.judge_search.specs.Mirrors.{Mirrors, Corresponds}
use Rattle.judge_search.proofs.MoveAnswers.{Answers, IsPlaceAfter, parks, stays_parked, tickets_after}
use Rattle.judge_search.specs.Agreement.{Agrees, AreParked, IsOwn, IsProgress, parked_at, is_send_at}
use Rattle.judge_search.specs.Moves.{move_of, is_refusal}
use Rattle.judge_search.specs.Leads.{IsMade, IsWrong}
use Rattle.judge_search.specs.Progresses.{progress_of, clear_ticket, is_wrong}
use Rattle.judge_search.proofs.MoveAnswerLemmas.{MoveAnswers, IsReady, IsNew, IsApart}
use Rattle.judge_search.proofs.CallListLemmas.{differ}
use Rattle.std.proofs.Common.{eqb-true}
use Rattle.judge_search.proofs.SameReplyLemmas.{stands_same}
use Rattle.judge_search.proofs.StageLemmas.{IsMet, alike_leads}
use Rattle.judge_search.proofs.ProgressLemmas.{progress_is, progress_after, parked_after, refused_receives}
use Rattle.judge_search.proofs.MoveFactLemmas.{IsAllowed, allowed, move_for, step_move, may_answer, made_may, met_by_move, parking_issues}
use Rattle.judge_search.proofs.MoveFactLemmas.{send_joins, receive_joins}
use Rattle.judge_search.proofs.ParkingLemmas.{IsLeftParked, tickets_if, ticket_kept, parked_if}
use Rattle.judge_search.proofs.AgreeingLemmas.{agrees_after}
use Rattle.judge_search.proofs.AnsweringLemmas.{same_alike, had_memory, not_refused, progress_by, wrong_by, wrong_answer, placed_all}
use Rattle.judge_search.proofs.AnsweringLemmas.{waits_on, ready}

-- the open calls say nothing of the channel
pub mirrors_calls : {T A : Type 0} (events : List (Event T A)) (tickets : ℕ → ℕ) (s : Channel T (Unit {0})) (c : State)
    (calls : List OpenCall)
    → Mirrors events tickets s c → Mirrors events tickets s (record c { calls = calls })
mirrors_calls events tickets s c calls h =
    record {
      capacity_is = h.capacity_is;
      senders_are = h.senders_are;
      receivers_are = h.receivers_are;
      queue_is = h.queue_is;
      blocked_are = h.blocked_are;
      receives_are = h.receives_are;
    }

-- a step after which the call has a wrong answer
pub wrong_step : {T A : Type 0} (equal : T → T → Bool) (events : List (Event T A)) (o : Opening) (past : List (Item T A))
    (rest : List (Event T A))
    (t : ℕ) (own : Call T) (s : Stage T A) (step : Step T) (reply : Reply T A) → open_call past t ≡ Some (own, s)
    → is_wrong equal own (first_answer t rest) (stage_after own s reply) ≡ true
    → IsWrong equal events (open_call (Makes t step reply ∷ past) t) (first_answer t rest)
wrong_step equal events o past rest t own s step reply opened wrong =
    let now : open_call (Makes t step reply ∷ past) t ≡ Some (own, stage_after own s reply) =
    ap (λ b. if b then after_reply reply (open_call past t) else open_call past t) (eq-eqb t t refl) ∙ ap (after_reply reply) opened in
    subst (λ current. IsWrong equal events current (first_answer t rest)) (sym now)
    (wrong_answer equal events own (first_answer t rest) (stage_after own s reply) wrong)

module _ {T A : Type 0} (equal : T → T → Bool) (events : List (Event T A)) (answers : (mv : Move) → MoveAnswers events mv)
    (c : State) (rest : List (Event T A)) (t : ℕ) (one : OpenCall) (own : Call T) (mv : Move) (other : Bool)
    (o : Opening) (past : List (Item T A)) (step : Step T) (reply : Reply T A)
    (h : IsMade equal events c rest t one own mv false o past step reply) (chosen : move_of own one.progress other ≡ Some mv) where
  -- how the move is answered
  abbrev reply_by_place : PlaceReply
  reply_by_place = (outcome mv one.place c).0

  -- what it leaves of the configuration
  abbrev left : State
  left = (outcome mv one.place c).1

  may : IsAllowed own one.progress mv
  may = allowed own one.progress other mv chosen

  stage_so : progress_of h.stage ≡ one.progress
  stage_so = progress_is equal events own (first_answer t rest) (h.agrees.tickets one.place) one.progress h.stage h.progress_is

  refuses : one.progress ≡ progress.Refused → is_send own ≡ false
  refuses e =
      refused_receives equal events own (first_answer t rest) (h.agrees.tickets one.place) h.stage
      (subst (λ (p : Progress). IsProgress equal events own (first_answer t rest) (h.agrees.tickets one.place) p h.stage) e h.progress_is)

  answered : Answers events o (steps_in past) h.agrees.tickets h.agrees.state c one.place step reply_by_place left
  answered =
      answers mv o (steps_in past) h.agrees.state c h.agrees.tickets one.place own step reply h.agrees.represents h.agrees.channel h.call_is
      h.step_is
      (ready equal events c t one own mv h.agrees.tickets h.agrees.state.next_ticket h.agrees.threads_apart h.call_is refuses h.is_own
      h.agrees.parked may)
      h.lawful h.refused_is

  -- it is answered so
  same : SameReply answered.reply reply
  same =
      one_reply (channel o (steps_in past)) (one_blocked o (steps_in past) h.agrees.represents.run) step answered.reply reply
      answered.represents.run.0 h.lawful
      (had_memory events h.agrees.state.next_ticket c.queue reply_by_place answered.reply answered.corresponds)
      (not_refused reply h.refused_is)

  corresponds : Corresponds events h.agrees.state.next_ticket c.queue reply_by_place reply
  corresponds = same_alike events h.agrees.state.next_ticket c.queue reply_by_place answered.reply reply same answered.corresponds

  represents : Represents o ((step, reply) ∷ steps_in past) answered.state
  represents = stands_same o (steps_in past) step answered.reply reply answered.state same h.lawful answered.represents

  is_for : move_for step ≡ mv
  is_for = step_move own (h.agrees.tickets one.place) mv step h.step_is

  met : IsMet own reply_by_place one.progress
  met = met_by_move own one.progress mv reply_by_place may (made_may mv one.place c)

  met_stage : IsMet own reply_by_place (progress_of h.stage)
  met_stage = subst (λ (p : Progress). IsMet own reply_by_place p) (sym stage_so) met

  -- whether the call is parked after it
  parks_after : is_parked (progress_of (stage_after own h.stage reply)) ≡ stays_parked reply_by_place
  parks_after = parked_after equal events own h.agrees.state.next_ticket c.queue h.stage reply_by_place reply corresponds met_stage

  -- the next ticket
  next_after : answered.state.next_ticket ≡ h.agrees.state.next_ticket + tickets_issued (change (steps_in past) step reply)
  next_after = represents.next_is ∙ ap (λ n. n + tickets_issued (change (steps_in past) step reply)) (sym h.agrees.represents.next_is)

  -- who is left in the channel
  left_parked : (joins : PlaceReply) → stays_parked joins ≡ true → (p : ℕ) (before : List ℕ) → All (λ q. parked_at c.calls q ≡ true) before
      → IsPlaceAfter joins reply_by_place one.place before p
      → IsLeftParked c.calls one.place (progress_of (stage_after own h.stage reply)) p
  left_parked joins stays p before all (inl (has, inl differs)) =
      inl (differs, All-contains (λ q. parked_at c.calls q ≡ true) before p all has)
  left_parked joins stays p before all (inl (has, inr on)) = by_case (eqb p one.place) refl
    where
      by_case : (b : Bool) → eqb p one.place ≡ b → IsLeftParked c.calls one.place (progress_of (stage_after own h.stage reply)) p
      by_case true is = inr (eqb-true p one.place is, parks_after ∙ on)
      by_case false is = inl (differ p one.place is, All-contains (λ q. parked_at c.calls q ≡ true) before p all has)
  left_parked joins stays p before all (inr k) = inr (k.0, parks_after ∙ ap stays_parked k.1 ∙ stays)

  sends_at : is_send_at events one.place ≡ is_send own
  sends_at = ap (λ (x : Option (Call T)). option_map_or is_send x false) h.call_is

  may_told : (joins : PlaceReply) → reply_by_place ≡ joins → may_answer mv joins ≡ true
  may_told joins e = ap (may_answer mv) (sym e) ∙ made_may mv one.place c

  left_sends : (p : ℕ) → IsPlaceAfter Pending reply_by_place one.place c.blocked p → is_send_at events p ≡ true
  left_sends p (inl k) = All-contains (λ q. is_send_at events q ≡ true) c.blocked p h.agrees.parked.blocked_send k.0
  left_sends p (inr k) = ap (is_send_at events) k.0 ∙ sends_at ∙ send_joins own one.progress mv may (may_told Pending k.1)

  left_others : (p : ℕ) → IsPlaceAfter Parked reply_by_place one.place (map (λ r. r.place) c.receives) p → is_send_at events p ≡ false
  left_others p (inl k) =
      All-contains (λ q. is_send_at events q ≡ false) (map (λ r. r.place) c.receives) p
      (All-map (λ p. is_send_at events p ≡ false) (λ (r : ParkedReceive). r.place) c.receives h.agrees.parked.receives_apart) k.0
  left_others p (inr k) = ap (is_send_at events) k.0 ∙ sends_at ∙ receive_joins own one.progress mv may (may_told Parked k.1)

  -- a reply that is alike by places leads a stage as far that differs by its ticket
  module _ (n : ℕ) (found : Reply T A) (is_alike : Corresponds events n c.queue reply_by_place found) where
    -- the stage that it leads to
    abbrev after : Stage T A
    after = stage_after own (clear_ticket h.stage) found

    as_far : clear_ticket (stage_after own h.stage reply) ≡ clear_ticket after
    as_far = alike_leads events own h.agrees.state.next_ticket n c.queue reply_by_place reply found corresponds is_alike h.stage met_stage

    -- the configuration that the move leaves
    abbrev pub new_state : State
    new_state = record left { calls = calls_with_progress one.place (progress_of after) c.calls }

    pub move_leads : is_wrong equal own (first_answer t rest) after ≡ false
        → Agrees equal events o (Makes t step reply ∷ past) rest new_state
    move_leads right =
        let so : progress_of (stage_after own h.stage reply) ≡ progress_of after =
        progress_by (stage_after own h.stage reply) after as_far in
        let e : is_wrong equal own (first_answer t rest) (stage_after own h.stage reply) ≡ false =
        wrong_by equal own (first_answer t rest) (stage_after own h.stage reply) after as_far ∙ right in
        subst (λ (q : Progress). Agrees equal events o (Makes t step reply ∷ past) rest
        (record left { calls = calls_with_progress one.place q c.calls })) so
        (leads e)
      where
        q : Progress
        q = progress_of (stage_after own h.stage reply)

        leads : is_wrong equal own (first_answer t rest) (stage_after own h.stage reply) ≡ false
            → Agrees equal events o (Makes t step reply ∷ past) rest (record left { calls = calls_with_progress one.place q c.calls })
        leads e =
            agrees_after equal events o past rest c (record left { calls = calls_with_progress one.place q c.calls }) t one own h.stage
            step reply q
            (tickets_after reply_by_place one.place h.agrees.state.next_ticket h.agrees.tickets) answered.state h.agrees h.is_own h.call_is
            h.is_open refl
            (λ p differs. ticket_kept (parks reply_by_place) one.place h.agrees.state.next_ticket h.agrees.tickets p differs)
            (progress_after equal events own (first_answer t rest) one.place h.agrees.state.next_ticket h.agrees.tickets c.queue
            one.progress
            h.stage
            reply_by_place reply corresponds h.progress_is e)
            represents (mirrors_calls events (tickets_after reply_by_place one.place h.agrees.state.next_ticket h.agrees.tickets)
            answered.state
            left
            (calls_with_progress one.place q c.calls) answered.mirrors)
            (parked_if events c (record left { calls = calls_with_progress one.place q c.calls }) t one q h.is_own refl h.agrees.tickets
            h.agrees.state.next_ticket answered.state.next_ticket h.agrees.parked (let more = next_after in omega arith)
            (parks reply_by_place) less as_before blocks
            receives_
            (All-weaker (IsPlaceAfter Pending reply_by_place one.place c.blocked) (λ p. is_send_at events p ≡ true) left_sends left.blocked
            answered.blocked_after)
            (placed_all (λ p. is_send_at events p ≡ false) left.receives
            (All-weaker (IsPlaceAfter Parked reply_by_place one.place (map (λ r. r.place) c.receives))
            (λ p. is_send_at events p ≡ false) left_others
            (map (λ r. r.place) left.receives) answered.receives_after)))
          where
            less : parks reply_by_place ≡ true → h.agrees.state.next_ticket < answered.state.next_ticket
            less parking =
                let one_more = parking_issues (steps_in past) step reply_by_place events h.agrees.state.next_ticket c.queue reply
                corresponds
                parking
                (subst (λ (m : Move). may_answer m reply_by_place ≡ true) (sym is_for) (made_may mv one.place c)) in
                let more = next_after in omega arith

            as_before : parks reply_by_place ≡ false → is_parked q ≡ true → is_parked one.progress ≡ true
            as_before off on = waits_on own one.progress reply_by_place off (sym parks_after ∙ on) met

            blocks : All (IsLeftParked c.calls one.place q) left.blocked
            blocks =
                All-weaker (IsPlaceAfter Pending reply_by_place one.place c.blocked) (IsLeftParked c.calls one.place q)
                (λ p k. left_parked Pending refl p c.blocked h.agrees.parked.blocked_parked k) left.blocked answered.blocked_after

            receives_ : All (λ r. IsLeftParked c.calls one.place q r.place) left.receives
            receives_ =
                placed_all (IsLeftParked c.calls one.place q) left.receives
                (All-weaker (IsPlaceAfter Parked reply_by_place one.place (map (λ r. r.place) c.receives))
                (IsLeftParked c.calls one.place q)
                (λ p k. left_parked Parked refl p (map (λ r. r.place) c.receives) (All-map (λ p. parked_at c.calls p ≡ true)
                (λ (r : ParkedReceive). r.place)
                c.receives h.agrees.parked.receives_parked) k) (map (λ r. r.place) left.receives) answered.receives_after)

    pub move_wrong : is_wrong equal own (first_answer t rest) after ≡ true
        → IsWrong equal events (open_call (Makes t step reply ∷ past) t) (first_answer t rest)
    move_wrong wrong =
        let e : is_wrong equal own (first_answer t rest) (stage_after own h.stage reply) ≡ true =
        wrong_by equal own (first_answer t rest) (stage_after own h.stage reply) after as_far ∙ wrong in
        wrong_step equal events o past rest t own h.stage step reply h.is_open e
