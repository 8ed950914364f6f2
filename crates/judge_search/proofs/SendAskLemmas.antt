-- The moves by which a parked send asks or leaves: they answer as their steps do.
use Rattle.std.proofs.Common.{◌≡◌, ◌⊎◌, inl, inr, ℕ, Bool, true, false, List, ◌++◌, map, Option, Some, None, refl, sym, ◌∙◌, ap}
use Rattle.std.proofs.Common.{subst}
use Rattle.std.specs.List.{All}
use Rattle.std.specs.Option.{option_map}
use Rattle.std.specs.FinMap.{get, remove}
use Rattle.std.proofs.lemmas.Bool.{cond_both}
use Rattle.flume_model.specs.declared.step.Step.{Step}
use Rattle.flume_model.specs.declared.step.Step.TheVariants as step
use Rattle.flume_model.specs.declared.step.Reply.TheVariants as own
use Rattle.flume_model.specs.Line.{is_live}
use Rattle.flume_model.specs.Log.{Log, Opening, Accepts, Withdraws, Stays, change}
use Rattle.flume_model.specs.Channel.{channel, has_ticket, IsAccepted, IsBlocked, IsPending}
use Rattle.flume_model.specs.Replies.{IsReply}
use Rattle.flume_state.specs.declared.sends.LiveSend.{LiveSend}
use Rattle.flume_state.specs.Due.{blocked_in}
use Rattle.flume_state.specs.State.{State as Channel, accepted_at, offers_of}
use Rattle.flume_core.specs.Represents.{Represents}
use Rattle.flume_core.proofs.AnsweringLemmas.{unknown, known, waits, closed_as}
use Rattle.flume_core.proofs.DrainLemmas.{apart_blocked}
use Rattle.flume_core.proofs.InvariantLemmas.{still}
use Rattle.flume_core.proofs.MoveLemmas.{accepts, withdraws}
use Rattle.flume_core.proofs.ViewLemmas.{open_at_log, closed_at_log, is_blocked as blocked_at_log}
use Rattle.flume_core.proofs.dues.TicketLemmas.{tickets_of}
use Rattle.judge_calls.specs.declared.event.Event.{Event}
use Rattle.judge_search.specs.declared.place_reply.PlaceReply.{PlaceReply}
use Rattle.judge_search.specs.declared.place_reply.PlaceReply.TheVariants as reply
use Rattle.judge_search.specs.declared.step_of.Move.TheVariants as move
use Rattle.judge_search.specs.Configurations.{State}
use Rattle.judge_search.specs.ByPlaces.{closed_now}
use Rattle.judge_search.specs.Outcomes.{outcome, is_blocked, take_back_outcome, poll_send_outcome, withdraw_send_outcome}
use Rattle.judge_search.specs.Mirrors.{Mirrors}
use Rattle.judge_search.proofs.MoveAnswers.{Answers, IsPlaceAfter}
use Rattle.judge_search.proofs.MoveAnswerLemmas.{MoveAnswers, IsReady}
use Rattle.judge_search.proofs.MirrorViewLemmas.{closed_same}
use Rattle.judge_search.proofs.LeftPlaceLemmas.{all_left, all_stay, none_of}
use Rattle.judge_search.proofs.BlockedPlaceLemmas.{has_ticket_some, placed_ticket, none_placed, is_found, left_offers, left_without}
use Rattle.judge_search.proofs.SendMoveLemmas.{closed_if, open_if}

-- a blocked send is live, and not accepted
blocked_live : {S : Type 0} (found : Option (LiveSend S)) → blocked_in found ≡ true → option_map (λ x. x.accepted) found ≡ Some false
blocked_live None is = absurd (let none : ⊥ = cc in none)
blocked_live (Some send) is = by send.accepted refl
  where
    by : (b : Bool) → send.accepted ≡ b → Some send.accepted ≡ Some false
    by false e = ap Some e
    by true e = absurd (let none : ⊥ = cc in none)

-- a send that isn't blocked is accepted, if it is live
accepted_live : {S : Type 0} (found : Option (LiveSend S)) → blocked_in found ≡ false
    → (option_map (λ x. x.accepted) found ≡ None) ⊎ (option_map (λ x. x.accepted) found ≡ Some true)
accepted_live None is = inl refl
accepted_live (Some send) is = by send.accepted refl
  where
    by : (b : Bool) → send.accepted ≡ b → (Some send.accepted ≡ None) ⊎ (Some send.accepted ≡ Some true)
    by true e = inr (ap Some e)
    by false e = absurd (let none : ⊥ = cc in none)

module _ {T A : Type 0} (events : List (Event T A)) (o : Opening) (log : Log T A) (s : Channel T (Unit {0})) (c : State) (tickets : ℕ → ℕ)
    (place : ℕ) (h : Represents o log s) (corresponds : Mirrors events tickets s c) (ready : IsReady move.PollSend tickets place c) where
  -- what answers a step of the call
  abbrev IsAnswered : Step T → PlaceReply × State → Type 0
  IsAnswered step a = Answers events o log tickets s c place step a.0 a.1

  -- a send is blocked by places as by tickets
  blocked_same : has_ticket (tickets place) (offers_of s.blocked) ≡ is_blocked place c
  blocked_same =
      sym (has_ticket_some (tickets place) (offers_of s.blocked)) ∙ sym (ap (has_ticket (tickets place)) corresponds.blocked_are)
      ∙ placed_ticket events tickets place c.blocked ready.0.from_blocked

  -- so it is by the live sends
  live_same : blocked_in (get s.sends (tickets place)) ≡ is_blocked place c
  live_same = (tickets_of s (o, log, h)).listed (tickets place) ∙ blocked_same

  -- a send that is blocked is live
  is_pending : is_blocked place c ≡ true → IsPending (channel o log) (tickets place)
  is_pending blocked_ = waits o log s (tickets place) h (blocked_live _ (live_same ∙ blocked_))

  -- a blocked send takes its message back
  answers_taken_back : (step : Step T) (closed : Bool) → is_blocked place c ≡ true → closed_now c ≡ closed
      → ((m : T) → IsBlocked (channel o log) (tickets place) m → IsReply {A = A} (channel o log) step (own.Returned m closed))
      → ((m : T) → change log step (own.Returned m closed) ≡ Withdraws (tickets place)) → IsAnswered step (take_back_outcome place c)
  answers_taken_back step closed blocked_ closed_is lawful changes =
      let at = is_found events tickets place c.blocked s.blocked corresponds.blocked_are blocked_ in
      let t = tickets place in
      let new_state = record s { blocked = at.before ++ at.later; sends = remove s.sends t } in
      record {
        reply = own.Returned at.message closed;
        corresponds = closed_is;
        state = new_state;
        represents = withdraws o log (step, own.Returned at.message closed) s new_state t at.message at.before at.later h
            (lawful at.message (blocked_at_log h t at.message at.before at.later at.found (is_pending blocked_).0))
            (changes at.message) at.found refl;
        mirrors = record {
          capacity_is = corresponds.capacity_is;
          senders_are = corresponds.senders_are;
          receivers_are = corresponds.receivers_are;
          queue_is = corresponds.queue_is;
          blocked_are = left_offers events tickets place c.blocked s.blocked at;
          receives_are = corresponds.receives_are;
        };
        blocked_after = left_without events tickets place (reply.Returned (closed_now c)) c.blocked s.blocked at
            (apart_blocked h at.before (record { ticket = t; message = at.message }) at.later at.found);
        receives_after = all_left (reply.Returned (closed_now c)) place (map (λ r. r.place) c.receives) (none_of place c.receives ready.1);
      }

  -- a send that isn't blocked was accepted, or isn't live
  answers_accepted : (step : Step T) → is_blocked place c ≡ false
      → (IsAccepted (channel o log) (tickets place) → IsReply {A = A} (channel o log) step own.Accepted)
      → (change {A = A} log step own.Accepted ≡ Accepts (tickets place))
      → (is_live log (tickets place) ≡ false → IsReply {A = A} (channel o log) step own.NoTicket)
      → (change {A = A} log step own.NoTicket ≡ Stays) → IsAnswered step (reply.Accepted, c)
  answers_accepted step unblocked accepted_ accepts_ gone stays = by (accepted_live _ (live_same ∙ unblocked))
    where
      blocked_kept : All (IsPlaceAfter reply.Pending reply.Accepted place c.blocked) c.blocked
      blocked_kept =
          all_left reply.Accepted place c.blocked
          (none_placed events tickets place c.blocked (placed_ticket events tickets place c.blocked ready.0.from_blocked ∙ unblocked))

      receives_kept : All (IsPlaceAfter reply.Parked reply.Accepted place (map (λ r. r.place) c.receives)) (map (λ r. r.place) c.receives)
      receives_kept = all_left reply.Accepted place (map (λ r. r.place) c.receives) (none_of place c.receives ready.1)

      by : (accepted_at s (tickets place) ≡ None) ⊎ (accepted_at s (tickets place) ≡ Some true) → IsAnswered step (reply.Accepted, c)
      by (inl none) = record {
        reply = own.NoTicket;
        corresponds = tt;
        state = s;
        represents = still o log (step, own.NoTicket) s s h (gone (unknown o log s (tickets place) h none)) stays refl;
        mirrors = corresponds;
        blocked_after = blocked_kept;
        receives_after = receives_kept;
      }
      by (inr known_) = record {
        reply = own.Accepted;
        corresponds = tt;
        state = record s { sends = remove s.sends (tickets place) };
        represents = accepts o log (step, own.Accepted) s (record s { sends = remove s.sends (tickets place) }) (tickets place) h
            (accepted_ (known o log s (tickets place) h known_)) accepts_ refl;
        mirrors = record {
          capacity_is = corresponds.capacity_is;
          senders_are = corresponds.senders_are;
          receivers_are = corresponds.receivers_are;
          queue_is = corresponds.queue_is;
          blocked_are = corresponds.blocked_are;
          receives_are = corresponds.receives_are;
        };
        blocked_after = blocked_kept;
        receives_after = receives_kept;
      }

  -- a blocked send of an open channel waits on
  answers_waiting : is_blocked place c ≡ true → closed_now c ≡ false → IsAnswered (step.PollSend (tickets place)) (reply.Waiting, c)
  answers_waiting blocked_ open_ = record {
    reply = own.Waiting;
    corresponds = tt;
    state = s;
    represents = still o log (step.PollSend (tickets place), own.Waiting) s s h
        (is_pending blocked_, open_at_log h (open_if _ _ (sym (closed_same events tickets s c corresponds) ∙ open_))) refl refl;
    mirrors = corresponds;
    blocked_after = all_stay reply.Waiting place c.blocked refl;
    receives_after = all_stay reply.Waiting place (map (λ r. r.place) c.receives) refl;
  }

  -- a parked send asks how it stands
  poll_send_answers : IsAnswered (step.PollSend (tickets place)) (poll_send_outcome place c)
  poll_send_answers =
      let t = tickets place in
      cond_both (is_blocked place c) _ _ (IsAnswered (step.PollSend t))
      (λ blocked_. cond_both (closed_now c) _ _ (IsAnswered (step.PollSend t))
      (λ shut. answers_taken_back (step.PollSend t) true blocked_ shut
      (λ m at. (at, closed_at_log h (closed_if _ _ (sym (closed_same events tickets s c corresponds) ∙ shut)), refl)) (λ m. refl))
      (λ open_. answers_waiting blocked_ open_))
      (λ unblocked. answers_accepted (step.PollSend t) unblocked (λ is. is) refl (λ none. none) refl)

  -- a parked send takes its message back
  withdraw_send_answers : IsAnswered (step.WithdrawSend (tickets place)) (withdraw_send_outcome place c)
  withdraw_send_answers =
      let t = tickets place in
      cond_both (is_blocked place c) _ _ (IsAnswered (step.WithdrawSend t))
      (λ blocked_. answers_taken_back (step.WithdrawSend t) (closed_now c) blocked_ refl
      (λ m at. (at, closed_same events tickets s c corresponds ∙ closed_as o log s h)) (λ m. refl))
      (λ unblocked. answers_accepted (step.WithdrawSend t) unblocked (λ is. is) refl (λ none. none) refl)

module _ {T A : Type 0} (events : List (Event T A)) where
  -- a parked send asks how it stands
  pub answers_poll_send : MoveAnswers events move.PollSend
  answers_poll_send o log s c tickets place call made_step given h corresponds is_call is_step ready lawful memory =
      let same : made_step ≡ step.PollSend (tickets place) = cc in
      subst (λ x. Answers events o log tickets s c place x (outcome move.PollSend place c).0 (outcome move.PollSend place c).1) (sym same)
      (poll_send_answers events o log s c tickets place h corresponds ready)

  -- a parked send takes its message back
  pub answers_withdraw_send : MoveAnswers events move.WithdrawSend
  answers_withdraw_send o log s c tickets place call made_step given h corresponds is_call is_step ready lawful memory =
      let same : made_step ≡ step.WithdrawSend (tickets place) = cc in
      subst (λ x. Answers events o log tickets s c place x (outcome move.WithdrawSend place c).0 (outcome move.WithdrawSend place c).1)
      (sym same)
      (withdraw_send_answers events o log s c tickets place h corresponds ready)
