-- The moves by which a message is offered: they answer as their steps do.
use Rattle.std.proofs.Common.{◌≡◌, ◌⊎◌, inl, inr, ◌<◌, ◌+◌, ℕ, true, false, not, ◌&&◌, List, [], ◌∷◌, ◌++◌, map, length, arith}
use Rattle.std.proofs.Common.{Option, Some, None, refl, sym, ◌∙◌, ap, ap₂, eqb-true, subst}
use Rattle.std.specs.Option.{option_map, option_and_then}
use Rattle.std.proofs.lemmas.Bool.{cond_both, cond-false, eqb-false, and_parts, and_cases, not-true, not-false, leb-true, leb-false}
use Rattle.std.proofs.lemmas.List.{map_push}
use Rattle.std.proofs.lemmas.List.Elements.{All-same}
use Rattle.flume_model.specs.declared.step.Step.{Step}
use Rattle.flume_model.specs.declared.step.Step.TheVariants as step
use Rattle.flume_model.specs.declared.step.Reply.{Reply}
use Rattle.flume_model.specs.declared.step.Reply.TheVariants as own
use Rattle.flume_model.specs.Limits.{IsOpen, IsClosed, IsAtCapacity, HasRoom, is_closed, is_full, most}
use Rattle.flume_model.specs.Log.{Log, Opening, Queues, Stays, change}
use Rattle.flume_model.specs.Channel.{channel, TakesIn, TakesNoneIn}
use Rattle.flume_model.specs.Entries.{some_wait, round_fills, round_for_fills}
use Rattle.flume_model.specs.Parked.{entries}
use Rattle.flume_model.specs.Replies.{IsReply}
use Rattle.flume_state.specs.State.{State as Channel, offers_of}
use Rattle.flume_state.specs.Sends.{newly_blocked as blocked_send}
use Rattle.flume_state.specs.Effects.{after_wake_round}
use Rattle.std.specs.FinMap.{insert}
use Rattle.flume_core.specs.Represents.{Represents}
use Rattle.flume_core.proofs.AnsweringLemmas.{takes_in, takes_none_in, fills_at_log}
use Rattle.flume_core.proofs.InvariantLemmas.{still}
use Rattle.flume_core.proofs.MoveLemmas.{queues, blocks}
use Rattle.flume_core.proofs.ViewLemmas.{closed_at_log, room_or_full}
use Rattle.judge_calls.specs.declared.event.Event.{Event}
use Rattle.judge_calls.specs.Calls.{message_of}
use Rattle.judge_search.specs.declared.place_reply.PlaceReply.{PlaceReply}
use Rattle.judge_search.specs.declared.place_reply.PlaceReply.TheVariants as reply
use Rattle.judge_search.specs.declared.step_of.Move.TheVariants as move
use Rattle.judge_search.specs.Configurations.{State, message_at}
use Rattle.judge_search.specs.ByPlaces.{closed_now, full_now, some_waits, push}
use Rattle.judge_search.specs.Outcomes.{outcome, send_outcome}
use Rattle.judge_search.specs.Mirrors.{Mirrors, offer_for, some_offer, Corresponds}
use Rattle.judge_search.proofs.MoveAnswers.{Answers, with_ticket, parks, IsPlaceAfter}
use Rattle.judge_search.specs.Moves.{is_refusal}
use Rattle.judge_search.proofs.MoveAnswerLemmas.{MoveAnswers, IsNew}
use Rattle.judge_search.proofs.MirrorViewLemmas.{closed_same, full_same, waits_same}
use Rattle.judge_search.proofs.MirrorWakeLemmas.{mirror_wake}
use Rattle.judge_search.proofs.LeftPlaceLemmas.{all_left, one_joins, none_of, round_with_places, ticketed_itself, offers_kept}
use Rattle.judge_search.proofs.LeftPlaceLemmas.{entries_kept}

-- a step that sends a message sends the one that is there
sends : {T : Type 0} {S : Type 0} (f : T → S) (found : Option T) (s : S) → option_map f found ≡ Some s
    → (m : T) × (found ≡ Some m) × (s ≡ f m)
sends f None s is = absurd (let none : ⊥ = cc in none)
sends f (Some m) s is = (m, refl, (let same : s ≡ f m = cc in same))

-- the numbers of ends, if the channel is closed
pub closed_if : (n m : ℕ) → is_closed n m ≡ true → IsClosed n m
closed_if n m is = eqb-true _ 0 is

-- the numbers of ends, if it is open
pub open_if : (n m : ℕ) → is_closed n m ≡ false → IsOpen n m
open_if n m is = let some = eqb-false _ 0 is in omega (arith, some)

-- the capacity, if the queue is full
full_if : (capacity : Option ℕ) (n : ℕ) → is_full capacity n ≡ true → IsAtCapacity capacity n
full_if None n is = absurd (let none : ⊥ = cc in none)
full_if (Some most) n is = leb-true most n is

-- the capacity, if the queue isn't full
room_if : (capacity : Option ℕ) (n : ℕ) → is_full capacity n ≡ false → HasRoom capacity n
room_if None n is = tt
room_if (Some most) n is = leb-false most n is

module _ {T A : Type 0} (events : List (Event T A)) (tickets : ℕ → ℕ) where
  -- one more message is queued
  mirror_push : (s : Channel T (Unit {0})) (c : State) (place : ℕ) (m : T) → Mirrors events tickets s c → message_at events place ≡ Some m
      → Mirrors events tickets (record s { queue = s.queue ++ m ∷ [] }) (record c { queue = c.queue ++ place ∷ [] })
  mirror_push s c place m h sent = record {
    capacity_is = h.capacity_is;
    senders_are = h.senders_are;
    receivers_are = h.receivers_are;
    queue_is = map_push (message_at events) c.queue place ∙ ap₂ (λ l x. l ++ x ∷ []) h.queue_is sent ∙ sym (map_push Some s.queue m);
    blocked_are = h.blocked_are;
    receives_are = h.receives_are;
  }

  -- one more send is blocked, under a new ticket
  mirror_block : (s : Channel T (Unit {0})) (c : State) (place : ℕ) (m : T) → Mirrors events tickets s c → message_at events place ≡ Some m
      → IsNew place c
      → Mirrors events (with_ticket place s.next_ticket tickets) (record s {
        blocked = s.blocked ++ record { ticket = s.next_ticket; message = m } ∷ [];
        sends = insert s.sends s.next_ticket (blocked_send tt);
        next_ticket = s.next_ticket + 1;
      }) (record c { blocked = c.blocked ++ place ∷ [] })
  mirror_block s c place m h sent new =
      let own_ticket = ticketed_itself place s.next_ticket tickets in
      record {
        capacity_is = h.capacity_is;
        senders_are = h.senders_are;
        receivers_are = h.receivers_are;
        queue_is = h.queue_is;
        blocked_are = map_push (offer_for events (with_ticket place s.next_ticket tickets)) c.blocked place
            ∙ ap₂ (λ l x. l ++ x ∷ []) (offers_kept events place s.next_ticket tickets c.blocked new.not_blocked ∙ h.blocked_are)
            (ap₂ (λ x t. record { message = x; ticket = Some t }) sent own_ticket)
            ∙ sym (map_push some_offer (offers_of s.blocked) (record { message = m; ticket = Some s.next_ticket }))
            ∙ sym (ap (map some_offer) (map_push _ s.blocked (record { ticket = s.next_ticket; message = m })));
        receives_are = entries_kept events place s.next_ticket tickets c.receives new.not_parked ∙ h.receives_are;
      }

module _ {T A : Type 0} (events : List (Event T A)) (o : Opening) (log : Log T A) (s : Channel T (Unit {0})) (c : State) (tickets : ℕ → ℕ)
    (place : ℕ) (h : Represents o log s) (corresponds : Mirrors events tickets s c) (new : IsNew place c) where
  -- what answers a step of the call
  abbrev IsAnswered : Step T → PlaceReply × State → Type 0
  IsAnswered step a = Answers events o log tickets s c place step a.0 a.1

  -- nothing changes
  pub answers_unchanged : (step : Step T) (reply_by_place : PlaceReply) (back : Reply T A) → parks reply_by_place ≡ false
      → Corresponds events s.next_ticket c.queue reply_by_place back
      → IsReply (channel o log) step back → change log step back ≡ Stays → IsAnswered step (reply_by_place, c)
  answers_unchanged step reply_by_place back none alike_ lawful stays = record {
    reply = back;
    corresponds = alike_;
    state = s;
    represents = still o log (step, back) s s h lawful stays refl;
    mirrors = subst (λ ts. Mirrors events ts s c)
        (sym (cond-false (parks reply_by_place) (with_ticket place s.next_ticket tickets) tickets none)) corresponds;
    blocked_after = all_left reply_by_place place c.blocked new.not_blocked;
    receives_after = all_left reply_by_place place (map (λ r. r.place) c.receives) (none_of place c.receives new.not_parked);
  }

  -- a message is offered: the channel is closed, or there is no room, or it is taken in
  offered_answers : (step : Step T) (m : T) (no_room : PlaceReply × State) → message_at events place ≡ Some m
      → (IsClosed s.senders s.receivers → IsAnswered step (reply.Closed, c))
      → (TakesNoneIn (channel o log) → IsAnswered step no_room)
      → ((filled : Option ℕ) → TakesIn (channel o log) → filled ≡ round_fills (entries o log)
      → IsReply {A = A} (channel o log) step (own.Sent filled))
      → ((filled : Option ℕ) → change log step (own.Sent filled) ≡ Queues m filled)
      → IsAnswered step (send_outcome no_room place c)
  offered_answers step m no_room sent shut none_in lawful changes =
      cond_both (closed_now c) _ _ (IsAnswered step) (λ closed. shut (closed_if _ _ (sym (closed_same events tickets s c corresponds)
      ∙ closed)))
      (λ open_. cond_both (not (some_waits c.receives) && full_now c) _ _ (IsAnswered step)
      (λ full. none_in (no_room_now (open_now open_) (and_parts _ _ full)))
      (λ room. joins (open_now open_) (and_cases _ _ room)))
    where
      open_now : closed_now c ≡ false → IsOpen s.senders s.receivers
      open_now open_ = open_if _ _ (sym (closed_same events tickets s c corresponds) ∙ open_)

      no_room_now : IsOpen s.senders s.receivers → (not (some_waits c.receives) ≡ true) × (full_now c ≡ true) → TakesNoneIn (channel o log)
      no_room_now open_ full =
          takes_none_in h open_ (sym (waits_same events tickets s c corresponds) ∙ not-true _ full.0)
          (full_if _ _ (sym (full_same events tickets s c corresponds) ∙ full.1))

      joins : IsOpen s.senders s.receivers → (not (some_waits c.receives) ≡ false) ⊎ (full_now c ≡ false)
          → IsAnswered step (reply.Sent, push place c)
      joins open_ room =
          let filled = round_for_fills (s.queue ++ m ∷ []) s.entries in
          let fills = fills_at_log h m in
          record {
            reply = own.Sent filled;
            corresponds = tt;
            state = after_wake_round (record s { queue = s.queue ++ m ∷ [] });
            represents = queues o log (step, own.Sent filled) s (after_wake_round (record s { queue = s.queue ++ m ∷ [] })) m filled
                s.space h
                (lawful filled (takes_in h open_ (has_room room)) fills) (changes filled) refl refl;
            mirrors = mirror_wake events tickets (record s { queue = s.queue ++ m ∷ [] }) (record c { queue = c.queue ++ place ∷ [] })
                (mirror_push events tickets s c place m corresponds sent);
            blocked_after = all_left reply.Sent place c.blocked new.not_blocked;
            receives_after = All-same (IsPlaceAfter reply.Parked reply.Sent place (map (λ r. r.place) c.receives)) _ _
                (round_with_places (c.queue ++ place ∷ []) c.receives)
                (all_left reply.Sent place (map (λ r. r.place) c.receives) (none_of place c.receives new.not_parked));
          }
        where
          has_room : (not (some_waits c.receives) ≡ false) ⊎ (full_now c ≡ false) → some_wait s.entries ≡ false
              → HasRoom s.capacity (length s.queue)
          has_room (inl some) none =
              let waits : some_waits c.receives ≡ true = not-false _ some in
              let same = waits_same events tickets s c corresponds in
              absurd (let never : ⊥ = cc in never)
          has_room (inr room) none = room_if _ _ (sym (full_same events tickets s c corresponds) ∙ room)

  -- there is no room, so the message comes back
  answers_full : (m : T) → TakesNoneIn (channel o log) → IsAnswered (step.TrySend m) (reply.Full, c)
  answers_full m none_in = answers_unchanged (step.TrySend m) reply.Full (own.Full m) refl tt (none_in, refl) refl

  -- there is no room, so the send is blocked
  answers_pending : (m : T) → message_at events place ≡ Some m → s.next_ticket < most → TakesNoneIn (channel o log)
      → IsAnswered (step.Send m) (reply.Pending, record c { blocked = c.blocked ++ place ∷ [] })
  answers_pending m sent left none_in =
      let new_state = record s {
        blocked = s.blocked ++ record { ticket = s.next_ticket; message = m } ∷ [];
        sends = insert s.sends s.next_ticket (blocked_send tt);
        next_ticket = s.next_ticket + 1;
      } in
      record {
        reply = own.Pending s.next_ticket;
        corresponds = refl;
        state = new_state;
        represents = blocks o log (step.Send m, own.Pending s.next_ticket) s new_state m tt s.space h
            (none_in, omega (arith, h.next_is, left), h.next_is) refl refl;
        mirrors = mirror_block events tickets s c place m corresponds sent new;
        blocked_after = one_joins reply.Pending place c.blocked new.not_blocked;
        receives_after = all_left reply.Pending place (map (λ r. r.place) c.receives) (none_of place c.receives new.not_parked);
      }

  -- if a channel that takes no send in answers one without a want, a ticket is left
  ticket_left : (m : T) (given : Reply T A) → IsReply (channel o log) (step.Send m) given → is_refusal given ≡ false
      → TakesNoneIn (channel o log) → s.next_ticket < most
  ticket_left m (own.Sent filled) lawful memory none_in =
      absurd (room_or_full _ _ (lawful.0.1 none_in.1) none_in.2)
  ticket_left m (own.Pending t) lawful memory none_in = let left = lawful.1 in omega (arith, h.next_is, left)
  ticket_left m (own.Closed back) lawful memory none_in =
      let open_ = none_in.0 in let shut = lawful.0 in absurd (omega (arith, open_, shut))
  ticket_left m (own.NoMemory back) lawful memory none_in = absurd (let never : ⊥ = cc in never)
  ticket_left m (own.Spent back) lawful memory none_in = absurd (let never : ⊥ = cc in never)
  ticket_left m _ lawful memory none_in = absurd lawful

  -- a send that doesn't wait
  try_send_answers : (m : T) → message_at events place ≡ Some m → IsAnswered (step.TrySend m) (send_outcome (reply.Full, c) place c)
  try_send_answers m sent =
      offered_answers (step.TrySend m) m (reply.Full, c) sent
      (λ shut. answers_unchanged (step.TrySend m) reply.Closed (own.Closed m) refl tt (closed_at_log h shut, refl) refl) (answers_full m)
      (λ filled takes fills. (takes, fills)) (λ filled. refl)

  -- a send that may be blocked
  send_answers : (m : T) (given : Reply T A) → message_at events place ≡ Some m → IsReply (channel o log) (step.Send m) given
      → is_refusal given ≡ false
      → IsAnswered (step.Send m) (send_outcome (reply.Pending, record c { blocked = c.blocked ++ place ∷ [] }) place c)
  send_answers m given sent lawful memory =
      offered_answers (step.Send m) m _ sent
      (λ shut. answers_unchanged (step.Send m) reply.Closed (own.Closed m) refl tt (closed_at_log h shut, refl) refl)
      (λ none_in. answers_pending m sent (ticket_left m given lawful memory none_in) none_in)
      (λ filled takes fills. (takes, fills)) (λ filled. refl)

module _ {T A : Type 0} (events : List (Event T A)) where
  -- a send that doesn't wait
  pub answers_try_send : MoveAnswers events move.TrySend
  answers_try_send o log s c tickets place call made_step given h corresponds is_call is_step ready lawful memory =
      let sent = sends step.TrySend (message_of call) made_step is_step in
      subst (λ x. Answers events o log tickets s c place x (outcome move.TrySend place c).0 (outcome move.TrySend place c).1) (sym sent.2)
      (try_send_answers events o log s c tickets place h corresponds ready sent.0 (ap (option_and_then message_of) is_call ∙ sent.1))

  -- a send that may be blocked
  pub answers_send : MoveAnswers events move.Send
  answers_send o log s c tickets place call made_step given h corresponds is_call is_step ready lawful memory =
      let sent = sends step.Send (message_of call) made_step is_step in
      subst (λ x. Answers events o log tickets s c place x (outcome move.Send place c).0 (outcome move.Send place c).1) (sym sent.2)
      (send_answers events o log s c tickets place h corresponds ready sent.0 given (ap (option_and_then message_of) is_call ∙ sent.1)
      (subst (λ x. IsReply (channel o log) x given) sent.2 lawful) memory)
