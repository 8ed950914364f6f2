-- A parked receive that leaves answers as the channel does.
use Rattle.std.proofs.Common.{◌≡◌, ◌≢◌, ℕ, Bool, true, false, List, [], ◌∷◌, Option, Some, None, inl, inr}
use Rattle.std.proofs.Common.{refl, ◌∙◌, ap, subst}
use Rattle.std.specs.List.{All}
use Rattle.flume_model.specs.declared.step.Kind.{Kind}
use Rattle.flume_model.specs.declared.step.Kind.TheVariants.{Block, Plain, Stream, Arm}
use Rattle.flume_model.specs.declared.step.Step.TheVariants.{Withdraw}
use Rattle.flume_model.specs.declared.step.Reply.TheVariants as own
use Rattle.flume_model.specs.declared.entry.Mark.{Mark}
use Rattle.flume_model.specs.Entries.{entry_of, held_by, held_in, passes_on, is_woken, leave_fills}
use Rattle.flume_model.specs.Limits.{is_closed}
use Rattle.flume_model.specs.Log.{Log, Opening}
use Rattle.flume_state.specs.declared.entries.ReceiverStatus.{ReceiverStatus}
use Rattle.flume_state.specs.declared.entries.ReceiverStatus.TheVariants.{BlockWaiting, BlockWoken}
use Rattle.flume_state.specs.declared.entries.ReceiverStatus.TheVariants.{Waiting as IsWaiting}
use Rattle.flume_state.specs.declared.entries.ReceiverStatus.TheVariants.{Woken as IsWoken}
use Rattle.flume_state.specs.Receivers.{receiver_status, status_by, is_unfilled_block}
use Rattle.flume_state.specs.State.{State as Channel}
use Rattle.flume_state.specs.Effects.{without_receiver, after_withdrawal}
use Rattle.flume_core.specs.Represents.{Represents}
use Rattle.flume_core.proofs.AskLemmas.{withdraw_none, withdraw_collects, withdraw_takes, withdraw_leaves}
use Rattle.flume_core.proofs.AskLemmas.{withdraw_passes}
use Rattle.judge_calls.specs.declared.event.Event.{Event}
use Rattle.judge_search.specs.declared.configuration.ParkedReceive.{ParkedReceive}
use Rattle.judge_search.specs.declared.configuration.Status.{Status}
use Rattle.judge_search.specs.declared.configuration.Status.TheVariants as status
use Rattle.judge_search.specs.declared.place_reply.PlaceReply.TheVariants as reply
use Rattle.judge_search.specs.declared.step_of.Move.TheVariants as move
use Rattle.judge_search.specs.Configurations.{State}
use Rattle.judge_search.specs.ByPlaces.{closed_now, with_front, without_receive, leave, wake}
use Rattle.judge_search.specs.ByPlaces.{passes_on as passes_on_here}
use Rattle.judge_search.specs.Receives.{receive_at, without_place}
use Rattle.judge_search.specs.Outcomes.{ReplyAndState, outcome, receive_outcome_from, leaves_with, withdraw_outcome_as}
use Rattle.judge_search.specs.Outcomes.{withdraw_outcome_by}
use Rattle.judge_search.specs.Mirrors.{Mirrors, mark_of, some_mark}
use Rattle.judge_search.proofs.MoveAnswers.{Answers, IsPlaceAfter}
use Rattle.judge_search.proofs.MoveAnswerLemmas.{MoveAnswers, IsApart}
use Rattle.judge_search.proofs.MirrorViewLemmas.{closed_same}
use Rattle.judge_search.proofs.MirrorTakeLemmas.{mirror_empty}
use Rattle.judge_search.proofs.MirrorWakeLemmas.{mirror_wake}
use Rattle.judge_search.proofs.MirrorReceiveLemmas.{waiting_mark, woken_mark, filled_mark, stands_none, stands_as}
use Rattle.judge_search.proofs.MirrorReceiveLemmas.{mirror_without, others_elsewhere}
use Rattle.judge_search.proofs.LeftPlaceLemmas.{all_left, round_with_places}
use Rattle.judge_search.proofs.LeftReceiveLemmas.{places, left_others, without_among}
use Rattle.judge_search.proofs.PollMoveLemmas.{leaves, leaves_got, gone}

module _ {T A : Type 0} (events : List (Event T A)) (o : Opening) (log : Log T A) (s : Channel T (Unit {0})) (c : State) (tickets : ℕ → ℕ)
    (place : ℕ) (h : Represents o log s) (mirrors : Mirrors events tickets s c) (apart : IsApart tickets place c)
    (unblocked : All (λ q. q ≢ place) c.blocked) where
  -- a receive that leaves is answered so
  abbrev Withdrawn : ReplyAndState → Type 0
  Withdrawn answer = Answers events o log tickets s c place (Withdraw (tickets place)) answer.0 answer.1

  -- one that stands so, and blocks, leaves with the front of the line, or with no message
  blocking : (st : ReceiverStatus) → receiver_status (tickets place) s.entries ≡ Some st → is_unfilled_block (Some st) ≡ true
      → Withdrawn (leaves_with place
      (receive_outcome_from (with_front c).queue (reply.Gone (closed_now c), without_receive place c) c))
  blocking st is blocks_ = go (with_front c).queue refl
    where
      go : (queue : List ℕ) → (with_front c).queue ≡ queue
          → Withdrawn (leaves_with place (receive_outcome_from queue (reply.Gone (closed_now c), without_receive place c) c))
      go [] front =
          leaves events o log s c tickets place h mirrors apart unblocked (Withdraw (tickets place)) (reply.Gone (closed_now c))
          (own.Gone (is_closed s.senders s.receivers) None) refl (closed_same events tickets s c mirrors)
          (withdraw_leaves o log s _ (tickets place) st _ h is blocks_ (mirror_empty events tickets s c mirrors front) refl refl)
      go (p ∷ later) front =
          leaves_got events o log s c tickets place h mirrors apart unblocked (Withdraw (tickets place)) p later front
          (λ m rest after at after_is. withdraw_takes o log s after (tickets place) st m rest h is blocks_ at after_is)

  -- one that doesn't block leaves, and passes its wake on if it has one
  departs : (woken : Bool) → passes_on_here (receive_at place c.receives) ≡ woken → passes_on (entry_of (tickets place) s.entries) ≡ woken
      → Represents o ((
        Withdraw (tickets place),
        own.Gone (is_closed s.senders s.receivers)
            (leave_fills (tickets place) s.queue s.entries),
      ) ∷ log) (after_withdrawal (tickets place) s)
      → Withdrawn (reply.Gone (closed_now c), leave place c)
  departs woken here there represents = record {
    reply = own.Gone (is_closed s.senders s.receivers) (leave_fills (tickets place) s.queue s.entries);
    corresponds = closed_same events tickets s c mirrors;
    state = after_withdrawal (tickets place) s;
    represents = represents;
    mirrors = mirror_leave woken here there;
    blocked_after = left_blocked woken here;
    receives_after = left_receives woken here;
  }
    where
      alone : Mirrors events tickets (without_receiver (tickets place) s) (without_receive place c)
      alone = mirror_without events tickets s c place mirrors apart.from_parked

      mirror_leave : (b : Bool) → passes_on_here (receive_at place c.receives) ≡ b → passes_on (entry_of (tickets place) s.entries) ≡ b
          → Mirrors events tickets (after_withdrawal (tickets place) s) (leave place c)
      mirror_leave true a e = rw (a, e) (mirror_wake events tickets _ _ alone)
      mirror_leave false a e = rw (a, e) alone

      left_blocked : (b : Bool) → passes_on_here (receive_at place c.receives) ≡ b
          → All (IsPlaceAfter reply.Pending (reply.Gone (closed_now c)) place c.blocked) (leave place c).blocked
      left_blocked true a = rw a (all_left (reply.Gone (closed_now c)) place c.blocked unblocked)
      left_blocked false a = rw a (all_left (reply.Gone (closed_now c)) place c.blocked unblocked)

      others : All (IsPlaceAfter reply.Parked (reply.Gone (closed_now c)) place (places c.receives))
          (places (without_place place c.receives))
      others =
          left_others (reply.Gone (closed_now c)) place (places c.receives) _ (without_among place c.receives)
          (others_elsewhere events tickets s c place mirrors apart.from_parked o log h)

      left_receives : (b : Bool) → passes_on_here (receive_at place c.receives) ≡ b
          → All (IsPlaceAfter reply.Parked (reply.Gone (closed_now c)) place (places c.receives)) (places (leave place c).receives)
      left_receives true a = rw (a, round_with_places c.queue (without_place place c.receives)) others
      left_receives false a = rw a others

  -- one that waits, and doesn't block
  waiting : (k : Kind) (q : ℕ) (m : Mark T) → mark_of events status.Waiting ≡ some_mark m
      → passes_on (entry_of (tickets place) s.entries) ≡ is_woken m
      → receive_at place c.receives ≡ Some (record { place = q; kind = k; status = status.Waiting })
      → receiver_status (tickets place) s.entries ≡ Some IsWaiting → Withdrawn (reply.Gone (closed_now c), leave place c)
  waiting k q m marked passes found is =
      departs false (ap passes_on_here found) (passes ∙ ap is_woken (waiting_mark events m marked))
      (withdraw_passes o log s _ (tickets place) IsWaiting _ _ h is (inl refl) refl refl refl)

  -- one that was woken, and doesn't block
  woken : (k : Kind) (q : ℕ) (m : Mark T) → mark_of events status.Woken ≡ some_mark m
      → passes_on (entry_of (tickets place) s.entries) ≡ is_woken m
      → receive_at place c.receives ≡ Some (record { place = q; kind = k; status = status.Woken })
      → receiver_status (tickets place) s.entries ≡ Some IsWoken → Withdrawn (reply.Gone (closed_now c), leave place c)
  woken k q m marked passes found is =
      departs true (ap passes_on_here found) (passes ∙ ap is_woken (woken_mark events m marked))
      (withdraw_passes o log s _ (tickets place) IsWoken _ _ h is (inr refl) refl refl refl)

  -- one with this mark leaves
  withdraws : (k : Kind) (st : Status) (q : ℕ) (m : Mark T) → mark_of events st ≡ some_mark m
      → receiver_status (tickets place) s.entries ≡ Some (status_by k m) → held_by (entry_of (tickets place) s.entries) ≡ held_in m
      → passes_on (entry_of (tickets place) s.entries) ≡ is_woken m
      → receive_at place c.receives ≡ Some (record { place = q; kind = k; status = st }) → Withdrawn (withdraw_outcome_as place k st c)
  withdraws k (status.Filled p) q m marked is held passes found =
      let filled = filled_mark events p m marked in
      leaves events o log s c tickets place h mirrors apart unblocked (Withdraw (tickets place)) (reply.Got p) (own.Got filled.0) refl
      filled.2
      (withdraw_collects o log s _ (tickets place) (own.Got filled.0) h (is ∙ ap (λ x. Some (status_by k x)) filled.1)
      (filled.0, held ∙ ap held_in filled.1, refl) refl)
  withdraws Block status.Waiting q m marked is held passes found =
      blocking BlockWaiting (is ∙ ap (λ x. Some (status_by Block x)) (waiting_mark events m marked)) refl
  withdraws Block status.Woken q m marked is held passes found =
      blocking BlockWoken (is ∙ ap (λ x. Some (status_by Block x)) (woken_mark events m marked)) refl
  withdraws Plain status.Waiting q m marked is held passes found =
      waiting Plain q m marked passes found (is ∙ ap (λ x. Some (status_by Plain x)) (waiting_mark events m marked))
  withdraws Stream status.Waiting q m marked is held passes found =
      waiting Stream q m marked passes found (is ∙ ap (λ x. Some (status_by Stream x)) (waiting_mark events m marked))
  withdraws Arm status.Waiting q m marked is held passes found =
      waiting Arm q m marked passes found (is ∙ ap (λ x. Some (status_by Arm x)) (waiting_mark events m marked))
  withdraws Plain status.Woken q m marked is held passes found =
      woken Plain q m marked passes found (is ∙ ap (λ x. Some (status_by Plain x)) (woken_mark events m marked))
  withdraws Stream status.Woken q m marked is held passes found =
      woken Stream q m marked passes found (is ∙ ap (λ x. Some (status_by Stream x)) (woken_mark events m marked))
  withdraws Arm status.Woken q m marked is held passes found =
      woken Arm q m marked passes found (is ∙ ap (λ x. Some (status_by Arm x)) (woken_mark events m marked))

  -- it leaves
  leaving : Withdrawn (outcome move.Withdraw place c)
  leaving = go (receive_at place c.receives) refl
    where
      go : (found : Option ParkedReceive) → receive_at place c.receives ≡ found → Withdrawn (withdraw_outcome_by place found c)
      go None none =
          gone events o log s c tickets place h mirrors apart unblocked (Withdraw (tickets place)) none
          (withdraw_none o log s s (tickets place) h (stands_none events tickets s c place mirrors apart.from_parked none) refl)
      go (Some r) found =
          let own_entry = stands_as events tickets s c place mirrors apart.from_parked r found in
          withdraws r.kind r.status r.place own_entry.marked own_entry.is own_entry.represents own_entry.held own_entry.passes found

module _ {T A : Type 0} (events : List (Event T A)) where
  -- a parked receive leaves
  pub answers_withdraw : MoveAnswers events move.Withdraw
  answers_withdraw o log s c tickets place call step given h mirrors at is ready lawful granted =
      let step_is : Withdraw (tickets place) ≡ step = cc in
      subst (λ x. Answers events o log tickets s c place x (outcome move.Withdraw place c).0 (outcome move.Withdraw place c).1) step_is
      (leaving events o log s c tickets place h mirrors ready.0 ready.1)
