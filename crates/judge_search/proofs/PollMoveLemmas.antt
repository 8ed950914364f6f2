-- A parked receive that asks answers as the channel does.
use Rattle.std.proofs.Common.{◌≡◌, ◌≢◌, ℕ, Bool, true, false, if◌then◌else◌, List, [], ◌∷◌, Option, Some}
use Rattle.std.proofs.Common.{None, refl, sym, ◌∙◌, ap, subst}
use Rattle.std.specs.List.{All}
use Rattle.flume_model.specs.declared.step.Kind.{Kind}
use Rattle.flume_model.specs.declared.step.Kind.TheVariants.{Block, Plain, Stream, Arm}
use Rattle.flume_model.specs.declared.step.Step.{Step}
use Rattle.flume_model.specs.declared.step.Step.TheVariants.{Poll}
use Rattle.flume_model.specs.declared.step.Reply.{Reply}
use Rattle.flume_model.specs.declared.step.Reply.TheVariants as own
use Rattle.flume_model.specs.declared.entry.Mark.{Mark}
use Rattle.flume_model.specs.Entries.{entry_of, again, held_by, held_in}
use Rattle.flume_model.specs.Log.{Log, Opening}
use Rattle.flume_state.specs.declared.entries.ReceiverStatus.{ReceiverStatus}
use Rattle.flume_state.specs.declared.entries.ReceiverStatus.TheVariants.{BlockWoken}
use Rattle.flume_state.specs.declared.entries.ReceiverStatus.TheVariants.{Waiting as IsWaiting}
use Rattle.flume_state.specs.declared.entries.ReceiverStatus.TheVariants.{Woken as IsWoken}
use Rattle.flume_state.specs.Notices.{no_longer_due}
use Rattle.flume_state.specs.Receivers.{receiver_status, status_by, looks_at_line, with_receiver_notice}
use Rattle.flume_state.specs.State.{State as Channel}
use Rattle.flume_state.specs.Effects.{without_receiver, with_peak, after_take}
use Rattle.flume_state.specs.Effects.{with_front as with_front_there}
use Rattle.flume_core.specs.Represents.{Represents}
use Rattle.flume_core.proofs.AskLemmas.{poll_none, poll_collects, poll_waits, poll_takes, poll_ends}
use Rattle.flume_core.proofs.AskLemmas.{poll_waits_on}
use Rattle.judge_calls.specs.declared.event.Event.{Event}
use Rattle.judge_search.specs.declared.configuration.ParkedReceive.{ParkedReceive}
use Rattle.judge_search.specs.declared.configuration.Status.{Status}
use Rattle.judge_search.specs.declared.configuration.Status.TheVariants as status
use Rattle.judge_search.specs.declared.place_reply.PlaceReply.{PlaceReply}
use Rattle.judge_search.specs.declared.place_reply.PlaceReply.TheVariants as reply
use Rattle.judge_search.specs.declared.step_of.Move.TheVariants as move
use Rattle.judge_search.specs.Configurations.{State}
use Rattle.judge_search.specs.ByPlaces.{closed_now, with_front, take_leaving, without_receive, ask_again}
use Rattle.judge_search.specs.ByPlaces.{again_as}
use Rattle.judge_search.specs.Receives.{receive_at}
use Rattle.judge_search.specs.Outcomes.{ReplyAndState, outcome, receive_outcome_from, poll_line_outcome, leaves_with, poll_outcome_as}
use Rattle.judge_search.specs.Outcomes.{poll_outcome_by}
use Rattle.judge_search.specs.Mirrors.{Mirrors, Corresponds, mark_of, some_mark}
use Rattle.judge_search.proofs.MoveAnswers.{Answers, IsPlaceAfter, tickets_after}
use Rattle.judge_search.proofs.MoveAnswerLemmas.{MoveAnswers, IsApart}
use Rattle.judge_search.proofs.MirrorViewLemmas.{closed_same}
use Rattle.judge_search.proofs.MirrorTakeLemmas.{mirror_take, mirror_empty}
use Rattle.judge_search.proofs.MirrorReceiveLemmas.{waiting_mark, woken_mark, filled_mark, stands_none, stands_as}
use Rattle.judge_search.proofs.MirrorReceiveLemmas.{mirror_without, mirror_again}
use Rattle.judge_search.proofs.MirrorReceiveLemmas.{others_elsewhere}
use Rattle.judge_search.proofs.LeftPlaceLemmas.{all_left}
use Rattle.judge_search.proofs.LeftReceiveLemmas.{places, absent, left_others, left_parked, taken_blocked}
use Rattle.judge_search.proofs.LeftReceiveLemmas.{taken_receives, without_among, again_among}
use Rattle.judge_search.proofs.SendMoveLemmas.{closed_if, open_if}

module _ {T A : Type 0} (events : List (Event T A)) (o : Opening) (log : Log T A) (s : Channel T (Unit {0})) (c : State) (tickets : ℕ → ℕ)
    (place : ℕ) (h : Represents o log s) (mirrors : Mirrors events tickets s c) (apart : IsApart tickets place c)
    (unblocked : All (λ q. q ≢ place) c.blocked) where
  -- a parked receive is answered so
  abbrev Polled : ReplyAndState → Type 0
  Polled answer = Answers events o log tickets s c place (Poll (tickets place)) answer.0 answer.1

  -- it is parked no more
  pub leaves : (step : Step T) (reply_by_place : PlaceReply) (r : Reply T A)
      → tickets_after reply_by_place place s.next_ticket tickets ≡ tickets
      → Corresponds events s.next_ticket c.queue reply_by_place r → Represents o ((step, r) ∷ log) (without_receiver (tickets place) s)
      → Answers events o log tickets s c place step reply_by_place (without_receive place c)
  leaves step reply_by_place r kept corresponds represents = record {
    reply = r;
    corresponds = corresponds;
    state = without_receiver (tickets place) s;
    represents = represents;
    mirrors = rw kept (mirror_without events tickets s c place mirrors apart.from_parked);
    blocked_after = all_left reply_by_place place c.blocked unblocked;
    receives_after = left_others reply_by_place place (places c.receives) _ (without_among place c.receives)
        (others_elsewhere events tickets s c place mirrors apart.from_parked o log h);
  }

  -- it leaves with the front of the line
  pub leaves_got : (step : Step T) (p : ℕ) (later : List ℕ) → (with_front c).queue ≡ p ∷ later
      → ((m : T) (rest : List T) (after : Channel T (Unit {0})) → (with_front_there s).queue ≡ m ∷ rest
      → after ≡ without_receiver (tickets place) (after_take rest s) → Represents o ((step, own.Got m) ∷ log) after)
      → Answers events o log tickets s c place step (reply.Got p) (without_receive place (take_leaving later c))
  leaves_got step p later front leads =
      let taken = mirror_take events tickets s c p later mirrors front in
      let same = taken_receives later c in
      record {
        reply = own.Got taken.0;
        corresponds = taken.3;
        state = without_receiver (tickets place) (after_take taken.1 s);
        represents = leads taken.0 taken.1 _ taken.2 refl;
        mirrors = mirror_without events tickets (after_take taken.1 s) (take_leaving later c) place taken.4
            (rw same apart.from_parked);
        blocked_after = taken_blocked (IsPlaceAfter reply.Pending (reply.Got p) place c.blocked) later c
            (all_left (reply.Got p) place c.blocked unblocked);
        receives_after = rw same
            (left_others (reply.Got p) place (places c.receives) _ (without_among place c.receives)
            (others_elsewhere events tickets s c place mirrors apart.from_parked o log h));
      }

  -- it waits on
  waits_on : Represents o ((Poll (tickets place), own.Waiting) ∷ log)
      (with_peak (again (tickets place) (with_receiver_notice no_longer_due (tickets place) s.entries)) s)
      → Polled (reply.Waiting, ask_again place c)
  waits_on represents = record {
    reply = own.Waiting;
    corresponds = tt;
    state = _;
    represents = represents;
    mirrors = mirror_again events tickets s c place mirrors apart.from_parked no_longer_due;
    blocked_after = all_left reply.Waiting place c.blocked unblocked;
    receives_after = left_parked reply.Waiting place (places c.receives) _ refl (again_among place c.receives);
  }

  -- one that stands so asks by looking at the line
  looking : (st : ReceiverStatus) → receiver_status (tickets place) s.entries ≡ Some st → looks_at_line (Some st) ≡ true
      → Polled (leaves_with place (poll_line_outcome place c))
  looking st is look = go (with_front c).queue refl
    where
      none : (with_front_there s).queue ≡ [] → (b : Bool) → closed_now c ≡ b
          → Polled (leaves_with place (if b then (reply.Ended, without_receive place c) else (reply.Waiting, ask_again place c)))
      none empty true closed =
          leaves (Poll (tickets place)) reply.Ended own.Ended refl tt
          (poll_ends o log s _ (tickets place) st h is look empty
          (closed_if s.senders s.receivers (sym (closed_same events tickets s c mirrors) ∙ closed)) refl)
      none empty false open_ =
          waits_on (poll_waits_on o log s _ (tickets place) st no_longer_due h is look empty
          (open_if s.senders s.receivers (sym (closed_same events tickets s c mirrors) ∙ open_)) refl)

      go : (queue : List ℕ) → (with_front c).queue ≡ queue
          → Polled (leaves_with place (receive_outcome_from queue
          (if closed_now c then (reply.Ended, without_receive place c) else (reply.Waiting, ask_again place c)) c))
      go [] front = none (mirror_empty events tickets s c mirrors front) (closed_now c) refl
      go (p ∷ later) front =
          leaves_got (Poll (tickets place)) p later front
          (λ m rest after at after_is. poll_takes o log s after (tickets place) st m rest h is look at after_is)

  -- one with this mark asks
  asks : (k : Kind) (st : Status) (q : ℕ) (m : Mark T) → mark_of events st ≡ some_mark m
      → receiver_status (tickets place) s.entries ≡ Some (status_by k m) → held_by (entry_of (tickets place) s.entries) ≡ held_in m
      → receive_at place c.receives ≡ Some (record { place = q; kind = k; status = st }) → Polled (poll_outcome_as place k st c)
  asks k (status.Filled p) q m marked is held found =
      let filled = filled_mark events p m marked in
      leaves (Poll (tickets place)) (reply.Got p) (own.Got filled.0) refl filled.2
      (poll_collects o log s _ (tickets place) (own.Got filled.0) h (is ∙ ap (λ x. Some (status_by k x)) filled.1)
      (filled.0, held ∙ ap held_in filled.1, refl) refl)
  asks Block status.Waiting q m marked is held found =
      let represents = is ∙ ap (λ x. Some (status_by Block x)) (waiting_mark events m marked) in
      let same : ask_again place c ≡ c =
      ap (λ r. record c { receives = again_as place r c.receives }) found in
      subst (λ x. Polled (reply.Waiting, x)) same
      (waits_on (poll_waits o log s _ (tickets place) no_longer_due h represents refl))
  asks Plain status.Waiting q m marked is held found =
      looking IsWaiting (is ∙ ap (λ x. Some (status_by Plain x)) (waiting_mark events m marked)) refl
  asks Stream status.Waiting q m marked is held found =
      looking IsWaiting (is ∙ ap (λ x. Some (status_by Stream x)) (waiting_mark events m marked)) refl
  asks Arm status.Waiting q m marked is held found =
      looking IsWaiting (is ∙ ap (λ x. Some (status_by Arm x)) (waiting_mark events m marked)) refl
  asks Block status.Woken q m marked is held found =
      looking BlockWoken (is ∙ ap (λ x. Some (status_by Block x)) (woken_mark events m marked)) refl
  asks Plain status.Woken q m marked is held found =
      looking IsWoken (is ∙ ap (λ x. Some (status_by Plain x)) (woken_mark events m marked)) refl
  asks Stream status.Woken q m marked is held found =
      looking IsWoken (is ∙ ap (λ x. Some (status_by Stream x)) (woken_mark events m marked)) refl
  asks Arm status.Woken q m marked is held found =
      looking IsWoken (is ∙ ap (λ x. Some (status_by Arm x)) (woken_mark events m marked)) refl

  -- nobody is parked at the place
  pub gone : (step : Step T) → receive_at place c.receives ≡ None → Represents o ((step, own.NoTicket) ∷ log) s
      → Answers events o log tickets s c place step reply.NoTicket c
  gone step none represents = record {
    reply = own.NoTicket;
    corresponds = tt;
    state = s;
    represents = represents;
    mirrors = mirrors;
    blocked_after = all_left reply.NoTicket place c.blocked unblocked;
    receives_after = all_left reply.NoTicket place (places c.receives) (absent place c.receives none);
  }

  -- it asks
  polls : Polled (outcome move.Poll place c)
  polls = go (receive_at place c.receives) refl
    where
      go : (found : Option ParkedReceive) → receive_at place c.receives ≡ found → Polled (poll_outcome_by place found c)
      go None none =
          gone (Poll (tickets place)) none
          (poll_none o log s s (tickets place) h (stands_none events tickets s c place mirrors apart.from_parked none) refl)
      go (Some r) found =
          let own_entry = stands_as events tickets s c place mirrors apart.from_parked r found in
          asks r.kind r.status r.place own_entry.marked own_entry.is own_entry.represents own_entry.held found

module _ {T A : Type 0} (events : List (Event T A)) where
  -- a parked receive asks
  pub answers_poll : MoveAnswers events move.Poll
  answers_poll o log s c tickets place call step given h mirrors at is ready lawful granted =
      let step_is : Poll (tickets place) ≡ step = cc in
      subst (λ x. Answers events o log tickets s c place x (outcome move.Poll place c).0 (outcome move.Poll place c).1) step_is
      (polls events o log s c tickets place h mirrors ready.0 ready.1)
