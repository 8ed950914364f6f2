-- A receive that isn't parked answers as the channel does: it takes the front of the line, or finds none, and parks then if it may.
use Rattle.std.proofs.Common.{◌≡◌, ◌≢◌, ◌<◌, ℕ, Bool, true, false, if◌then◌else◌, List, [], ◌∷◌, None}
use Rattle.std.proofs.Common.{refl, sym, ◌∙◌, subst, arith}
use Rattle.std.specs.List.{All}
use Rattle.std.proofs.lemmas.List.{map_push}
use Rattle.flume_model.specs.declared.step.Kind.{Kind}
use Rattle.flume_model.specs.declared.step.Step.{Step}
use Rattle.flume_model.specs.declared.step.Step.TheVariants.{TryRecv, Recv}
use Rattle.flume_model.specs.declared.step.Reply.{Reply}
use Rattle.flume_model.specs.declared.step.Reply.TheVariants as own
use Rattle.flume_model.specs.Log.{Log, Opening}
use Rattle.flume_model.specs.Limits.{IsOpen, most}
use Rattle.flume_model.specs.Line.{line, messages, next_ticket}
use Rattle.flume_model.specs.Counts.{senders, receivers}
use Rattle.flume_model.specs.Channel.{channel}
use Rattle.flume_model.specs.Replies.{IsReply}
use Rattle.flume_state.specs.State.{State as Channel}
use Rattle.flume_state.specs.Effects.{after_take}
use Rattle.flume_state.specs.Effects.{with_front as with_front_there}
use Rattle.flume_core.specs.Represents.{Represents}
use Rattle.flume_core.proofs.TakeLemmas.{takes}
use Rattle.flume_core.proofs.ReceiveLemmas.{parks}
use Rattle.flume_core.proofs.ViewLemmas.{open_at_log, closed_at_log}
use Rattle.flume_core.proofs.AnsweringLemmas.{empty_line, front_line}
use Rattle.judge_calls.specs.declared.event.Event.{Event}
use Rattle.judge_search.specs.declared.configuration.ParkedReceive.{ParkedReceive}
use Rattle.judge_search.specs.declared.configuration.Status.TheVariants as status
use Rattle.judge_search.specs.declared.place_reply.PlaceReply.TheVariants as reply
use Rattle.judge_search.specs.declared.step_of.Move.TheVariants as move
use Rattle.judge_search.specs.Configurations.{State}
use Rattle.judge_search.specs.ByPlaces.{closed_now, with_front, take_leaving}
use Rattle.judge_search.specs.Outcomes.{ReplyAndState, outcome, receive_outcome_from, with_parked}
use Rattle.judge_search.specs.Mirrors.{Mirrors}
use Rattle.judge_search.proofs.MoveAnswers.{Answers, IsPlaceAfter}
use Rattle.judge_search.specs.Moves.{is_refusal}
use Rattle.judge_search.proofs.MoveAnswerLemmas.{MoveAnswers, IsNew}
use Rattle.judge_search.proofs.MirrorViewLemmas.{closed_same}
use Rattle.judge_search.proofs.MirrorTakeLemmas.{mirror_take, mirror_empty}
use Rattle.judge_search.proofs.MirrorReceiveLemmas.{mirror_parked}
use Rattle.judge_search.proofs.LeftPlaceLemmas.{all_left, one_joins, none_of}
use Rattle.judge_search.proofs.LeftReceiveLemmas.{places, taken_blocked, taken_receives}
use Rattle.judge_search.proofs.SendMoveLemmas.{closed_if, open_if, answers_unchanged}

module _ {T A : Type 0} (events : List (Event T A)) (o : Opening) (log : Log T A) (s : Channel T (Unit {0})) (c : State) (tickets : ℕ → ℕ)
    (place : ℕ) (h : Represents o log s) (mirrors : Mirrors events tickets s c) (new : IsNew place c) where
  -- no receive is at the place
  elsewhere : All (λ q. q ≢ place) (places c.receives)
  elsewhere = none_of place c.receives new.not_parked

  -- the front of the line is handed out
  got : (step : Step T) (p : ℕ) (later : List ℕ) → (with_front c).queue ≡ p ∷ later
      → ((m : T) (rest : List T) (after : Channel T (Unit {0})) → (with_front_there s).queue ≡ m ∷ rest → after ≡ after_take rest s
      → Represents o ((step, own.Got m) ∷ log) after)
      → Answers events o log tickets s c place step (reply.Got p) (take_leaving later c)
  got step p later front leads =
      let taken = mirror_take events tickets s c p later mirrors front in
      record {
        reply = own.Got taken.0;
        corresponds = taken.3;
        state = after_take taken.1 s;
        represents = leads taken.0 taken.1 _ taken.2 refl;
        mirrors = taken.4;
        blocked_after = taken_blocked (IsPlaceAfter reply.Pending (reply.Got p) place c.blocked) later c
            (all_left (reply.Got p) place c.blocked new.not_blocked);
        receives_after = rw (taken_receives later c) (all_left (reply.Got p) place (places c.receives) elsewhere);
      }

  -- a receive that doesn't wait
  tries : Answers events o log tickets s c place TryRecv (outcome move.TryRecv place c).0 (outcome move.TryRecv place c).1
  tries = go (with_front c).queue refl
    where
      Tried : ReplyAndState → Type 0
      Tried answer = Answers events o log tickets s c place TryRecv answer.0 answer.1

      none : (with_front_there s).queue ≡ [] → (b : Bool) → closed_now c ≡ b
          → Tried (if b then (reply.Ended, c) else (reply.Empty, c))
      none empty true closed =
          let is = closed_if s.senders s.receivers (sym (closed_same events tickets s c mirrors) ∙ closed) in
          answers_unchanged events o log s c tickets place h mirrors new TryRecv reply.Ended own.Ended refl tt
          (empty_line o log s h empty, closed_at_log h is) refl
      none empty false open_ =
          let is = open_if s.senders s.receivers (sym (closed_same events tickets s c mirrors) ∙ open_) in
          answers_unchanged events o log s c tickets place h mirrors new TryRecv reply.Empty own.Empty refl tt
          (empty_line o log s h empty, open_at_log h is) refl

      go : (queue : List ℕ) → (with_front c).queue ≡ queue
          → Tried (receive_outcome_from queue (if closed_now c then (reply.Ended, c) else (reply.Empty, c)) c)
      go [] front = none (mirror_empty events tickets s c mirrors front) (closed_now c) refl
      go (p ∷ later) front =
          got TryRecv p later front
          (λ m rest after at is. takes o log _ s after m None rest h (front_line o log s m rest h at) refl at is)

  -- a ticket is left if a receive may be parked
  some_left : (kind : Kind) (given : Reply T A) → IsReply (channel o log) (Recv kind) given → is_refusal given ≡ false
      → messages (line log) ≡ [] → IsOpen (senders log) (receivers log) → next_ticket o log < most
  some_left kind (own.Got m) lawful granted empty open_ =
      absurd (let front : m ∷ lawful.0 ≡ [] = sym lawful.1 ∙ empty in let no : ⊥ = cc in no)
  some_left kind own.Ended lawful granted empty open_ = let closed = lawful.1 in absurd (omega arith)
  some_left kind (own.Parked t) lawful granted empty open_ = lawful.2
  some_left kind (own.NoMemory back) lawful granted empty open_ = absurd (let no : ⊥ = cc in no)
  some_left kind (own.Spent back) lawful granted empty open_ = absurd (let no : ⊥ = cc in no)
  some_left kind _ lawful granted empty open_ = absurd lawful

  -- a receive that parks if there is no message
  receives : (kind : Kind) (given : Reply T A) → IsReply (channel o log) (Recv kind) given → is_refusal given ≡ false
      → Answers events o log tickets s c place (Recv kind) (outcome (move.Recv kind) place c).0 (outcome (move.Recv kind) place c).1
  receives kind given lawful granted = go (with_front c).queue refl
    where
      Received : ReplyAndState → Type 0
      Received answer = Answers events o log tickets s c place (Recv kind) answer.0 answer.1

      waits : (with_front_there s).queue ≡ [] → IsOpen s.senders s.receivers → Received (reply.Parked, with_parked kind place c)
      waits empty open_ =
          let line_empty = empty_line o log s h empty in
          let open_there = open_at_log h open_ in
          record {
            reply = own.Parked s.next_ticket;
            corresponds = refl;
            state = _;
            represents = parks o log _ s _ kind tt h
                (line_empty, open_there, some_left kind given lawful granted line_empty open_there, h.next_is) refl refl;
            mirrors = mirror_parked events tickets s c place kind mirrors new.not_blocked new.not_parked;
            blocked_after = all_left reply.Parked place c.blocked new.not_blocked;
            receives_after =
                let last : ParkedReceive = record { place = place; kind = kind; status = status.Waiting } in
                rw (map_push (λ r. r.place) c.receives last) (one_joins reply.Parked place (places c.receives) elsewhere);
          }

      none : (with_front_there s).queue ≡ [] → (b : Bool) → closed_now c ≡ b
          → Received (if b then (reply.Ended, c) else (reply.Parked, with_parked kind place c))
      none empty true closed =
          let is = closed_if s.senders s.receivers (sym (closed_same events tickets s c mirrors) ∙ closed) in
          answers_unchanged events o log s c tickets place h mirrors new (Recv kind) reply.Ended own.Ended refl tt
          (empty_line o log s h empty, closed_at_log h is) refl
      none empty false open_ =
          waits empty (open_if s.senders s.receivers (sym (closed_same events tickets s c mirrors) ∙ open_))

      go : (queue : List ℕ) → (with_front c).queue ≡ queue
          → Received (receive_outcome_from queue (if closed_now c then (reply.Ended, c) else (reply.Parked, with_parked kind place c)) c)
      go [] front = none (mirror_empty events tickets s c mirrors front) (closed_now c) refl
      go (p ∷ later) front =
          got (Recv kind) p later front
          (λ m rest after at is. takes o log _ s after m None rest h (front_line o log s m rest h at) refl at is)

module _ {T A : Type 0} (events : List (Event T A)) where
  -- a receive that doesn't wait
  pub answers_try_recv : MoveAnswers events move.TryRecv
  answers_try_recv o log s c tickets place call step given h mirrors at is ready lawful granted =
      let step_is : TryRecv ≡ step = cc in
      subst (λ x. Answers events o log tickets s c place x (outcome move.TryRecv place c).0 (outcome move.TryRecv place c).1) step_is
      (tries events o log s c tickets place h mirrors ready)

  -- a receive that may park
  pub answers_recv : (kind : Kind) → MoveAnswers events (move.Recv kind)
  answers_recv kind o log s c tickets place call step given h mirrors at is ready lawful granted =
      let step_is : Recv kind ≡ step = cc in
      subst (λ x. Answers events o log tickets s c place x (outcome (move.Recv kind) place c).0 (outcome (move.Recv kind) place c).1)
      step_is
      (receives events o log s c tickets place h mirrors ready kind given (rw (← step_is) at lawful) granted)
