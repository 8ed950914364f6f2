-- Which moves a call makes that is so far, and which answers they never have.
use Rattle.std.proofs.Common.{◌≡◌, ◌⊎◌, inl, inr, ℕ, ◌==◌, ◌&&◌, Bool, true, false, not, ◌+◌, ◌-◌, List, [], ◌∷◌, ◌++◌, Option, Some, None}
use Rattle.std.proofs.Common.{refl, sym, ◌∙◌, ap, subst, if◌then◌else◌}
use Rattle.std.specs.Option.{option_map}
use Rattle.flume_model.specs.declared.step.Kind.{Kind}
use Rattle.flume_model.specs.declared.step.Kind.TheVariants.{Block, Plain, Stream, Arm}
use Rattle.flume_model.specs.declared.step.Step.{Step}
use Rattle.flume_model.specs.declared.step.Step.TheVariants as step
use Rattle.flume_model.specs.declared.step.Reply.{Reply}
use Rattle.flume_model.specs.declared.step.Reply.TheVariants as own
use Rattle.flume_model.specs.Limits.{most}
use Rattle.flume_model.specs.Line.{tickets_issued}
use Rattle.flume_model.specs.Log.{Log, change}
use Rattle.judge_calls.specs.declared.event.Event.{Event}
use Rattle.judge_search.specs.Mirrors.{Corresponds}
use Rattle.judge_search.proofs.MoveAnswers.{parks}
use Rattle.judge_calls.specs.declared.call.Call.{Call}
use Rattle.judge_calls.specs.declared.call.Call.TheVariants as call
use Rattle.judge_calls.specs.Calls.{is_send}
use Rattle.judge_calls.specs.Calls.{message_of}
use Rattle.judge_search.specs.declared.configuration.ParkedReceive.{ParkedReceive}
use Rattle.judge_search.specs.declared.configuration.Progress.{Progress}
use Rattle.judge_search.specs.declared.configuration.Progress.TheVariants.{Begun, Tried, Parked, Refused, Done}
use Rattle.judge_search.specs.declared.configuration.Status.{Status}
use Rattle.judge_search.specs.declared.configuration.Status.TheVariants.{Waiting, Woken, Filled}
use Rattle.judge_search.specs.declared.place_reply.PlaceReply.{PlaceReply}
use Rattle.judge_search.specs.declared.place_reply.PlaceReply.TheVariants as reply
use Rattle.judge_search.specs.declared.step_of.Move.{Move}
use Rattle.judge_search.specs.declared.step_of.Move.TheVariants as move
use Rattle.judge_search.specs.Configurations.{State, is_parked}
use Rattle.judge_search.specs.Receives.{receive_at}
use Rattle.judge_search.specs.ByPlaces.{closed_now, full_now, some_waits, with_front, push, without_receive, ask_again, resize}
use Rattle.judge_search.specs.ByPlaces.{end_dropped}
use Rattle.judge_search.specs.Outcomes.{ReplyAndState, outcome, send_outcome, take_back_outcome, poll_send_outcome, withdraw_send_outcome}
use Rattle.judge_search.specs.Outcomes.{is_blocked, receive_outcome, receive_outcome_from, leaves_with, poll_line_outcome, poll_outcome_as}
use Rattle.judge_search.specs.Outcomes.{poll_outcome_by, withdraw_outcome_as, withdraw_outcome_by, clone_outcome, drop_outcome}
use Rattle.judge_search.specs.Outcomes.{resize_outcome, with_parked}
use Rattle.judge_search.proofs.StageLemmas.{IsMet}
use Rattle.judge_search.specs.Moves.{first_move, parking_move, next_move, alternative_move, move_of, step_for}

module _ {T : Type 0} where
  -- a call that is so far may make the move
  abbrev pub IsAllowed : Call T → Progress → Move → Type 0
  IsAllowed own p move.PollSend = (p ≡ Parked) × (is_send own ≡ true)
  IsAllowed own p move.WithdrawSend = (p ≡ Parked) × (is_send own ≡ true)
  IsAllowed own p move.Poll = (p ≡ Parked) × (is_send own ≡ false)
  IsAllowed own p move.Withdraw = ((p ≡ Parked) × (is_send own ≡ false)) ⊎ (p ≡ Refused)
  IsAllowed own p move.Send = (is_parked p ≡ false) × (is_send own ≡ true)
  IsAllowed own p (move.Recv kind) = (is_parked p ≡ false) × (is_send own ≡ false)
  IsAllowed own p _ = is_parked p ≡ false

  -- if there is a move, it is allowed
  abbrev AreAllowed : Call T → Progress → Option Move → Type 0
  AreAllowed own p None = Unit {0}
  AreAllowed own p (Some mv) = IsAllowed own p mv

  first_allowed : (own : Call T) → IsAllowed own Begun (first_move own)
  first_allowed (call.SendAsync m) = (refl, refl)
  first_allowed call.RecvAsync = (refl, refl)
  first_allowed _ = refl

  parking_allowed : (own : Call T) → AreAllowed own Tried (parking_move own)
  parking_allowed (call.Send m) = (refl, refl)
  parking_allowed (call.SendTimeout m) = (refl, refl)
  parking_allowed call.Recv = (refl, refl)
  parking_allowed call.RecvTimeout = (refl, refl)
  parking_allowed call.RecvAsync = (refl, refl)
  parking_allowed _ = tt

  asking_allowed : (own : Call T) (b : Bool) → is_send own ≡ b → IsAllowed own Parked (if b then move.PollSend else move.Poll)
  asking_allowed own true e = (refl, e)
  asking_allowed own false e = (refl, e)

  next_allowed : (own : Call T) (p : Progress) → AreAllowed own p (next_move own p)
  next_allowed own Begun = first_allowed own
  next_allowed own Tried = parking_allowed own
  next_allowed own Parked = asking_allowed own (is_send own) refl
  next_allowed own Refused = inr refl
  next_allowed own Done = tt

  other_allowed : (own : Call T) (p : Progress) → AreAllowed own p (alternative_move own p)
  other_allowed (call.SendAsync m) Begun = refl
  other_allowed call.RecvAsync Begun = refl
  other_allowed call.RecvAsync Tried = refl
  other_allowed (call.SendTimeout m) Parked = (refl, refl)
  other_allowed (call.SendAsync m) Parked = (refl, refl)
  other_allowed call.RecvTimeout Parked = inl (refl, refl)
  other_allowed call.RecvAsync Parked = inl (refl, refl)
  other_allowed _ _ = tt

  pub allowed : (own : Call T) (p : Progress) (other : Bool) (mv : Move) → move_of own p other ≡ Some mv → IsAllowed own p mv
  allowed own p true mv e = subst (AreAllowed own p) e (other_allowed own p)
  allowed own p false mv e = subst (AreAllowed own p) e (next_allowed own p)

  -- a call that has its answer makes no move
  other_done : (own : Call T) → alternative_move own Done ≡ None
  other_done (call.SendAsync m) = refl
  other_done _ = refl

  pub not_done : (own : Call T) (p : Progress) (other : Bool) (mv : Move) → move_of own p other ≡ Some mv → p ≡ Done → ⊥
  not_done own p true mv e done =
      let none : alternative_move own Done ≡ Some mv = subst (λ (q : Progress). alternative_move own q ≡ Some mv) done e in
      let gone = other_done own in
      let no : ⊥ = cc in no
  not_done own p false mv e done =
      let none : next_move own Done ≡ Some mv = subst (λ (q : Progress). next_move own q ≡ Some mv) done e in
      let no : ⊥ = cc in no

  -- the move that a step is
  abbrev pub move_for : Step T → Move
  move_for (step.TrySend m) = move.TrySend
  move_for (step.Send m) = move.Send
  move_for (step.PollSend t) = move.PollSend
  move_for (step.WithdrawSend t) = move.WithdrawSend
  move_for step.TryRecv = move.TryRecv
  move_for (step.Recv kind) = move.Recv kind
  move_for (step.Poll t) = move.Poll
  move_for (step.Withdraw t) = move.Withdraw
  move_for step.Drain = move.Drain
  move_for step.CloneSender = move.CloneSender
  move_for step.CloneReceiver = move.CloneReceiver
  move_for step.DropSender = move.DropSender
  move_for step.DropReceiver = move.DropReceiver
  move_for (step.SetCapacity n) = move.SetCapacity n
  move_for step.Len = move.Len
  move_for step.IsEmpty = move.IsEmpty
  move_for step.IsFull = move.IsFull
  move_for step.Capacity = move.Capacity
  move_for step.SenderCount = move.SenderCount
  move_for step.ReceiverCount = move.ReceiverCount
  move_for step.IsDisconnected = move.IsDisconnected

  -- if there is a step, this move is for it
  abbrev AreFor : Move → Option (Step T) → Type 0
  AreFor mv None = Unit {0}
  AreFor mv (Some step) = move_for step ≡ mv

  try_for : (m : Option T) → AreFor move.TrySend (option_map step.TrySend m)
  try_for None = tt
  try_for (Some m) = refl

  send_for : (m : Option T) → AreFor move.Send (option_map step.Send m)
  send_for None = tt
  send_for (Some m) = refl

  step_is_for : (own : Call T) (ticket : ℕ) (mv : Move) → AreFor mv (step_for own ticket mv)
  step_is_for own ticket move.TrySend = try_for (message_of own)
  step_is_for own ticket move.Send = send_for (message_of own)
  step_is_for own ticket _ = refl

  pub step_move : (own : Call T) (ticket : ℕ) (mv : Move) (step : Step T) → step_for own ticket mv ≡ Some step → move_for step ≡ mv
  step_move own ticket mv step e = subst (AreFor mv) e (step_is_for own ticket mv)

-- whether a move may be answered so, as far as accepting, waiting and parking go
abbrev pub may_answer : Move → PlaceReply → Bool
may_answer move.PollSend reply.Accepted = true
may_answer move.PollSend reply.Waiting = true
may_answer move.WithdrawSend reply.Accepted = true
may_answer move.Poll reply.Waiting = true
may_answer move.Send reply.Pending = true
may_answer (move.Recv kind) reply.Parked = true
may_answer mv reply.Accepted = false
may_answer mv reply.Waiting = false
may_answer mv reply.Pending = false
may_answer mv reply.Parked = false
may_answer mv reply_by_place = true

-- what holds of each reply that an answer may have holds of its reply
module _ (P : PlaceReply → Type 0) where
  offered_has : (no_room : ReplyAndState) (place : ℕ) (c : State) → P reply.Closed → P no_room.0 → P reply.Sent
      → P (send_outcome no_room place c).0
  offered_has no_room place c closed full sent = by_case (closed_now c) (not (some_waits c.receives) && full_now c)
    where
      by_case : (a b : Bool) → P (let answer : ReplyAndState =
          if a then (reply.Closed, c) else (if b then no_room else (reply.Sent, push place c)) in answer).0
      by_case true b = closed
      by_case false true = full
      by_case false false = sent

  back_has : (place : ℕ) (c : State) → P (reply.Returned (closed_now c)) → P (take_back_outcome place c).0
  back_has place c back = back

  received_has : (none ended : ReplyAndState) (c : State) → ((p : ℕ) → P (reply.Got p)) → P none.0 → P reply.Ended
      → P (receive_outcome none ended.1 c).0
  received_has none ended c got empty_ over = by_queue (with_front c).queue (closed_now c)
    where
      by_queue : (queue : List ℕ) (b : Bool) → P (receive_outcome_from queue (if b then (reply.Ended, ended.1) else none) c).0
      by_queue [] true = over
      by_queue [] false = empty_
      by_queue (p ∷ rest) b = got p

  leaves_has : (place : ℕ) (reply_by_place : PlaceReply) (c : State) → P reply_by_place → P (leaves_with place (reply_by_place, c)).0
  leaves_has place (reply.Got p) c h = h
  leaves_has place _ c h = h

-- whether a move may be answered so
abbrev May : Move → PlaceReply → Type 0
May mv reply_by_place = may_answer mv reply_by_place ≡ true

-- a receive that asks at the line may be answered so
asked_may : (place : ℕ) (c : State) → May move.Poll (leaves_with place (poll_line_outcome place c)).0
asked_may place c =
    leaves_has (May move.Poll) place (poll_line_outcome place c).0 (poll_line_outcome place c).1
    (received_has (May move.Poll) (reply.Waiting, ask_again place c) (reply.Ended, without_receive place c) c (λ p. refl) refl refl)

-- a parked receive that stands so and asks
polled_may : (place : ℕ) (kind : Kind) (represents : Status) (c : State) → May move.Poll (poll_outcome_as place kind represents c).0
polled_may place kind (Filled p) c = refl
polled_may place Block Waiting c = refl
polled_may place Block Woken c = asked_may place c
polled_may place Plain Waiting c = asked_may place c
polled_may place Stream Waiting c = asked_may place c
polled_may place Arm Waiting c = asked_may place c
polled_may place Plain Woken c = asked_may place c
polled_may place Stream Woken c = asked_may place c
polled_may place Arm Woken c = asked_may place c

-- a receive that asks, parked or not
poll_may : (place : ℕ) (found : Option ParkedReceive) (c : State) → May move.Poll (poll_outcome_by place found c).0
poll_may place None c = refl
poll_may place (Some r) c = polled_may place r.kind r.status c

-- a receive that leaves and may take a message
taken_may : (place : ℕ) (c : State)
    → May move.Withdraw (leaves_with place (receive_outcome_from (with_front c).queue (reply.Gone (closed_now c), without_receive place c)
    c)).0
taken_may place c = by_queue (with_front c).queue
  where
    by_queue : (queue : List ℕ) → May move.Withdraw
        (leaves_with place (receive_outcome_from queue (reply.Gone (closed_now c), without_receive place c) c)).0
    by_queue [] = refl
    by_queue (p ∷ rest) = refl

-- a parked receive that stands so and leaves
left_may : (place : ℕ) (kind : Kind) (represents : Status) (c : State) → May move.Withdraw (withdraw_outcome_as place kind represents c).0
left_may place kind (Filled p) c = refl
left_may place Block Waiting c = taken_may place c
left_may place Block Woken c = taken_may place c
left_may place Plain Waiting c = refl
left_may place Stream Waiting c = refl
left_may place Arm Waiting c = refl
left_may place Plain Woken c = refl
left_may place Stream Woken c = refl
left_may place Arm Woken c = refl

-- a receive that leaves, parked or not
leave_may : (place : ℕ) (found : Option ParkedReceive) (c : State) → May move.Withdraw (withdraw_outcome_by place found c).0
leave_may place None c = refl
leave_may place (Some r) c = left_may place r.kind r.status c

-- a send that withdraws
withdrawn_may : (place : ℕ) (c : State) → May move.WithdrawSend (withdraw_send_outcome place c).0
withdrawn_may place c = by_case (is_blocked place c)
  where
    by_case : (b : Bool) → May move.WithdrawSend (let answer : ReplyAndState = if b then take_back_outcome place c else
        (reply.Accepted, c) in answer).0
    by_case true = refl
    by_case false = refl

-- a send that asks
send_may : (place : ℕ) (c : State) → May move.PollSend (poll_send_outcome place c).0
send_may place c = by_case (is_blocked place c) (closed_now c)
  where
    by_case : (b k : Bool) → May move.PollSend
        (let answer : ReplyAndState = if b then (if k then take_back_outcome place c else (reply.Waiting, c)) else (reply.Accepted, c) in
        answer).0
    by_case true true = refl
    by_case true false = refl
    by_case false k = refl

module _ (mv : Move) (done : May mv reply.Done) where
  cloned_may : (n : ℕ) (more c : State) → May mv reply.NoEnd → May mv reply.CountFull → May mv (clone_outcome n more c).0
  cloned_may n more c none full = by_case (n == 0) (n == most)
    where
      by_case : (a b : Bool) → May mv (let answer : ReplyAndState =
          if a then (reply.NoEnd, c) else (if b then (reply.CountFull, c) else (reply.Done, more)) in answer).0
      by_case true b = none
      by_case false true = full
      by_case false false = done

  dropped_may : (n : ℕ) (fewer c : State) → May mv reply.NoEnd → May mv (drop_outcome n fewer c).0
  dropped_may n fewer c none = by_case (n == 0)
    where
      by_case : (a : Bool) → May mv (let answer : ReplyAndState =
          if a then (reply.NoEnd, c) else (reply.Done, end_dropped (closed_now c) fewer) in answer).0
      by_case true = none
      by_case false = done

-- a capacity that is set
resized_may : (old : Option ℕ) (n : ℕ) (c : State) → May (move.SetCapacity n) (resize_outcome old n c).0
resized_may None n c = refl
resized_may (Some old) n c = by_case (closed_now c)
  where
    by_case : (a : Bool) → May (move.SetCapacity n) (let answer : ReplyAndState =
        if a then (reply.Ended, c) else (reply.Done, resize n c) in answer).0
    by_case true = refl
    by_case false = refl

-- only a send is accepted, and only who asks waits on
pub made_may : (mv : Move) (place : ℕ) (c : State) → may_answer mv (outcome mv place c).0 ≡ true
made_may move.TrySend p c = offered_has (May move.TrySend) (reply.Full, c) p c refl refl refl
made_may move.Send p c = offered_has (May move.Send) (reply.Pending, record c { blocked = c.blocked ++ p ∷ [] }) p c refl refl refl
made_may move.PollSend p c = send_may p c
made_may move.WithdrawSend p c = withdrawn_may p c
made_may move.TryRecv p c = received_has (May move.TryRecv) (reply.Empty, c) (reply.Ended, c) c (λ p. refl) refl refl
made_may (move.Recv kind) p c = received_has (May (move.Recv kind)) (reply.Parked, with_parked kind p c) (reply.Ended, c) c
    (λ p. refl) refl refl
made_may move.Poll p c = poll_may p (receive_at p c.receives) c
made_may move.Withdraw p c = leave_may p (receive_at p c.receives) c
made_may move.Drain p c = refl
made_may move.CloneSender p c = cloned_may move.CloneSender refl c.senders (record c { senders = c.senders + 1 }) c refl refl
made_may move.CloneReceiver p c = cloned_may move.CloneReceiver refl c.receivers (record c { receivers = c.receivers + 1 }) c refl refl
made_may move.DropSender p c = dropped_may move.DropSender refl c.senders (record c { senders = c.senders - 1 }) c refl
made_may move.DropReceiver p c = dropped_may move.DropReceiver refl c.receivers (record c { receivers = c.receivers - 1 }) c refl
made_may (move.SetCapacity n) p c = resized_may c.capacity n c
made_may _ p c = refl

module _ {T : Type 0} where
  -- so an answer of an allowed move finds the call parked, if it is one of these
  pub met_by_move : (own : Call T) (p : Progress) (mv : Move) (reply_by_place : PlaceReply) → IsAllowed own p mv
      → may_answer mv reply_by_place ≡ true
      → IsMet own reply_by_place p
  met_by_move own p move.PollSend reply.Accepted h may = h
  met_by_move own p move.WithdrawSend reply.Accepted h may = h
  met_by_move own p move.PollSend reply.Waiting h may = h.0
  met_by_move own p move.Poll reply.Waiting h may = h.0
  met_by_move own p _ reply.Accepted h may = absurd (let none : ⊥ = cc in none)
  met_by_move own p _ reply.Waiting h may = absurd (let none : ⊥ = cc in none)
  met_by_move own p _ _ h may = tt

  -- a send is blocked, and another call gets an entry
  pub send_joins : (own : Call T) (p : Progress) (mv : Move) → IsAllowed own p mv → may_answer mv reply.Pending ≡ true → is_send own ≡ true
  send_joins own p move.Send h may = h.1
  send_joins own p _ h may = absurd (let none : ⊥ = cc in none)

  pub receive_joins : (own : Call T) (p : Progress) (mv : Move) → IsAllowed own p mv → may_answer mv reply.Parked ≡ true
      → is_send own ≡ false
  receive_joins own p (move.Recv kind) h may = h.1
  receive_joins own p _ h may = absurd (let none : ⊥ = cc in none)

  -- a call parks by the step that issues its ticket
  pub parking_issues : {A : Type 0} (past : Log T A) (step : Step T) (reply_by_place : PlaceReply) (events : List (Event T A)) (n : ℕ)
      (queue : List ℕ)
      (r : Reply T A) → Corresponds events n queue reply_by_place r → parks reply_by_place ≡ true
      → may_answer (move_for step) reply_by_place ≡ true
      → tickets_issued (change past step r) ≡ 1
  parking_issues past (step.Send m) reply.Pending events n queue (own.Pending t) h parking may = refl
  parking_issues past (step.Recv kind) reply.Parked events n queue (own.Parked t) h parking may = refl
  parking_issues past (step.Send m) reply.Pending events n queue _ h parking may = absurd h
  parking_issues past (step.Recv kind) reply.Parked events n queue _ h parking may = absurd h
  parking_issues past _ reply.Pending events n queue r h parking may = absurd (let none : ⊥ = cc in none)
  parking_issues past _ reply.Parked events n queue r h parking may = absurd (let none : ⊥ = cc in none)
  parking_issues past _ _ events n queue r h parking may = absurd (let none : ⊥ = cc in none)
