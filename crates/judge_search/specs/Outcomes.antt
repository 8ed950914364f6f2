-- The reply to each move of a call, and the configuration after it, if no memory is refused.
use Rattle.std.specs.Prelude.{ℕ, ◌==◌, ◌+◌, ◌-◌, Bool, not, ◌&&◌, if◌then◌else◌}
use Rattle.std.specs.Prelude.{List, [], ◌∷◌, ◌++◌, length, Option, Some, None}
use Rattle.std.specs.List.{list_any}
use Rattle.flume_model.specs.declared.step.Kind.{Kind}
use Rattle.flume_model.specs.declared.step.Kind.TheVariants.{Block}
use Rattle.flume_model.specs.Limits.{most}
use Rattle.judge_search.specs.declared.configuration.ParkedReceive.{ParkedReceive}
use Rattle.judge_search.specs.declared.configuration.Status.{Status}
use Rattle.judge_search.specs.declared.configuration.Status.TheVariants as status
use Rattle.judge_search.specs.declared.place_reply.PlaceReply.{PlaceReply}
use Rattle.judge_search.specs.declared.place_reply.PlaceReply.TheVariants as reply
use Rattle.judge_search.specs.declared.step_of.Move.{Move}
use Rattle.judge_search.specs.declared.step_of.Move.TheVariants as move
use Rattle.judge_search.specs.Configurations.{State}
use Rattle.judge_search.specs.Receives.{receive_at}
use Rattle.judge_search.specs.ByPlaces.{some_waits, closed_now, full_now, with_front, take_leaving}
use Rattle.judge_search.specs.ByPlaces.{admit_all, resize, push, without_receive, ask_again}
use Rattle.judge_search.specs.ByPlaces.{leave, without_send, end_dropped}

-- a reply with the configuration after it
abbrev pub ReplyAndState : Type 0
ReplyAndState = PlaceReply × State

-- a send, with this answer if there is no room
abbrev pub send_outcome : ReplyAndState → ℕ → State → ReplyAndState
send_outcome no_room place c =
    if closed_now c then (reply.Closed, c)
    else (if not (some_waits c.receives) && full_now c then no_room else (reply.Sent, push place c))

-- whether the send at this place is blocked
abbrev pub is_blocked : ℕ → State → Bool
is_blocked place c = list_any (λ p. p == place) c.blocked

-- a blocked send takes its message back
abbrev pub take_back_outcome : ℕ → State → ReplyAndState
take_back_outcome place c =
    (reply.Returned (closed_now c), record c { blocked = without_send place c.blocked })

-- a parked send asks
abbrev pub poll_send_outcome : ℕ → State → ReplyAndState
poll_send_outcome place c =
    if is_blocked place c
    then (if closed_now c then take_back_outcome place c else (reply.Waiting, c))
    else (reply.Accepted, c)

-- a parked send withdraws
abbrev pub withdraw_send_outcome : ℕ → State → ReplyAndState
withdraw_send_outcome place c =
    if is_blocked place c then take_back_outcome place c else (reply.Accepted, c)

-- a message is received from this queue; if there is none, this comes
abbrev pub receive_outcome_from : List ℕ → ReplyAndState → State → ReplyAndState
receive_outcome_from [] none c = none
receive_outcome_from (p ∷ rest) none c = (reply.Got p, take_leaving rest c)

-- a message is received; if there is none, this comes, or `Ended` with this configuration
abbrev pub receive_outcome : ReplyAndState → State → State → ReplyAndState
receive_outcome none ended c = receive_outcome_from (with_front c).queue
    (if closed_now c then (reply.Ended, ended) else none) c

-- the configuration with the receive at this place parked
abbrev pub with_parked : Kind → ℕ → State → State
with_parked kind place c = record c {
  receives = c.receives ++ record { place = place; kind = kind; status = status.Waiting } ∷ [];
}

-- a parked receive that isn't filled asks by looking at the line
abbrev pub poll_line_outcome : ℕ → State → ReplyAndState
poll_line_outcome place c =
    receive_outcome (reply.Waiting, ask_again place c) (without_receive place c) c

-- the receive at this place isn't parked any more if it took a message
abbrev pub leaves_with : ℕ → ReplyAndState → ReplyAndState
leaves_with place (reply.Got p, c) = (reply.Got p, without_receive place c)
leaves_with place answer = answer

-- a parked receive in this state asks
abbrev pub poll_outcome_as : ℕ → Kind → Status → State → ReplyAndState
poll_outcome_as place kind (status.Filled p) c = (reply.Got p, without_receive place c)
poll_outcome_as place Block status.Waiting c = (reply.Waiting, c)
poll_outcome_as place kind status c = leaves_with place (poll_line_outcome place c)

-- the receive at this place asks, if this one is parked there
abbrev pub poll_outcome_by : ℕ → Option ParkedReceive → State → ReplyAndState
poll_outcome_by place None c = (reply.NoTicket, c)
poll_outcome_by place (Some r) c = poll_outcome_as place r.kind r.status c

-- the receive at this place asks
abbrev pub poll_outcome : ℕ → State → ReplyAndState
poll_outcome place c = poll_outcome_by place (receive_at place c.receives) c

-- a parked receive in this state withdraws
abbrev pub withdraw_outcome_as : ℕ → Kind → Status → State → ReplyAndState
withdraw_outcome_as place kind (status.Filled p) c = (reply.Got p, without_receive place c)
withdraw_outcome_as place Block status c =
    leaves_with place (receive_outcome_from (with_front c).queue
    (reply.Gone (closed_now c), without_receive place c) c)
withdraw_outcome_as place kind status c = (reply.Gone (closed_now c), leave place c)

-- the receive at this place withdraws, if this one is parked there
abbrev pub withdraw_outcome_by : ℕ → Option ParkedReceive → State → ReplyAndState
withdraw_outcome_by place None c = (reply.NoTicket, c)
withdraw_outcome_by place (Some r) c = withdraw_outcome_as place r.kind r.status c

-- the receive at this place withdraws
abbrev pub withdraw_outcome : ℕ → State → ReplyAndState
withdraw_outcome place c = withdraw_outcome_by place (receive_at place c.receives) c

-- an end is cloned; there were this many
abbrev pub clone_outcome : ℕ → State → State → ReplyAndState
clone_outcome n more c =
    if n == 0 then (reply.NoEnd, c)
    else (if n == most then (reply.CountFull, c) else (reply.Done, more))

-- an end is dropped; there were this many
abbrev pub drop_outcome : ℕ → State → State → ReplyAndState
drop_outcome n fewer c =
    if n == 0 then (reply.NoEnd, c) else (reply.Done, end_dropped (closed_now c) fewer)

-- the capacity is set; it was this
abbrev pub resize_outcome : Option ℕ → ℕ → State → ReplyAndState
resize_outcome None n c = (reply.Unbounded, c)
resize_outcome (Some old) n c = if closed_now c then (reply.Ended, c) else (reply.Done, resize n c)

-- the reply to a move of the call at a place, and the configuration after it
abbrev pub outcome : Move → ℕ → State → ReplyAndState
outcome move.TrySend p c = send_outcome (reply.Full, c) p c
outcome move.Send p c = send_outcome (reply.Pending, record c { blocked = c.blocked ++ p ∷ [] }) p c
outcome move.PollSend p c = poll_send_outcome p c
outcome move.WithdrawSend p c = withdraw_send_outcome p c
outcome move.TryRecv p c = receive_outcome (reply.Empty, c) c c
outcome (move.Recv kind) p c = receive_outcome (reply.Parked, with_parked kind p c) c c
outcome move.Poll p c = poll_outcome p c
outcome move.Withdraw p c = withdraw_outcome p c
outcome move.Drain p c = (reply.Drained, admit_all (record c { queue = [] }))
outcome move.CloneSender p c = clone_outcome c.senders (record c { senders = c.senders + 1 }) c
outcome move.CloneReceiver p c =
    clone_outcome c.receivers (record c { receivers = c.receivers + 1 }) c
outcome move.DropSender p c = drop_outcome c.senders (record c { senders = c.senders - 1 }) c
outcome move.DropReceiver p c =
    drop_outcome c.receivers (record c { receivers = c.receivers - 1 }) c
outcome (move.SetCapacity n) p c = resize_outcome c.capacity n c
outcome move.Len p c = (reply.Number (length c.queue), c)
outcome move.IsEmpty p c = (reply.Flag (length c.queue == 0), c)
outcome move.IsFull p c = (reply.Flag (full_now c), c)
outcome move.Capacity p c = (reply.Capacity c.capacity, c)
outcome move.SenderCount p c = (reply.Number c.senders, c)
outcome move.ReceiverCount p c = (reply.Number c.receivers, c)
outcome move.IsDisconnected p c = (reply.Flag (closed_now c), c)
