-- flume_state.specs.Effects and flume_model.specs.Entries for configurations, without tickets.
use Rattle.std.specs.Prelude.{ℕ, ◌+◌, ◌==◌, Bool, true, false, not, ◌&&◌, if◌then◌else◌}
use Rattle.std.specs.Prelude.{List, [], ◌∷◌, ◌++◌, map, length, Option, Some, None}
use Rattle.std.specs.List.{list_any}
use Rattle.flume_model.specs.Limits.{is_closed, is_full}
use Rattle.judge_search.specs.declared.configuration.ParkedReceive.{ParkedReceive}
use Rattle.judge_search.specs.declared.configuration.Status.TheVariants.{Waiting, Woken}
use Rattle.judge_search.specs.Configurations.{State}
use Rattle.judge_search.specs.Receives.{waits, is_awake, with_status, round_of, round_fills_one}
use Rattle.judge_search.specs.Receives.{receive_at, without_place}

-- whether some receive waits
abbrev pub some_waits : List ParkedReceive → Bool
some_waits rs = list_any (λ r. waits r.status) rs

-- whether all senders or all receivers have been dropped
abbrev pub closed_now : State → Bool
closed_now c = is_closed c.senders c.receivers

-- whether the queue is at its capacity
abbrev pub full_now : State → Bool
full_now c = is_full c.capacity (length c.queue)

-- the first blocked send, of these, joins the queue
abbrev pub admit_of : List ℕ → State → State
admit_of [] c = c
admit_of (p ∷ later) c = record c { queue = c.queue ++ p ∷ []; blocked = later }

-- the first blocked send, if one is blocked, joins the queue
abbrev pub admit : State → State
admit c = admit_of c.blocked c

-- the same, if the queue has room
abbrev pub admit_if_room : State → State
admit_if_room c = if not (full_now c) then admit c else c

-- the same, if this queue is empty
abbrev pub front_of : List ℕ → State → State
front_of [] c = admit c
front_of (p ∷ rest) c = c

-- the same, if no message is queued
abbrev pub with_front : State → State
with_front c = front_of c.queue c

-- the front of the line was taken, and this is the rest of the queue
abbrev pub take_leaving : List ℕ → State → State
take_leaving rest c = admit_if_room (record (with_front c) { queue = rest })

-- these blocked sends join the queue, the first ones first, while it has room
abbrev pub admit_all_of : List ℕ → State → State
admit_all_of [] c = c
admit_all_of (p ∷ later) c =
    if full_now c then c
    else admit_all_of later (record c { queue = c.queue ++ p ∷ []; blocked = later })

-- blocked sends join the queue while it has room
abbrev pub admit_all : State → State
admit_all c = admit_all_of c.blocked c

-- this is the capacity from now on
abbrev pub resize : ℕ → State → State
resize n c = admit_all (record c { capacity = Some n })

-- the receives after a wake round, if this is the queue
abbrev pub round_with : List ℕ → List ParkedReceive → List ParkedReceive
round_with [] rs = rs
round_with (front ∷ queue) rs = round_of front rs

-- whether a wake round fills a receive, if this is the queue
abbrev pub fills_with : List ℕ → List ParkedReceive → Bool
fills_with [] rs = false
fills_with (front ∷ queue) rs = round_fills_one rs

-- the queue after a wake round that fills a receive, or not
abbrev pub queue_after_round : Bool → List ℕ → List ℕ
queue_after_round false queue = queue
queue_after_round true [] = []
queue_after_round true (front ∷ queue) = queue

-- the configuration after a wake round
abbrev pub wake : State → State
wake c = record c {
  queue = queue_after_round (fills_with c.queue c.receives) c.queue;
  receives = round_with c.queue c.receives;
}

-- the send at this place joins the queue, and a wake round follows
abbrev pub push : ℕ → State → State
push place c = wake (record c { queue = c.queue ++ place ∷ [] })

-- the receive at this place is parked no more
abbrev pub without_receive : ℕ → State → State
without_receive place c = record c { receives = without_place place c.receives }

-- the receives, if this is the one at a place: one that was notified waits again, behind all others
abbrev pub again_as : ℕ → Option ParkedReceive → List ParkedReceive → List ParkedReceive
again_as place None rs = rs
again_as place (Some r) rs =
    if is_awake r.status then without_place place rs ++ with_status Waiting r ∷ [] else rs

-- the receive at this place asked, and waits on
abbrev pub ask_again : ℕ → State → State
ask_again place c = record c { receives = again_as place (receive_at place c.receives) c.receives }

-- whether this receive passes its notification on as it leaves
abbrev pub passes_on : Option ParkedReceive → Bool
passes_on None = false
passes_on (Some r) = is_awake r.status

-- the receive at this place leaves without a message, and passes its notification on
abbrev pub leave : ℕ → State → State
leave place c =
    if passes_on (receive_at place c.receives) then wake (without_receive place c)
    else without_receive place c

-- the blocked sends without the first one at this place
abbrev pub without_send : ℕ → List ℕ → List ℕ
without_send place [] = []
without_send place (p ∷ ps) = if p == place then ps else p ∷ without_send place ps

-- a receive, notified if it waits
abbrev pub woken_if_waiting : ParkedReceive → ParkedReceive
woken_if_waiting r = if waits r.status then with_status Woken r else r

-- after the drop of an end: the last one clears all; if the channel closes, receives are notified
abbrev pub end_dropped : Bool → State → State
end_dropped was_closed c =
    if c.senders + c.receivers == 0 then record c { queue = []; blocked = []; receives = [] }
    else (if not was_closed && closed_now c
    then record c { receives = map woken_if_waiting c.receives } else c)
