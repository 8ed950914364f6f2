-- The channel and the open calls after some items. A call's place is that of the event by which it
-- began. In all files `events` are the recorded events, and `equal` compares messages.
use Rattle.std.specs.Prelude.{ℕ, zero, suc, ◌==◌, Bool, true, false, if◌then◌else◌, List, [], ◌∷◌}
use Rattle.std.specs.Prelude.{map, Option, Some, None}
use Rattle.std.specs.Option.{option_and_then, option_map}
use Rattle.judge_calls.specs.declared.call.Call.{Call}
use Rattle.judge_calls.specs.declared.call.Answer.{Answer}
use Rattle.judge_calls.specs.declared.event.Event.{Event}
use Rattle.judge_calls.specs.declared.event.Event.TheVariants.{Begins, Returns}
use Rattle.judge_calls.specs.Calls.{message_of}
use Rattle.judge_calls.specs.Explanations.{thread_of}
use Rattle.judge_search.specs.declared.configuration.OpenCall.{OpenCall}
use Rattle.judge_search.specs.declared.configuration.ParkedReceive.{ParkedReceive}
use Rattle.judge_search.specs.declared.configuration.Progress.{Progress}
use Rattle.judge_search.specs.declared.configuration.Progress.TheVariants.{Parked, Refused}

-- what a contract sees of a configuration
pub record State : Type 0 where
  pub capacity : Option ℕ
  pub senders : ℕ
  pub receivers : ℕ
  -- the places of the sends whose messages are queued, and of the blocked ones, in order
  pub queue : List ℕ
  pub blocked : List ℕ
  pub receives : List ParkedReceive
  pub calls : List OpenCall

-- the open call, with this progress if it is the one at this place
abbrev pub call_with_progress : ℕ → Progress → OpenCall → OpenCall
call_with_progress place progress call =
    if call.place == place then record { place = call.place; progress = progress } else call

-- the open calls, the one at this place with this progress
abbrev pub calls_with_progress : ℕ → Progress → List OpenCall → List OpenCall
calls_with_progress place progress calls = map (call_with_progress place progress) calls

-- the configuration, the open call at this place with this progress
abbrev pub with_progress : ℕ → Progress → State → State
with_progress place progress c = record c { calls = calls_with_progress place progress c.calls }

-- the configuration of a new channel
abbrev pub start_of : Option ℕ → State
start_of capacity = record {
  capacity = capacity;
  senders = 1;
  receivers = 1;
  queue = [];
  blocked = [];
  receives = [];
  calls = [];
}

-- whether a call is parked
abbrev pub is_parked : Progress → Bool
is_parked Parked = true
is_parked Refused = true
is_parked _ = false

-- whether this is the thread
abbrev pub is_thread : ℕ → Option ℕ → Bool
is_thread t None = false
is_thread t (Some u) = u == t

module _ {T A : Type 0} where
  -- the event at a place
  abbrev pub event_at : List (Event T A) → ℕ → Option (Event T A)
  event_at [] p = None
  event_at (event ∷ events) zero = Some event
  event_at (event ∷ events) (suc p) = event_at events p

  -- the call that an event begins
  abbrev pub call_of : Event T A → Option (Call T)
  call_of (Begins t call) = Some call
  call_of (Returns t answer) = None

  -- the call that began at a place
  abbrev pub call_at : List (Event T A) → ℕ → Option (Call T)
  call_at events p = option_and_then call_of (event_at events p)

  -- the thread of the event at a place
  abbrev pub thread_at : List (Event T A) → ℕ → Option ℕ
  thread_at events p = option_map thread_of (event_at events p)

  -- the message that the call sends that began at a place
  abbrev pub message_at : List (Event T A) → ℕ → Option T
  message_at events p = option_and_then message_of (call_at events p)

  -- the first answer that a thread is recorded to return, of these events
  abbrev pub first_answer : ℕ → List (Event T A) → Option (Answer T A)
  first_answer t [] = None
  first_answer t (Begins u call ∷ events) = first_answer t events
  first_answer t (Returns u answer ∷ events) =
      if u == t then Some answer else first_answer t events

  -- the open call of a thread, of these
  abbrev pub call_by : List (Event T A) → ℕ → List OpenCall → Option OpenCall
  call_by events t [] = None
  call_by events t (call ∷ calls) =
      if is_thread t (thread_at events call.place) then Some call else call_by events t calls
