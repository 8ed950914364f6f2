-- Two patterns of events that have no explanation. They are seen without a search.
use Rattle.std.specs.Prelude.{◌≡◌, ◌==◌, ℕ, Bool, true, false, ◌||◌, ◌&&◌, if◌then◌else◌}
use Rattle.std.specs.Prelude.{List, [], ◌∷◌, ◌++◌}
use Rattle.std.specs.List.{Contains}
use Rattle.std.specs.Option.{option_map_or}
use Rattle.judge_calls.specs.declared.call.Call.{Call}
use Rattle.judge_calls.specs.declared.call.Answer.TheVariants.{Got}
use Rattle.judge_calls.specs.declared.event.Event.{Event}
use Rattle.judge_calls.specs.declared.event.Event.TheVariants.{Begins, Returns}
use Rattle.judge_calls.specs.Calls.{message_of}

module _ {T : Type 0} where
  -- whether a call sends such a message
  abbrev pub sends : (T → Bool) → Call T → Bool
  sends such call = option_map_or such (message_of call) false

module _ {T A : Type 0} where
  -- whether one of these events, the oldest first, begins a send of such a message
  abbrev pub begins_send : (T → Bool) → List (Event T A) → Bool
  begins_send such [] = false
  begins_send such (Begins t call ∷ events) = sends such call || begins_send such events
  begins_send such (Returns t answer ∷ events) = begins_send such events

  -- whether one of these events is that a thread's call returns
  abbrev pub returns_in : ℕ → List (Event T A) → Bool
  returns_in t [] = false
  returns_in t (Begins u call ∷ events) = returns_in t events
  returns_in t (Returns u answer ∷ events) = if u == t then true else returns_in t events

  -- whether each send of such a message, begun in these events, has returned in them
  abbrev pub all_returned : (T → Bool) → List (Event T A) → Bool
  all_returned such [] = true
  all_returned such (Begins t call ∷ events) =
      (if sends such call then returns_in t events else true) && all_returned such events
  all_returned such (Returns t answer ∷ events) = all_returned such events

module _ {T A : Type 0} (equal : T → T → Bool) where
  -- the last event receives a message of which no send has begun
  pub record IsUnsent (events : List (Event T A)) : Type 0 where
    pub message : T
    pub thread : ℕ
    pub before : List (Event T A)
    pub parts : events ≡ before ++ Returns thread (Got message) ∷ []
    pub unsent : begins_send (equal message) before ≡ false

  -- the last event receives `first`, sent before `second`, in a call begun after `second` was got
  pub record IsOutOfOrder (events : List (Event T A)) : Type 0 where
    pub first : T
    pub second : T
    pub early : List (Event T A)
    pub between : List (Event T A)
    pub inner : List (Event T A)
    pub receiver : ℕ
    pub call : Call T
    pub parts : events ≡ early ++ between
        ++ Begins receiver call ∷ inner ++ Returns receiver (Got first) ∷ []
    pub no_second : begins_send (equal second) early ≡ false
    pub first_sent : all_returned (equal first) early ≡ true
    pub no_first : begins_send (equal first) (between ++ Begins receiver call ∷ inner) ≡ false
    pub other : ℕ
    pub second_received : Contains between (Returns other (Got second))
