-- Recordings in which each thread has one call at a time.
use Rattle.std.specs.Prelude.{◌≡◌, ◌==◌, ℕ, if◌then◌else◌, IsSome, Option, Some, None}
use Rattle.std.specs.Prelude.{List, [], ◌∷◌, ◌++◌, length, reverse}
use Rattle.std.specs.BTreeMap.{BTreeMap, get}
use Rattle.std.specs.Ordering.{nat_cmp}
use Rattle.judge_calls.specs.declared.call.Call.{Call}
use Rattle.judge_calls.specs.declared.event.Event.{Event}
use Rattle.judge_calls.specs.declared.event.Event.TheVariants.{Begins, Returns}
use Rattle.judge_calls.specs.Recordings.{IsRecordingText}

module _ {A : Type 0} where
  -- the call that a thread has open, if any; the newest event comes first, here and below
  abbrev pub call_open : List (Event ℕ A) → ℕ → Option (Call ℕ)
  call_open [] t = None
  call_open (Begins u call ∷ past) t = if u == t then Some call else call_open past t
  call_open (Returns u answer ∷ past) t = if u == t then None else call_open past t

  -- the event begins a call of a thread that has none open, or returns one that is open
  abbrev pub IsInTurn : List (Event ℕ A) → Event ℕ A → Type 0
  IsInTurn past (Begins t call) = call_open past t ≡ None
  IsInTurn past (Returns t answer) = IsSome (call_open past t)

  -- so does each event
  abbrev pub AreInTurn : List (Event ℕ A) → Type 0
  AreInTurn [] = Unit {0}
  AreInTurn (event ∷ past) = IsInTurn past event × AreInTurn past

  -- the map has the calls that are open
  abbrev pub HasCalls : List (Event ℕ A) → BTreeMap ℕ (Call ℕ) → Type 0
  HasCalls past calls = (t : ℕ) → get nat_cmp calls t ≡ call_open past t

  -- of these events, the oldest first, the one at a place is the first that is out of turn
  pub record IsOutOfTurn (events : List (Event ℕ A)) (place : ℕ) : Type 0 where
    pub before : List (Event ℕ A)
    pub event : Event ℕ A
    pub later : List (Event ℕ A)
    pub parts : events ≡ before ++ event ∷ later
    pub place_is : length before ≡ place
    pub in_turn : AreInTurn (reverse before)
    pub out_of_turn : ¬ IsInTurn (reverse before) event

  -- the lines are a recording of these events, and each thread has one call at a time
  pub record IsRecordingOf (lines : List (List ℕ)) (capacity : Option ℕ)
      (events : List (Event ℕ A)) (names : List (List ℕ)) : Type 0 where
    pub text : IsRecordingText lines capacity events names
    pub in_turn : AreInTurn (reverse events)
