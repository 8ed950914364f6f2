-- What a recording is, line by line.
use Rattle.std.specs.Prelude.{◌≡◌, ◌==◌, ℕ, ◌+◌, ◌<◌, ◌≤◌, ◌⊎◌, max, if◌then◌else◌}
use Rattle.std.specs.Prelude.{Bool, true, false, Option, List, [], ◌∷◌, ◌++◌, length, map}
use Rattle.std.specs.Borrow.{Bor}
use Rattle.std.specs.List.{AllZip}
use Rattle.std.specs.Str.Lines.{lines}
use Rattle.judge_calls.specs.declared.call.Call.{Call}
use Rattle.judge_calls.specs.declared.call.Call.TheVariants.{Capacity as CapacityQuery}
use Rattle.judge_calls.specs.declared.event.Event.{Event}
use Rattle.judge_calls.specs.declared.event.Event.TheVariants.{Begins, Returns}
use Rattle.judge_calls.specs.Explanations.{thread_of}
use Rattle.flume_script.specs.Script.{IsOpeningLine, IsNoOpening}
use Rattle.judge_calls.specs.declared.fault.Fault.{Fault}
use Rattle.judge_calls.specs.declared.fault.Fault.TheVariants.{NoOpening}
use Rattle.judge_calls.specs.declared.recording.Recording.{Recording}
use Rattle.judge_calls.specs.declared.recording.Recording.TheVariants.{Right, Wrong}
use Rattle.judge_calls.specs.EventLines.{IsEventLine, IsNoEvent, IsFault, name_of}
use Rattle.judge_calls.specs.Texts.{IsNumberOf}

-- whether a call asks for the capacity
abbrev pub asks_capacity : Call ℕ → Bool
asks_capacity CapacityQuery = true
asks_capacity _ = false

-- no two threads have one name
abbrev pub AreDistinct : List (List ℕ) → Type 0
AreDistinct names =
    (t u : ℕ) → t < u → u < length names → ¬ (name_of names t ≡ name_of names u)

module _ {A : Type 0} where
  -- after `known` threads, each event is of one of them or of the next one, up to `count` in all
  abbrev pub AreNumbered : ℕ → List (Event ℕ A) → ℕ → Type 0
  AreNumbered known [] count = known ≡ count
  AreNumbered known (event ∷ events) count =
      (thread_of event ≤ known) × AreNumbered (max known (thread_of event + 1)) events count

  -- which threads asked for the capacity last, after an event
  abbrev pub asking_after : (ℕ → Bool) → Event ℕ A → ℕ → Bool
  asking_after asking (Begins thread call) u =
      if u == thread then asks_capacity call else asking u
  asking_after asking (Returns thread answer) u = asking u

  -- an answer that is a number is read as its call has it
  abbrev pub IsReadBy : (ℕ → Bool) → Event ℕ A → Type 0
  IsReadBy asking (Begins thread call) = Unit {0}
  IsReadBy asking (Returns thread answer) = IsNumberOf (asking thread) answer

  -- the same of each event
  abbrev pub AreReadByCalls : (ℕ → Bool) → List (Event ℕ A) → Type 0
  AreReadByCalls asking [] = Unit {0}
  AreReadByCalls asking (event ∷ events) =
      IsReadBy asking event × AreReadByCalls (asking_after asking event) events

-- these lines are these events, of threads with these names
pub record AreEventLines {A : Type 0} (lines : List (List ℕ)) (events : List (Event ℕ A))
    (names : List (List ℕ)) : Type 0 where
  pub are_lines : AllZip (IsEventLine names) lines events
  pub distinct : AreDistinct names
  pub numbered : AreNumbered 0 events (length names)
  pub by_calls : AreReadByCalls (λ thread. false) events

-- the lines are an opening line, and then a line for each of these events
pub record IsRecordingText {A : Type 0} (lines : List (List ℕ)) (capacity : Option ℕ)
    (events : List (Event ℕ A)) (names : List (List ℕ)) : Type 0 where
  pub first : List ℕ
  pub rest : List (List ℕ)
  pub lines_are : lines ≡ first ∷ rest
  pub opens : IsOpeningLine first capacity
  pub events_are : AreEventLines rest events names

-- `place` lines are events, and the next one is none, for this reason
pub record EventsUpTo (A : Type 0) (lines : List (List ℕ)) (place : ℕ) (fault : Fault)
    : Type 0 where
  pub before : List (List ℕ)
  pub events : List (Event ℕ A)
  pub names : List (List ℕ)
  pub line : List ℕ
  pub later : List (List ℕ)
  pub parts : lines ≡ before ++ line ∷ later
  pub right : AreEventLines before events names
  pub wrong : IsNoEvent A line
  pub reason : IsFault A line fault
  pub place_is : length before ≡ place

-- the first wrong line has this number, counted from 1, and this fault; without any line, it is 1
abbrev pub IsFirstWrongEvent : Type 0 → List (List ℕ) → ℕ → Fault → Type 0
IsFirstWrongEvent A [] number fault = (number ≡ 1) × (fault ≡ NoOpening)
IsFirstWrongEvent A (first ∷ rest) number fault =
    (IsNoOpening first × (number ≡ 1) × (fault ≡ NoOpening))
    ⊎ ((capacity : Option ℕ) × IsOpeningLine first capacity
    × (place : ℕ) × EventsUpTo A rest place fault × (number ≡ place + 2))

-- the names that these borrow
abbrev pub names_of : List (Bor (List ℕ)) → List (List ℕ)
names_of names = map (λ name. name.now) names

-- the bytes are a recording of these events, or this line of them is the first wrong
abbrev pub IsRecordingReading : {A : Type 0} → List ℕ → Recording A → Type 0
IsRecordingReading input (Right capacity events names) =
    IsRecordingText (lines input) capacity events.items (names_of names.items)
IsRecordingReading {A} input (Wrong line fault) = IsFirstWrongEvent A (lines input) line fault
