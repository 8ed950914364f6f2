-- The line of an event.
use Rattle.std.specs.Prelude.{◌≡◌, ◌==◌, ℕ, ◌<◌, false, List, [], ◌++◌, length, codes}
use Rattle.std.specs.Prelude.{slice_index_or}
use Rattle.std.specs.List.{All}
use Rattle.judge_calls.specs.declared.event.Event.{Event}
use Rattle.judge_calls.specs.declared.event.Event.TheVariants.{Begins, Returns}
use Rattle.judge_calls.specs.Explanations.{thread_of}
use Rattle.judge_calls.specs.declared.fault.Fault.{Fault}
use Rattle.judge_calls.specs.declared.fault.Fault.TheVariants.{NoEvent, NoCall, NoAnswer}
use Rattle.judge_calls.specs.declared.parts.Parts.{Parts}
use Rattle.judge_calls.specs.declared.parts.Parts.TheVariants as parts
use Rattle.judge_calls.specs.Texts.{call_text, answer_text, call_number, AnswerFits, FitsIfAny}
use Rattle.judge_calls.specs.Texts.{IsNoCall, IsNoAnswer}

-- the name of a thread: one byte or more, none of them a space or a colon
pub record IsName (name : List ℕ) : Type 0 where
  pub some : 0 < length name
  pub no_space : All (λ x. (x == 32) ≡ false) name
  pub no_colon : All (λ x. (x == 58) ≡ false) name

-- the line of a begin
abbrev pub begins_line : List ℕ → List ℕ → List ℕ
begins_line name text = name ++ codes ": " ++ text

-- the line of a return
abbrev pub returns_line : List ℕ → List ℕ → List ℕ
returns_line name text = name ++ codes " -> " ++ text

-- the name of a thread, empty if it has none
abbrev pub name_of : List (List ℕ) → ℕ → List ℕ
name_of names thread = slice_index_or names thread []

module _ {A : Type 0} where
  -- the text of an event
  abbrev pub event_text : List (List ℕ) → Event ℕ A → List ℕ
  event_text names (Begins thread call) = begins_line (name_of names thread) (call_text call)
  event_text names (Returns thread answer) =
      returns_line (name_of names thread) (answer_text answer)

  -- the event's numbers fit 64 bits
  abbrev pub EventFits : Event ℕ A → Type 0
  EventFits (Begins thread call) = FitsIfAny (call_number call)
  EventFits (Returns thread answer) = AnswerFits answer

  -- the line is this event
  pub record IsEventLine (names : List (List ℕ)) (line : List ℕ) (event : Event ℕ A) : Type 0 where
    pub line_is : line ≡ event_text names event
    pub fits : EventFits event
    pub known : thread_of event < length names
    pub name : IsName (name_of names (thread_of event))

-- the line is no event, whatever the names are
abbrev pub IsNoEvent : Type 0 → List ℕ → Type 0
IsNoEvent A line = (names : List (List ℕ)) (event : Event ℕ A) → ¬ IsEventLine names line event

-- these are the parts of the line
abbrev pub ArePartsOf : List ℕ → Parts → Type 0
ArePartsOf line (parts.Begins name call) =
    IsName name.now × (line ≡ begins_line name.now call.now)
ArePartsOf line (parts.Returns name answer) =
    IsName name.now × (line ≡ returns_line name.now answer.now)

-- the line isn't a name with a colon or an arrow behind it
abbrev pub HasNoParts : List ℕ → Type 0
HasNoParts line =
    (name text : List ℕ) → IsName name
    → (¬ (line ≡ begins_line name text)) × (¬ (line ≡ returns_line name text))

-- why a line is no event
abbrev pub IsFault : Type 0 → List ℕ → Fault → Type 0
IsFault A line NoEvent = HasNoParts line
IsFault A line NoCall =
    (name : List ℕ) × (text : List ℕ)
    × IsName name × (line ≡ begins_line name text) × IsNoCall text
IsFault A line NoAnswer =
    (name : List ℕ) × (text : List ℕ)
    × IsName name × (line ≡ returns_line name text) × IsNoAnswer A text
IsFault A line _ = ⊥
