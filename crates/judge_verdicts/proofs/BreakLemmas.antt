-- The events before the one with which they aren't explained.
use Rattle.std.proofs.Common.{◌≡◌, ℕ, ◌+◌, ◌<◌, Option, List, [], ◌∷◌, ◌++◌, length, get_or, take, drop, eqb, refl, sym, subst, ap, ◌∙◌}
use Rattle.std.proofs.Common.{arith}
use Rattle.std.specs.List.{All}
use Rattle.std.specs.Str.Lines.{lines}
use Rattle.std.proofs.Math.Seq.{take-append_seam}
use Rattle.std.proofs.lemmas.Grind.{take_at_read}
use Rattle.std.proofs.lemmas.List.{append_assoc, length-take-le, take-append-drop}
use Rattle.flume_model.specs.Log.{opens}
use Rattle.judge_calls.specs.declared.call.Answer.{Answer}
use Rattle.judge_calls.specs.declared.event.Event.{Event}
use Rattle.judge_calls.specs.Explanations.{thread_of}
use Rattle.judge_verdicts.specs.Turns.{IsRecordingOf}
use Rattle.judge_search.specs.Search.{BreaksAfter}
use Rattle.judge_verdicts.specs.CallsText.{AreExplained, PrintsWrongEvent, IsPossible, but_text, line_text, recorded_text}

module _ {A : Type 0} where
  -- the events before a place are the first of those that stay without that one
  pub front : (events left : List (Event ℕ A)) (place : ℕ) → place < length events
      → left ≡ take place events ++ drop (place + 1) events → take place left ≡ take place events
  front events left place within parts =
      let size : length (take place events) ≡ place = length-take-le place events (omega arith) in
      ap (take place) parts
      ∙ subst (λ n. take n (take place events ++ drop (place + 1) events) ≡ take place events) size
      (take-append_seam (take place events) (drop (place + 1) events))

  -- the events up to a place, and the one at it
  next_at : (events : List (Event ℕ A)) (place : ℕ) (event : Event ℕ A) → place < length events → event ≡ get_or events place event
      → take (place + 1) events ≡ take place events ++ event ∷ []
  next_at events place event within here =
      (take_at_read events place event within).1 ∙ ap (λ e. take place events ++ e ∷ []) (sym here)

  -- the events before a place, the one at it, and those behind it
  pub parts_at : (events : List (Event ℕ A)) (place : ℕ) (event : Event ℕ A) → place < length events
      → event ≡ get_or events place event → events ≡ take place events ++ event ∷ drop (place + 1) events
  parts_at events place event within here =
      sym (take-append-drop (place + 1) events) ∙ ap (λ l. l ++ drop (place + 1) events) (next_at events place event within here)
      ∙ append_assoc (take place events) (event ∷ []) (drop (place + 1) events)

  -- the text names that event, if it was taken out
  pub broken : (input text : List ℕ) (capacity : Option ℕ) (names : List (List ℕ)) (events left : List (Event ℕ A)) (place : ℕ)
      (event : Event ℕ A) (answers : List (Answer ℕ A))
      → BreaksAfter (λ x y. eqb x y) (opens capacity 1) events place
      → IsRecordingOf (lines input) capacity events names
      → event ≡ get_or events place event
      → left ≡ take place events ++ drop (place + 1) events
      → All (IsPossible capacity (take place left) (thread_of event)) answers
      → text ≡ line_text (place + 2) (recorded_text event ++ but_text answers)
      → PrintsWrongEvent A input text 1
  broken input text capacity names events left place event answers breaks reads here parts possible told =
      let within = breaks.is_within in
      let before = take place events in
      let size : length before ≡ place = length-take-le place events (omega arith) in
      let next = next_at events place event within here in
      let all = parts_at events place event within here in
      record {
        capacity = capacity;
        before = before;
        event = event;
        later = drop (place + 1) events;
        names = names;
        reads = subst (λ l. IsRecordingOf (lines input) capacity l names) all reads;
        explained = breaks.before;
        not_with_next = λ e. breaks.not_with_next (subst (λ l. AreExplained capacity l) (sym next) e);
        answers = answers;
        possible = subst (λ l. All (IsPossible capacity l (thread_of event)) answers) (front events left place within parts) possible;
        text_is = told ∙ ap (λ n. line_text (n + 2) (recorded_text event ++ but_text answers)) (sym size);
        status_is = refl;
      }
