-- A history that was followed so far, with what was said: it goes on, or breaks.
use Rattle.std.proofs.Common.{◌≡◌, ℕ, suc, ◌+◌, ◌<◌, List, ◌∷◌, ◌++◌, Option, sym, ap, subst, subst₂, ◌∙◌}
use Rattle.std.proofs.Common.{length, take, drop, reverse, arith}
use Rattle.std.proofs.Math.ListN.{get_or}
use Rattle.std.proofs.Math.Seq.{drop-cons}
use Rattle.std.proofs.lemmas.List.{take-append-drop, length-take-le}
use Rattle.std.specs.Str.Lines.{lines}
use Rattle.flume_model.specs.declared.step.Step.{Step}
use Rattle.flume_model.specs.Log.{Log, Opening, opens}
use Rattle.flume_model.specs.Channel.{channel}
use Rattle.flume_model.specs.Replies.{IsRun}
use Rattle.flume_script.specs.Script.{IsScript}
use Rattle.flume_history.specs.Histories.{DescribesLog, BreaksAt}
use Rattle.flume_history.specs.HistoryText.{Pair, IsTextOf, IsPairLine, IsLawfulText, Shows, Breaks, break_text}
use Rattle.flume_history.proofs.FollowLemmas.{TellsWant, same_steps, breaks_at}
use Rattle.flume_history.proofs.OneRunLemmas.{one_run}
use Rattle.flume_history.proofs.ReplyWantLemmas.{same_want}
use Rattle.flume_history.proofs.SameLogLemmas.{channel_same}

-- the text of a reply tells whether memory was needed
tells_want : {A : Type 0} → TellsWant (IsTextOf {A = A})
tells_want said reply other is also = (same_want reply other (sym is ∙ also), same_want other reply (sym also ∙ is))

-- a list is what is before a place, the element there, and what is behind it
parts : {E : Type 0} (list : List E) (place : ℕ) (e : E) → place < length list → e ≡ get_or list place e
    → list ≡ take place list ++ e ∷ drop (suc place) list
parts list place e within at =
    sym (take-append-drop place list)
    ∙ ap (λ later. take place list ++ later) (drop-cons list place e within ∙ ap (λ x. x ∷ drop (suc place) list) (sym at))

-- after each run of the same pairs the same is lawful
shown_after : {A : Type 0} (o : Opening) (said : List Pair) (log : Log ℕ A) (step : Step ℕ) (expected : List ℕ) → IsRun o log
    → DescribesLog IsTextOf said log → Shows A (channel o log) step expected → (other : Log ℕ A) → IsRun o other
    → DescribesLog IsTextOf said other
    → Shows A (channel o other) step expected
shown_after {A} o said log step expected run so shows other run' so' =
    subst (λ c. Shows A c step expected)
    (channel_same o log other (one_run o log other run run' (same_steps IsTextOf tells_want said log other so so'))) shows

-- if what was said isn't lawful, the history breaks
pub breaks_there : {A : Type 0} (input : List ℕ) (capacity : Option ℕ) (history : List Pair) (place : ℕ) (step : Step ℕ) (said : List ℕ)
    → IsScript IsPairLine (lines input) capacity history → place < length history
    → (step, said) ≡ get_or history place (step, said) → (log : Log ℕ A) → IsRun (opens capacity 1) log
    → DescribesLog IsTextOf (reverse (take place history)) log → (expected : List ℕ)
    → Shows A (channel (opens capacity 1) log) step expected × (IsLawfulText A (channel (opens capacity 1) log) step said → ⊥)
    → (text : List ℕ) (status : ℕ) → text ≡ break_text (place + 2) said expected → status ≡ 1 → Breaks A input text status
breaks_there {A} input capacity history place step said reads within at log run so expected shows text status text_is status_is =
    let cut = parts history place (step, said) within at in
    let count : length (take place history) ≡ place = length-take-le place history (omega arith) in
    record {
      capacity = capacity;
      before = take place history;
      step = step;
      reply = said;
      later = drop (suc place) history;
      reads = subst (IsScript IsPairLine (lines input) capacity) cut reads;
      breaks = subst₂ (BreaksAt {A = A} IsTextOf (opens capacity 1)) cut (sym count)
          (breaks_at IsTextOf tells_want (opens capacity 1) history place (step, said) log within at run so
          (λ reply lawful recorded. shows.1 (reply, lawful, recorded)));
      expected = expected;
      shows = shown_after (opens capacity 1) (reverse (take place history)) log step expected run so shows.0;
      text_is = text_is ∙ ap (λ n. break_text (n + 2) said expected) (sym count);
      status_is = status_is;
    }
