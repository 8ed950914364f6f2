-- The first event that is out of turn is named; if none is, the events are judged.
use Rattle.std.proofs.Common.{inl, inr, ℕ, Option, List, ◌≡◌, ◌∷◌, subst, reverse}
use Rattle.std.specs.Str.Lines.{lines}
use Rattle.std.proofs.lemmas.Result.{IfOk-weaker}
use Rattle.judge_calls.specs.declared.event.Event.{Event}
use Rattle.judge_calls.specs.Recordings.{IsRecordingText, names_of}
use Rattle.judge_verdicts.specs.CallsText.{JudgesCalls, PrintsOutOfTurn}
use Rattle.judge_verdicts.specs.Turns.{AreInTurn, IsOutOfTurn, IsRecordingOf}
use Rattle.judge_verdicts.proofs.recording.judge_in_turn.Goals as goal

pub returns-in-Some : goal.returns-in-Some
returns-in-Some g c =
    let A = g.row.A.Denot in
    let wrong = subst (λ l. IsOutOfTurn l c.in-Some.place) c.deref.ensures.value (rw c.in-Some.is at c.in_ok-place.ensures.found) in
    record {
      judges = IfOk-weaker c.refuse_turn.result
          (λ output. (input : List ℕ) (capacity : Option ℕ) (events : List (Event ℕ A)) (names : List (List ℕ))
          → IsRecordingText (lines input) capacity events names → IsOutOfTurn events c.in-Some.place
          → PrintsOutOfTurn A input output.text.items output.status)
          (λ output. (input : List ℕ) (rest : List (List ℕ)) → lines input ≡ c.args.first.now ∷ rest
          → IsRecordingText (lines input) c.args.capacity c.args.events.items (names_of c.args.names.now)
          → JudgesCalls A c.args.with_steps input output.text.items output.status)
          (λ output refuses input rest begins reads.
          inr (inr (inr (inr (inl (refuses input c.args.capacity c.args.events.items (names_of c.args.names.now) reads wrong))))))
          c.refuse_turn.ensures.refuses;
    }

pub returns-in-None : goal.returns-in-None
returns-in-None g c =
    let A = g.row.A.Denot in
    let in_turn = subst (λ l. AreInTurn (reverse l)) c.deref.ensures.value (rw c.in-None.is at c.in_ok-place.ensures.none) in
    record {
      judges = IfOk-weaker c.judge.result
          (λ output. (input : List ℕ) (rest : List (List ℕ)) → lines input ≡ c.args.first.now ∷ rest
          → IsRecordingOf (lines input) c.args.capacity c.args.events.items (names_of c.args.names.now)
          → JudgesCalls A c.args.with_steps input output.text.items output.status)
          (λ output. (input : List ℕ) (rest : List (List ℕ)) → lines input ≡ c.args.first.now ∷ rest
          → IsRecordingText (lines input) c.args.capacity c.args.events.items (names_of c.args.names.now)
          → JudgesCalls A c.args.with_steps input output.text.items output.status)
          (λ output judges input rest begins reads. judges input rest begins (record { text = reads; in_turn = in_turn }))
          c.judge.ensures.judges;
    }
