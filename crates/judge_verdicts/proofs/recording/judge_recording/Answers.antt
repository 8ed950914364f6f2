-- Each line is right, and the events are judged.
use Rattle.std.proofs.Common.{ℕ, List, ◌≡◌, ◌∷◌, ◌∙◌, ap, sym, subst}
use Rattle.std.specs.Str.Lines.{lines}
use Rattle.std.proofs.lemmas.Result.{IfOk-weaker}
use Rattle.judge_calls.specs.Recordings.{IsRecordingText, names_of}
use Rattle.judge_verdicts.specs.CallsText.{JudgesCalls}
use Rattle.judge_verdicts.proofs.recording.judge_recording.Goals as goal

pub returns-in-Right : goal.returns-in-Right
returns-in-Right g c =
    let reads = rw c.in-Right.is at c.in_ok-line.ensures.value in
    let input = c.args.input.now in
    let begins : lines input ≡ c.first_line.result.now ∷ reads.rest =
    reads.lines_are ∙ ap (λ line. line ∷ reads.rest) (sym (c.first_line.ensures.value reads.first reads.rest reads.lines_are)) in
    let named = subst (λ names. IsRecordingText (lines input) c.in-Right.capacity c.in-Right.events.items (names_of names))
    (sym c.deref.ensures.value) reads in
    record {
      judges = IfOk-weaker c.judge_in_turn.result
          (λ output. (input : List ℕ) (rest : List (List ℕ)) → lines input ≡ c.first_line.result.now ∷ rest
          → IsRecordingText (lines input) c.in-Right.capacity c.in-Right.events.items (names_of c.deref.result.now)
          → JudgesCalls g.row.A.Denot c.args.with_steps input output.text.items output.status)
          (λ output. JudgesCalls g.row.A.Denot c.args.with_steps input output.text.items output.status)
          (λ output judges. judges input reads.rest begins named) c.judge_in_turn.ensures.judges;
    }
