-- The items have the events, and tell of an explanation.
use Rattle.std.proofs.Common.{inl, inr, ℕ, List, ◌≡◌, ◌∷◌, ◌++◌, ◌⊎◌, ◌∙◌, ap, refl, take, arith}
use Rattle.std.specs.Str.Lines.{lines}
use Rattle.std.proofs.lemmas.Result.{IfOk-weaker}
use Rattle.judge_calls.specs.declared.event.Event.{Event}
use Rattle.judge_calls.specs.Recordings.{names_of}
use Rattle.judge_verdicts.specs.Turns.{IsRecordingOf}
use Rattle.judge_verdicts.specs.CallsText.{AreExplained, PrintsUndecided, PrintsSteps}
use Rattle.judge_verdicts.specs.ItemLines.{item_lines}
use Rattle.judge_verdicts.proofs.recording.show.Goals as goal

pub returns-in_ok-text-in-Explained : goal.returns-in_ok-text-in-Explained
returns-in_ok-text-in-Explained g c = record {
  with_steps = λ input rest begins reads.
      inl (record {
        first = c.args.first.now;
        rest = rest;
        lines_are = begins;
        capacity = c.args.capacity;
        events = c.args.events.now;
        names = names_of c.args.names.now;
        reads = reads;
        items = c.in-Explained.items.items;
        events_are = c.in-Explained.ensures.events c.in-Explained.items refl;
        explains = c.in-Explained.ensures.explains c.in-Explained.items refl;
        text_is =
            c.in_ok-text-in-Explained.ensures.value
            ∙ ap (λ items. c.args.first.now ++ 10 ∷ item_lines (names_of c.args.names.now) items) c.deref.ensures.value;
        status_is = refl;
      });
}

pub give_up-requires : goal.give_up-requires
give_up-requires g c =
    let far = c.in-GaveUp.ensures.gave_up c.in-GaveUp.place refl in
    let within = far.within in
    let room = c.requires.room in
    record { room = omega arith }

pub returns-in-GaveUp : goal.returns-in-GaveUp
returns-in-GaveUp g c = record {
  with_steps = IfOk-weaker c.give_up.result
      (λ output. (input : List ℕ) (capacity : _) (events : List (Event ℕ g.row.A.Denot)) (names : List (List ℕ))
      → IsRecordingOf (lines input) capacity events names → AreExplained capacity (take c.in-GaveUp.place events)
      → PrintsUndecided g.row.A.Denot input output.text.items output.status)
      (λ output. (input : List ℕ) (rest : List (List ℕ)) → lines input ≡ c.args.first.now ∷ rest
      → IsRecordingOf (lines input) c.args.capacity c.args.events.now (names_of c.args.names.now)
      → PrintsSteps g.row.A.Denot input output.text.items output.status ⊎ PrintsUndecided g.row.A.Denot input output.text.items
      output.status)
      (λ output leaves input rest begins reads. inr (leaves input c.args.capacity c.args.events.now (names_of c.args.names.now) reads
      (c.in-GaveUp.ensures.gave_up c.in-GaveUp.place refl).explained))
      c.give_up.ensures.gives_up;
}
