-- A search that was given up leaves the events open, or the place at which they stop being explained.
use Rattle.std.proofs.Common.{inl, inr, refl, subst, sym, take, ℕ, Bool, true, Option, List, ◌≡◌, ◌∷◌, ◌⊎◌, eqb}
use Rattle.std.specs.Prelude.{MatchBool}
use Rattle.std.specs.Str.Lines.{lines}
use Rattle.std.proofs.lemmas.Result.{IfOk-weaker}
use Rattle.flume_model.specs.Log.{opens}
use Rattle.judge_search.specs.Search.{BreaksAfter}
use Rattle.judge_calls.specs.declared.event.Event.{Event}
use Rattle.judge_calls.specs.Recordings.{names_of}
use Rattle.judge_verdicts.specs.Turns.{IsRecordingOf}
use Rattle.judge_verdicts.specs.CallsText.{AreExplained, PrintsWrongEvent, PrintsCorrect, JudgesCalls, PrintsUndecided, PrintsSteps}
use Rattle.judge_verdicts.proofs.recording.judge.Goals as goal

-- If the steps are to be shown, they are, or the search for them was given up.
shown_or_open : (A : Type 0) (input text : List ℕ) (status : ℕ) (with_steps : Bool) → with_steps ≡ true
    → PrintsSteps A input text status ⊎ PrintsUndecided A input text status → JudgesCalls A with_steps input text status
shown_or_open A input text status with_steps is (inl shown) =
    inl (subst (λ b. MatchBool b (PrintsSteps A input text status) (PrintsCorrect A input text status)) (sym is) shown)
shown_or_open A input text status with_steps is (inr leaves) = inr (inr (inl leaves))

pub returns-in-Explained : goal.returns-in-Explained
returns-in-Explained g c =
    let A = g.row.A.Denot in
    record {
      judges = IfOk-weaker c.show.result
          (λ output. (input : List ℕ) (rest : List (List ℕ)) → lines input ≡ c.args.first.now ∷ rest
          → IsRecordingOf (lines input) c.args.capacity c.deref-in-Explained.result.now (names_of c.args.names.now)
          → PrintsSteps A input output.text.items output.status ⊎ PrintsUndecided A input output.text.items output.status)
          (λ output. (input : List ℕ) (rest : List (List ℕ)) → lines input ≡ c.args.first.now ∷ rest
          → IsRecordingOf (lines input) c.args.capacity c.args.events.items (names_of c.args.names.now)
          → JudgesCalls A c.args.with_steps input output.text.items output.status)
          (λ output shown input rest begins reads. shown_or_open A input output.text.items output.status c.args.with_steps
          c.if-with_steps.true
          (shown input rest begins
          (subst (λ l. IsRecordingOf (lines input) c.args.capacity l (names_of c.args.names.now))
          (sym c.deref-in-Explained.ensures.value) reads)))
          c.show.ensures.with_steps;
    }

pub break_off-requires : goal.break_off-requires
break_off-requires g c = record {
  breaks = subst (λ l. BreaksAfter (λ x y. eqb x y) (opens c.args.capacity 1) l c.in-Breaks.place) c.deref.ensures.value
      (c.in-Breaks.ensures.breaks c.in-Breaks.place refl);
}

pub returns-in-Breaks : goal.returns-in-Breaks
returns-in-Breaks g c = record {
  judges = IfOk-weaker c.break_off.result
      (λ output. (input : List ℕ) (names : List (List ℕ))
      → IsRecordingOf (lines input) c.args.capacity c.args.events.items names
      → PrintsWrongEvent g.row.A.Denot input output.text.items output.status)
      (λ output. (input : List ℕ) (rest : List (List ℕ)) → lines input ≡ c.args.first.now ∷ rest
      → IsRecordingOf (lines input) c.args.capacity c.args.events.items (names_of c.args.names.now)
      → JudgesCalls g.row.A.Denot c.args.with_steps input output.text.items output.status)
      (λ output breaks input rest begins reads. inr (inl (breaks input (names_of c.args.names.now) reads)))
      c.break_off.ensures.breaks;
}

pub returns-in-Unexplained : goal.returns-in-Unexplained
returns-in-Unexplained g c =
    let at = c.in-Unexplained.ensures.unexplained c.in-Unexplained.place refl in
    record {
      judges = λ input rest begins reads.
          inr (inr (inr (inr (inr (record {
            capacity = c.args.capacity;
            events = c.args.events.items;
            names = names_of c.args.names.now;
            reads = reads;
            count = c.in-Unexplained.place;
            explained = subst (λ l. AreExplained c.args.capacity (take c.in-Unexplained.place l)) c.deref.ensures.value at.before;
            not_all = λ all. at.not_all (subst (λ l. AreExplained c.args.capacity l) (sym c.deref.ensures.value) all);
            text_is = c.in_ok-text-in-Unexplained.ensures.value;
            status_is = refl;
          })))));
    }

pub returns : goal.returns
returns g c = record {
  judges = IfOk-weaker c.give_up.result
      (λ output. (input : List ℕ) (capacity : Option ℕ) (events : List (Event ℕ g.row.A.Denot)) (names : List (List ℕ))
      → IsRecordingOf (lines input) capacity events names → AreExplained capacity (take c.in-GaveUp.place events)
      → PrintsUndecided g.row.A.Denot input output.text.items output.status)
      (λ output. (input : List ℕ) (rest : List (List ℕ)) → lines input ≡ c.args.first.now ∷ rest
      → IsRecordingOf (lines input) c.args.capacity c.args.events.items (names_of c.args.names.now)
      → JudgesCalls g.row.A.Denot c.args.with_steps input output.text.items output.status)
      (λ output leaves input rest begins reads.
      inr (inr (inl (leaves input c.args.capacity c.args.events.items (names_of c.args.names.now) reads
      (subst (λ l. AreExplained c.args.capacity (take c.in-GaveUp.place l)) c.deref.ensures.value
      (c.in-GaveUp.ensures.gave_up c.in-GaveUp.place refl).explained)))))
      c.give_up.ensures.gives_up;
}
