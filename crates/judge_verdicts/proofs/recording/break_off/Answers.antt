-- The event was taken out, and those before it are left.
use Rattle.std.proofs.Common.{◌+◌, ◌++◌, ◌∙◌, ap, subst}
use Rattle.std.specs.List.{All}
use Rattle.judge_calls.specs.Explanations.{thread_of}
use Rattle.judge_verdicts.specs.CallsText.{IsPossible, but_text, line_text, recorded_text}
use Rattle.judge_verdicts.proofs.BreakLemmas.{broken}
use Rattle.judge_verdicts.proofs.recording.break_off.Goals as goal

pub returns : goal.returns
returns g c = record {
  breaks = λ input names reads.
      let event = c.remove-event.result in
      let possible = subst (λ l. All (IsPossible c.args.capacity l (thread_of event)) c.in_ok-answers.answers.items)
      c.truncate.ensures.items c.in_ok-answers.ensures.possible in
      broken input c.in_ok-text.text.items c.args.capacity names c.args.events.items c.remove-event.new.self.items c.args.place
      event c.in_ok-answers.answers.items c.requires.breaks reads c.remove-event.ensures.value c.remove-event.ensures.by_index.2
      possible (c.in_ok-text.ensures.value
      ∙ ap (λ l. line_text (c.args.place + 2) (recorded_text event ++ but_text l)) c.deref.ensures.value);
}
