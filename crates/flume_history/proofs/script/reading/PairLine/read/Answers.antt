-- A line is a pair only if what is before its arrow is a step.
use Rattle.std.proofs.Common.{sym, subst, ◌∙◌}
use Rattle.flume_script.specs.Script.{IsStepLine}
use Rattle.flume_history.proofs.PairLineLemmas.{one_arrow, step_plain}
use Rattle.flume_history.proofs.script.reading.PairLine.read.Goals as goal

pub returns-in_err-text : goal.returns-in_err-text
returns-in_err-text c =
    rw c.from_residual.ensures (record {
      value = λ pair is.
          c.in_err-text.ensures.none is.step_text pair.1 (step_plain is.step_text pair.0 is.is_step) is.line_is;
    })

pub returns-in_err-step : goal.returns-in_err-step
returns-in_err-step c =
    let parts = c.in_ok-text.ensures in
    rw c.from_residual-in_err-step.ensures (record {
      value = λ pair is.
          let plain = step_plain is.step_text pair.0 is.is_step in
          let same = one_arrow c.in_ok-text.text.now is.step_text c.in_ok-text.reply.now pair.1 parts.first plain (sym parts.parts
          ∙ is.line_is) in
          c.in_err-step.ensures.value pair.0 (subst (λ text. IsStepLine text pair.0) (sym same) is.is_step);
    })
