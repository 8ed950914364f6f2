-- A line with a space is a step's word, or a word and a number of 64 bits.
use Rattle.std.proofs.Common.{refl}
use Rattle.flume_script.proofs.ScriptWordLemmas.{is_step, no_step}
use Rattle.flume_script.proofs.reading.step_of.Goals as goal

pub returns-in_err-number : goal.returns-in_err-number
returns-in_err-number c =
    let cut = c.in_ok-word in
    let other = no_step c.args.line.now cut.word.now cut.digits.now cut.ensures.parts cut.ensures.first in
    rw c.from_residual-in_err-number.ensures (record {
      value = other (λ step e. c.in_default.ensures.none step e refl) (λ step n e number. c.in_err-number.ensures.value number);
    })

pub returns : goal.returns
returns c =
    let cut = c.in_ok-word in
    let other = no_step c.args.line.now cut.word.now cut.digits.now cut.ensures.parts cut.ensures.first in
    record {
      value = is_step c.args.line.now cut.word.now cut.digits.now c.step_with_number.result cut.ensures.parts c.in_ok-number.ensures.value.0
          (λ none. other (λ step e. c.in_default.ensures.none step e refl)
          (λ step n e number. c.step_with_number.ensures.none step n e none))
          (rw (← c.in_ok-number.ensures.value.1) c.step_with_number.ensures.some);
    }
