-- A printed number has no zero in front, and digits without one are printed so.
use Rattle.std.proofs.Common.{rules}
use Rattle.judge_calls.proofs.DigitLemmas.{no_zero, printed}
use Rattle.judge_calls.proofs.numbers.number_of.Goals.{else-text-gt1-via-then-text-gt1+else-text-eq48, else-text-gt1-via-else-text-gt1}
use Rattle.judge_calls.proofs.numbers.number_of.Goals as goal

pub returns-then-text-eq48 : goal.returns-then-text-eq48
returns-then-text-eq48 c = record {
  value = λ n fits is. no_zero n fits c.args.text.now is (search rules) (search rules);
}

pub returns : goal.returns
returns c = record {
  value = printed c.args.text.now c.number.result (λ long front. (elim c.else-text-gt1.branch [
    | else-text-gt1-via-then-text-gt1+else-text-eq48 w ↦ search rules
    | else-text-gt1-via-else-text-gt1 w ↦ search rules
  ])) c.number.ensures.value;
}
