-- What follows the first space of a call is its number.
use Rattle.std.proofs.Common.{sym, subst, ◌∙◌}
use Rattle.judge_calls.specs.Texts.{call_word, call_number, FitsIfAny}
use Rattle.judge_calls.proofs.CallWordLemmas.{word_without, cut_worded}
use Rattle.judge_calls.proofs.call_texts.call_of.Goals as goal

pub returns-in_err-number_of-in-Some : goal.returns-in_err-number_of-in-Some
returns-in_err-number_of-in-Some c =
    let parts = c.in-Some.ensures in
    rw c.from_residual.ensures (record {
      value = λ call h.
          let cut = cut_worded c.in-Some.word.now c.in-Some.digits.now (call_word call) (call_number call) parts.first (word_without call)
          (sym parts.parts ∙ h.0) in
          c.in_err-number_of-in-Some.ensures.value cut.0 (subst FitsIfAny cut.1 h.1) cut.3;
    })
