-- What follows the first space of an answer that is no list is the message that was received.
use Rattle.std.proofs.Common.{◌≡◌, codes, subst, ◌∙◌, rules}
use Rattle.judge_calls.specs.Texts.{IsAnswerText}
use Rattle.judge_calls.proofs.AnswerWordLemmas.{cut_answer}
use Rattle.judge_calls.proofs.answer_texts.short_answer.Goals as goal

pub returns-then-not-is_text : goal.returns-then-not-is_text
returns-then-not-is_text g c = record {
  value = λ answer h.
      let parts = c.in-Some.ensures in
      let got = cut_answer c.in-Some.word.now c.in-Some.digits.now parts.first (λ list e. c.requires.no_list list (parts.parts ∙ e)) answer
      (subst (λ t. IsAnswerText t answer) parts.parts h) in
      let same : c.in-Some.word.now ≡ codes "got" = got.1 in search rules;
}

pub returns-in_err-message : goal.returns-in_err-message
returns-in_err-message g c =
    let parts = c.in-Some.ensures in
    rw c.from_residual.ensures (record {
      value = λ answer h.
          let got = cut_answer c.in-Some.word.now c.in-Some.digits.now parts.first (λ list e. c.requires.no_list list (parts.parts
          ∙ e)) answer
          (subst (λ t. IsAnswerText t answer) parts.parts h) in
          c.in_err-message.ensures.value got.0 got.3 got.2;
    })
