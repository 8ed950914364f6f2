-- What begins with the word of a list is a list or no answer.
use Rattle.std.proofs.Common.{Some, codes, subst}
use Rattle.std.proofs.lemmas.Bool.Decides.{Decides-eqb}
use Rattle.std.proofs.lemmas.Slice.Eq.{strip_prefix_is}
use Rattle.judge_calls.specs.Texts.{IsAnswerText}
use Rattle.judge_calls.proofs.AnswerWordLemmas.{drained_answer}
use Rattle.judge_calls.proofs.answer_texts.answer_of.Goals as goal

pub returns-in-None : goal.returns-in-None
returns-in-None g c = record {
  value = λ answer h.
      let front = strip_prefix_is Decides-eqb c.args.text.now (codes "drained") (Some c.in-Some.numbers) c.in-Some.ensures.cases in
      let no_list = rw c.in-None.is at c.in_ok-numbers_of.ensures.value in
      drained_answer c.in-Some.numbers.now no_list answer (subst (λ t. IsAnswerText t answer) front h);
}
