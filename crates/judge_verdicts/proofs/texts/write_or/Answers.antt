-- One more answer is behind the others.
use Rattle.std.proofs.Common.{◌≡◌, ◌∙◌, ap, ◌++◌, string_bytes, get_or, take, sym, rules, codes}
use Rattle.std.proofs.lemmas.List.{append_assoc}
use Rattle.judge_calls.specs.Texts.{answer_text}
use Rattle.judge_verdicts.specs.CallsText.{or_text}
use Rattle.judge_verdicts.proofs.ShownLineLemmas.{or_more}
use Rattle.judge_verdicts.proofs.texts.write_or.Goals as goal

pub loop-answer-preserved : goal.loop-answer-preserved
loop-answer-preserved g c =
    let before = string_bytes c.args.text.now in
    let answers = c.args.answers.now in
    let place = c.loop-answer.answer-index in
    let answer = c.answer-item.result in
    let item : answer ≡ get_or answers place answer = c.answer-item.is in
    let more = or_more answers place answer (search rules) in
    let pushed : string_bytes c.push_str.new.self ≡ (before ++ or_text (take place answers)) ++ codes " or " =
    c.in_ok-push_str.ensures.bytes ∙ ap (λ bytes. bytes ++ codes " or ") c.loop-answer.invariant in
    c.in_ok-write_answer.ensures.value
    ∙ ap (λ bytes. bytes ++ answer_text answer) pushed
    ∙ append_assoc (before ++ or_text (take place answers)) (codes " or ") (answer_text answer)
    ∙ append_assoc before (or_text (take place answers)) (codes " or " ++ answer_text answer)
    ∙ ap (λ one. before ++ (or_text (take place answers) ++ (codes " or " ++ answer_text one))) item
    ∙ ap (λ bytes. before ++ bytes) (sym more)
