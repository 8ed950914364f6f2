-- One more message is behind the others.
use Rattle.std.proofs.Common.{◌∷◌, ◌∙◌, ap, ◌++◌, string_bytes, get_or, take, sym, rules}
use Rattle.std.specs.Fmt.{decimal}
use Rattle.std.proofs.lemmas.List.{append_assoc}
use Rattle.flume_script.specs.ReplyTexts.{spaced}
use Rattle.flume_script.proofs.ScriptReplyLemmas.{spaced_more}
use Rattle.judge_calls.proofs.answer_texts.write_drained.Goals as goal

pub loop-message-preserved : goal.loop-message-preserved
loop-message-preserved g c =
    let before = string_bytes c.push_str.new.self in
    let place = c.loop-message.message-index in
    let one = 32 ∷ decimal (get_or c.args.list.now place 0) in
    let more = spaced_more c.args.list.now place 0 (search rules) in
    c.in_ok-write.ensures.bytes
    ∙ ap (λ bytes. bytes ++ one) c.loop-message.invariant
    ∙ append_assoc before (spaced (take place c.args.list.now)) one
    ∙ ap (λ bytes. before ++ bytes) (sym more)
