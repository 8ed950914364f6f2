use Rattle.std.proofs.Common.{◌≡◌, ◌++◌, take, string_bytes}
use Rattle.flume_script.specs.ReplyTexts.{spaced}
use Rattle.judge_calls.proofs.answer_texts.write_drained.Given as goal

-- so far the messages before this place are behind what the text was
abbrev pub invariant-loop-message : goal.invariant-loop-message
invariant-loop-message g l = string_bytes l.text ≡ string_bytes l.initial.text ++ spaced (take l.message-index l.list)
