use Rattle.std.proofs.Common.{◌≡◌, ◌++◌, take, string_bytes}
use Rattle.judge_verdicts.specs.CallsText.{or_text}
use Rattle.judge_verdicts.proofs.texts.write_or.Given as goal

-- so far the answers before this place are behind what the text was
abbrev pub invariant-loop-answer : goal.invariant-loop-answer
invariant-loop-answer g l = string_bytes l.text ≡ string_bytes l.initial.text ++ or_text (take l.answer-index l.answers)
