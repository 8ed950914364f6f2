-- A line is cut at its first space.
use Rattle.std.proofs.Common.{◌∙◌, sym, ap}
use Rattle.judge_verdicts.specs.Kinds.{first_word as word_of}
use Rattle.judge_verdicts.proofs.WordLemmas.{one_word, word_before}
use Rattle.judge_verdicts.proofs.kind.first_word.Goals as goal

pub returns-in-Some : goal.returns-in-Some
returns-in-Some c =
    let at = c.in-Some.ensures in
    record { value = sym (ap word_of at.parts ∙ word_before c.in-Some.word.now _ at.first) }

pub returns-in-None : goal.returns-in-None
returns-in-None c = record { value = sym (one_word c.args.line.now c.in-None.ensures.none) }
