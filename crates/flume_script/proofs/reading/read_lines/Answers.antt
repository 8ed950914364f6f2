use Rattle.std.proofs.Common.{rules}
use Rattle.flume_script.proofs.ScriptStepLemmas.{one_more, up_to}
use Rattle.flume_script.proofs.reading.read_lines.Goals as goal

pub returns-in_default-read : goal.returns-in_default-read
returns-in_default-read g c =
    let line = c.in-Some.ensures in
    let at = up_to _ _ c.loop-line.invariant line.first line.shorter c.in_default-read.ensures.value (search rules) in
    record { right = tt; wrong = at.0; within = at.1 }

pub loop-line-preserved : goal.loop-line-preserved
loop-line-preserved g c =
    let line = c.in-Some.ensures in
    one_more _ _ _ c.loop-line.invariant line.first line.shorter c.in-Some-read.ensures.value (search rules)
