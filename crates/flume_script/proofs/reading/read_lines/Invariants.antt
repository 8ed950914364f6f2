use Rattle.std.proofs.Common.{length}
use Rattle.flume_script.proofs.ScriptStepLemmas.{ReadLines}
use Rattle.flume_script.proofs.reading.read_lines.Given as goal

-- the lines so far are these
abbrev pub invariant-loop-line : goal.invariant-loop-line
invariant-loop-line g l = ReadLines g.L.Line.is_line l.initial.rest l.rest l.steps.items

abbrev pub decreases-loop-line : goal.decreases-loop-line
decreases-loop-line g l = length l.rest
