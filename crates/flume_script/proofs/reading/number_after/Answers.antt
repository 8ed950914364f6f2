use Rattle.std.proofs.Common.{Some, None}
use Rattle.std.proofs.lemmas.Bool.Decides.{Decides-eqb}
use Rattle.std.proofs.lemmas.Slice.Eq.{strip_prefix_is}
use Rattle.flume_script.proofs.ScriptNumberLemmas.{call_number}
use Rattle.flume_script.proofs.reading.number_after.Goals as goal

pub returns-in_err-digits : goal.returns-in_err-digits
returns-in_err-digits c =
    let other = strip_prefix_is Decides-eqb c.args.line.now c.args.word.now None c.in_err-digits.ensures.cases in
    rw c.from_residual.ensures (record { value = λ n call. other call.digits call.line_is })

pub returns : goal.returns
returns c =
    let line_is = strip_prefix_is Decides-eqb c.args.line.now c.args.word.now (Some c.in_ok-digits.digits) c.in_ok-digits.ensures.cases in
    record { value = call_number c.args.line.now c.args.word.now c.in_ok-digits.digits.now c.number.result line_is c.number.ensures.value }
