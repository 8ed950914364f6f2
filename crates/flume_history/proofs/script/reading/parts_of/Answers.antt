-- The arrow is at the first hyphen: if no space is before that, or no `> ` after it, there is none.
use Rattle.std.proofs.Common.{None, Some, codes, ◌++◌, ◌∷◌, sym, ◌∙◌, ap}
use Rattle.std.proofs.lemmas.Bool.Decides.{Decides-eqb}
use Rattle.std.proofs.lemmas.Slice.Eq.{strip_prefix_is, strip_suffix_is}
use Rattle.flume_history.proofs.PairLineLemmas.{arrow, at_arrow, has_hyphen}
use Rattle.flume_history.proofs.script.reading.parts_of.Goals as goal

pub returns-in_err-before-clause-none : goal.returns-in_err-before-clause-none
returns-in_err-before-clause-none c =
    rw c.from_residual.ensures (λ text said none is.
    has_hyphen (text ++ codes " ") (codes "> " ++ said) c.args.line.now
    (sym (arrow text said) ∙ sym is) c.in_err-before.ensures.none)

pub returns-in_err-text-clause-none : goal.returns-in_err-text-clause-none
returns-in_err-text-clause-none c =
    let parts = c.in_ok-before.ensures in
    let other = strip_suffix_is Decides-eqb c.in_ok-before.before.now (codes " ") None c.in_err-text.ensures.cases in
    rw c.from_residual-in_err-text.ensures (λ text said none is.
    other text (at_arrow c.args.line.now c.in_ok-before.before.now c.in_ok-before.after.now parts.parts parts.first text said none is).0)

pub returns-in_err-reply-clause-none : goal.returns-in_err-reply-clause-none
returns-in_err-reply-clause-none c =
    let parts = c.in_ok-before.ensures in
    let other = strip_prefix_is Decides-eqb c.in_ok-before.after.now (codes "> ") None c.in_err-reply.ensures.cases in
    rw c.from_residual-in_err-reply.ensures (λ text said none is.
    other said (at_arrow c.args.line.now c.in_ok-before.before.now c.in_ok-before.after.now parts.parts parts.first text said none is).1)

pub returns-clause-parts : goal.returns-clause-parts
returns-clause-parts c =
    let parts = c.in_ok-before.ensures in
    let front = strip_suffix_is Decides-eqb c.in_ok-before.before.now (codes " ") (Some c.in_ok-text.text) c.in_ok-text.ensures.cases in
    let back = strip_prefix_is Decides-eqb c.in_ok-before.after.now (codes "> ") (Some c.in_ok-reply.reply) c.in_ok-reply.ensures.cases in
    parts.parts ∙ ap (λ t. t ++ 45 ∷ c.in_ok-before.after.now) front
    ∙ ap (λ t. (c.in_ok-text.text.now ++ codes " ") ++ 45 ∷ t) back
    ∙ sym (arrow c.in_ok-text.text.now c.in_ok-reply.reply.now)
