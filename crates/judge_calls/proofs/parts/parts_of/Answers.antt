-- A line is cut at its first space, and what is before that at its first colon.
use Rattle.std.proofs.Common.{◌≡◌, ◌<◌, length, Some, None, codes, rules}
use Rattle.std.proofs.lemmas.Bool.Decides.{Decides-eqb}
use Rattle.std.proofs.lemmas.Slice.Eq.{strip_prefix_is}
use Rattle.judge_calls.proofs.LinePartLemmas.{without_space, misplaced_colon, colon, no_arrow, arrow}
use Rattle.judge_calls.proofs.parts.parts_of.Goals.{then-is_empty-via-then-is_empty, then-is_empty-via-else-is_empty+then-not-is_empty}
use Rattle.judge_calls.proofs.parts.parts_of.Goals as goal

pub returns-in_err-front : goal.returns-in_err-front
returns-in_err-front c = rw c.from_residual.ensures (record { value = without_space c.args.line.now c.in_err-front.ensures.none })

pub returns-then-is_empty : goal.returns-then-is_empty
returns-then-is_empty c =
    let parts = c.in_ok-front.ensures in
    let at = c.in-Some.ensures in
    let bad : 0 < length c.in-Some.name.now → length c.in-Some.after.now ≡ 0 → ⊥ = λ some last. elim c.then-is_empty.branch [
      | then-is_empty-via-then-is_empty w ↦ search rules
      | then-is_empty-via-else-is_empty+then-not-is_empty w ↦ search rules
    ] in
    record {
      value = misplaced_colon c.args.line.now c.in_ok-front.front.now c.in_ok-front.rest.now c.in-Some.name.now c.in-Some.after.now
          parts.parts parts.first at.parts at.first bad;
    }

pub returns-in-Some : goal.returns-in-Some
returns-in-Some c =
    let parts = c.in_ok-front.ensures in
    let at = c.in-Some.ensures in
    record {
      value = colon c.args.line.now c.in_ok-front.front.now c.in_ok-front.rest.now c.in-Some.name.now c.in-Some.after.now
          parts.parts parts.first at.parts at.first (search rules) (search rules);
    }

pub returns-in_err-answer : goal.returns-in_err-answer
returns-in_err-answer c =
    let parts = c.in_ok-front.ensures in
    let other = strip_prefix_is Decides-eqb c.in_ok-front.rest.now (codes "-> ") None c.in_err-answer.ensures.cases in
    rw c.from_residual-in_err-answer.ensures (record {
      value = no_arrow c.args.line.now c.in_ok-front.front.now c.in_ok-front.rest.now parts.parts parts.first
          c.in_default.ensures.none (λ text is some. other text is);
    })

pub returns-then-is_empty-2 : goal.returns-then-is_empty-2
returns-then-is_empty-2 c =
    let parts = c.in_ok-front.ensures in
    record {
      value = no_arrow c.args.line.now c.in_ok-front.front.now c.in_ok-front.rest.now parts.parts parts.first
          c.in_default.ensures.none (λ text is some. search rules);
    }

pub returns : goal.returns
returns c =
    let parts = c.in_ok-front.ensures in
    let after = strip_prefix_is Decides-eqb c.in_ok-front.rest.now (codes "-> ") (Some c.in_ok-answer.answer) c.in_ok-answer.ensures.cases
    in
    record {
      value = arrow c.args.line.now c.in_ok-front.front.now c.in_ok-front.rest.now c.in_ok-answer.answer.now
          parts.parts parts.first c.in_default.ensures.none after (search rules);
    }
