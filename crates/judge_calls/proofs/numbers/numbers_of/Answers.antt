use Rattle.std.proofs.Common.{◌≡◌, ◌∷◌, ◌++◌, [], ap, subst, sym, rules}
use Rattle.judge_calls.specs.Texts.{behind_space}
use Rattle.judge_calls.proofs.SpacedNumberLemmas.{ReadNumbers, one_more, no_number}
use Rattle.judge_calls.proofs.numbers.numbers_of.Goals as goal

pub returns-in_default-number_of : goal.returns-in_default-number_of
returns-in_default-number_of g c =
    let numbers = c.in-Some.numbers.now in
    let left : behind_space c.loop-rest.rest ≡ 32 ∷ numbers = ap behind_space c.in-Some.is in
    let read = subst (ReadNumbers c.args.text.now c.loop-rest.list.items) left c.loop-rest.invariant in
    let cut = c.first_of.ensures in
    record {
      value = no_number numbers c.first_of.result.0.now c.first_of.result.1 read cut.parts cut.first c.in_default-number_of.ensures.value;
    }

pub loop-rest-preserved : goal.loop-rest-preserved
loop-rest-preserved g c =
    let numbers = c.in-Some.numbers.now in
    let left : behind_space c.loop-rest.rest ≡ 32 ∷ numbers = ap behind_space c.in-Some.is in
    let read = subst (ReadNumbers c.args.text.now c.loop-rest.list.items) left c.loop-rest.invariant in
    let cut = c.first_of.ensures in
    let number = c.in-Some-number_of.number in
    let is = c.in-Some-number_of.ensures.value in
    let pushed : c.push.new.self.items ≡ c.loop-rest.list.items ++ number ∷ [] = search rules in
    subst (λ list. ReadNumbers c.args.text.now list (behind_space c.first_of.result.1)) (sym pushed)
    (one_more numbers c.first_of.result.0.now c.first_of.result.1 number read cut.parts cut.first is.0 is.1)
