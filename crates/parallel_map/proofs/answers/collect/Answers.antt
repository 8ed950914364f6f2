-- Which error comes.
use Rattle.std.proofs.Common.{◌∙◌, subst}
use Rattle.std.proofs.lemmas.Result.{IfErr-weaker}
use Rattle.parallel_map.specs.RightAnswers.{IsTo, OutOfMemory}
use Rattle.parallel_map.specs.SlotValues.{IsRefused, Lacks}
use Rattle.parallel_map.proofs.ReceivedLemmas.{error_is, one_more, refused, lacking, only_no_memory}
use Rattle.parallel_map.proofs.answers.collect.Goals as goal

pub returns-in_err-slots-clause-error : goal.returns-in_err-slots-clause-error
returns-in_err-slots-clause-error g c = error_is c.from_residual.result _ _ OutOfMemory c.from_residual.ensures.1

pub loop-answer-preserved : goal.loop-answer-preserved
loop-answer-preserved g c =
    let now = c.loop-answer.invariant in
    let is = subst (λ jobs. IsTo jobs (c.in-Some.answer.number, c.in-Some.answer.job)) now.jobs c.in_ok-put.ensures.right in
    record {
      jobs = c.in_ok-put.ensures.jobs ∙ now.jobs;
      filled = one_more g.I.Iterator.next_gives (λ answer. (answer.number, answer.job)) c.args.jobs.now c.loop-answer.slots.values.items
          c.put.new.self.values.items c.loop-answer.yielded
          c.in-Some.answer now.filled is c.in_ok-put.ensures.places;
    }

pub returns-in_err-put-clause-error : goal.returns-in_err-put-clause-error
returns-in_err-put-clause-error g c =
    let now = c.loop-answer.invariant in
    let why = subst (λ jobs. IsRefused jobs c.loop-answer.slots.values.items
    (c.in-Some.answer.number, c.in-Some.answer.job) c.in_err-put.field-0.0)
    now.jobs c.in_err-put.ensures.is_refused in
    let yielded = rw c.into_iter-answer-iterator.ensures.into_iter_gives at c.loop-answer.yielded_by in
    error_is c.from_residual-in_err-put.result _ _
    (refused g.I.Iterator.next_gives (λ answer. (answer.number, answer.job)) c.args.jobs.now c.loop-answer.slots.values.items
    c.args.answers c.loop-answer.answer-iterator c.next.new.self c.loop-answer.yielded
    c.in-Some.answer c.in_err-put.field-0.0 yielded c.in-Some.ensures.steps now.filled why)
    c.from_residual-in_err-put.ensures.1

pub returns-clause-error : goal.returns-clause-error
returns-clause-error g c =
    let now = c.loop-answer.invariant in
    let yielded = rw c.into_iter-answer-iterator.ensures.into_iter_gives at c.loop-answer.yielded_by in
    IfErr-weaker c.in_order.result _ _ (λ error why. lacking g.I.Iterator.next_gives
    (λ answer. (answer.number, answer.job)) c.args.jobs.now c.loop-answer.slots.values.items c.args.answers c.loop-answer.yielded error
    (c.next.new.self, (c.loop-answer.answer-iterator, yielded, c.in-None.ensures.steps)) now.filled
    (subst (λ jobs. Lacks jobs c.loop-answer.slots.values.items error) now.jobs why)) c.in_order.ensures.lacks

pub returns-in_err-put-clause-only_no_memory : goal.returns-in_err-put-clause-only_no_memory
returns-in_err-put-clause-only_no_memory g c all gives complete =
    IfErr-weaker _ _ _ (λ error brings. only_no_memory g.I.Iterator.next_gives (λ answer. (answer.number, answer.job)) c.args.jobs.now
    c.args.answers error all brings gives complete)
    (returns-in_err-put-clause-error g c)

pub returns-clause-only_no_memory : goal.returns-clause-only_no_memory
returns-clause-only_no_memory g c all gives complete =
    IfErr-weaker _ _ _ (λ error brings. only_no_memory g.I.Iterator.next_gives (λ answer. (answer.number, answer.job)) c.args.jobs.now
    c.args.answers error all brings gives complete)
    (returns-clause-error g c)
