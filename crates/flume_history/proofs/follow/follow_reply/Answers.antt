-- `NoMemory` is lawful if the channel says so; every other reply is what the channel answers
-- itself.
use Rattle.std.proofs.Common.{◌≡◌, false, ◌∷◌, sym, ◌∙◌, subst}
use Rattle.flume_core.specs.Represents.{Represents}
use Rattle.flume_history.specs.Equal.{equal_replies, Equals}
use Rattle.flume_history.specs.SameRuns.{IsNoMemory}
use Rattle.flume_history.proofs.EqualityLemmas.{same_want, goes_by_messages}
use Rattle.flume_history.proofs.FollowLemmas.{not_want, no_other}
use Rattle.flume_history.proofs.follow.follow_reply.Goals as goal

pub returns-in-NoMemory-clause-not_lawful : goal.returns-in-NoMemory-clause-not_lawful
returns-in-NoMemory-clause-not_lawful g c is o log h reply lawful recorded =
    c.refused.ensures.not_lawful is o log h reply
    ((same_want g.T.PartialEq.eq c.args.recorded.now reply recorded).0 (subst IsNoMemory (sym c.in-NoMemory.is) tt)) lawful recorded

pub returns-then-eq : goal.returns-then-eq
returns-then-eq g c =
    let compared : c.eq.result ≡ equal_replies g.T.PartialEq.eq c.args.recorded.now c.step-reply.result =
    c.eq.ensures ∙ c.replies_are_equal_by_case.ensures.same c.args.recorded.now c.step-reply.result in
    record {
      lawful = λ reply is o log h.
          let same : c.step-reply.result ≡ reply = cc in (
            subst (λ r. Equals g.T.PartialEq.eq c.args.recorded.now r) same (sym compared ∙ c.if-eq.true),
            subst (λ r. Represents o ((c.args.step.now, r) ∷ log) c.step-reply.new.self) same (c.step-reply.ensures.step o log h),
          );
      not_lawful = λ is. absurd (let none : ⊥ = cc in none);
    }

pub returns-else-eq : goal.returns-else-eq
returns-else-eq g c =
    let compared : c.eq.result ≡ equal_replies g.T.PartialEq.eq c.args.recorded.now c.step-reply.result =
    c.eq.ensures ∙ c.replies_are_equal_by_case.ensures.same c.args.recorded.now c.step-reply.result in
    record {
      lawful = λ reply is. absurd (let none : ⊥ = cc in none);
      not_lawful = λ is o log h reply lawful recorded.
          no_other (Equals g.T.PartialEq.eq) (goes_by_messages g.T.PartialEq.eq) o log c.args.recorded.now c.args.step.now
          c.step-reply.result
          h.run (c.step-reply.ensures.step o log h).run.0 (not_want c.step-reply.result c.in_default-reply.not-NoMemory)
          (λ also. let off : c.eq.result ≡ false = c.if-eq.false in let on = also in let none : ⊥ = cc in none) reply lawful
          (λ w. not_want c.args.recorded.now c.in_default.not-NoMemory
          ((same_want g.T.PartialEq.eq c.args.recorded.now reply recorded).1 w)) recorded;
    }
