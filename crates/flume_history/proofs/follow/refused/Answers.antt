-- `NoMemory` is lawful if the state says that memory may be needed, and with the message that the
-- step hands in.
use Rattle.std.proofs.Common.{◌≡◌, ◌∷◌, false, refl, sym, ◌∙◌, ap, subst}
use Rattle.flume_model.specs.declared.step.Reply.TheVariants.{NoMemory}
use Rattle.flume_core.specs.Represents.{Represents}
use Rattle.flume_core.proofs.InvariantLemmas.{still}
use Rattle.flume_history.specs.Equal.{equal_replies, Equals}
use Rattle.flume_history.specs.HandedIn.{handed_in}
use Rattle.flume_history.proofs.FollowLemmas.{want_stays, no_other_want}
use Rattle.flume_history.proofs.NoMemoryRuleLemmas.{want_allowed}
use Rattle.flume_history.proofs.follow.refused.Goals as goal
use Rattle.flume_history.proofs.follow.refused.Goals.{else-no_memory_is_lawful-via-then-no_memory_is_lawful+else-eq}
use Rattle.flume_history.proofs.follow.refused.Goals.{else-no_memory_is_lawful-via-else-no_memory_is_lawful}

pub returns-then-eq-clause-lawful : goal.returns-then-eq-clause-lawful
returns-then-eq-clause-lawful g c reply is o log h =
    let injected : NoMemory c.handed_in.result ≡ reply = cc in
    let same : NoMemory (handed_in c.args.step.now) ≡ reply = ap NoMemory (sym c.handed_in.ensures.message) ∙ injected in
    let compared : c.eq.result ≡ equal_replies g.T.PartialEq.eq c.args.recorded.now (NoMemory c.handed_in.result) =
    c.eq.ensures ∙ c.replies_are_equal_by_case.ensures.same c.args.recorded.now (NoMemory c.handed_in.result) in (
      sym (compared ∙ ap (equal_replies g.T.PartialEq.eq c.args.recorded.now) injected) ∙ c.if-eq.true,
      subst (λ r. Represents o ((c.args.step.now, r) ∷ log) c.args.chan.now) same
          (still o log (c.args.step.now, NoMemory (handed_in c.args.step.now)) c.args.chan.now c.args.chan.now h
          (want_allowed h c.args.step.now (c.no_memory_is_lawful.ensures.lawful.0 c.if-no_memory_is_lawful.true))
          (want_stays log c.args.step.now (handed_in c.args.step.now)) refl),
    )

pub returns-else-no_memory_is_lawful-clause-not_lawful : goal.returns-else-no_memory_is_lawful-clause-not_lawful
returns-else-no_memory_is_lawful-clause-not_lawful g c is o log h reply refusal lawful recorded =
    no_other_want (Equals g.T.PartialEq.eq) h c.args.recorded.now c.args.step.now
    (λ may also. elim c.else-no_memory_is_lawful.branch [
      | else-no_memory_is_lawful-via-then-no_memory_is_lawful+else-eq w ↦
          let compared : w.eq.result ≡ equal_replies g.T.PartialEq.eq c.args.recorded.now (NoMemory (handed_in c.args.step.now)) =
          w.eq.ensures ∙ c.replies_are_equal_by_case.ensures.same c.args.recorded.now (NoMemory c.handed_in.result)
          ∙ ap (λ back. equal_replies g.T.PartialEq.eq c.args.recorded.now (NoMemory back)) c.handed_in.ensures.message in
          let off : w.eq.result ≡ false = w.if-eq.false in
          let on = also in
          let none : ⊥ = cc in none
      | else-no_memory_is_lawful-via-else-no_memory_is_lawful w ↦
          let on = c.no_memory_is_lawful.ensures.lawful.1 may in
          let off : c.no_memory_is_lawful.result ≡ false = w.if-no_memory_is_lawful.false in
          let none : ⊥ = cc in none
    ])
    reply lawful recorded refusal
