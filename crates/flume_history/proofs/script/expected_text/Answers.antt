-- `NoMemory` is lawful if the channel says so; every other reply is what the channel answers
-- itself.
use Rattle.std.proofs.Common.{◌≡◌, refl, ◌∙◌, ap, rules, ◌++◌, codes}
use Rattle.flume_model.specs.declared.step.Reply.{Reply}
use Rattle.flume_model.specs.declared.step.Reply.TheVariants.{NoMemory}
use Rattle.flume_core.proofs.InvariantLemmas.{still}
use Rattle.flume_script.specs.ReplyTexts.{reply_text}
use Rattle.flume_history.specs.HandedIn.{handed_in}
use Rattle.flume_history.proofs.FollowLemmas.{not_want, want_stays}
use Rattle.flume_history.proofs.LawfulLemmas.{shows_own, shows_both}
use Rattle.flume_history.proofs.NoMemoryRuleLemmas.{want_allowed}
use Rattle.flume_history.proofs.script.expected_text.Goals.{else-may_refuse-via-then-may_refuse+else-eq}
use Rattle.flume_history.proofs.script.expected_text.Goals.{else-may_refuse-via-else-may_refuse}
use Rattle.flume_history.proofs.script.expected_text.Given as given
use Rattle.flume_history.proofs.script.expected_text.Goals as goal

pub returns-then-eq-clause-lawful : goal.returns-then-eq-clause-lawful
returns-then-eq-clause-lawful g c o log h =
    let may = c.no_memory_is_lawful-may_refuse.ensures.lawful.0 c.if-may_refuse.true in
    let refusal : Reply _ g.row.A.Denot = NoMemory (handed_in c.args.step) in
    let read : c.in_ok-refusal.refusal.items ≡ reply_text refusal =
    c.in_ok-refusal.ensures.value ∙ ap (λ back. reply_text {A = g.row.A.Denot} (NoMemory back)) c.handed_in.ensures.message in
    let same : c.args.text.now ≡ c.in_ok-refusal.refusal.items = search rules in (
      refusal,
      same ∙ read,
      still o log (c.args.step, refusal) c.args.chan.now c.args.chan.now h (want_allowed h c.args.step may)
          (want_stays log c.args.step (handed_in c.args.step)) refl,
    )

pub returns-then-not-may_refuse : goal.returns-then-not-may_refuse
returns-then-not-may_refuse g c = record {
  lawful = tt;
  not_lawful = λ o log h.
      shows_own h c.args.step c.step-reply.result (c.step-reply.ensures.step o log h).run.0
      (not_want c.step-reply.result c.in_default.not-NoMemory) c.in_ok-own.own.items c.args.text.now c.in_ok-own.ensures.value
      (λ may. let wanted = c.no_memory_is_lawful-may_refuse.ensures.lawful.1 may in let none : ⊥ = cc in none)
      (λ e. search rules);
}

-- a recorded `NoMemory`, if memory may be needed was found before
unwanted : (g : given.Over) (c : goal.After-drop-refusal-2 g) → c.in_ok-refusal.refusal.items ≡ c.args.text.now → ⊥
unwanted g c e = elim c.else-may_refuse.branch [
  | else-may_refuse-via-then-may_refuse+else-eq w ↦ search rules
  | else-may_refuse-via-else-may_refuse w ↦ let no = c.if-not-may_refuse.false in let yes = w.if-may_refuse.false in let none : ⊥ = cc in
      none
]

pub returns : goal.returns
returns g c = record {
  lawful = tt;
  not_lawful = λ o log h.
      let want_is = c.in_ok-refusal.ensures.value
      ∙ ap (λ back. reply_text {A = g.row.A.Denot} (NoMemory back)) c.handed_in.ensures.message in
      let expected_is : c.extend_from_slice-2.new.self.items ≡ reply_text c.step-reply.result ++ codes " or "
      ++ c.in_ok-refusal.refusal.items = search rules in
      shows_both h c.args.step c.step-reply.result (c.step-reply.ensures.step o log h).run.0
      (not_want c.step-reply.result c.in_default.not-NoMemory) c.in_ok-refusal.refusal.items c.extend_from_slice-2.new.self.items
      c.args.text.now want_is expected_is (c.no_memory_is_lawful-may_refuse.ensures.lawful.0 c.if-not-may_refuse.false)
      (λ e. let own = c.in_ok-own.ensures.value in search rules) (unwanted g c);
}
