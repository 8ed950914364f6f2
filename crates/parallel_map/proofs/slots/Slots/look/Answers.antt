-- Whether a job is under a number, and whether its place is empty.
use Rattle.std.proofs.Common.{◌<◌, length, sym, ◌∙◌, arith}
use Rattle.std.proofs.lemmas.List.{length-map}
use Rattle.parallel_map.specs.SlotValues.{NoJob, NotEmpty}
use Rattle.parallel_map.proofs.ReceivedLemmas.{past_end, no_job, its_job, full, empty}
use Rattle.parallel_map.proofs.slots.Slots.look.Goals.{then-number-self-via-then-number-self, then-number-self-via-else-number-self+then-ne}
use Rattle.parallel_map.proofs.slots.Slots.look.Goals as goal

pub returns-then-number-self-clause-is_refused : goal.returns-then-number-self-clause-is_refused
returns-then-number-self-clause-is_refused g c =
    elim c.then-number-self.branch [
      | then-number-self-via-then-number-self w ↦ NoJob (past_end _ _ _ w.if-number-self.true)
      | then-number-self-via-else-number-self+then-ne w ↦
          NoJob (no_job g.W.Job.PartialEq.eq g.met.W.Job.Eq.laws _ _ w.index-self-number.result _ w.if-number-self.false
          w.index-self-number.is
          (sym w.ne.ensures ∙ w.if-ne.true))
    ]

pub returns-then-is_some-clause-is_refused : goal.returns-then-is_some-clause-is_refused
returns-then-is_some-clause-is_refused g c =
    let long = c.args.self.now.right_values.each ∙ length-map c.args.self.now.jobs.now g.W.Work.meaning in
    let within : c.args.number < length c.args.self.now.values.items = omega (arith, long, c.if-number-self.false) in
    NotEmpty
    (its_job g.W.Job.PartialEq.eq g.met.W.Work.exact _ _ c.index-self-number.result _ c.if-number-self.false c.index-self-number.is
    (sym c.ne.ensures ∙ c.if-ne.false))
    (full c.args.self.now.values.items c.args.number c.index.result.now within c.index.ensures (sym c.is_some.ensures ∙ c.if-is_some.true))

pub returns-clause-right : goal.returns-clause-right
returns-clause-right g c =
    its_job g.W.Job.PartialEq.eq g.met.W.Work.exact _ _ c.index-self-number.result _ c.if-number-self.false c.index-self-number.is
    (sym c.ne.ensures ∙ c.if-ne.false)

pub returns-clause-empty : goal.returns-clause-empty
returns-clause-empty g c =
    let long = c.args.self.now.right_values.each ∙ length-map c.args.self.now.jobs.now g.W.Work.meaning in
    let within : c.args.number < length c.args.self.now.values.items = omega (arith, long, c.if-number-self.false) in
    empty c.args.self.now.values.items c.args.number c.index.result.now within c.index.ensures (sym c.is_some.ensures ∙ c.if-is_some.false)
