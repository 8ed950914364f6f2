-- The lesser of a number that isn't above the one before it, and the end if one is past it.
use Rattle.std.proofs.Common.{◌≡◌, ◌≤◌, ℕ, Any, Some, None, refl, le_of_eq, sym}
use Rattle.std.proofs.lemmas.Bool.{false≢true}
use Rattle.flume_audit.specs.Settled.{NotAbove}
use Rattle.flume_audit.proofs.LeastLemmas.{least_either}
use Rattle.flume_audit.proofs.differs.misplaced_in.Goals as goal
use Rattle.flume_audit.proofs.differs.misplaced_in.Goals.{then-is_past, else-is_past}

pub returns : goal.returns
returns g c =
    let past = λ (number : ℕ). (number ≡ c.args.length)
    × Any (λ receipt. c.args.length ≤ receipt.number) c.args.list.now in record {
      least = rw c.lesser.ensures.lesser (elim c.if-is_past.branch [
        | then-is_past w ↦
            let any = w.if-is_past.ensures.past.0 refl in
            rw w.past-is (least_either (λ number. NotAbove number c.args.list.now) past
            c.first_not_above.result (Some c.args.length) c.first_not_above.ensures.least
            ((refl, any), λ number here. le_of_eq (sym here.0)))
        | else-is_past w ↦
            rw w.past-is (least_either (λ number. NotAbove number c.args.list.now) past
            c.first_not_above.result None c.first_not_above.ensures.least
            (λ number here. false≢true (w.if-is_past.ensures.past.1 here.1)))
      ]);
    }
