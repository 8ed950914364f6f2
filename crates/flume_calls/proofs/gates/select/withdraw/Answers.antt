-- Withdrawals: each is of the next arm in cyclic order.
use Rattle.std.proofs.Common.{refl}
use Rattle.std.proofs.lemmas.Bool.{false≢true}
use Rattle.flume_calls.specs.SelectGates.{NoArm, OneMore, Spared}
use Rattle.flume_calls.proofs.gates.select.withdraw.Goals as goal
use Rattle.flume_calls.proofs.gates.select.withdraw.Goals.{then-not-is_spared, else-not-is_spared}

pub loop-init : goal.loop-init
loop-init g c = record {
  within = c.start-arm.ensures.within;
  withdrawn = rw c.start-arm.ensures.start NoArm;
  spared = λ arm is held. held;
  setup = refl;
}

pub loop-preserved : goal.loop-preserved
loop-preserved g c =
    let known = c.loop.invariant in record {
      within = rw c.count-count.ensures.count at c.next_arm-arm.ensures.within;
      withdrawn = rw (c.next_arm-arm.ensures.next, c.count-count.ensures.count)
          (elim c.if-not-is_spared.branch [
            | then-not-is_spared w ↦
                rw w.gate-is (OneMore known.withdrawn
                (λ same. false≢true (w.if-not-is_spared.ensures.spared.1 same))
                w.withdraw.ensures.does)
            | else-not-is_spared w ↦ rw w.gate-is
                (Spared known.withdrawn (w.if-not-is_spared.ensures.spared.0 refl))
          ]);
      spared = λ arm is held. elim c.if-not-is_spared.branch [
        | then-not-is_spared w ↦ rw w.gate-is
            (w.withdraw.ensures.others arm
            (λ same. false≢true
            (w.if-not-is_spared.ensures.spared.1 (rw same at is)))
            (known.spared arm is held))
        | else-not-is_spared w ↦ rw w.gate-is (known.spared arm is held)
      ];
      setup = elim c.if-not-is_spared.branch [
        | then-not-is_spared w ↦ cc
        | else-not-is_spared w ↦ cc
      ];
    }
