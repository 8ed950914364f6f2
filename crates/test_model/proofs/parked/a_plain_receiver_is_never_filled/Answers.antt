use Rattle.std.proofs.Common.{refl}
use Rattle.flume_model.specs.declared.step.Kind.TheVariants.{Plain}
use Rattle.flume_model.specs.declared.entry.Mark.TheVariants.{Woken}
use Rattle.test_model.proofs.parked.a_plain_receiver_is_never_filled.Goals as goal

pub returns : goal.returns
returns c = record {
  near_miss = λ told. (
      let same = told 1 (record { ticket = 1; kind = Plain; mark = Woken; notice = tt }) refl in
      let none : ⊥ = cc in
      none
      );
}
