-- Each step leads on, so the theorem held throughout.
use Rattle.std.proofs.Common.{◌≡◌, [], ◌∷◌, refl, map, ◌∙◌, ap, rules}
use Rattle.flume_model.specs.declared.step.Step.TheVariants.{TrySend, TryRecv}
use Rattle.example_proved_callers.specs.Loops.{passes}
use Rattle.example_proved_callers.proofs.PassLemmas.{passes_next, sum_next}
use Rattle.example_proved_callers.proofs.loops.pass_all.Goals as goal

pub loop-number-init : goal.loop-number-init
loop-number-init g c = record { reachable = λ o log h. ([], refl, h, refl) }

pub loop-number-preserved : goal.loop-number-preserved
loop-number-preserved g c = record {
  reachable = λ o log h.
      let so_far = c.loop-number.invariant.reachable o log h in
      let number = c.loop-number.number in
      let offered = c.try_send.result in
      let received = c.receive_one-sum.ensures.step in (
        (TryRecv, received.0) ∷ (TrySend number, offered) ∷ so_far.0,
        passes_next number (map (λ pair. pair.0) so_far.0) so_far.1,
        received.1 o _ (c.try_send.ensures.step o _ so_far.2),
        sum_next so_far.0 number offered received.0 c.receive_one-sum.result c.loop-number.sum _
            c.try_send.ensures.possible_reply received.2 so_far.3 refl,
      );
}

pub returns : goal.returns
returns g c = record {
  passed = λ o log h.
      let all = c.loop-number.invariant.reachable o log h in
      let last : c.loop-number.number ≡ c.args.count = search rules in
      record {
        steps = all.0;
        made = all.1 ∙ ap passes last;
        leads = all.2;
        throughout = c.theorem_holds_throughout.ensures.law o _ all.2.run;
        sum_is = all.3;
      };
}
