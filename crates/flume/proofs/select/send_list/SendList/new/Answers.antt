-- Each pair so far has become an arm.
use Rattle.std.proofs.Common.{◌≡◌, length, rules}
use Rattle.std.specs.Vec.Iter.{into_iter_items}
use Rattle.flume.specs.declared.select.send.SendState.TheVariants.{Unstarted}
use Rattle.flume.proofs.ArmListLemmas.{one_arm_more, no_pair_left}
use Rattle.flume.proofs.select.send_list.SendList.new.Goals as goal

pub loop-sender-preserved : goal.loop-sender-preserved
loop-sender-preserved g c =
    let arms = c.loop-sender.arms.items in
    let so_far = c.loop-sender.invariant.2 in
    let left = into_iter_items c.next.new.self in
    let steps = c.in-Some.ensures.steps.0 in (
      tt,
      tt,
      record {
        room = search rules;
        channels = rw c.push_reserved.ensures.items (one_arm_more (λ arm. arm.sender.now) (λ pair. pair.0.now)
            arms c.new.result (c.in-Some.sender, c.in-Some.message) left _
            (rw steps at so_far.channels) c.new.ensures.channel);
        unstarted = rw c.push_reserved.ensures.items (one_arm_more (λ arm. arm.state) (λ pair. Unstarted pair.1)
            arms c.new.result (c.in-Some.sender, c.in-Some.message) left _
            (rw steps at so_far.unstarted) c.new.ensures.unstarted);
      },
    )

pub returns-clause-channels : goal.returns-clause-channels
returns-clause-channels g c =
    let none : length (into_iter_items c.loop-sender.sender-iterator) ≡ 0 = search rules in
    no_pair_left (λ arm. arm.sender.now) (λ pair. pair.0.now) c.loop-sender.arms.items _ _
    c.loop-sender.invariant.2.channels none

pub returns-clause-unstarted : goal.returns-clause-unstarted
returns-clause-unstarted g c =
    let none : length (into_iter_items c.loop-sender.sender-iterator) ≡ 0 = search rules in
    no_pair_left (λ arm. arm.state) (λ pair. Unstarted pair.1) c.loop-sender.arms.items _ _
    c.loop-sender.invariant.2.unstarted none
