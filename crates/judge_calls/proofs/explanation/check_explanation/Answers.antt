-- Item by item: the recorded explanation grows as the items are followed.
use Rattle.std.proofs.Common.{◌≡◌, ◌+◌, refl, sym, ap, subst, take, reverse, [], ◌∷◌, rules}
use Rattle.std.proofs.lemmas.List.{take_all}
use Rattle.std.specs.BTreeMap.{is_at}
use Rattle.std.specs.List.{AllZip}
use Rattle.std.specs.Map.{lookup}
use Rattle.std.specs.Ordering.{nat_cmp}
use Rattle.flume_model.specs.Log.{opens}
use Rattle.flume_history.proofs.FollowLemmas.{with_next}
use Rattle.judge_calls.specs.Descriptions.{Describes, BreaksAt}
use Rattle.judge_calls.proofs.UniqueLemmas.{beginning, breaks_at, explained}
use Rattle.judge_calls.proofs.explanation.check_explanation.Goals as goal

pub returns-in-Unlawful-clause-breaks : goal.returns-in-Unlawful-clause-breaks
returns-in-Unlawful-clause-breaks g c = λ place e.
    let same : c.loop-place.place ≡ place = cc in
    let so_far = c.loop-place.invariant.followed in
    let broken : BreaksAt g.T.PartialEq.eq (opens c.args.capacity 1) c.args.items.now c.loop-place.place =
    breaks_at g.T.PartialEq.eq (opens c.args.capacity 1) c.args.items.now c.loop-place.place
    c.index-items-place.result (search rules) c.index-items-place.is so_far.0 so_far.1 so_far.2
    (c.take_item.ensures.not_lawful c.in-Unlawful.is (opens c.args.capacity 1) so_far.0 so_far.3) in
    subst (λ n. BreaksAt g.T.PartialEq.eq (opens c.args.capacity 1) c.args.items.now n) same broken

pub returns-in-Unlawful-clause-explains : goal.returns-in-Unlawful-clause-explains
returns-in-Unlawful-clause-explains g c = λ known.
    let so_far = c.loop-place.invariant.followed in
    let broken : BreaksAt g.T.PartialEq.eq (opens c.args.capacity 1) c.args.items.now c.loop-place.place =
    breaks_at g.T.PartialEq.eq (opens c.args.capacity 1) c.args.items.now c.loop-place.place
    c.index-items-place.result (search rules) c.index-items-place.is so_far.0 so_far.1 so_far.2
    (c.take_item.ensures.not_lawful c.in-Unlawful.is (opens c.args.capacity 1) so_far.0 so_far.3) in (
      λ e. absurd (let none : ⊥ = cc in none),
      λ whole. absurd (broken.not_with_next
          (beginning g.T.PartialEq.eq (opens c.args.capacity 1) (c.loop-place.place + 1) c.args.items.now whole)),
    )

pub loop-place-preserved : goal.loop-place-preserved
loop-place-preserved g c =
    let so_far = c.loop-place.invariant.followed in
    let item = c.index-items-place.result in
    let next : reverse (take (c.loop-place.place + 1) c.args.items.now) ≡ item ∷ reverse (take c.loop-place.place c.args.items.now) =
    with_next c.args.items.now c.loop-place.place item (search rules) c.index-items-place.is in
    let on = c.take_item.ensures.lawful (search rules) (opens c.args.capacity 1) so_far.0 so_far.3 in
    record {
      followed = (
        on.own ∷ so_far.0,
        subst (λ l. AllZip (Describes g.T.PartialEq.eq) l (on.own ∷ so_far.0)) (sym next) (on.describes, so_far.1),
        record { calls = (on.fits, so_far.2.calls); run = on.leads.represents.run },
        on.leads,
      );
    }

pub returns-clause-explains : goal.returns-clause-explains
returns-clause-explains g c = λ known.
    let so_far = c.loop-place.invariant.followed in
    let all : take c.loop-place.place c.args.items.now ≡ c.args.items.now =
    take_all c.loop-place.place c.args.items.now (search rules) in (
      λ e. (so_far.0, subst (λ l. AllZip (Describes g.T.PartialEq.eq) (reverse l) so_far.0) all so_far.1, so_far.2),
      λ whole. refl,
    )

pub returns-clause-explained : goal.returns-clause-explained
returns-clause-explained g c = λ e.
    let so_far = c.loop-place.invariant.followed in
    let all : take c.loop-place.place c.args.items.now ≡ c.args.items.now =
    take_all c.loop-place.place c.args.items.now (search rules) in
    explained g.T.PartialEq.eq (opens c.args.capacity 1) c.args.items.now
    (so_far.0, subst (λ l. AllZip (Describes g.T.PartialEq.eq) (reverse l) so_far.0) all so_far.1, so_far.2)

pub loop-place-init : goal.loop-place-init
loop-place-init g c = record {
  followed = (
    [],
    tt,
    record { calls = tt; run = tt },
    record {
      has = λ t. ap (lookup (is_at (nat_cmp t))) c.new-calls.ensures.empty;
      represents = c.new-chan.ensures.represents;
    },
  );
}
