-- Entry by entry: the log of the channel's own replies grows as the history is followed.
use Rattle.std.proofs.Common.{◌≡◌, ◌+◌, refl, sym, subst, take, reverse, ◌∷◌, rules}
use Rattle.std.proofs.lemmas.List.{take_all}
use Rattle.flume_model.specs.Log.{opens}
use Rattle.flume_history.specs.Equal.{Equals}
use Rattle.flume_history.specs.Histories.{DescribesLog, BreaksAt}
use Rattle.flume_history.proofs.EqualityLemmas.{tells_want}
use Rattle.flume_history.proofs.FollowLemmas.{with_next, breaks_at, beginning}
use Rattle.flume_history.proofs.check.check_history.Goals as goal

pub returns-in-Unlawful-clause-run : goal.returns-in-Unlawful-clause-run
returns-in-Unlawful-clause-run g c = λ known.
    let so_far = c.loop-place.invariant.followed in
    let broken : BreaksAt (Equals g.T.PartialEq.eq) (opens c.args.capacity 1) c.args.history.now c.loop-place.place =
    breaks_at (Equals g.T.PartialEq.eq) (tells_want g.T.PartialEq.eq) (opens c.args.capacity 1) c.args.history.now c.loop-place.place
    c.index-history-place.result so_far.0 (search rules) c.index-history-place.is so_far.1.run so_far.2
    (c.follow_reply.ensures.not_lawful c.in-Unlawful.is (opens c.args.capacity 1) so_far.0 so_far.1) in (
      λ e. absurd (let none : ⊥ = cc in none),
      λ whole. absurd (broken.not_with_next
          (beginning (Equals g.T.PartialEq.eq) (opens c.args.capacity 1) (c.loop-place.place + 1) c.args.history.now whole)),
    )

pub returns-in-Unlawful-clause-breaks : goal.returns-in-Unlawful-clause-breaks
returns-in-Unlawful-clause-breaks g c = λ place e.
    let same : c.loop-place.place ≡ place = cc in
    let so_far = c.loop-place.invariant.followed in
    let broken : BreaksAt (Equals g.T.PartialEq.eq) (opens c.args.capacity 1) c.args.history.now c.loop-place.place =
    breaks_at (Equals g.T.PartialEq.eq) (tells_want g.T.PartialEq.eq) (opens c.args.capacity 1) c.args.history.now c.loop-place.place
    c.index-history-place.result so_far.0 (search rules) c.index-history-place.is so_far.1.run so_far.2
    (c.follow_reply.ensures.not_lawful c.in-Unlawful.is (opens c.args.capacity 1) so_far.0 so_far.1) in
    subst (λ n. BreaksAt (Equals g.T.PartialEq.eq) (opens c.args.capacity 1) c.args.history.now n) same broken

pub loop-place-preserved : goal.loop-place-preserved
loop-place-preserved g c =
    let so_far = c.loop-place.invariant.followed in
    let p = c.index-history-place.result in
    let reply = c.in-Lawful.reply in
    let on = c.follow_reply.ensures.lawful reply c.in-Lawful.is (opens c.args.capacity 1) so_far.0 so_far.1 in
    let next : reverse (take (c.loop-place.place + 1) c.args.history.now) ≡ p ∷ reverse (take c.loop-place.place c.args.history.now) =
    with_next c.args.history.now c.loop-place.place p (search rules) c.index-history-place.is in
    record {
      followed = (
        (p.0, reply) ∷ so_far.0,
        on.1,
        subst (λ l. DescribesLog (Equals g.T.PartialEq.eq) l ((p.0, reply) ∷ so_far.0)) (sym next) (refl, on.0, so_far.2),
      );
    }

pub returns-clause-run : goal.returns-clause-run
returns-clause-run g c = λ known.
    let so_far = c.loop-place.invariant.followed in
    let all : take c.loop-place.place c.args.history.now ≡ c.args.history.now =
    take_all c.loop-place.place c.args.history.now (search rules) in (
      λ e. (so_far.0, so_far.1.run, subst (λ l. DescribesLog (Equals g.T.PartialEq.eq) (reverse l) so_far.0) all so_far.2),
      λ whole. refl,
    )
