-- Pair by pair: the log of the channel's own replies grows as the pairs are followed.
use Rattle.std.proofs.Common.{◌≡◌, ◌+◌, inl, inr, ◌∷◌, refl, sym, subst, take, reverse, rules, arith}
use Rattle.std.proofs.Math.ListN.{get_or}
use Rattle.std.proofs.lemmas.List.{take_all}
use Rattle.flume_model.specs.Log.{opens}
use Rattle.flume_history.specs.Histories.{DescribesLog}
use Rattle.flume_history.specs.HistoryText.{Pair, IsTextOf, break_text}
use Rattle.flume_history.proofs.FollowLemmas.{with_next}
use Rattle.flume_history.proofs.JudgeLemmas.{breaks_there}
use Rattle.flume_history.proofs.script.judge.Goals as goal

pub returns-in-Some : goal.returns-in-Some
returns-in-Some g c = record {
  judges = λ input reads.
      let so_far = c.loop-place.invariant.followed in
      let pairs = c.args.pairs.now in
      let place = c.loop-place.place in
      let p : Pair = (c.pair.inside.step, c.pair.inside.reply.now) in
      let at : p ≡ get_or pairs place p = search rules in
      let is_text : c.in_ok-text.text.items ≡ break_text (place + 2) p.1 c.in-Some.expected.items = search rules in
      let shows = rw c.in-Some.is at c.in_ok-expected.ensures.not_lawful in
      inr (inl (breaks_there input c.args.capacity pairs place p.0 p.1 reads (search rules) at
      so_far.0 so_far.1.run so_far.2 c.in-Some.expected.items
      (shows (opens c.args.capacity 1) so_far.0 so_far.1)
      c.in_ok-text.text.items 1 is_text refl));
}

pub loop-place-preserved : goal.loop-place-preserved
loop-place-preserved g c =
    let so_far = c.loop-place.invariant.followed in
    let pairs = c.args.pairs.now in
    let place = c.loop-place.place in
    let p : Pair = (c.pair.inside.step, c.pair.inside.reply.now) in
    let at : p ≡ get_or pairs place p = search rules in
    let next = with_next pairs place p (search rules) at in
    let follows = rw c.in_default.is at c.in_ok-expected.ensures.lawful in
    let on = follows (opens c.args.capacity 1) so_far.0 so_far.1 in
    record {
      followed = (
        (p.0, on.0) ∷ so_far.0,
        on.2,
        subst (λ l. DescribesLog IsTextOf l ((p.0, on.0) ∷ so_far.0)) (sym next) (refl, on.1, so_far.2),
      );
    }

pub returns : goal.returns
returns g c = record {
  judges = λ input reads.
      let so_far = c.loop-place.invariant.followed in
      let pairs = c.args.pairs.now in
      let all : take c.loop-place.place pairs ≡ pairs = take_all c.loop-place.place pairs (omega arith) in
      inl (record {
        capacity = c.args.capacity;
        pairs = pairs;
        reads = reads;
        is_history = (so_far.0, so_far.1.run, subst (λ l. DescribesLog IsTextOf (reverse l) so_far.0) all so_far.2);
        text_is = search rules;
        status_is = refl;
      });
}
