-- If the round ends at a receive, those behind it stay as they are.
use Rattle.std.proofs.Common.{◌<◌, arith, length, rules}
use Rattle.std.proofs.Math.Seq.{drop-cons}
use Rattle.judge_search.proofs.RoundLemmas.{ends_here, meets_block, meets_plain}
use Rattle.judge_search.proofs.wakes.wake_round.Goals as goal

pub returns-in-Block-clause-round : goal.returns-in-Block-clause-round
returns-in-Block-clause-round c =
    let below : c.loop-place.place < length c.loop-place.receives = omega arith in
    ends_here c.args.front c.loop-place.place c.loop-place.receives c.args.receives.now _ _ below c.loop-place.invariant.round
    (drop-cons _ _ _ below) (meets_block _ _ _ (search rules) (search rules))

pub returns-in-Plain-clause-round : goal.returns-in-Plain-clause-round
returns-in-Plain-clause-round c =
    let below : c.loop-place.place < length c.loop-place.receives = omega arith in
    ends_here c.args.front c.loop-place.place c.loop-place.receives c.args.receives.now _ _ below c.loop-place.invariant.round
    (drop-cons _ _ _ below) (meets_plain _ _ _ (search rules) (search rules))
