-- All events were taken.
use Rattle.judge_search.proofs.TakeLemmas.{taken_all}
use Rattle.judge_search.proofs.replay.make_choices.Goals as goal

pub returns-then-replay-events : goal.returns-then-replay-events
returns-then-replay-events g c = record {
  events = taken_all c.args.events.now c.loop-choice.replay.place c.loop-choice.replay.items.items c.if-replay-events.true
      c.loop-choice.invariant.taken;
}
