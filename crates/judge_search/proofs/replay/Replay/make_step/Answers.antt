-- A step takes no event.
use Rattle.std.proofs.Common.{take}
use Rattle.judge_search.proofs.TakeLemmas.{taken_step}
use Rattle.judge_search.proofs.replay.Replay.make_step.Goals as goal

pub returns : goal.returns
returns g c = record {
  taken = taken_step (take c.args.self.now.place c.args.events.now) c.in-Some-Begins.thread c.in-Some.step c.in_ok-reply.reply
      c.args.self.now.items.items c.push.new.self.items c.in_ok-push.ensures.items;
}
