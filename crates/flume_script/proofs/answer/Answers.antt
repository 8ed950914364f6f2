-- The replies of a run on a new channel, as text.
use Rattle.std.proofs.Common.{refl, rules}
use Rattle.flume_script.proofs.answer.Goals as goal

pub returns : goal.returns
returns g c = record {
  answers = λ input reads. record {
    capacity = c.args.capacity;
    steps = c.args.steps.items;
    replies = c.in-Ok.replies.items;
    reads = reads;
    one_each = search rules;
    run = (c.in-Ok.ensures.steps _ _ c.new-chan.ensures.represents).run;
    last = c.run.new.chan;
    transitions = rw c.new-chan.ensures.state at c.in-Ok.ensures.transitions;
    text_is = search rules;
    status_is = refl;
  };
}
