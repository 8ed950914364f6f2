-- By the two laws.
use Rattle.judge_search.proofs.refuted.is_refuted.Goals as goal

pub returns-then-is_unsent : goal.returns-then-is_unsent
returns-then-is_unsent g c = record {
  refuted = λ opening is explained. c.only_what_was_sent_is_received.ensures.sent opening c.args.events.now explained
      (c.is_unsent.ensures.unsent c.if-is_unsent.true);
}

pub returns-in-Some : goal.returns-in-Some
returns-in-Some g c = record {
  refuted = λ opening is explained. c.messages_are_received_in_order.ensures.order opening c.args.events.now explained
      (c.is_out_of_order.ensures.order is);
}
