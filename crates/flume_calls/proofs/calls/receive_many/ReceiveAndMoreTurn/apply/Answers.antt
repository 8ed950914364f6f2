-- A turn, and what is taken behind it.
use Rattle.std.proofs.Common.{[], refl}
use Rattle.flume_calls.specs.Batches.{NoSteps}
use Rattle.flume_calls.proofs.ManyReceiveLemmas.{gives_none, gives_some, no_message}
use Rattle.flume_calls.proofs.calls.receive_many.ReceiveAndMoreTurn.apply.Goals as goal

pub returns-in-Ok-clause-does : goal.returns-in-Ok-clause-does
returns-in-Ok-clause-does g c =
    let took = c.take_more-taken.ensures.took in
    record {
      between = c.apply.new.chan;
      first = c.apply.result;
      taken = took.taken;
      turn = c.apply.ensures.does;
      reachable = took.reachable;
      gives = gives_some _ _ _ took.taken _ _ c.apply.result c.in-Ok.message c.in-Ok.ensures.message c.push_reserved.ensures.items
          took.items took.number c.take_more-taken.ensures.at_most;
      none_behind = λ none. absurd (no_message c.apply.result c.in-Ok.message c.in-Ok.ensures.message none);
      all_behind = λ message is. rw took.number c.take_more-taken.ensures.all;
    }

pub returns-in-Ok-clause-answers : goal.returns-in-Ok-clause-answers
returns-in-Ok-clause-answers g c =
    let took = c.take_more-taken.ensures.took in
    record {
      first = c.apply.result;
      taken = took.taken;
      answered = c.apply.ensures.answers;
      gives = gives_some _ _ _ took.taken _ _ c.apply.result c.in-Ok.message c.in-Ok.ensures.message c.push_reserved.ensures.items
          took.items took.number c.take_more-taken.ensures.at_most;
      none_given = λ none. absurd (no_message c.apply.result c.in-Ok.message c.in-Ok.ensures.message none);
    }

pub returns-in-Err-clause-does : goal.returns-in-Err-clause-does
returns-in-Err-clause-does g c =
    let none = c.in-Err.ensures.none in
    record {
      between = c.apply.new.chan;
      first = c.apply.result;
      taken = [];
      turn = c.apply.ensures.does;
      reachable = NoSteps;
      gives = gives_none _ _ _ c.apply.result c.in-Err.next none.0 refl none.1;
      none_behind = λ _. refl;
      all_behind = λ message is. absurd (no_message c.apply.result message is none.0);
    }

pub returns-in-Err-clause-answers : goal.returns-in-Err-clause-answers
returns-in-Err-clause-answers g c =
    let none = c.in-Err.ensures.none in
    record {
      first = c.apply.result;
      taken = [];
      answered = c.apply.ensures.answers;
      gives = gives_none _ _ _ c.apply.result c.in-Err.next none.0 refl none.1;
      none_given = λ _. refl;
    }
