-- Each message that comes is the next of the drain, and the loop ends when all have come.
use Rattle.std.proofs.Common.{◌<◌, length, sym, ◌∙◌, rules, arith}
use Rattle.std.proofs.lemmas.Iterator.Consumers.{YieldsList-from_rest, YieldsList-turn, YieldsList-end}
use Rattle.std.proofs.lemmas.List.{map-id}
use Rattle.judge_recorder.proofs.drains.push_all.Goals as goal

pub push_reserved-requires : goal.push_reserved-requires
push_reserved-requires g c =
    let turn = YieldsList-turn (YieldsList-from_rest {shows = λ message. message} {s =
    c.into_iter-message-iterator.result} c.args.messages (search rules))
    c.loop-message.yielded c.loop-message.message-iterator c.loop-message.yielded_by c.next.result c.next.new.self c.in-Some.message
    c.in-Some.is c.next.ensures.steps in
    let few : length c.loop-message.yielded < length c.args.messages = turn.0 in
    let same = c.loop-message.invariant.same in
    let room = c.loop-message.invariant.room in
    grind arith

pub returns : goal.returns
returns g c =
    let ended = YieldsList-end (YieldsList-from_rest {shows = λ message. message} {s =
    c.into_iter-message-iterator.result} c.args.messages (search rules))
    c.loop-message.yielded c.loop-message.message-iterator c.loop-message.yielded_by c.next.result c.next.new.self c.in-None.is
    c.next.ensures.steps in
    record { messages = c.loop-message.invariant.same ∙ sym (map-id c.loop-message.yielded) ∙ ended.0 }
