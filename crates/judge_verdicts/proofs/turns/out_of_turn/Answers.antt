-- Event by event.
use Rattle.std.proofs.Common.{◌+◌, ◌≡◌, ◌∷◌, ◌<◌, refl, sym, subst, take, drop, length, reverse, arith, rules}
use Rattle.std.proofs.lemmas.List.{take_all, length-take-le}
use Rattle.flume_history.proofs.FollowLemmas.{with_next}
use Rattle.judge_verdicts.specs.Turns.{AreInTurn, HasCalls}
use Rattle.judge_verdicts.proofs.BreakLemmas.{parts_at}
use Rattle.judge_verdicts.proofs.turns.out_of_turn.Goals as goal

pub returns-then-not-is_in_turn-clause-found : goal.returns-then-not-is_in_turn-clause-found
returns-then-not-is_in_turn-clause-found g c =
    let events = c.args.events.now in
    let place = c.loop-place.place in
    let so_far = c.loop-place.invariant in
    let within : place < length events = search rules in
    record {
      before = take place events;
      event = c.index-events-place.result;
      later = drop (place + 1) events;
      parts = parts_at events place c.index-events-place.result within c.index-events-place.is;
      place_is = length-take-le place events (omega arith);
      in_turn = so_far.0;
      out_of_turn = λ fits.
          let wrong = (c.if-not-is_in_turn.ensures.in_turn (reverse (take place events)) so_far.1).1 fits in
          absurd (let none : ⊥ = cc in none);
    }

pub loop-place-preserved : goal.loop-place-preserved
loop-place-preserved g c =
    let A = g.row.A.Denot in
    let events = c.args.events.now in
    let place = c.loop-place.place in
    let so_far = c.loop-place.invariant in
    let past = reverse (take place events) in
    let event = c.index-events-place.result in
    let within : place < length events = search rules in
    let next : reverse (take (place + 1) events) ≡ event ∷ past = with_next events place event within c.index-events-place.is in
    let fits = (c.if-not-is_in_turn.ensures.in_turn past so_far.1).0 refl in
    let now_open = c.if-not-take_event.ensures.open_after refl past so_far.1 in
    subst (λ l. AreInTurn l × HasCalls l c.take_event.new.calls) (sym next) ((fits, so_far.0), now_open)

pub returns : goal.returns
returns g c =
    let all : take c.loop-place.place c.args.events.now ≡ c.args.events.now =
    take_all c.loop-place.place c.args.events.now (search rules) in
    record { within = tt; found = tt; none = subst (λ l. AreInTurn (reverse l)) all c.loop-place.invariant.0 }
