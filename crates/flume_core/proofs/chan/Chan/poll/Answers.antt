-- How a parked receiver is answered that asks again.
use Rattle.std.proofs.Common.{◌≡◌, true, [], Some, refl, rules}
use Rattle.flume_model.specs.Limits.{IsOpen, IsClosed}
use Rattle.flume_state.specs.Receivers.{receiver_status, looks_at_line, waits_on}
use Rattle.flume_state.specs.Effects.{with_front}
use Rattle.flume_core.proofs.AnsweringLemmas.{closed_where}
use Rattle.flume_core.proofs.AskLemmas.{poll_none, poll_collects, poll_waits, poll_takes, poll_waits_on, poll_ends}
use Rattle.flume_core.proofs.AskedMarkLemmas.{looks_else}
use Rattle.flume_core.proofs.dues.AfterStepLemmas.{unchanged, left, took_parked, waits}
use Rattle.flume_core.proofs.chan.Chan.poll.Goals as goal

pub returns-in_default-clause-step : goal.returns-in_default-clause-step
returns-in_default-clause-step g c o log h = poll_none o log c.args.self.now _ c.args.ticket h (search rules) refl

pub returns-in-Filled-clause-step : goal.returns-in-Filled-clause-step
returns-in-Filled-clause-step g c o log h =
    poll_collects o log c.args.self.now _ c.args.ticket c.collect.result h (search rules) c.collect.ensures.got (search rules)

pub returns-in-BlockWaiting-clause-step : goal.returns-in-BlockWaiting-clause-step
returns-in-BlockWaiting-clause-step g c o log h =
    poll_waits o log c.args.self.now _ c.args.ticket (waits_on c.args.signal) h (search rules) (search rules)

pub returns-in-Some-take_front : goal.returns-in-Some-take_front
returns-in-Some-take_front g c =
    let st = c.in-Some.status in
    let is : receiver_status c.args.ticket c.args.self.now.entries ≡ Some st = search rules in
    let looking : looks_at_line (Some st) ≡ true = looks_else st c.in_default-status.not-Filled c.in_default-status.not-BlockWaiting in
    let front = c.in-Some-take_front.ensures.some in
    record {
      step = λ o log h. poll_takes o log c.args.self.now _ c.args.ticket st c.in-Some-take_front.message front.0 h is looking front.1
          (search rules);
      becomes_due = λ reachable. took_parked c.args.self.now _ _ _ front.0 c.args.ticket (λ t. refl) reachable (search rules);
      possible_reply = tt;
      space = search rules;
      no_ticket = search (rules, is);
      collected = search (rules, is, looking);
      got = search (rules, is, front);
      ended = search (rules, is, front);
      waiting = search (rules, is, front);
      leaves_at_end = search rules;
      waits = search rules;
      unchanged = search rules;
    }

pub returns-then-is_open : goal.returns-then-is_open
returns-then-is_open g c =
    let st = c.in-Some.status in
    let is : receiver_status c.args.ticket c.args.self.now.entries ≡ Some st = search rules in
    let looking : looks_at_line (Some st) ≡ true = looks_else st c.in_default-status.not-Filled c.in_default-status.not-BlockWaiting in
    let none : (with_front c.args.self.now).queue ≡ [] = search rules in
    let open_ : IsOpen c.args.self.now.senders c.args.self.now.receivers = search rules in
    record {
      step = λ o log h. poll_waits_on o log c.args.self.now _ c.args.ticket st (waits_on c.args.signal) h is looking none open_
          (search rules);
      becomes_due = λ reachable. waits c.args.self.now _ c.args.ticket c.args.signal reachable (search rules);
      possible_reply = tt;
      space = search rules;
      no_ticket = search (rules, is);
      collected = search (rules, is, looking);
      got = search (rules, none);
      ended = search (rules, open_);
      waiting = search (rules, is, looking, none, open_);
      leaves_at_end = search rules;
      waits = search rules;
      unchanged = search rules;
    }

pub returns : goal.returns
returns g c =
    let st = c.in-Some.status in
    let is : receiver_status c.args.ticket c.args.self.now.entries ≡ Some st = search rules in
    let looking : looks_at_line (Some st) ≡ true = looks_else st c.in_default-status.not-Filled c.in_default-status.not-BlockWaiting in
    let none : (with_front c.args.self.now).queue ≡ [] = search rules in
    let closed : IsClosed c.args.self.now.senders c.args.self.now.receivers = closed_where _ _ (search rules) in
    record {
      step = λ o log h. poll_ends o log c.args.self.now _ c.args.ticket st h is looking none closed (search rules);
      becomes_due = λ reachable. left c.args.self.now _ _ _ c.args.ticket (λ t. refl) reachable (search rules);
      possible_reply = tt;
      space = search rules;
      no_ticket = search (rules, is);
      collected = search (rules, is, looking);
      got = search (rules, none);
      ended = search (rules, is, looking, none, closed);
      waiting = search (rules, is, closed);
      leaves_at_end = search rules;
      waits = search rules;
      unchanged = search rules;
    }

pub returns-in_default-clause-becomes_due : goal.returns-in_default-clause-becomes_due
returns-in_default-clause-becomes_due g c = λ reachable. unchanged _ _ _ _ (λ t. refl) (search rules)

pub returns-in-Filled-clause-becomes_due : goal.returns-in-Filled-clause-becomes_due
returns-in-Filled-clause-becomes_due g c = λ reachable.
    let got = c.collect.ensures.got in
    rw got.2 (left c.args.self.now _ _ _ c.args.ticket (λ t. refl) reachable (search rules))

pub returns-in-BlockWaiting-clause-becomes_due : goal.returns-in-BlockWaiting-clause-becomes_due
returns-in-BlockWaiting-clause-becomes_due g c = λ reachable. waits c.args.self.now _ c.args.ticket c.args.signal reachable (search rules)
