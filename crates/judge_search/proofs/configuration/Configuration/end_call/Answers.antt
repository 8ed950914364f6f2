-- What is retained passes the test.
use Rattle.std.proofs.Common.{◌≡◌, ◌==◌, not, List, rules, ap, ◌∙◌}
use Rattle.std.specs.List.{filter}
use Rattle.std.proofs.lemmas.Fn.{filter_same}
use Rattle.judge_search.specs.declared.configuration.OpenCall.{OpenCall}
use Rattle.judge_search.specs.Configurations.{State}
use Rattle.judge_search.specs.Happens.{without_call}
use Rattle.judge_search.proofs.configuration.Configuration.end_call.Goals as goal

pub returns : goal.returns
returns g c =
    let kept : c.retain.new.self.items ≡ filter (λ (call : OpenCall). not (call.place == c.args.place)) c.self.inside.calls.items =
    filter_same _ (λ (call : OpenCall). not (call.place == c.args.place)) _
    (λ x b f k. (search rules, search rules)) _ _ c.retain.ensures.filtered in
    let has : List OpenCall → State = (λ calls. record {
      capacity = c.self.inside.capacity;
      senders = c.self.inside.senders;
      receivers = c.self.inside.receivers;
      queue = c.self.inside.queue.items;
      blocked = c.self.inside.blocked.items;
      receives = c.self.inside.receives.items;
      calls = calls;
    }) in
    record { ended = ap has kept ∙ ap (without_call c.args.place) c.self.view_is }
