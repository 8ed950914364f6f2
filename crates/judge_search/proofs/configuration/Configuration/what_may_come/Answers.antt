-- The event alone, or it and each step.
use Rattle.judge_search.proofs.LevelLemmas.{some_cover, only_cover}
use Rattle.judge_search.proofs.configuration.Configuration.what_may_come.Goals as goal

pub returns-in-Some : goal.returns-in-Some
returns-in-Some g c = record {
  cover = some_cover g.T.PartialEq.eq c.args.events.now (λ v. v.items) c.choices.result c.args.place c.args.self.now c.choices.ensures.event c.choices.ensures.steps;
}

pub returns-in-None : goal.returns-in-None
returns-in-None g c = record {
  cover = only_cover g.T.PartialEq.eq c.args.events.now (λ v. v.items) c.only_event.result c.args.place c.args.self.now c.only_event.ensures.event
      c.in-None.ensures.event_only;
}
