-- No event is past the last.
use Rattle.std.proofs.Common.{sym, ap}
use Rattle.std.specs.Option.{option_map}
use Rattle.judge_calls.specs.Explanations.{thread_of}
use Rattle.judge_search.proofs.EventsAtLemmas.{event_past}
use Rattle.judge_search.proofs.places.thread_at.Goals as goal

pub returns-in-None : goal.returns-in-None
returns-in-None g c = record {
  thread = sym (ap (option_map thread_of) (event_past c.args.events.now c.args.place c.in-None.ensures.lookup.3));
}
