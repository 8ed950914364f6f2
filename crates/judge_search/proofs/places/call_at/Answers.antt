-- No event is past the last.
use Rattle.std.proofs.Common.{sym, ap}
use Rattle.std.specs.Option.{option_and_then}
use Rattle.judge_search.specs.Configurations.{call_of}
use Rattle.judge_search.proofs.EventsAtLemmas.{event_past}
use Rattle.judge_search.proofs.places.call_at.Goals as goal

pub returns-in-None : goal.returns-in-None
returns-in-None g c = record {
  call = sym (ap (option_and_then call_of) (event_past c.args.events.now c.args.place c.in-None.ensures.lookup.3));
}
