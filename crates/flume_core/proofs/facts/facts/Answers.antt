use Rattle.flume_core.proofs.StateFactLemmas.{channel_facts, nobody_is_stuck}
use Rattle.flume_core.proofs.facts.facts.Goals as goal

pub returns-clause-facts : goal.returns-clause-facts
returns-clause-facts g c = λ reachable. channel_facts reachable.0 reachable.1 c.args.chan.now reachable.2

pub returns-clause-rest : goal.returns-clause-rest
returns-clause-rest g c = λ reachable none. nobody_is_stuck reachable.0 reachable.1 c.args.chan.now reachable.2 none
