use Rattle.flume_model.proofs.waits.WakeRuleLemmas.{is_wake_round, only_wake_round}
use Rattle.flume_model.proofs.laws.waits.wake_rounds_follow_their_rule.Goals as goal

pub returns : goal.returns
returns g c = record { law = is_wake_round; only = only_wake_round }
