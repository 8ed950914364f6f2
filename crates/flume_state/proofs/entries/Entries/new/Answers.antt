use Rattle.flume_state.proofs.EntrySortedLemmas.{sorted_empty}
use Rattle.flume_state.proofs.entries.Entries.new.Goals as goal

pub invariant_of-result : goal.invariant_of-result
invariant_of-result g c = sorted_empty _ c.new.ensures.empty
