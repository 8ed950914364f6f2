-- The runtime outlives the borrow of the stream.
use Rattle.flume.proofs.OutlivesLemmas.{static_outlives}
use Rattle.example_proved_callers.proofs.streams.double_large.Goals as goal

pub block_on-requires-lives-F-Future-3 : goal.block_on-requires-lives-F-Future-3
block_on-requires-lives-F-Future-3 g c κs within = static_outlives c.type_bounds.static-R

pub block_on-requires-lives-F-Future-4 : goal.block_on-requires-lives-F-Future-4
block_on-requires-lives-F-Future-4 g c κs within = static_outlives c.type_bounds.static-R
