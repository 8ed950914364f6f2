-- The laws of parked receivers that hold of each run.
pub use Rattle.flume_model.proofs.EntryShapeLemmas.{filled_if_named, entries_apart, sides_apart}
pub use Rattle.flume_model.proofs.waits.CoveringLemmas.{covered}
pub use Rattle.flume_model.proofs.waits.BoundingLemmas.{bounded}
pub use Rattle.flume_model.proofs.waits.WaitingOpenLemmas.{waits_while_open, nothing_once_over}
pub use Rattle.flume_model.proofs.waits.WokenBlockLemmas.{woken_block_while_closed}
pub use Rattle.flume_model.proofs.waits.StuckLemmas.{nobody_stuck}
