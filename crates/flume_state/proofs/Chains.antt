-- What the proofs here cite of chains, passed on from one place. Declares nothing.
pub use Rattle.flume_chain.proofs.ChainLemmas.{changed_at-append, edited_missing, none_placed}
pub use Rattle.flume_chain.proofs.ChainLemmas.{without_place-append, places-append, without_missing}
pub use Rattle.flume_chain.proofs.ChainLemmas.{length-put_before, length-without_place, moved_back_missing}
pub use Rattle.flume_chain.proofs.ChainLemmas.{moved_back_some}
pub use Rattle.flume_chain.proofs.RingLemmas.{once_same, once_back, with_other, times-append, once_none, with_same, once_more}
pub use Rattle.flume_chain.proofs.TableLemmas.{item, found_some, without_at, found_none, after_at, found_put}
pub use Rattle.flume_chain.proofs.TableLemmas.{without_none, put_before_at, Split}
pub use Rattle.flume_chain.proofs.WriteLemmas.{length-changed_at, places-changed_at, found-changed_at}
pub use Rattle.flume_chain.specs.ChainState.{ChainItem, times, places, found, without_place, first_place}
pub use Rattle.flume_chain.specs.ChainState.{place_after, once, ChainState, put_before, put_before_or_last}
pub use Rattle.flume_chain.specs.ChainState.{behind_first, first_element, moved_back}
pub use Rattle.flume_chain.specs.ChangedAt.{with_value_at, changed_at, with_label_at}
pub use Rattle.flume_chain.specs.Links.{with_new_value, with_new_label}
