-- What the proofs cite of the standard library and of this crate's definitions, by one name of a module.
pub use Rattle.std.proofs.Common.{◌≡◌, ℕ, Bool, true, false, [], Option, Some, None, refl, sym, ap, subst, ◌∷◌, ◌++◌, ◌+◌, ◌<◌, ◌≤◌, ◌||◌}
pub use Rattle.std.proofs.Common.{if◌then◌else◌, eqb, List, ◌∙◌, arith, inl, inr, ◌⊎◌, eqb-true, ne_eqb, eq-eqb, not, ◌&&◌, cond, take}
pub use Rattle.std.proofs.Common.{zero, suc, length, get_or, set, drop, map, length-append, drop-drop, length-take-le, drop_at, ◌-◌, max}
pub use Rattle.std.proofs.Common.{subst₂, sum_by, min, ◌≢◌, rules}
pub use Rattle.std.proofs.Math.Seq.{take-nil}
pub use Rattle.std.proofs.lemmas.Bool.{or_left, or_from, or_cases, and_parts, or_parts, or_right, cond-false, cond-true, cases_lt}
pub use Rattle.std.proofs.lemmas.Bool.{eqb-false}
pub use Rattle.std.proofs.lemmas.Grind.{common_steps}
pub use Rattle.std.proofs.lemmas.List.{append_assoc, drop_more, drop-set-lt, take-append-drop, take_more_set, append-nil, drop-append-le}
pub use Rattle.std.proofs.lemmas.List.{map-append, take_all, length-map, length_push, length-drop, take_at, take-append-le, drop-map}
pub use Rattle.std.proofs.lemmas.List.{drop_all}
pub use Rattle.std.proofs.lemmas.List.Elements.{All-head, All-tail, All-weaker, All-nil, All-push, All-filter, filter-append, All-cons}
pub use Rattle.std.proofs.lemmas.List.Folds.{list_any-append, list_any_none}
pub use Rattle.std.proofs.lemmas.List.Sums.{sum_by-cons, sum_by-append, sum_by_push}
pub use Rattle.std.proofs.lemmas.Map.Views.{any-filter_same}
pub use Rattle.std.proofs.lemmas.Option.{get_or_from_slice_get, slice_get-get_or, slice_get_within}
pub use Rattle.std.proofs.lemmas.Slice.Zip.{AllZip-long, all_zipped_more}
pub use Rattle.std.specs.List.{slice_get, All, filter, AllZip}
pub use Rattle.flume_model.specs.AllBlock.{parks_blocking, OnlyBlockingReceivers, IsAtMostCapacity}
pub use Rattle.flume_model.specs.Asking.{
  IsPollReplyOfBlock,
  IsPollReplyOfOther,
  IsPollReplyByMark,
  IsPollReply,
  IsWithdrawReplyOfBlock,
  IsWithdrawReplyOfOther,
}
pub use Rattle.flume_model.specs.Asking.{IsWithdrawReplyByMark, IsWithdrawReply}
pub use Rattle.flume_model.specs.Theorem.{Theorem, TheoremThroughout}
pub use Rattle.flume_model.specs.Channel.{Channel, IsFront, channel, TakesIn, TakesNoneIn, IsAccepted, IsBlocked, has_ticket}
pub use Rattle.flume_model.specs.Conserved.{held_messages, gives, given_out, IsConserved, Conserved, messages_in}
pub use Rattle.flume_model.specs.Counts.{is_over, senders, receivers, senders_after, receivers_after}
pub use Rattle.flume_model.specs.Entries.{is_filled, is_woken, entry_of, leave_fills, all_woken, round, round_fills, without_ticket}
pub use Rattle.flume_model.specs.Entries.{is_waiting}
pub use Rattle.flume_model.specs.Entries.{some_wait, waiting_count, woken_count, round_for, round_for_fills, again_as, again, passes_on}
pub use Rattle.flume_model.specs.Entries.{after_leave, marked, held_in, held_by}
pub use Rattle.std.specs.Option.{option_or}
pub use Rattle.flume_model.specs.Fills.{FillIs, IsHandOutOf, shows_to, shown}
pub use Rattle.flume_model.specs.Laws.{IsBelow, IsEarlier, Rising, InOrder}
pub use Rattle.flume_model.specs.Limits.{IsOpen, most, HasRoom, IsAtCapacity, is_closed, IsClosed, IsBounded}
pub use Rattle.flume_model.specs.Line.{tickets_issued, issues, fill_count, next_ticket, queue, spends, is_live, line, queue_len, messages}
pub use Rattle.flume_model.specs.Line.{queue_len_after, blocked, capacity, capacity_after, greater, greatest}
pub use Rattle.flume_model.specs.Log.{Log, Opening, Change, Queues, Blocks, Accepts, Withdraws, Takes, Drains, Parks, Asks, Collects}
pub use Rattle.flume_model.specs.Log.{Leaves, SenderJoins, ReceiverJoins, SenderLeaves, ReceiverLeaves, Resizes, Stays, is_ticket}
pub use Rattle.flume_model.specs.Log.{filled_by}
pub use Rattle.flume_model.specs.Log.{was_filled, change, Offer, HandOut, Shown, FilledIn, capped}
pub use Rattle.flume_model.specs.Offers.{fill, hands_out, kept, handed_out, hand_outs, offers_made, withdraws, offers, withdrawn}
pub use Rattle.flume_model.specs.Parked.{LogEntry, same_notice, entries_after, entries, is_closed_after, new_entry, peak}
pub use Rattle.flume_model.specs.Producers.{HandedOutInOrder}
pub use Rattle.flume_model.specs.Replies.{IsRun, IsReply}
pub use Rattle.flume_model.specs.WaitLaws.{
  DistinctTickets,
  TicketsDisjoint,
  FilledIfNamed,
  block_woken,
  is_block,
  IsWithinCapacity,
  Bounded,
}
pub use Rattle.flume_model.specs.WaitLaws.{Covered}
pub use Rattle.flume_model.specs.WaitLaws.{WokenBlockWhileClosed}
pub use Rattle.flume_model.specs.WakeRule.{IsPassed, IsWakeRound}
pub use Rattle.flume_model.specs.declared.entry.Entry.{Entry}
pub use Rattle.flume_model.specs.declared.entry.Mark.{Mark}
pub use Rattle.flume_model.specs.declared.entry.Mark.TheVariants.{Woken, Filled, Waiting}
pub use Rattle.flume_model.specs.declared.step.Kind.{Kind}
pub use Rattle.flume_model.specs.declared.step.Kind.TheVariants.{Block, Plain, Stream, Arm}
pub use Rattle.flume_model.specs.declared.step.Reply.{Reply}
pub use Rattle.flume_model.specs.declared.step.Reply.TheVariants.{NoMemory, NoTicket, Got, Ended, Gone, Sent, Pending, Accepted, Returned}
pub use Rattle.flume_model.specs.declared.step.Reply.TheVariants.{Parked, Drained, Done}
pub use Rattle.flume_model.specs.declared.step.Step.{Step}
pub use Rattle.flume_model.specs.declared.step.Step.TheVariants.{TrySend, Send, Poll, Withdraw, PollSend, WithdrawSend, TryRecv, Recv}
pub use Rattle.flume_model.specs.declared.step.Step.TheVariants.{Drain, SetCapacity}
