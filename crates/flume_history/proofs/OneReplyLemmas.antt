-- After a run each step has at most one reply other than `NoMemory`.
use Rattle.std.proofs.Common.{◌≡◌, ℕ}
use Rattle.std.proofs.Common.{refl, sym, ◌∙◌, ap, arith}
use Rattle.flume_model.specs.declared.step.Step.{Step}
use Rattle.flume_model.specs.declared.step.Step.TheVariants.{TrySend, Send, PollSend, WithdrawSend}
use Rattle.flume_model.specs.declared.step.Step.TheVariants.{TryRecv, Recv, Poll, Withdraw, Drain}
use Rattle.flume_model.specs.declared.step.Step.TheVariants.{CloneSender, CloneReceiver}
use Rattle.flume_model.specs.declared.step.Step.TheVariants.{DropSender, DropReceiver, SetCapacity}
use Rattle.flume_model.specs.declared.step.Step.TheVariants.{Len, IsEmpty}
use Rattle.flume_model.specs.declared.step.Step.TheVariants.{IsFull, Capacity, SenderCount}
use Rattle.flume_model.specs.declared.step.Step.TheVariants.{ReceiverCount, IsDisconnected}
use Rattle.flume_model.specs.declared.step.Reply.TheVariants.{NoMemory}
use Rattle.flume_model.specs.declared.step.Reply.TheVariants.{Ended}
use Rattle.flume_model.specs.declared.step.Reply.TheVariants.{Drained, Done, NoEnd, CountFull}
use Rattle.flume_model.specs.declared.step.Reply.TheVariants.{Number, Flag, Capacity as Bound}
use Rattle.flume_model.specs.declared.step.Reply.TheVariants.{Unbounded}
use Rattle.flume_model.specs.Channel.{Channel, IsBlocked}
use Rattle.flume_model.specs.Entries.{entry_of}
use Rattle.flume_model.specs.Replies.{IsReply}
use Rattle.flume_history.proofs.ApartLemmas.{open_or_closed, none_or_most, bounded_or_not, Determines}
use Rattle.flume_history.proofs.OneSendLemmas.{try_send, send, poll_send, withdraw_send}
use Rattle.flume_history.proofs.OneReceiveLemmas.{try_recv, recv, polled, gone}

module _ {T A : Type 0} (c : Channel T) where
  -- one sender more
  clone_sender : Determines A (IsReply c CloneSender)
  clone_sender Done Done h k n o = refl
  clone_sender Done NoEnd h k n o = absurd (let some = h.0 in let none = k in omega arith)
  clone_sender Done CountFull h k n o = absurd (let less = h.1 in let not_less = k in omega arith)
  clone_sender Done _ h k n o = absurd k
  clone_sender NoEnd Done h k n o = absurd (let some = k.0 in let none = h in omega arith)
  clone_sender NoEnd NoEnd h k n o = refl
  clone_sender NoEnd CountFull h k n o = absurd (none_or_most h k)
  clone_sender NoEnd _ h k n o = absurd k
  clone_sender CountFull Done h k n o = absurd (let less = k.1 in let not_less = h in omega arith)
  clone_sender CountFull NoEnd h k n o = absurd (none_or_most k h)
  clone_sender CountFull CountFull h k n o = refl
  clone_sender CountFull _ h k n o = absurd k
  clone_sender _ _ h k n o = absurd h

  -- one receiver more
  clone_receiver : Determines A (IsReply c CloneReceiver)
  clone_receiver Done Done h k n o = refl
  clone_receiver Done NoEnd h k n o = absurd (let some = h.0 in let none = k in omega arith)
  clone_receiver Done CountFull h k n o = absurd (let less = h.1 in let not_less = k in omega arith)
  clone_receiver Done _ h k n o = absurd k
  clone_receiver NoEnd Done h k n o = absurd (let some = k.0 in let none = h in omega arith)
  clone_receiver NoEnd NoEnd h k n o = refl
  clone_receiver NoEnd CountFull h k n o = absurd (none_or_most h k)
  clone_receiver NoEnd _ h k n o = absurd k
  clone_receiver CountFull Done h k n o = absurd (let less = k.1 in let not_less = h in omega arith)
  clone_receiver CountFull NoEnd h k n o = absurd (none_or_most k h)
  clone_receiver CountFull CountFull h k n o = refl
  clone_receiver CountFull _ h k n o = absurd k
  clone_receiver _ _ h k n o = absurd h

  -- one sender less
  drop_sender : Determines A (IsReply c DropSender)
  drop_sender Done Done h k n o = refl
  drop_sender Done NoEnd h k n o = absurd (let some = h in let none = k in omega arith)
  drop_sender Done _ h k n o = absurd k
  drop_sender NoEnd Done h k n o = absurd (let some = k in let none = h in omega arith)
  drop_sender NoEnd NoEnd h k n o = refl
  drop_sender NoEnd _ h k n o = absurd k
  drop_sender _ _ h k n o = absurd h

  -- one receiver less
  drop_receiver : Determines A (IsReply c DropReceiver)
  drop_receiver Done Done h k n o = refl
  drop_receiver Done NoEnd h k n o = absurd (let some = h in let none = k in omega arith)
  drop_receiver Done _ h k n o = absurd k
  drop_receiver NoEnd Done h k n o = absurd (let some = k in let none = h in omega arith)
  drop_receiver NoEnd NoEnd h k n o = refl
  drop_receiver NoEnd _ h k n o = absurd k
  drop_receiver _ _ h k n o = absurd h

  -- a new capacity
  set_capacity : (capacity : ℕ) → Determines A (IsReply c (SetCapacity capacity))
  set_capacity capacity Unbounded Unbounded h k n o = refl
  set_capacity capacity Unbounded Ended h k n o = absurd (bounded_or_not c.capacity h k.0)
  set_capacity capacity Unbounded Done h k n o = absurd (bounded_or_not c.capacity h k.0)
  set_capacity capacity Unbounded _ h k n o = absurd k
  set_capacity capacity Ended Unbounded h k n o = absurd (bounded_or_not c.capacity k h.0)
  set_capacity capacity Ended Ended h k n o = refl
  set_capacity capacity Ended Done h k n o = absurd (open_or_closed c k.1 h.1)
  set_capacity capacity Ended _ h k n o = absurd k
  set_capacity capacity Done Unbounded h k n o = absurd (bounded_or_not c.capacity k h.0)
  set_capacity capacity Done Ended h k n o = absurd (open_or_closed c h.1 k.1)
  set_capacity capacity Done Done h k n o = refl
  set_capacity capacity Done _ h k n o = absurd k
  set_capacity capacity _ _ h k n o = absurd h

  -- a drain
  drain : Determines A (IsReply c Drain)
  drain (NoMemory back) other h k n o = absurd (n tt)
  drain reply (NoMemory back) h k n o = absurd (o tt)
  drain (Drained list) (Drained other) h k n o = h ∙ sym k
  drain (Drained list) _ h k n o = absurd k
  drain _ _ h k n o = absurd h

  -- how many messages are queued
  len : Determines A (IsReply c Len)
  len (Number a) (Number b) h k n o = ap (λ a. Number a) (h ∙ sym k)
  len (Number a) _ h k n o = absurd k
  len _ _ h k n o = absurd h

  -- whether none is
  is_empty : Determines A (IsReply c IsEmpty)
  is_empty (Flag a) (Flag b) h k n o = ap (λ a. Flag a) (h ∙ sym k)
  is_empty (Flag a) _ h k n o = absurd k
  is_empty _ _ h k n o = absurd h

  -- whether the queue has reached the capacity
  is_full : Determines A (IsReply c IsFull)
  is_full (Flag a) (Flag b) h k n o = ap (λ a. Flag a) (h ∙ sym k)
  is_full (Flag a) _ h k n o = absurd k
  is_full _ _ h k n o = absurd h

  -- the capacity
  capacity : Determines A (IsReply c Capacity)
  capacity (Bound a) (Bound b) h k n o = ap (λ a. Bound a) (h ∙ sym k)
  capacity (Bound a) _ h k n o = absurd k
  capacity _ _ h k n o = absurd h

  -- how many senders live
  sender_count : Determines A (IsReply c SenderCount)
  sender_count (Number a) (Number b) h k n o = ap (λ a. Number a) (h ∙ sym k)
  sender_count (Number a) _ h k n o = absurd k
  sender_count _ _ h k n o = absurd h

  -- how many receivers live
  receiver_count : Determines A (IsReply c ReceiverCount)
  receiver_count (Number a) (Number b) h k n o = ap (λ a. Number a) (h ∙ sym k)
  receiver_count (Number a) _ h k n o = absurd k
  receiver_count _ _ h k n o = absurd h

  -- whether the channel is closed
  is_disconnected : Determines A (IsReply c IsDisconnected)
  is_disconnected (Flag a) (Flag b) h k n o = ap (λ a. Flag a) (h ∙ sym k)
  is_disconnected (Flag a) _ h k n o = absurd k
  is_disconnected _ _ h k n o = absurd h

  -- each step has at most one reply other than `NoMemory`, if a ticket has one blocked message
  pub one_reply : ((t : ℕ) (m back : T) → IsBlocked c t m → IsBlocked c t back → m ≡ back)
      → (step : Step T) → Determines A (IsReply c step)
  one_reply one (TrySend m) = try_send c m
  one_reply one (Send m) = send c m
  one_reply one (PollSend t) = poll_send c one t
  one_reply one (WithdrawSend t) = withdraw_send c one t
  one_reply one TryRecv = try_recv c
  one_reply one (Recv kind) = recv c kind
  one_reply one (Poll t) = polled c (entry_of t c.entries)
  one_reply one (Withdraw t) = gone c t (entry_of t c.entries)
  one_reply one Drain = drain
  one_reply one CloneSender = clone_sender
  one_reply one CloneReceiver = clone_receiver
  one_reply one DropSender = drop_sender
  one_reply one DropReceiver = drop_receiver
  one_reply one (SetCapacity n) = set_capacity n
  one_reply one Len = len
  one_reply one IsEmpty = is_empty
  one_reply one IsFull = is_full
  one_reply one Capacity = capacity
  one_reply one SenderCount = sender_count
  one_reply one ReceiverCount = receiver_count
  one_reply one IsDisconnected = is_disconnected
