-- A receive, and a parked receiver that asks or leaves, has at most one reply other than
-- `NoMemory`.
use Rattle.std.proofs.Common.{ℕ}
use Rattle.std.proofs.Common.{Option, Some, None, refl, sym, ◌∙◌, ap, arith}
use Rattle.flume_model.specs.declared.step.Kind.{Kind}
use Rattle.flume_model.specs.declared.step.Kind.TheVariants.{Block}
use Rattle.flume_model.specs.declared.entry.Mark.{Mark}
use Rattle.flume_model.specs.declared.entry.Mark.TheVariants.{Waiting as StillWaits, Woken, Filled}
use Rattle.flume_model.specs.declared.step.Step.TheVariants.{TryRecv, Recv}
use Rattle.flume_model.specs.declared.step.Reply.TheVariants.{NoMemory, Spent}
use Rattle.flume_model.specs.declared.step.Reply.TheVariants.{Waiting}
use Rattle.flume_model.specs.declared.step.Reply.TheVariants.{NoTicket, Got, Empty, Ended, Parked}
use Rattle.flume_model.specs.declared.step.Reply.TheVariants.{Gone}
use Rattle.flume_model.specs.Parked.{LogEntry}
use Rattle.flume_model.specs.Channel.{Channel}
use Rattle.flume_model.specs.Asking.{IsPollReplyOfBlock, IsPollReplyOfOther, IsPollReplyByMark, IsPollReply}
use Rattle.flume_model.specs.Asking.{IsWithdrawReplyOfBlock, IsWithdrawReplyOfOther, IsWithdrawReplyByMark, IsWithdrawReply}
use Rattle.flume_model.specs.Asking.{IsCollected}
use Rattle.flume_model.specs.Replies.{IsReply}
use Rattle.flume_history.proofs.FunctionLemmas.{ap2}
use Rattle.flume_history.proofs.ApartLemmas.{open_or_closed, one_front, front_or_none, Determines}

module _ {T A : Type 0} (c : Channel T) where
  -- a tried receive
  pub try_recv : Determines A (IsReply c TryRecv)
  try_recv (NoMemory back) other h k n o = absurd (n tt)
  try_recv reply (NoMemory back) h k n o = absurd (o tt)
  try_recv (Got m) (Got other) h k n o = ap (λ m. Got m) (one_front c m other h k)
  try_recv (Got m) Ended h k n o = absurd (front_or_none c _ h k.0)
  try_recv (Got m) Empty h k n o = absurd (front_or_none c _ h k.0)
  try_recv (Got m) _ h k n o = absurd k
  try_recv Ended (Got other) h k n o = absurd (front_or_none c _ k h.0)
  try_recv Ended Ended h k n o = refl
  try_recv Ended Empty h k n o = absurd (open_or_closed c k.1 h.1)
  try_recv Ended _ h k n o = absurd k
  try_recv Empty (Got other) h k n o = absurd (front_or_none c _ k h.0)
  try_recv Empty Ended h k n o = absurd (open_or_closed c h.1 k.1)
  try_recv Empty Empty h k n o = refl
  try_recv Empty _ h k n o = absurd k
  try_recv _ _ h k n o = absurd h

  -- a receive
  pub recv : (kind : Kind) → Determines A (IsReply c (Recv kind))
  recv kind (NoMemory back) other h k n o = absurd (n tt)
  recv kind reply (NoMemory back) h k n o = absurd (o tt)
  recv kind (Got m) (Got other) h k n o = ap (λ m. Got m) (one_front c m other h k)
  recv kind (Got m) Ended h k n o = absurd (front_or_none c _ h k.0)
  recv kind (Got m) (Spent other) h k n o = absurd (front_or_none c _ h k.0)
  recv kind (Got m) (Parked u) h k n o = absurd (front_or_none c _ h k.0)
  recv kind (Got m) _ h k n o = absurd k
  recv kind Ended (Got other) h k n o = absurd (front_or_none c _ k h.0)
  recv kind Ended Ended h k n o = refl
  recv kind Ended (Spent other) h k n o = absurd (open_or_closed c k.1 h.1)
  recv kind Ended (Parked u) h k n o = absurd (open_or_closed c k.1 h.1)
  recv kind Ended _ h k n o = absurd k
  recv kind (Spent back) (Got other) h k n o = absurd (front_or_none c _ k h.0)
  recv kind (Spent back) Ended h k n o = absurd (open_or_closed c h.1 k.1)
  recv kind (Spent back) (Spent other) h k n o = ap (λ back. Spent back) (h.3 ∙ sym k.3)
  recv kind (Spent back) (Parked u) h k n o = absurd (let not_less = h.2 in let less = k.2 in omega arith)
  recv kind (Spent back) _ h k n o = absurd k
  recv kind (Parked t) (Got other) h k n o = absurd (front_or_none c _ k h.0)
  recv kind (Parked t) Ended h k n o = absurd (open_or_closed c h.1 k.1)
  recv kind (Parked t) (Spent other) h k n o = absurd (let not_less = k.2 in let less = h.2 in omega arith)
  recv kind (Parked t) (Parked u) h k n o = ap (λ t. Parked t) (h.3 ∙ sym k.3)
  recv kind (Parked t) _ h k n o = absurd k
  recv kind _ _ h k n o = absurd h

  -- a filled receiver gets what it holds
  collected : (held : T) → Determines A (IsCollected held)
  collected held (Got m) (Got back) h k n o = ap (λ m. Got m) (h ∙ sym k)
  collected held (Got m) _ h k n o = absurd k
  collected held _ _ h k n o = absurd h

  -- one that blocks asks
  polled_block : (mark : Mark T) → Determines A (IsPollReplyOfBlock c mark)
  polled_block StillWaits Waiting Waiting h k n o = refl
  polled_block StillWaits Waiting _ h k n o = absurd k
  polled_block StillWaits _ _ h k n o = absurd h
  polled_block Woken (Got m) (Got back) h k n o = ap (λ m. Got m) (one_front c m back h k)
  polled_block Woken (Got m) Ended h k n o = absurd (front_or_none c m h k)
  polled_block Woken (Got m) _ h k n o = absurd k
  polled_block Woken Ended (Got m) h k n o = absurd (front_or_none c m k h)
  polled_block Woken Ended Ended h k n o = refl
  polled_block Woken Ended _ h k n o = absurd k
  polled_block Woken _ _ h k n o = absurd h
  polled_block (Filled held) _ _ h k n o = absurd h

  -- one of another kind asks
  polled_other : Determines A (IsPollReplyOfOther c)
  polled_other (NoMemory back) other h k n o = absurd (n tt)
  polled_other reply (NoMemory back) h k n o = absurd (o tt)
  polled_other (Got m) (Got other) h k n o = ap (λ m. Got m) (one_front c m other h k)
  polled_other (Got m) Ended h k n o = absurd (front_or_none c _ h k.0)
  polled_other (Got m) Waiting h k n o = absurd (front_or_none c _ h k.0)
  polled_other (Got m) _ h k n o = absurd k
  polled_other Ended (Got other) h k n o = absurd (front_or_none c _ k h.0)
  polled_other Ended Ended h k n o = refl
  polled_other Ended Waiting h k n o = absurd (open_or_closed c k.1 h.1)
  polled_other Ended _ h k n o = absurd k
  polled_other Waiting (Got other) h k n o = absurd (front_or_none c _ k h.0)
  polled_other Waiting Ended h k n o = absurd (open_or_closed c h.1 k.1)
  polled_other Waiting Waiting h k n o = refl
  polled_other Waiting _ h k n o = absurd k
  polled_other _ _ h k n o = absurd h

  -- by its mark and its kind
  polled_mark : (kind : Kind) (mark : Mark T) → Determines A (IsPollReplyByMark c kind mark)
  polled_mark kind (Filled held) = collected held
  polled_mark Block StillWaits = polled_block StillWaits
  polled_mark Block Woken = polled_block Woken
  polled_mark _ StillWaits = polled_other
  polled_mark _ Woken = polled_other

  -- a parked receiver that asks
  pub polled : (found : Option (LogEntry T)) → Determines A (IsPollReply c found)
  polled None NoTicket NoTicket h k n o = refl
  polled None NoTicket _ h k n o = absurd k
  polled None _ _ h k n o = absurd h
  polled (Some e) reply other h k n o = polled_mark e.kind e.mark reply other h k n o

  -- one that blocks leaves
  gone_block : Determines A (IsWithdrawReplyOfBlock c)
  gone_block (Got m) (Got back) h k n o = ap (λ m. Got m) (one_front c m back h k)
  gone_block (Got m) (Gone closed filled) h k n o = absurd (front_or_none c m h k.0)
  gone_block (Got m) _ h k n o = absurd k
  gone_block (Gone closed filled) (Got m) h k n o = absurd (front_or_none c m k h.0)
  gone_block (Gone closed filled) (Gone other by) h k n o =
      ap2 (λ closed filled. Gone closed filled) (h.1 ∙ sym k.1) (h.2 ∙ sym k.2)
  gone_block (Gone closed filled) _ h k n o = absurd k
  gone_block _ _ h k n o = absurd h

  -- one of another kind leaves
  gone_other : (t : ℕ) → Determines A (IsWithdrawReplyOfOther c t)
  gone_other t (Gone closed filled) (Gone other by) h k n o =
      ap2 (λ closed filled. Gone closed filled) (h.0 ∙ sym k.0) (h.1 ∙ sym k.1)
  gone_other t (Gone closed filled) _ h k n o = absurd k
  gone_other t _ _ h k n o = absurd h

  -- by its mark and its kind
  gone_mark : (t : ℕ) (kind : Kind) (mark : Mark T) → Determines A (IsWithdrawReplyByMark c t kind mark)
  gone_mark t kind (Filled held) = collected held
  gone_mark t Block StillWaits = gone_block
  gone_mark t Block Woken = gone_block
  gone_mark t _ StillWaits = gone_other t
  gone_mark t _ Woken = gone_other t

  -- a parked receiver that leaves
  pub gone : (t : ℕ) (found : Option (LogEntry T)) → Determines A (IsWithdrawReply c t found)
  gone t None NoTicket NoTicket h k n o = refl
  gone t None NoTicket _ h k n o = absurd k
  gone t None _ _ h k n o = absurd h
  gone t (Some e) reply other h k n o = gone_mark t e.kind e.mark reply other h k n o
