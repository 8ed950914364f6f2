-- How a parked receiver may be answered when it asks again, and when it leaves.
use Rattle.std.specs.Prelude.{◌≡◌, ℕ, ◌<◌, [], length, Option, Some, None}
use Rattle.flume_model.specs.declared.step.Kind.{Kind}
use Rattle.flume_model.specs.declared.step.Kind.TheVariants.{Block}
use Rattle.flume_model.specs.declared.step.Reply.{Reply}
use Rattle.flume_model.specs.declared.step.Reply.TheVariants.{NoMemory, NoTicket, Got, Ended}
use Rattle.flume_model.specs.declared.step.Reply.TheVariants.{Waiting, Gone}
use Rattle.flume_model.specs.declared.entry.Mark.{Mark}
use Rattle.flume_model.specs.declared.entry.Mark.TheVariants.{Waiting as StillWaits, Woken, Filled}
use Rattle.flume_model.specs.Limits.{IsOpen, IsClosed, is_closed}
use Rattle.flume_model.specs.Entries.{leave_fills}
use Rattle.flume_model.specs.Parked.{LogEntry}
use Rattle.flume_model.specs.Channel.{Channel, IsFront}

module _ {T A : Type 0} where
  -- a filled one gets its message, asking or leaving
  abbrev pub IsCollected : T → Reply T A → Type 0
  IsCollected held (Got m) = m ≡ held
  IsCollected held _ = ⊥

  -- one that blocks waits on, or was woken as the channel closed
  abbrev pub IsPollReplyOfBlock : Channel T → Mark T → Reply T A → Type 0
  IsPollReplyOfBlock c StillWaits Waiting = Unit {0}
  IsPollReplyOfBlock c Woken (Got m) = IsFront c m
  IsPollReplyOfBlock c Woken Ended = c.line ≡ []
  IsPollReplyOfBlock c _ _ = ⊥

  -- one of another kind is answered by the line, whether it was woken or not
  abbrev pub IsPollReplyOfOther : Channel T → Reply T A → Type 0
  IsPollReplyOfOther c (Got m) = IsFront c m
  IsPollReplyOfOther c (NoMemory back) = (c.queue_len < length c.line) × (back ≡ None)
  IsPollReplyOfOther c Ended = (c.line ≡ []) × IsClosed c.senders c.receivers
  IsPollReplyOfOther c Waiting = (c.line ≡ []) × IsOpen c.senders c.receivers
  IsPollReplyOfOther c _ = ⊥

  -- by its mark if it is filled, and else by its kind
  abbrev pub IsPollReplyByMark : Channel T → Kind → Mark T → Reply T A → Type 0
  IsPollReplyByMark c kind (Filled held) reply = IsCollected held reply
  IsPollReplyByMark c Block mark reply = IsPollReplyOfBlock c mark reply
  IsPollReplyByMark c kind mark reply = IsPollReplyOfOther c reply

  -- a receiver that asks again, if this is its entry
  abbrev pub IsPollReply : Channel T → Option (LogEntry T) → Reply T A → Type 0
  IsPollReply c None NoTicket = Unit {0}
  IsPollReply c None _ = ⊥
  IsPollReply c (Some e) reply = IsPollReplyByMark c e.kind e.mark reply

  -- one that blocks takes the front with it, if there is one
  abbrev pub IsWithdrawReplyOfBlock : Channel T → Reply T A → Type 0
  IsWithdrawReplyOfBlock c (Got m) = IsFront c m
  IsWithdrawReplyOfBlock c (Gone closed filled) =
      (c.line ≡ []) × (closed ≡ is_closed c.senders c.receivers) × (filled ≡ None)
  IsWithdrawReplyOfBlock c _ = ⊥

  -- one of another kind takes no message, and passes its wake on, if it was woken
  abbrev pub IsWithdrawReplyOfOther : Channel T → ℕ → Reply T A → Type 0
  IsWithdrawReplyOfOther c t (Gone closed filled) =
      (closed ≡ is_closed c.senders c.receivers) × (filled ≡ leave_fills t c.queue c.entries)
  IsWithdrawReplyOfOther c t _ = ⊥

  -- by its mark if it is filled, and else by its kind
  abbrev pub IsWithdrawReplyByMark : Channel T → ℕ → Kind → Mark T → Reply T A → Type 0
  IsWithdrawReplyByMark c t kind (Filled held) reply = IsCollected held reply
  IsWithdrawReplyByMark c t Block mark reply = IsWithdrawReplyOfBlock c reply
  IsWithdrawReplyByMark c t kind mark reply = IsWithdrawReplyOfOther c t reply

  -- a receiver that leaves, if this is its entry
  abbrev pub IsWithdrawReply : Channel T → ℕ → Option (LogEntry T) → Reply T A → Type 0
  IsWithdrawReply c t None NoTicket = Unit {0}
  IsWithdrawReply c t None _ = ⊥
  IsWithdrawReply c t (Some e) reply = IsWithdrawReplyByMark c t e.kind e.mark reply
