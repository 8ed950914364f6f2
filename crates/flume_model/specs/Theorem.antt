-- The theorem: what holds of each run, at each moment of it.
use Rattle.std.specs.Prelude.{◌≡◌, ◌≤◌, ◌++◌, false, drop, length, take}
use Rattle.flume_model.specs.Log.{Log, Opening}
use Rattle.flume_model.specs.Offers.{kept, hand_outs}
use Rattle.flume_model.specs.Counts.{is_over}
use Rattle.flume_model.specs.Line.{line, messages, queue_len, queue, blocked}
use Rattle.flume_model.specs.Parked.{entries}
use Rattle.flume_model.specs.Replies.{IsRun}
use Rattle.flume_model.specs.Laws.{InOrder}
use Rattle.flume_model.specs.WaitLaws.{Covered, Bounded}

module _ {T A : Type 0} where
  -- what holds of a log, whoever made its steps
  pub record Theorem (opening : Opening) (log : Log T A) : Type 0 where
    -- the j-th message handed out is the message of the j-th offer that wasn't withdrawn
    pub in_order : InOrder (entries opening log) log
    -- the queued messages are those of the offers that come next: true of any log, by what `queue`
    -- is; that a `Chan` has this queue is `Represents`
    pub queue_is_front :
        queue opening log
        ≡ messages (take (queue_len opening log) (drop (hand_outs log) (kept log)))
    -- the blocked ones are the rest of these offers, until both sides have disconnected: true of any
    -- log too, and of a `Chan` by `Represents`
    pub blocked_are_rest :
        is_over log ≡ false
        → blocked opening log ≡ drop (queue_len opening log) (drop (hand_outs log) (kept log))
    -- no more are queued than are in the channel
    pub queue_len_within : queue_len opening log ≤ length (line log)
    -- each reply is the abstract channel's
    pub replies_lawful : IsRun opening log
    -- while a receiver waits, at least as many stand woken as messages are queued
    pub woken_cover : Covered opening log
    -- queued messages and waiting receivers together are within the greater of the greatest capacity
    -- and the peak
    pub queue_bounded : Bounded opening log

  -- the log began with this one; what came later is before it, since the newest come first
  abbrev pub IsBeginning : Log T A → Log T A → Type 0
  IsBeginning log before = (later : Log T A) × (log ≡ later ++ before)

  -- the theorem at each moment up to now
  abbrev pub TheoremThroughout : Opening → Log T A → Type 0
  TheoremThroughout opening log =
      (before : Log T A) → IsBeginning log before → Theorem opening before
