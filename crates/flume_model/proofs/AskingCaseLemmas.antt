-- The cases of how a parked receiver is answered, when it asks and when it leaves.
use Rattle.flume_model.proofs.Common.{◌≡◌, ℕ, Bool, true, false, [], Option, Some, None, refl, sym, ap, subst}
use Rattle.flume_model.proofs.Common.{IsPollReplyOfBlock, IsPollReplyOfOther}
use Rattle.flume_model.proofs.Common.{IsPollReplyByMark, IsPollReply, IsWithdrawReplyOfOther, IsWithdrawReplyOfBlock}
use Rattle.flume_model.proofs.Common.{IsWithdrawReplyByMark, IsWithdrawReply, Channel, IsFront}
use Rattle.flume_model.proofs.Common.{is_filled, is_woken, entry_of, leave_fills, IsOpen, LogEntry, Mark, Woken, Filled, Kind, Block, Reply}
use Rattle.flume_model.proofs.Common.{NoMemory, NoTicket, Got, Ended, Gone}
use Rattle.flume_model.specs.declared.step.Reply.TheVariants.{Waiting}
use Rattle.flume_model.specs.declared.entry.Mark.TheVariants.{Waiting as StillWaits}

module _ {T : Type 0} where
  -- the entry with this ticket, which isn't filled
  pub record Unfilled (c : Channel T) (t : ℕ) : Type 0 where
    pub entry : LogEntry T
    pub found : entry_of t c.entries ≡ Some entry
    pub empty : is_filled entry.mark ≡ false

module _ {T A : Type 0} where
  -- something holds of each reply that the receiver under this ticket may get when it asks
  pub record WhenPolled (c : Channel T) (t : ℕ) (P : Reply T A → Type 0) : Type 0 where
    pub unknown : P NoTicket
    pub collects : (e : LogEntry T) (held : T) → entry_of t c.entries ≡ Some e → e.mark ≡ Filled held → P (Got held)
    pub takes : Unfilled c t → (m : T) → IsFront c m → P (Got m)
    pub waits_on : (u : Unfilled c t) → (is_woken u.entry.mark ≡ true → (c.line ≡ []) × IsOpen c.senders c.receivers) → P Waiting
    pub ends : Unfilled c t → c.line ≡ [] → P Ended
    pub refused : (back : Option T) → P (NoMemory back)

  -- something holds of each reply that the receiver under this ticket may get when it leaves
  pub record WhenGone (c : Channel T) (t : ℕ) (P : Reply T A → Type 0) : Type 0 where
    pub unknown : P NoTicket
    pub collects : (e : LogEntry T) (held : T) → entry_of t c.entries ≡ Some e → e.mark ≡ Filled held → P (Got held)
    pub takes : Unfilled c t → (m : T) → IsFront c m → P (Got m)
    pub fills_none : Unfilled c t → (closed : Bool) → c.line ≡ [] → P (Gone closed None)
    pub passes_on : Unfilled c t → (closed : Bool) → P (Gone closed (leave_fills t c.queue c.entries))

  -- what holds in each case holds of the reply to one that isn't filled, doesn't block, and asks
  polled_other : (c : Channel T) (t : ℕ) (P : Reply T A → Type 0) → WhenPolled c t P → Unfilled c t → (reply : Reply T A)
      → IsPollReplyOfOther c reply → P reply
  polled_other c t P when u (Got m) h = when.takes u m h
  polled_other c t P when u (NoMemory back) h = when.refused back
  polled_other c t P when u Ended h = when.ends u h.0
  polled_other c t P when u Waiting h = when.waits_on u (λ woken. h)
  polled_other c t P when u _ h = absurd h

  -- what holds in each case holds of the reply to one that isn't filled, blocks, and asks
  polled_block : (c : Channel T) (t : ℕ) (P : Reply T A → Type 0) → WhenPolled c t P → (u : Unfilled c t) → (mark : Mark T)
      → u.entry.mark ≡ mark → (reply : Reply T A) → IsPollReplyOfBlock c mark reply → P reply
  polled_block c t P when u StillWaits is Waiting h = when.waits_on u (λ woken. absurd (let none : ⊥ = cc in none))
  polled_block c t P when u Woken is (Got m) h = when.takes u m h
  polled_block c t P when u Woken is Ended h = when.ends u h
  polled_block c t P when u (Filled held) is _ h = absurd h
  polled_block c t P when u StillWaits is _ h = absurd h
  polled_block c t P when u Woken is _ h = absurd h

  -- what holds in each case holds of the reply to one that asks, by its mark and its kind
  polled_mark : (c : Channel T) (t : ℕ) (P : Reply T A → Type 0) → WhenPolled c t P → (e : LogEntry T) → entry_of t c.entries ≡ Some e
      → (k : Kind) (mark : Mark T) → e.mark ≡ mark → (reply : Reply T A) → IsPollReplyByMark c k mark reply → P reply
  polled_mark c t P when e found k (Filled held) is (Got m) h = subst (λ x. P (Got x)) (sym h) (when.collects e held found is)
  polled_mark c t P when e found k (Filled held) is _ h = absurd h
  polled_mark c t P when e found Block StillWaits is reply h =
      polled_block c t P when (record { entry = e; found = found; empty = ap is_filled is }) StillWaits is reply h
  polled_mark c t P when e found Block Woken is reply h =
      polled_block c t P when (record { entry = e; found = found; empty = ap is_filled is }) Woken is reply h
  polled_mark c t P when e found _ StillWaits is reply h =
      polled_other c t P when (record { entry = e; found = found; empty = ap is_filled is }) reply h
  polled_mark c t P when e found _ Woken is reply h =
      polled_other c t P when (record { entry = e; found = found; empty = ap is_filled is }) reply h

  -- what holds in each case holds of the reply to one that asks
  pub polled_cases : (c : Channel T) (t : ℕ) (P : Reply T A → Type 0) (reply : Reply T A) → IsPollReply c (entry_of t c.entries) reply
      → WhenPolled c t P → P reply
  polled_cases c t P reply h when = by_entry (entry_of t c.entries) refl reply h
    where
      by_entry : (found : Option (LogEntry T)) → entry_of t c.entries ≡ found → (r : Reply T A) → IsPollReply c found r → P r
      by_entry None is NoTicket h = when.unknown
      by_entry None is _ h = absurd h
      by_entry (Some e) is r h = polled_mark c t P when e is e.kind e.mark refl r h

  -- what holds in each case holds of the reply to one that isn't filled and leaves, if it blocks
  -- and if it doesn't
  gone_block : (c : Channel T) (t : ℕ) (P : Reply T A → Type 0) → WhenGone c t P → Unfilled c t → (reply : Reply T A)
      → IsWithdrawReplyOfBlock c reply → P reply
  gone_block c t P when u (Got m) h = when.takes u m h
  gone_block c t P when u (Gone closed filled) h = subst (λ f. P (Gone closed f)) (sym h.2) (when.fills_none u closed h.0)
  gone_block c t P when u _ h = absurd h

  gone_other : (c : Channel T) (t : ℕ) (P : Reply T A → Type 0) → WhenGone c t P → Unfilled c t → (reply : Reply T A)
      → IsWithdrawReplyOfOther c t reply → P reply
  gone_other c t P when u (Gone closed filled) h = subst (λ f. P (Gone closed f)) (sym h.1) (when.passes_on u closed)
  gone_other c t P when u _ h = absurd h

  -- what holds in each case holds of the reply to one that leaves, by its mark and its kind
  gone_mark : (c : Channel T) (t : ℕ) (P : Reply T A → Type 0) → WhenGone c t P → (e : LogEntry T) → entry_of t c.entries ≡ Some e
      → (k : Kind) (mark : Mark T) → e.mark ≡ mark → (reply : Reply T A) → IsWithdrawReplyByMark c t k mark reply → P reply
  gone_mark c t P when e found k (Filled held) is (Got m) h = subst (λ x. P (Got x)) (sym h) (when.collects e held found is)
  gone_mark c t P when e found k (Filled held) is _ h = absurd h
  gone_mark c t P when e found Block StillWaits is reply h =
      gone_block c t P when (record { entry = e; found = found; empty = ap is_filled is }) reply h
  gone_mark c t P when e found Block Woken is reply h =
      gone_block c t P when (record { entry = e; found = found; empty = ap is_filled is }) reply h
  gone_mark c t P when e found _ StillWaits is reply h =
      gone_other c t P when (record { entry = e; found = found; empty = ap is_filled is }) reply h
  gone_mark c t P when e found _ Woken is reply h =
      gone_other c t P when (record { entry = e; found = found; empty = ap is_filled is }) reply h

  -- what holds in each case holds of the reply to one that leaves
  pub gone_cases : (c : Channel T) (t : ℕ) (P : Reply T A → Type 0) (reply : Reply T A) → IsWithdrawReply c t (entry_of t c.entries) reply
      → WhenGone c t P → P reply
  gone_cases c t P reply h when = by_entry (entry_of t c.entries) refl reply h
    where
      by_entry : (found : Option (LogEntry T)) → entry_of t c.entries ≡ found → (r : Reply T A) → IsWithdrawReply c t found r → P r
      by_entry None is NoTicket h = when.unknown
      by_entry None is _ h = absurd h
      by_entry (Some e) is r h = gone_mark c t P when e is e.kind e.mark refl r h
