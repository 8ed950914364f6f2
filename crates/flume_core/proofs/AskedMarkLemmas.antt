-- How a parked receiver may be answered, by its kind and its mark.
use Rattle.std.proofs.Common.{◌≡◌, ◌≢◌, ℕ, Bool, true, false, ◌&&◌, [], Option, Some, None, refl, ◌∙◌, ap, ◌⊎◌, inl, inr}
use Rattle.flume_model.specs.declared.step.Kind.{Kind}
use Rattle.flume_model.specs.declared.step.Kind.TheVariants.{Block}
use Rattle.flume_model.specs.declared.step.Reply.TheVariants.{Got, Ended, Waiting as WaitsOn, Gone}
use Rattle.flume_model.specs.declared.entry.Mark.{Mark}
use Rattle.flume_model.specs.declared.entry.Mark.TheVariants.{Waiting, Woken, Filled}
use Rattle.flume_state.specs.declared.entries.ReceiverStatus.{ReceiverStatus}
use Rattle.flume_state.specs.declared.entries.ReceiverStatus.TheVariants.{Filled as IsFilled, BlockWaiting, BlockWoken}
use Rattle.flume_state.specs.declared.entries.ReceiverStatus.TheVariants.{Waiting as IsWaiting, Woken as IsWoken}
use Rattle.flume_model.specs.Limits.{IsOpen, IsClosed, is_closed}
use Rattle.flume_model.specs.Entries.{is_woken, is_filled, leave_fills}
use Rattle.flume_model.specs.Channel.{Channel, IsFront}
use Rattle.flume_model.specs.Asking.{IsPollReplyByMark, IsWithdrawReplyByMark}
use Rattle.flume_model.specs.WaitLaws.{is_block}
use Rattle.flume_state.specs.Receivers.{status_by, looks_at_line, is_unfilled_block}

-- one that neither is filled nor blocks as it waits looks
pub looks_else : (st : ReceiverStatus) → st ≢ IsFilled → st ≢ BlockWaiting → looks_at_line (Some st) ≡ true
looks_else IsFilled a b = absurd (a refl)
looks_else BlockWaiting a b = absurd (b refl)
looks_else BlockWoken a b = refl
looks_else IsWaiting a b = refl
looks_else IsWoken a b = refl

-- one that neither is filled nor of another kind blocks
pub blocks_else : (st : ReceiverStatus) → st ≢ IsFilled → st ≢ IsWaiting → st ≢ IsWoken → is_unfilled_block (Some st) ≡ true
blocks_else IsFilled a b c = absurd (a refl)
blocks_else IsWaiting a b c = absurd (b refl)
blocks_else IsWoken a b c = absurd (c refl)
blocks_else BlockWaiting a b c = refl
blocks_else BlockWoken a b c = refl

module _ {T : Type 0} where
  -- one that looks isn't filled
  pub looks_unfilled : (k : Kind) (mark : Mark T) → looks_at_line (Some (status_by k mark)) ≡ true → is_filled mark ≡ false
  looks_unfilled k (Filled m) e = absurd (let none : ⊥ = cc in none)
  looks_unfilled k Waiting e = refl
  looks_unfilled k Woken e = refl

  -- one that blocks, as it waits or was woken, isn't filled
  pub blocks_unfilled : (k : Kind) (mark : Mark T) → is_unfilled_block (Some (status_by k mark)) ≡ true → is_filled mark ≡ false
  blocks_unfilled k (Filled m) e = absurd (let none : ⊥ = cc in none)
  blocks_unfilled k Waiting e = refl
  blocks_unfilled k Woken e = refl

  -- one that is such that it looks isn't filled
  pub unfilled_as : (k : Kind) (mark : Mark T) (st : ReceiverStatus) → status_by k mark ≡ st → looks_at_line (Some st) ≡ true
      → is_filled mark ≡ false
  unfilled_as k mark st e looking = looks_unfilled k mark (ap (λ x. looks_at_line (Some x)) e ∙ looking)

  -- one of another kind that isn't filled
  pub other_parts : (k : Kind) (mark : Mark T) → (status_by k mark ≡ IsWaiting) ⊎ (status_by k mark ≡ IsWoken)
      → (is_unfilled_block (Some (status_by k mark)) ≡ false) × (is_filled mark ≡ false)
  other_parts k mark (inl e) = (ap (λ x. is_unfilled_block (Some x)) e, unfilled_as k mark IsWaiting e refl)
  other_parts k mark (inr e) = (ap (λ x. is_unfilled_block (Some x)) e, unfilled_as k mark IsWoken e refl)

  -- one that is filled is filled with a message
  pub filled_with : (k : Kind) (mark : Mark T) → status_by k mark ≡ IsFilled → (m : T) × (mark ≡ Filled m)
  filled_with k (Filled m) e = (m, refl)
  filled_with Block Waiting e = absurd (let none : ⊥ = cc in none)
  filled_with Block Woken e = absurd (let none : ⊥ = cc in none)
  filled_with _ _ e = absurd (let none : ⊥ = cc in none)

module _ {T : Type 0} (A : Type 0) where
  -- a filled one gets its message, asking or leaving
  pub polled_collected : (c : Channel T) (k : Kind) (mark : Mark T) (m : T) → mark ≡ Filled m → IsPollReplyByMark {A = A} c k mark (Got m)
  polled_collected c k mark m e = rw e refl

  pub gone_collected : (c : Channel T) (t : ℕ) (k : Kind) (mark : Mark T) (m : T) → mark ≡ Filled m
      → IsWithdrawReplyByMark {A = A} c t k mark (Got m)
  gone_collected c t k mark m e = rw e refl

  -- one that looks may get the front
  pub polled_got : (c : Channel T) (k : Kind) (mark : Mark T) (m : T) → looks_at_line (Some (status_by k mark)) ≡ true → IsFront c m
      → IsPollReplyByMark {A = A} c k mark (Got m)
  polled_got c k (Filled x) m e front = absurd (let none : ⊥ = cc in none)
  polled_got c Block Waiting m e front = absurd (let none : ⊥ = cc in none)
  polled_got c Block Woken m e front = front
  polled_got c _ _ m e front = front

  -- one that looks may be answered `Ended`
  pub polled_ended : (c : Channel T) (k : Kind) (mark : Mark T) → looks_at_line (Some (status_by k mark)) ≡ true → c.line ≡ []
      → IsClosed c.senders c.receivers → IsPollReplyByMark {A = A} c k mark Ended
  polled_ended c k (Filled x) e none closed = absurd (let no : ⊥ = cc in no)
  polled_ended c Block Waiting e none closed = absurd (let no : ⊥ = cc in no)
  polled_ended c Block Woken e none closed = none
  polled_ended c _ _ e none closed = (none, closed)

  -- one that looks may wait on, if it wasn't woken as one that blocks
  pub polled_waits : (c : Channel T) (k : Kind) (mark : Mark T) → looks_at_line (Some (status_by k mark)) ≡ true → c.line ≡ []
      → IsOpen c.senders c.receivers → (is_block k && is_woken mark) ≡ false → IsPollReplyByMark {A = A} c k mark WaitsOn
  polled_waits c k (Filled x) e none open_ other = absurd (let no : ⊥ = cc in no)
  polled_waits c Block Waiting e none open_ other = absurd (let no : ⊥ = cc in no)
  polled_waits c Block Woken e none open_ other = absurd (let no : ⊥ = cc in no)
  polled_waits c _ _ e none open_ other = (none, open_)

  -- one that blocks and waits waits on
  pub polled_blocked : (c : Channel T) (k : Kind) (mark : Mark T) → status_by k mark ≡ BlockWaiting
      → IsPollReplyByMark {A = A} c k mark WaitsOn
  polled_blocked c k (Filled x) e = absurd (let no : ⊥ = cc in no)
  polled_blocked c Block Waiting e = tt
  polled_blocked c Block Woken e = absurd (let no : ⊥ = cc in no)
  polled_blocked c _ _ e = absurd (let no : ⊥ = cc in no)

  -- one that blocks may leave with the front
  pub gone_got : (c : Channel T) (t : ℕ) (k : Kind) (mark : Mark T) (m : T) → is_unfilled_block (Some (status_by k mark)) ≡ true
      → IsFront c m
      → IsWithdrawReplyByMark {A = A} c t k mark (Got m)
  gone_got c t k (Filled x) m e front = absurd (let none : ⊥ = cc in none)
  gone_got c t Block Waiting m e front = front
  gone_got c t Block Woken m e front = front
  gone_got c t _ _ m e front = absurd (let none : ⊥ = cc in none)

  -- one that blocks may leave with no message
  pub gone_none : (c : Channel T) (t : ℕ) (k : Kind) (mark : Mark T) (closed : Bool) → is_unfilled_block (Some (status_by k mark)) ≡ true
      → c.line ≡ []
      → closed ≡ is_closed c.senders c.receivers → IsWithdrawReplyByMark {A = A} c t k mark (Gone closed None)
  gone_none c t k (Filled x) closed e none is = absurd (let no : ⊥ = cc in no)
  gone_none c t Block Waiting closed e none is = (none, is, refl)
  gone_none c t Block Woken closed e none is = (none, is, refl)
  gone_none c t _ _ closed e none is = absurd (let no : ⊥ = cc in no)

  -- one of another kind leaves with none, and passes its wake on
  pub gone_other : (c : Channel T) (t : ℕ) (k : Kind) (mark : Mark T) (closed : Bool) (filled : Option ℕ)
      → is_unfilled_block (Some (status_by k mark)) ≡ false → is_filled mark ≡ false → closed ≡ is_closed c.senders c.receivers
      → filled ≡ leave_fills t c.queue c.entries → IsWithdrawReplyByMark {A = A} c t k mark (Gone closed filled)
  gone_other c t k (Filled x) closed filled e empty is fills = absurd (let no : ⊥ = cc in no)
  gone_other c t Block Waiting closed filled e empty is fills = absurd (let no : ⊥ = cc in no)
  gone_other c t Block Woken closed filled e empty is fills = absurd (let no : ⊥ = cc in no)
  gone_other c t _ _ closed filled e empty is fills = (is, fills)
