-- Logs of the same steps with the same replies lead to the same channel: a drained list counts by
-- its messages, wherever it is kept.
use Rattle.std.proofs.Common.{◌≡◌, ℕ, ◌+◌, ◌==◌, Bool, not, ◌&&◌, ◌||◌, if◌then◌else◌}
use Rattle.std.proofs.Common.{List, [], ◌∷◌, ◌++◌, length, filter, take, drop, Option, Some, refl, sym, ◌∙◌, ap, subst}
use Rattle.std.proofs.Math.Path.{fun_ext}
use Rattle.std.specs.declared.vec.Vec.{Vec}
use Rattle.flume_model.specs.declared.step.Step.{Step}
use Rattle.flume_model.specs.declared.step.Step.TheVariants.{Poll, Withdraw, Drain}
use Rattle.flume_model.specs.declared.step.Reply.{Reply}
use Rattle.flume_model.specs.declared.step.Reply.TheVariants.{Got, Drained}
use Rattle.flume_model.specs.Log.{Log, Opening, Offer, Change, Collects, Takes, Drains}
use Rattle.flume_model.specs.Log.{change, filled_by, was_filled, is_ticket}
use Rattle.flume_model.specs.Counts.{senders, receivers, senders_after, receivers_after, is_over}
use Rattle.flume_model.specs.Limits.{is_closed}
use Rattle.flume_model.specs.Offers.{offers, offers_made, withdrawn, withdraws, kept, handed_out, hands_out}
use Rattle.flume_model.specs.Line.{line, capacity, capacity_after, queue_len, queue_len_after, queue}
use Rattle.flume_model.specs.Line.{blocked, messages, next_ticket, tickets_issued, is_live, issues, spends}
use Rattle.flume_model.specs.Parked.{LogEntry, entries, entries_after, is_closed_after}
use Rattle.flume_model.specs.Channel.{Channel, channel}
use Rattle.flume_model.specs.Replies.{SameReply}
use Rattle.flume_history.specs.SameRuns.{SameLog}
use Rattle.flume_history.proofs.FunctionLemmas.{ap2, ap5}

-- the parts of a channel other than its line
abbrev Rest : Type 0 → Type 0
Rest T = List (LogEntry T) × (ℕ → Bool) × ℕ × ℕ × ℕ

-- a channel of these parts
abbrev channel_of : {T : Type 0} → Option ℕ → List (Offer T) → ℕ → List T → List (Offer T) → Rest T
    → Channel T
channel_of capacity line queue_len queue blocked rest = record {
  capacity = capacity;
  line = messages line;
  queue_len = queue_len;
  queue = queue;
  blocked = blocked;
  entries = rest.0;
  is_live = rest.1;
  next_ticket = rest.2;
  senders = rest.3;
  receivers = rest.4;
}

module _ {T A : Type 0} where
  -- what holds of a reply and itself, and of two drained lists of the same messages, holds of two
  -- replies that are the same
  by_same : (P : Reply T A → Reply T A → Type 0) → ((reply : Reply T A) → P reply reply)
      → ((list other : Vec T A) → list.items ≡ other.items → P (Drained list) (Drained other))
      → (reply other : Reply T A) → SameReply reply other → P reply other
  by_same P one lists (Drained list) (Drained other) h = lists list other h
  by_same P one lists reply other h = subst (P reply) h (one reply)

  -- the same replies tell the same receiver as filled
  same_filled : (reply other : Reply T A) → SameReply reply other
      → filled_by reply ≡ filled_by other
  same_filled =
      by_same (λ reply other. filled_by reply ≡ filled_by other) (λ reply. refl) (λ list other e. refl)

  -- logs after which the same receivers were filled
  was_filled_same : (log other : Log T A) → SameLog log other → was_filled log ≡ was_filled other
  was_filled_same [] [] h = refl
  was_filled_same [] (q ∷ other) h = absurd h
  was_filled_same (p ∷ past) [] h = absurd h
  was_filled_same (p ∷ past) (q ∷ other) h =
      fun_ext (λ t. ap2 (λ a b. is_ticket t a || b) (same_filled p.1 q.1 h.1)
      (ap (λ f. f t) (was_filled_same past other h.2)))

  -- what a step changes goes by which receivers were filled before
  change_after : (past other : Log T A) → was_filled past ≡ was_filled other
      → (step : Step T) (reply : Reply T A) → change past step reply ≡ change other step reply
  change_after past other e (Poll t) (Got m) =
      ap (λ f. if f t then Collects t else Takes m (Some t)) e
  change_after past other e (Withdraw t) (Got m) =
      ap (λ f. if f t then Collects t else Takes m (Some t)) e
  change_after past other e _ _ = refl

  -- and by the messages of a drained list
  change_drained : (past : Log T A) (step : Step T) (list other : Vec T A)
      → list.items ≡ other.items → change past step (Drained list) ≡ change past step (Drained other)
  change_drained past Drain list other e = ap (λ items. Drains items) e
  change_drained past _ list other e = refl

  -- the same step with the same reply changes the same
  change_same : (past other : Log T A) → SameLog past other
      → (p q : Step T × Reply T A) → p.0 ≡ q.0 → SameReply p.1 q.1
      → change past p.0 p.1 ≡ change other q.0 q.1
  change_same past other h p q e same =
      change_after past other (was_filled_same past other h) p.0 p.1
      ∙ ap (λ step. change other step p.1) e
      ∙ by_same (λ reply reply'. change other q.0 reply ≡ change other q.0 reply') (λ reply. refl)
      (change_drained other q.0) p.1 q.1 same

  -- each step of two logs changes the same
  abbrev SameChanges : Log T A → Log T A → Type 0
  SameChanges [] [] = Unit {0}
  SameChanges (p ∷ past) (q ∷ other) =
      (change past p.0 p.1 ≡ change other q.0 q.1) × SameChanges past other
  SameChanges _ _ = ⊥

  same_changes : (log other : Log T A) → SameLog log other → SameChanges log other
  same_changes [] [] h = tt
  same_changes [] (q ∷ other) h = absurd h
  same_changes (p ∷ past) [] h = absurd h
  same_changes (p ∷ past) (q ∷ other) h =
      (change_same past other h.2 p q h.0 h.1, same_changes past other h.2)

  -- what is built up from a log's changes is the same for both
  by_changes : {X : Type 0} (f : Log T A → X) (more : X → Change T → X)
      → ((p : Step T × Reply T A) (past : Log T A) → f (p ∷ past) ≡ more (f past) (change past p.0 p.1))
      → (log other : Log T A) → SameChanges log other → f log ≡ f other
  by_changes f more step [] [] h = refl
  by_changes f more step [] (q ∷ other) h = absurd h
  by_changes f more step (p ∷ past) [] h = absurd h
  by_changes f more step (p ∷ past) (q ∷ other) h =
      step p past ∙ ap2 more (by_changes f more step past other h.1) h.0 ∙ sym (step q other)

module _ {T A : Type 0} (o : Opening) where
  -- as many senders and receivers live, and so both sides have disconnected in both or in none
  senders_same : (log other : Log T A) → SameChanges log other → senders log ≡ senders other
  senders_same = by_changes senders senders_after (λ p past. refl)

  receivers_same : (log other : Log T A) → SameChanges log other → receivers log ≡ receivers other
  receivers_same = by_changes receivers receivers_after (λ p past. refl)

  over_same : (log other : Log T A) → SameChanges log other → is_over log ≡ is_over other
  over_same log other h =
      ap2 (λ s r. s + r == 0) (senders_same log other h) (receivers_same log other h)

  shut_same : (log other : Log T A) → SameChanges log other → is_closed_after log ≡ is_closed_after other
  shut_same log other h =
      ap2 is_closed (senders_same log other h) (receivers_same log other h)

  -- the same offers are kept, and as many were handed out
  offers_same : (log other : Log T A) → SameChanges log other → offers log ≡ offers other
  offers_same = by_changes offers (λ before done. before ++ offers_made done) (λ p past. refl)

  withdrawn_same : (log other : Log T A) → SameChanges log other → withdrawn log ≡ withdrawn other
  withdrawn_same =
      by_changes withdrawn (λ before done offer. withdraws done offer || before offer)
      (λ p past. refl)

  kept_same : (log other : Log T A) → SameChanges log other → kept log ≡ kept other
  kept_same log other h =
      ap2 (λ gone all. filter (λ offer. not (gone offer)) all) (withdrawn_same log other h)
      (offers_same log other h)

  handed_out_same : (log other : Log T A) → SameChanges log other → handed_out log ≡ handed_out other
  handed_out_same = by_changes handed_out (λ before done. before ++ hands_out done) (λ p past. refl)

  -- so the line is the same
  line_same : (log other : Log T A) → SameChanges log other → line log ≡ line other
  line_same log other h =
      ap2 (λ over rest. if over then [] else rest) (over_same log other h)
      (ap2 (λ done all. drop (length done) all) (handed_out_same log other h) (kept_same log other h))

  capacity_same : (log other : Log T A) → SameChanges log other → capacity o log ≡ capacity o other
  capacity_same = by_changes (capacity o) capacity_after (λ p past. refl)

  next_same : (log other : Log T A) → SameChanges log other
      → next_ticket o log ≡ next_ticket o other
  next_same = by_changes (next_ticket o) (λ next done. next + tickets_issued done) (λ p past. refl)

  -- as much of it is queued
  queue_len_same : (log other : Log T A) → SameChanges log other → queue_len o log ≡ queue_len o other
  queue_len_same [] [] h = refl
  queue_len_same [] (q ∷ other) h = absurd h
  queue_len_same (p ∷ past) [] h = absurd h
  queue_len_same (p ∷ past) (q ∷ other) h =
      ap5 (λ over capacity line n done. if over then 0 else queue_len_after capacity (length line) n done)
      (over_same (p ∷ past) (q ∷ other) h) (capacity_same (p ∷ past) (q ∷ other) h)
      (line_same (p ∷ past) (q ∷ other) h) (queue_len_same past other h.1) h.0

  queue_same : (log other : Log T A) → SameChanges log other → queue o log ≡ queue o other
  queue_same log other h =
      ap2 (λ n l. messages (take n l)) (queue_len_same log other h) (line_same log other h)

  blocked_same : (log other : Log T A) → SameChanges log other → blocked o log ≡ blocked o other
  blocked_same log other h =
      ap2 (λ n l. drop n l) (queue_len_same log other h) (line_same log other h)

  -- the same tickets are live
  live_same : (log other : Log T A) → SameChanges log other → is_live log ≡ is_live other
  live_same [] [] h = refl
  live_same [] (q ∷ other) h = absurd h
  live_same (p ∷ past) [] h = absurd h
  live_same (p ∷ past) (q ∷ other) h =
      fun_ext (λ t. ap2 (λ over rest. not over && rest) (over_same (p ∷ past) (q ∷ other) h)
      (ap2 (λ done live. issues done t || (live t && not (spends done t))) h.0
      (live_same past other h.1)))

  -- and the same receivers are parked
  entries_same : (log other : Log T A) → SameChanges log other → entries o log ≡ entries o other
  entries_same [] [] h = refl
  entries_same [] (q ∷ other) h = absurd h
  entries_same (p ∷ past) [] h = absurd h
  entries_same (p ∷ past) (q ∷ other) h =
      ap5 (λ over queue closes entries done. if over then [] else entries_after queue closes entries done)
      (over_same (p ∷ past) (q ∷ other) h) (queue_same past other h.1)
      (ap2 (λ before now. not before && now) (shut_same past other h.1)
      (shut_same (p ∷ past) (q ∷ other) h)) (entries_same past other h.1) h.0

  -- so the channel is the same
  pub channel_same : (log other : Log T A) → SameLog log other → channel o log ≡ channel o other
  channel_same log other same =
      let h = same_changes log other same in
      let first = ap5 channel_of (capacity_same log other h) (line_same log other h)
      (queue_len_same log other h) (queue_same log other h) (blocked_same log other h) in
      ap2 (λ half rest. half rest) first
      (ap5 (λ entries live next s r. (entries, live, next, s, r)) (entries_same log other h)
      (live_same log other h) (next_same log other h) (senders_same log other h)
      (receivers_same log other h))
