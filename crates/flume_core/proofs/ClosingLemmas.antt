-- An end that leaves: what that leaves represents the log with that step added.
use Rattle.std.proofs.Common.{◌≡◌, ◌≢◌, ℕ, ◌+◌, ◌<◌, Bool, true, false, not, ◌&&◌, if◌then◌else◌, List, ◌∷◌, map, refl, sym, ◌∙◌, ap, arith}
use Rattle.std.proofs.Common.{eqb, eqb-true}
use Rattle.std.proofs.lemmas.Bool.{eqb-false}
use Rattle.flume_model.specs.declared.step.Step.{Step}
use Rattle.flume_model.specs.declared.step.Reply.{Reply}
use Rattle.flume_model.specs.Log.{Log, Opening, Change, SenderLeaves, ReceiverLeaves, change}
use Rattle.flume_model.specs.Counts.{senders_after, receivers_after}
use Rattle.flume_model.specs.Line.{tickets_issued}
use Rattle.flume_model.specs.Channel.{channel}
use Rattle.flume_model.specs.Replies.{IsReply}
use Rattle.flume_model.specs.Limits.{is_closed}
use Rattle.flume_state.specs.State.{State, bare}
use Rattle.flume_core.specs.Represents.{Represents}
use Rattle.flume_model.specs.Entries.{all_woken}
use Rattle.flume_model.specs.Parked.{LogEntry, same_notice, entries_after, is_closed_after}
use Rattle.flume_state.specs.Notices.{due_now}
use Rattle.flume_core.proofs.BareEntryLemmas.{bare_all_woken}
use Rattle.flume_model.proofs.WaitingCountLemmas.{fewer_woken}
use Rattle.flume_state.specs.Effects.{with_all_due, after_end_dropped}
use Rattle.flume_core.proofs.InvariantLemmas.{moves_none, counts_open, counts_over}
use Rattle.flume_core.proofs.NotifyLemmas.{same_marks_due}

-- whether an end leaves by a change
abbrev pub leaves_end : {T : Type 0} → Change T → Bool
leaves_end SenderLeaves = true
leaves_end ReceiverLeaves = true
leaves_end _ = false

-- an end that leaves moves no message
leaving_moves : {T : Type 0} (done : Change T) → leaves_end done ≡ true → moves_none done ≡ true
leaving_moves SenderLeaves e = refl
leaving_moves ReceiverLeaves e = refl
leaving_moves _ e = absurd (let none : ⊥ = cc in none)

-- an end that leaves issues no ticket
leaving_issues : {T : Type 0} (done : Change T) → leaves_end done ≡ true → tickets_issued done ≡ 0
leaving_issues SenderLeaves e = refl
leaving_issues ReceiverLeaves e = refl
leaving_issues _ e = absurd (let none : ⊥ = cc in none)

-- if an end leaves, all waiting receivers are woken exactly if that closes the channel
entries_leaving : {T : Type 0} (done : Change T) → leaves_end done ≡ true → (queue : List T) (closes : Bool) (es : List (LogEntry T))
    (b : Bool)
    → closes ≡ b → entries_after queue closes es done ≡ (if b then all_woken same_notice es else es)
entries_leaving SenderLeaves e queue closes es b is = ap (λ c. if c then all_woken same_notice es else es) is
entries_leaving ReceiverLeaves e queue closes es b is = ap (λ c. if c then all_woken same_notice es else es) is
entries_leaving _ e queue closes es b is = absurd (let none : ⊥ = cc in none)

-- not zero
above_zero : (n : ℕ) → n ≢ 0 → 0 < n
above_zero n some = omega (arith, some)

module _ {T A S : Type 0} where
  -- whether an end that left closed the channel is the same by the state and by the log
  closes_as : (o : Opening) (log : Log T A) (p : Step T × Reply T A) (done : Change T) (s : State T S) → Represents o log s
      → change log p.0 p.1 ≡ done
      → (not (is_closed s.senders s.receivers) && is_closed (senders_after s.senders done) (receivers_after s.receivers done))
      ≡ (not (is_closed_after log) && is_closed_after (p ∷ log))
  closes_as o log p done s h e = rw (h.senders_are, h.receivers_are, ← e) refl

  -- an end that left leaves a state for the log with its step
  pub leaves : (o : Opening) (log : Log T A) (p : Step T × Reply T A) (done : Change T) (old new : State T S)
      → Represents o log old → IsReply (channel o log) p.0 p.1 → change log p.0 p.1 ≡ done → leaves_end done ≡ true
      → new ≡ after_end_dropped (not (is_closed old.senders old.receivers))
      (record old { senders = senders_after old.senders done; receivers = receivers_after old.receivers done })
      → Represents o (p ∷ log) new
  leaves o log p done old new h reply e ends is = go (eqb (n + m) 0) closes refl refl
    where
      n : ℕ
      n = senders_after old.senders done

      m : ℕ
      m = receivers_after old.receivers done

      closes : Bool
      closes = not (is_closed old.senders old.receivers) && is_closed n m

      go : (b c : Bool) → eqb (n + m) 0 ≡ b → closes ≡ c → Represents o (p ∷ log) new
      go true c over closed =
          let left = rw over at is in
          counts_over o log p done old new h reply e (leaving_moves done ends) (leaving_issues done ends) left (eqb-true (n + m) 0 over)
      go false true over closed =
          let left = rw (over, closed) at is in
          counts_open o log p done old new (with_all_due old.blocked old.sends) (all_woken due_now old.entries) h reply e
          (leaving_moves done ends) left (same_marks_due old.blocked old.sends)
          (bare_all_woken due_now old.entries
          ∙ sym (entries_leaving done ends old.queue _ (map bare old.entries) true (sym (closes_as o log p done old h e) ∙ closed)))
          (fewer_woken due_now old.entries) (leaving_issues done ends) (above_zero (n + m) (eqb-false (n + m) 0 over))
      go false false over closed =
          let left = rw (over, closed) at is in
          counts_open o log p done old new old.sends old.entries h reply e (leaving_moves done ends) left (λ t. refl)
          (sym (entries_leaving done ends old.queue _ (map bare old.entries) false (sym (closes_as o log p done old h e) ∙ closed)))
          (omega arith) (leaving_issues done ends) (above_zero (n + m) (eqb-false (n + m) 0 over))
