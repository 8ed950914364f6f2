-- Runs of the same steps are the same.
use Rattle.std.proofs.Common.{◌≡◌, ℕ, ◌⊎◌, inl, inr, ◌↔◌, [], ◌∷◌, Option, Some, None, sym, ◌∙◌, ap, subst}
use Rattle.flume_model.specs.declared.step.Kind.{Kind}
use Rattle.flume_model.specs.declared.step.Kind.TheVariants.{Block}
use Rattle.flume_model.specs.declared.entry.Mark.{Mark}
use Rattle.flume_model.specs.declared.entry.Mark.TheVariants.{Waiting as StillWaits, Woken, Filled}
use Rattle.flume_model.specs.declared.step.Step.{Step}
use Rattle.flume_model.specs.declared.step.Step.TheVariants.{TrySend, Send, TryRecv, Recv, Poll, Drain}
use Rattle.flume_model.specs.declared.step.Step.TheVariants.{Withdraw}
use Rattle.flume_model.specs.declared.step.Reply.{Reply}
use Rattle.flume_model.specs.declared.step.Reply.TheVariants.{NoMemory}
use Rattle.flume_model.specs.Log.{Log, Opening}
use Rattle.flume_model.specs.Entries.{entry_of}
use Rattle.flume_model.specs.Parked.{LogEntry}
use Rattle.flume_model.specs.Channel.{Channel, channel}
use Rattle.flume_model.specs.Asking.{IsPollReplyByMark, IsPollReply}
use Rattle.flume_model.specs.Asking.{IsWithdrawReplyByMark, IsWithdrawReply}
use Rattle.flume_model.specs.Replies.{IsReply, IsRun}
use Rattle.flume_model.specs.Replies.{SameReply}
use Rattle.flume_history.specs.SameRuns.{IsNoMemory, SameLog, SameSteps}
use Rattle.flume_history.proofs.OneBlockedLemmas.{one_blocked}
use Rattle.flume_history.proofs.OneReplyLemmas.{one_reply}
use Rattle.flume_history.proofs.SameLogLemmas.{channel_same}

module _ {T : Type 0} (A : Type 0) (c : Channel T) (back other : Option T) where
  -- two replies `NoMemory` by this
  abbrev Alike : (Reply T A → Type 0) → Type 0
  Alike P = P (NoMemory back) → P (NoMemory other) → back ≡ other

  -- a receiver that asks, and wanted memory, hands nothing back
  polled_mark : (kind : Kind) (mark : Mark T) → Alike (IsPollReplyByMark c kind mark)
  polled_mark kind (Filled held) h k = absurd h
  polled_mark Block StillWaits h k = absurd h
  polled_mark Block Woken h k = absurd h
  polled_mark _ StillWaits h k = h.1 ∙ sym k.1
  polled_mark _ Woken h k = h.1 ∙ sym k.1

  polled : (found : Option (LogEntry T)) → Alike (IsPollReply c found)
  polled None h k = absurd h
  polled (Some e) h k = polled_mark e.kind e.mark h k

  -- one that leaves needs no memory
  gone_mark : (t : ℕ) (kind : Kind) (mark : Mark T) → Alike (IsWithdrawReplyByMark c t kind mark)
  gone_mark t kind (Filled held) h k = absurd h
  gone_mark t Block StillWaits h k = absurd h
  gone_mark t Block Woken h k = absurd h
  gone_mark t _ StillWaits h k = absurd h
  gone_mark t _ Woken h k = absurd h

  gone : (t : ℕ) (found : Option (LogEntry T)) → Alike (IsWithdrawReply c t found)
  gone t None h k = absurd h
  gone t (Some e) h k = gone_mark t e.kind e.mark h k

  -- a step that wanted memory hands its own message back, or none
  one_want : (step : Step T) → Alike (IsReply c step)
  one_want (TrySend m) h k = h.1 ∙ sym k.1
  one_want (Send m) h k = h.2 ∙ sym k.2
  one_want TryRecv h k = h.1 ∙ sym k.1
  one_want (Recv kind) h k = h.1 ∙ sym k.1
  one_want (Poll t) h k = polled (entry_of t c.entries) h k
  one_want (Withdraw t) h k = gone t (entry_of t c.entries) h k
  one_want Drain h k = h.1 ∙ sym k.1
  one_want _ h k = absurd h

module _ {T A : Type 0} where
  -- a reply is `NoMemory` or not
  pub want_or_not : (reply : Reply T A) → IsNoMemory reply ⊎ (IsNoMemory reply → ⊥)
  want_or_not (NoMemory back) = inl tt
  want_or_not _ = inr (λ want. want)

  -- two replies that are both `NoMemory` are the same
  both_wants : (c : Channel T) (step : Step T) (reply other : Reply T A) → IsReply c step reply
      → IsReply c step other → IsNoMemory reply → IsNoMemory other → SameReply reply other
  both_wants c step (NoMemory back) (NoMemory other) h k w v =
      ap (λ back. NoMemory back) (one_want A c back other step h k)
  both_wants c step (NoMemory back) _ h k w v = absurd v
  both_wants c step _ _ h k w v = absurd w

  -- if all before was the same, so is the reply to the same step
  same_reply : (o : Opening) (past other : Log T A) → IsRun o past → SameLog past other
      → (p q : Step T × Reply T A) → p.0 ≡ q.0 → (IsNoMemory p.1 ↔ IsNoMemory q.1)
      → IsReply (channel o past) p.0 p.1 → IsReply (channel o other) q.0 q.1 → SameReply p.1 q.1
  same_reply o past other run same p q e wants h k = by_want (want_or_not p.1)
    where
      here : IsReply (channel o past) p.0 q.1
      here =
          subst (λ c. IsReply c p.0 q.1) (sym (channel_same o past other same))
          (subst (λ step. IsReply (channel o other) step q.1) (sym e) k)

      by_want : IsNoMemory p.1 ⊎ (IsNoMemory p.1 → ⊥) → SameReply p.1 q.1
      by_want (inl want) = both_wants (channel o past) p.0 p.1 q.1 h here want (wants.0 want)
      by_want (inr none) =
          one_reply (channel o past) (one_blocked o past run) p.0 p.1 q.1 h here none
          (λ want. none (wants.1 want))

  -- runs of the same steps, of which the same ones wanted memory, have the same replies
  pub one_run : (o : Opening) (log other : Log T A) → IsRun o log → IsRun o other
      → SameSteps log other → SameLog log other
  one_run o [] [] run run' same = tt
  one_run o [] (q ∷ other) run run' same = absurd same
  one_run o (p ∷ past) [] run run' same = absurd same
  one_run o (p ∷ past) (q ∷ other) run run' same =
      let rest = one_run o past other run.1 run'.1 same.2 in
      (same.0, same_reply o past other run.1 rest p q same.0 same.1 run.0 run'.0, rest)
