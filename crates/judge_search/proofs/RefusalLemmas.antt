-- Which steps are refused, and how far a call is then.
use Rattle.std.proofs.Common.{◌≡◌, ℕ, ◌⊎◌, inl, inr, Bool, true, false, Option, Some, None, refl, sym, ◌∙◌, ap}
use Rattle.flume_model.specs.declared.entry.Mark.{Mark}
use Rattle.flume_model.specs.declared.entry.Mark.TheVariants as mark
use Rattle.flume_model.specs.declared.step.Kind.{Kind}
use Rattle.flume_model.specs.declared.step.Kind.TheVariants.{Block}
use Rattle.flume_model.specs.declared.step.Step.{Step}
use Rattle.flume_model.specs.declared.step.Step.TheVariants as step
use Rattle.flume_model.specs.declared.step.Reply.{Reply}
use Rattle.flume_model.specs.declared.step.Reply.TheVariants.{NoMemory, Spent}
use Rattle.flume_model.specs.Asking.{IsPollReplyByMark, IsPollReply, IsWithdrawReplyByMark, IsWithdrawReply}
use Rattle.flume_model.specs.Channel.{Channel}
use Rattle.flume_model.specs.Entries.{entry_of}
use Rattle.flume_model.specs.Log.{Log, Stays, change}
use Rattle.flume_model.specs.Parked.{LogEntry}
use Rattle.flume_model.specs.Replies.{IsReply}
use Rattle.judge_calls.specs.declared.call.Call.{Call}
use Rattle.judge_calls.specs.declared.call.Call.TheVariants.{RecvAsync}
use Rattle.judge_calls.specs.declared.stage.Stage.{Stage}
use Rattle.judge_calls.specs.declared.stage.Stage.TheVariants.{Begun, Tried, Parked, Refused, Answered}
use Rattle.judge_calls.specs.Calls.{is_send, stage_after}
use Rattle.judge_search.specs.declared.configuration.Progress.{Progress}
use Rattle.judge_search.specs.declared.configuration.Progress.TheVariants as progress
use Rattle.judge_search.specs.declared.step_of.Move.{Move}
use Rattle.judge_search.specs.declared.step_of.Move.TheVariants as move
use Rattle.judge_search.specs.Configurations.{is_parked}
use Rattle.judge_search.specs.Moves.{is_refusal}
use Rattle.judge_search.specs.Progresses.{progress_of, clear_ticket}
use Rattle.judge_search.proofs.MoveAnswers.{may_refuse}
use Rattle.judge_search.proofs.ProgressLemmas.{HasTicket}
use Rattle.judge_search.proofs.MoveFactLemmas.{IsAllowed, move_for}

module _ {T : Type 0} (A : Type 0) (c : Channel T) where
  -- a receive that leaves is never refused
  gone_mark : (t : ℕ) (kind : Kind) (mark : Mark T) (r : Reply T A) → is_refusal r ≡ true → IsWithdrawReplyByMark c t kind mark r → ⊥
  gone_mark t kind (mark.Filled held) (NoMemory back) e h = h
  gone_mark t kind (mark.Filled held) (Spent back) e h = h
  gone_mark t Block mark.Waiting (NoMemory back) e h = h
  gone_mark t Block mark.Waiting (Spent back) e h = h
  gone_mark t Block mark.Woken (NoMemory back) e h = h
  gone_mark t Block mark.Woken (Spent back) e h = h
  gone_mark t _ mark.Waiting (NoMemory back) e h = h
  gone_mark t _ mark.Waiting (Spent back) e h = h
  gone_mark t _ mark.Woken (NoMemory back) e h = h
  gone_mark t _ mark.Woken (Spent back) e h = h
  gone_mark t kind mark _ e h = let none : ⊥ = cc in none

  gone : (t : ℕ) (found : Option (LogEntry T)) (r : Reply T A) → is_refusal r ≡ true → IsWithdrawReply c t found r → ⊥
  gone t None (NoMemory back) e h = h
  gone t None (Spent back) e h = h
  gone t None _ e h = let none : ⊥ = cc in none
  gone t (Some x) r e h = gone_mark t x.kind x.mark r e h

  -- one that asks doesn't want for tickets
  polled_mark : (kind : Kind) (mark : Mark T) (back : Option T) → IsPollReplyByMark {A = A} c kind mark (Spent back) → ⊥
  polled_mark kind (mark.Filled held) back h = h
  polled_mark Block mark.Waiting back h = h
  polled_mark Block mark.Woken back h = h
  polled_mark _ mark.Waiting back h = h
  polled_mark _ mark.Woken back h = h

  polled : (found : Option (LogEntry T)) (back : Option T) → IsPollReply {A = A} c found (Spent back) → ⊥
  polled None back h = h
  polled (Some x) back h = polled_mark x.kind x.mark back h

  -- which steps are refused
  pub refused_may : (step : Step T) (r : Reply T A) → is_refusal r ≡ true → IsReply c step r → may_refuse (move_for step) ≡ true
  refused_may (step.TrySend m) r e h = refl
  refused_may (step.Send m) r e h = refl
  refused_may step.TryRecv r e h = refl
  refused_may (step.Recv kind) r e h = refl
  refused_may (step.Poll t) r e h = refl
  refused_may step.Drain r e h = refl
  refused_may (step.Withdraw t) r e h = absurd (gone t (entry_of t c.entries) r e h)
  refused_may _ (NoMemory back) e h = absurd h
  refused_may _ (Spent back) e h = absurd h
  refused_may _ _ e h = absurd (let none : ⊥ = cc in none)

  -- a call that wants for tickets isn't parked
  spent_free : (own : Call T) (p : Progress) (step : Step T) (back : Option T) → IsReply {A = A} c step (Spent back)
      → IsAllowed own p (move_for step) → is_parked p ≡ false
  spent_free own p (step.Send m) back h may = may.0
  spent_free own p (step.Recv kind) back h may = may.0
  spent_free own p (step.Poll t) back h may = absurd (polled (entry_of t c.entries) back h)
  spent_free own p (step.Withdraw t) back h may = absurd (gone t (entry_of t c.entries) (Spent back) refl h)
  spent_free own p _ back h may = absurd h

module _ {T : Type 0} where
  -- who is refused memory isn't parked, or is a parked receive
  abbrev IsRefusable : Call T → Progress → Type 0
  IsRefusable own p = ((p ≡ progress.Parked) × (is_send own ≡ false)) ⊎ (is_parked p ≡ false)

  refusable : (own : Call T) (p : Progress) (mv : Move) → may_refuse mv ≡ true → IsAllowed own p mv → IsRefusable own p
  refusable own p move.TrySend e h = inr h
  refusable own p move.Send e h = inr h.0
  refusable own p move.TryRecv e h = inr h
  refusable own p (move.Recv kind) e h = inr h.0
  refusable own p move.Poll e h = inl h
  refusable own p move.Drain e h = inr h
  refusable own p _ e h = absurd (let none : ⊥ = cc in none)

module _ {T A : Type 0} where
  -- a refused step changes nothing
  pub refused_stays : (past : Log T A) (step : Step T) (r : Reply T A) → is_refusal r ≡ true → change past step r ≡ Stays
  refused_stays past (step.TrySend m) (NoMemory back) e = refl
  refused_stays past _ (NoMemory back) e = refl
  refused_stays past (step.TrySend m) (Spent back) e = refl
  refused_stays past _ (Spent back) e = refl
  refused_stays past _ _ e = absurd (let none : ⊥ = cc in none)

  -- how far a call is that was refused
  pub record IsRefused (own : Call T) (stage : Stage T A) (r : Reply T A) : Type 0 where
    pub leads : clear_ticket (stage_after own stage r) ≡ clear_ticket (stage_after own (clear_ticket stage) (NoMemory None))
    pub ticket : (n : ℕ) → HasTicket own n stage → HasTicket own n (stage_after own stage r)
    pub parks : is_parked (progress_of (stage_after own stage r)) ≡ is_parked (progress_of stage)

  no_memory : (own : Call T) (stage : Stage T A) (back : Option T) → IsRefusable own (progress_of stage)
      → IsRefused own stage (NoMemory back)
  no_memory RecvAsync (Parked t) back h = record { leads = refl; ticket = λ n k. k; parks = refl }
  no_memory RecvAsync Begun back h = record { leads = refl; ticket = λ n k. tt; parks = refl }
  no_memory RecvAsync Tried back h = record { leads = refl; ticket = λ n k. tt; parks = refl }
  no_memory RecvAsync (Answered a) back h = record { leads = refl; ticket = λ n k. tt; parks = refl }
  no_memory own (Refused t) back (inl h) = absurd (let no = h.0 in let none : ⊥ = cc in none)
  no_memory own (Refused t) back (inr h) = absurd (let none : ⊥ = cc in none)
  no_memory own (Parked t) back (inr h) = absurd (let none : ⊥ = cc in none)
  no_memory _ (Parked t) back (inl h) = record { leads = refl; ticket = λ n k. (k, h.1); parks = refl }
  no_memory _ Begun back h = record { leads = refl; ticket = λ n k. tt; parks = refl }
  no_memory _ Tried back h = record { leads = refl; ticket = λ n k. tt; parks = refl }
  no_memory _ (Answered a) back h = record { leads = refl; ticket = λ n k. tt; parks = refl }

  spent : (own : Call T) (stage : Stage T A) (back : Option T) → is_parked (progress_of stage) ≡ false → IsRefused own stage (Spent back)
  spent own (Parked t) back h = absurd (let none : ⊥ = cc in none)
  spent own (Refused t) back h = absurd (let none : ⊥ = cc in none)
  spent RecvAsync Begun back h = record { leads = refl; ticket = λ n k. tt; parks = refl }
  spent RecvAsync Tried back h = record { leads = refl; ticket = λ n k. tt; parks = refl }
  spent RecvAsync (Answered a) back h = record { leads = refl; ticket = λ n k. tt; parks = refl }
  spent _ Begun back h = record { leads = refl; ticket = λ n k. tt; parks = refl }
  spent _ Tried back h = record { leads = refl; ticket = λ n k. tt; parks = refl }
  spent _ (Answered a) back h = record { leads = refl; ticket = λ n k. tt; parks = refl }

  pub refused_leads : (c : Channel T) (own : Call T) (stage : Stage T A) (step : Step T) (r : Reply T A) → is_refusal r ≡ true
      → IsReply c step r → IsAllowed own (progress_of stage) (move_for step) → IsRefused own stage r
  refused_leads c own stage step (NoMemory back) e h may =
      no_memory own stage back (refusable own (progress_of stage) (move_for step) (refused_may A c step (NoMemory back) e h) may)
  refused_leads c own stage step (Spent back) e h may = spent own stage back (spent_free A c own (progress_of stage) step back h may)
  refused_leads c own stage step _ e h may = absurd (let none : ⊥ = cc in none)
