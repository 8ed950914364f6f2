-- A step that is answered `Waiting`, by which no receiver waits that didn't before, changes nothing.
use Rattle.flume_model.proofs.Common.{◌≡◌, ℕ, ◌+◌, Bool, true, false, not, ◌&&◌, ◌||◌, if◌then◌else◌, eqb}
use Rattle.flume_model.proofs.Common.{List, [], ◌∷◌, ◌++◌, Option, Some, None}
use Rattle.flume_model.proofs.Common.{refl, sym, ap, ◌∙◌, subst, arith, common_steps, cond-false, append-nil}
use Rattle.flume_model.proofs.Common.{Log, Opening, channel, Channel}
use Rattle.flume_model.proofs.Common.{senders, receivers, is_over, queue_len, is_live, entries, entry_of}
use Rattle.flume_model.proofs.Common.{again, without_ticket, waiting_count}
use Rattle.flume_model.proofs.Common.{is_woken, IsOpen, LogEntry, IsPollReply, IsWithdrawReply, IsWithdrawReplyByMark}
use Rattle.flume_model.proofs.Common.{IsReply, is_waiting, offers, handed_out}
use Rattle.flume_model.specs.declared.step.Kind.{Kind}
use Rattle.flume_model.specs.declared.step.Kind.TheVariants.{Block}
use Rattle.flume_model.specs.declared.step.Step.{Step}
use Rattle.flume_model.specs.declared.step.Step.TheVariants.{Poll, PollSend, Withdraw}
use Rattle.flume_model.specs.declared.step.Reply.TheVariants.{Waiting}
use Rattle.flume_model.specs.declared.entry.Entry.{Entry}
use Rattle.flume_model.specs.declared.entry.Mark.{Mark}
use Rattle.flume_model.specs.declared.entry.Mark.TheVariants.{Waiting as StillWaits, Woken, Filled}
use Rattle.flume_model.proofs.EntryListLemmas.{again_cases}
use Rattle.flume_model.proofs.EntryCountLemmas.{without_counts}
use Rattle.judge_calls.proofs.SameCallsLemmas.{Alike}

-- an open channel isn't over
open_not_over : (s r : ℕ) → IsOpen s r → eqb (s + r) 0 ≡ false
open_not_over s r is = grind (arith, common_steps)

-- a ticket stays live if the channel isn't over
stays_live : (over live : Bool) → over ≡ false → (not over && (false || (live && true))) ≡ live
stays_live true live e = absurd (let none : ⊥ = cc in none)
stays_live false true e = refl
stays_live false false e = refl

module _ {T N : Type 0} where
  -- one more entry that waits is counted
  one_more : (es : List (Entry T N)) (e : Entry T N) → waiting_count (es ++ record e { mark = StillWaits } ∷ []) ≡ waiting_count es + 1
  one_more [] e = omega arith
  one_more (x ∷ es) e = grind (arith, common_steps, one_more es e)

  -- if a receiver asks again and no more wait, the entries are the same
  again_same : (t : ℕ) (es : List (Entry T N)) → waiting_count (again t es) ≡ waiting_count es → again t es ≡ es
  again_same t es =
      again_cases (λ after. waiting_count after ≡ waiting_count es → after ≡ es) t es (λ same. refl)
      (λ e found woken same. absurd (more e found woken same))
    where
      more : (e : Entry T N) → entry_of t es ≡ Some e → is_woken e.mark ≡ true
          → waiting_count (without_ticket t es ++ record e { mark = StillWaits } ∷ []) ≡ waiting_count es → ⊥
      more e found woken same =
          let left = (without_counts t e es found).waiting in
          let last = one_more (without_ticket t es) e in
          not_waiting e.mark woken left last same
        where
          not_waiting : (m : Mark T) → is_woken m ≡ true
              → waiting_count (without_ticket t es) + (if is_waiting m then 1 else 0) ≡ waiting_count es
              → waiting_count (without_ticket t es ++ record e { mark = StillWaits } ∷ []) ≡ waiting_count (without_ticket t es) + 1
              → waiting_count (without_ticket t es ++ record e { mark = StillWaits } ∷ []) ≡ waiting_count es → ⊥
          not_waiting StillWaits w l k s = let none : ⊥ = cc in none
          not_waiting Woken w l k s = omega arith
          not_waiting (Filled m) w l k s = let none : ⊥ = cc in none

module _ {T : Type 0} where
  -- whether it is a step that asks
  abbrev pub asks : Step T → Bool
  asks (Poll t) = true
  asks (PollSend t) = true
  asks _ = false

module _ {T : Type 0} (A : Type 0) where
  -- a call that leaves isn't answered `Waiting`
  gone_marked : (c : Channel T) (t : ℕ) (k : Kind) (m : Mark T) → IsWithdrawReplyByMark {A = A} c t k m Waiting → ⊥
  gone_marked c t k (Filled held) h = h
  gone_marked c t Block StillWaits h = h
  gone_marked c t Block Woken h = h
  gone_marked c t _ StillWaits h = h
  gone_marked c t _ Woken h = h

  gone_waits : (c : Channel T) (t : ℕ) (found : Option (LogEntry T)) → IsWithdrawReply {A = A} c t found Waiting → ⊥
  gone_waits c t None h = h
  gone_waits c t (Some e) h = gone_marked c t e.kind e.mark h

  -- only a call that asks is answered `Waiting`
  pub waiting_asks : (c : Channel T) (step : Step T) → IsReply {A = A} c step Waiting → asks step ≡ true
  waiting_asks c (Poll t) h = refl
  waiting_asks c (PollSend t) h = refl
  waiting_asks c (Withdraw t) h = absurd (gone_waits c t (entry_of t c.entries) h)
  waiting_asks c _ h = absurd h

module _ {T A : Type 0} where
  -- nobody is parked once the channel is over
  over_empty : (o : Opening) (past : Log T A) → is_over past ≡ true → entries o past ≡ []
  over_empty o [] over = refl
  over_empty o (p ∷ past) over = rw over refl

  -- nobody is answered `Waiting` once the channel is over
  asked_not_over : (o : Opening) (past : Log T A) (t : ℕ) → IsPollReply {A = A} (channel o past) (entry_of t (entries o past)) Waiting
      → is_over past ≡ false
  asked_not_over o past t h = by_case (is_over past) refl
    where
      by_case : (b : Bool) → is_over past ≡ b → b ≡ false
      by_case false e = refl
      by_case true e = absurd
          (subst (λ es. IsPollReply {A = A} (channel o past) (entry_of t es) Waiting) (over_empty o past e) h)

  -- if no more wait by it, the log with a step that is answered `Waiting` is like the log without
  -- it
  pub alike_idle : (o : Opening) (past : Log T A) (step : Step T) → IsReply {A = A} (channel o past) step Waiting
      → waiting_count (entries o ((step, Waiting) ∷ past)) ≡ waiting_count (entries o past)
      → Alike o ((step, Waiting) ∷ past) past
  alike_idle o past (Poll t) h same =
      let on : is_over past ≡ false = asked_not_over o past t h in
      let entries_ : entries o ((Poll t, Waiting) ∷ past) ≡ again t (entries o past) =
      cond-false (is_over past) [] (again t (entries o past)) on in
      record {
        senders_are = refl;
        receivers_are = refl;
        offers_are = append-nil (offers past);
        withdrawn_are = refl;
        handed_are = append-nil (handed_out past);
        filled_are = refl;
        capacity_is = refl;
        queue_len_is = cond-false (is_over past) 0 (queue_len o past) on;
        entries_are = entries_ ∙ again_same t (entries o past) (sym (ap waiting_count entries_) ∙ same);
        live_are = λ i u. stays_live (is_over past) (is_live past u) on i;
        next_is = omega arith;
      }
  alike_idle o past (PollSend t) h same =
      let on : is_over past ≡ false = open_not_over (senders past) (receivers past) h.1 in
      record {
        senders_are = refl;
        receivers_are = refl;
        offers_are = append-nil (offers past);
        withdrawn_are = refl;
        handed_are = append-nil (handed_out past);
        filled_are = refl;
        capacity_is = refl;
        queue_len_is = cond-false (is_over past) 0 (queue_len o past) on;
        entries_are = cond-false (is_over past) [] (entries o past) on;
        live_are = λ i u. stays_live (is_over past) (is_live past u) on i;
        next_is = omega arith;
      }
  alike_idle o past (Withdraw t) h same = absurd (gone_waits A (channel o past) t (entry_of t (entries o past)) h)
  alike_idle o past _ h same = absurd h
