-- What a step has to leave of a state for it to represent the log with that step added.
use Rattle.std.proofs.Common.{◌≡◌, ℕ, ◌+◌, ◌<◌, ◌≤◌, Bool, true, false, not, ◌&&◌, ◌||◌, eqb, List, [], ◌∷◌}
use Rattle.std.proofs.Common.{◌++◌, length, drop, take, map, max}
use Rattle.std.proofs.Common.{Option, None, refl, sym, ◌∙◌, ap, ap₂, subst, arith, ne_eqb}
use Rattle.std.proofs.Math.Bool.{and-true}
use Rattle.std.proofs.lemmas.Bool.{cond-true, cond-false}
use Rattle.std.proofs.Math.Seq.{drop-nil, take-nil}
use Rattle.std.proofs.lemmas.List.{drop_at, take_at, length-map}
use Rattle.flume_model.specs.declared.step.Step.{Step}
use Rattle.flume_model.specs.declared.step.Reply.{Reply}
use Rattle.flume_model.specs.Log.{Log, Opening, Offer, Change, change}
use Rattle.flume_model.specs.Counts.{senders, receivers, senders_after, receivers_after, is_over}
use Rattle.flume_model.specs.Line.{line, queue_len, queue, queue_len_after, capacity, capacity_after, greater}
use Rattle.flume_model.specs.Line.{blocked, messages, tickets_issued, next_ticket, issues, spends, is_live}
use Rattle.flume_model.specs.Channel.{channel, has_ticket}
use Rattle.flume_model.specs.Replies.{IsReply, IsRun}
use Rattle.flume_model.specs.Entries.{waiting_count}
use Rattle.flume_model.specs.Parked.{entries, entries_after, is_closed_after}
use Rattle.flume_model.proofs.EntryShapeLemmas.{filled_if_named}
use Rattle.flume_core.proofs.BareEntryLemmas.{bare_waiting}
use Rattle.flume_state.specs.Receivers.{EntryList}
use Rattle.flume_state.specs.State.{State, offers_of, bare}
use Rattle.flume_core.specs.Represents.{Represents}
use Rattle.flume_model.proofs.LawfulReplyLemmas.{Fits, fits}
use Rattle.flume_model.proofs.order.LineStepLemmas.{line_over}
use Rattle.flume_model.proofs.waits.WaitingOpenLemmas.{nothing_once_over}
use Rattle.flume_core.proofs.ViewLemmas.{mark, status, queue_at_log, waiting_within, greatest_kept, nil_mapped, queue_len_is}

-- what a ticket is, after a change that neither issues nor spends it
pub still_live : (issued_ live spent : Bool) → issued_ ≡ false → spent ≡ false → (issued_ || (live && not spent)) ≡ live
still_live true live spent a b = absurd (let no : ⊥ = cc in no)
still_live false live true a b = absurd (let no : ⊥ = cc in no)
still_live false live false a b = and-true live

-- once spent, a ticket isn't live
pub not_live_now : (issued_ live spent : Bool) → issued_ ≡ false → spent ≡ true → (issued_ || (live && not spent)) ≡ false
not_live_now true live spent a b = absurd (let no : ⊥ = cc in no)
not_live_now false live false a b = absurd (let no : ⊥ = cc in no)
not_live_now false true true a b = refl
not_live_now false false true a b = refl

module _ {T : Type 0} where
  -- whether a ticket is live after a change, if it was live or not before
  abbrev live_by : Change T → ℕ → Bool → Bool
  live_by done t live = issues done t || (live && not (spends done t))

module _ {T A : Type 0} where
  -- the change after a lawful reply fits what is before it
  pub fits_as : (o : Opening) (past : Log T A) (p : Step T × Reply T A) (done : Change T) → IsRun o past
      → IsReply (channel o past) p.0 p.1 → change past p.0 p.1 ≡ done → Fits (channel o past) done
  fits_as o past p done run reply e =
      subst (Fits (channel o past)) e (fits o past p.0 p.1 (filled_if_named o past run) reply)

  -- an open channel isn't over
  pub open_not_over : (past : Log T A) → 0 < senders past + receivers past → is_over past ≡ false
  open_not_over past h = ne_eqb _ 0 (λ e. omega arith)

  -- once over, no ticket is live
  pub none_live : (log : Log T A) (t : ℕ) → is_over log ≡ true → is_live log t ≡ false
  none_live [] t over = refl
  none_live (p ∷ past) t over = ap (λ b. not b && live_by (change past p.0 p.1) t (is_live past t)) over

  -- while a ticket is live, the channel isn't over
  pub live_not_over : (log : Log T A) (t : ℕ) → is_live log t ≡ true → is_over log ≡ false
  live_not_over log t live =
      elim (is_over log) as (λ b. is_over log ≡ b → b ≡ false)
      [ true ↦ λ over. absurd (let none = none_live log t over in let no : ⊥ = cc in no) | false ↦ λ e. refl ] refl

  -- a change that leaves the ends alone leaves open or over what was
  pub over_same : (past : Log T A) (p : Step T × Reply T A) (done : Change T) → change past p.0 p.1 ≡ done
      → eqb (senders_after (senders past) done + receivers_after (receivers past) done) 0 ≡ is_over past → is_over (p ∷ past) ≡ is_over past
  over_same past p done e same = ap (λ d. eqb (senders_after (senders past) d + receivers_after (receivers past) d) 0) e ∙ same

  -- which tickets are live while the channel isn't over
  pub live_open : (past : Log T A) (p : Step T × Reply T A) (done : Change T) (t : ℕ) → change past p.0 p.1 ≡ done → is_over
      (p ∷ past) ≡ false
      → is_live (p ∷ past) t ≡ (issues done t || (is_live past t && not (spends done t)))
  live_open past p done t e open_ =
      ap (λ b. not b && live_by (change past p.0 p.1) t (is_live past t)) open_ ∙ ap (λ d. live_by d t (is_live past t)) e

-- what a step has to leave of a state for it to represent the longer log, while the channel isn't
-- over
pub record LeftBy {T A S : Type 0} (o : Opening) (past : Log T A) (p : Step T × Reply T A) (done : Change T)
    (old new : State T S) : Type 0 where
  pub capacity_is : new.capacity ≡ capacity_after old.capacity done
  pub greatest_is : new.greatest ≡ greater old.greatest new.capacity
  pub queued : List (Offer T)
  pub line_is : line (p ∷ past) ≡ queued ++ offers_of new.blocked
  pub queue_is : new.queue ≡ messages queued
  pub length_is : length new.queue ≡ queue_len_after new.capacity (length (line (p ∷ past))) (length old.queue) done
  pub marks : (t : ℕ) → mark new.sends t
      ≡ status (issues done t || (is_live past t && not (spends done t))) (has_ticket t (offers_of new.blocked))
  pub entries_are : map bare new.entries
      ≡ entries_after old.queue (not (is_closed_after past) && is_closed_after (p ∷ past)) (map bare old.entries) done
  pub peak_is : new.peak ≡ max old.peak (waiting_count new.entries)
  pub next_is : new.next_ticket ≡ old.next_ticket + tickets_issued done
  pub senders_are : new.senders ≡ senders_after old.senders done
  pub receivers_are : new.receivers ≡ receivers_after old.receivers done

module _ {T A S : Type 0} where
  -- a state equal to one that represents a log
  pub represents_as : (o : Opening) (log : Log T A) (s u : State T S) → s ≡ u → Represents o log u → Represents o log s
  represents_as o log s u e h = subst (λ (x : State T S). Represents o log x) (sym e) h

  -- what such a step leaves represents the longer log
  pub represents_open : (o : Opening) (past : Log T A) (p : Step T × Reply T A) (done : Change T) (old new : State T S)
      → Represents o past old
      → IsReply (channel o past) p.0 p.1 → change past p.0 p.1 ≡ done → is_over (p ∷ past) ≡ false → LeftBy o past p done old new
      → Represents o (p ∷ past) new
  represents_open o past p done old new h reply e open_ by =
      let closes = not (is_closed_after past) && is_closed_after (p ∷ past) in
      let in_force : new.capacity ≡ capacity o (p ∷ past) =
      by.capacity_is ∙ ap (λ c. capacity_after c done) h.capacity_is ∙ sym (ap (capacity_after (capacity o past)) e) in
      let counted : length new.queue ≡ queue_len o (p ∷ past) =
      by.length_is ∙ ap₂ (λ c n. queue_len_after c (length (line (p ∷ past))) n done) in_force (queue_len_is h)
      ∙ sym (cond-false (is_over (p ∷ past)) 0 _ open_
      ∙ ap (queue_len_after (capacity o (p ∷ past)) (length (line (p ∷ past))) (queue_len o past)) e) in
      let long : length by.queued ≡ queue_len o (p ∷ past) =
      sym (ap length by.queue_is ∙ length-map by.queued (λ offer. offer.message)) ∙ counted in
      let front : take (queue_len o (p ∷ past)) (line (p ∷ past)) ≡ by.queued =
      ap (take (queue_len o (p ∷ past))) by.line_is ∙ take_at by.queued (offers_of new.blocked) (queue_len o (p ∷ past)) long in
      let waiting : blocked o (p ∷ past) ≡ offers_of new.blocked =
      ap (drop (queue_len o (p ∷ past))) by.line_is ∙ drop_at by.queued (offers_of new.blocked) (queue_len o (p ∷ past)) long in
      let entered : map bare new.entries ≡ entries o (p ∷ past) =
      by.entries_are ∙ sym (cond-false (is_over (p ∷ past)) [] _ open_
      ∙ ap (entries_after (queue o past) closes (entries o past)) e
      ∙ ap₂ (λ q es. entries_after q closes es done) (queue_at_log h) (sym h.entries_are)) in
      record {
        run = (reply, h.run);
        capacity_is = in_force;
        greatest_is = by.greatest_is ∙ ap₂ greater h.greatest_is in_force;
        queue_is = by.queue_is ∙ sym (ap messages front);
        blocked_are = sym waiting;
        sends_are = λ t. by.marks t
            ∙ sym (ap (λ b. status b (has_ticket t (blocked o (p ∷ past)))) (live_open past p done t e open_)
            ∙ ap (λ l. status (issues done t || (is_live past t && not (spends done t))) (has_ticket t l)) waiting);
        entries_are = entered;
        peak_is = by.peak_is ∙ ap₂ max h.peak_is (sym (bare_waiting new.entries) ∙ ap waiting_count entered);
        next_is = by.next_is ∙ ap (λ n. n + tickets_issued done) h.next_is ∙ sym (ap (λ d. next_ticket o past + tickets_issued d) e);
        senders_are = by.senders_are ∙ ap (λ n. senders_after n done) h.senders_are ∙ sym (ap (senders_after (senders past)) e);
        receivers_are = by.receivers_are ∙ ap (λ n. receivers_after n done) h.receivers_are
            ∙ sym (ap (receivers_after (receivers past)) e);
      }

  -- once over, what has no message and no ticket left represents the log
  pub represents_over : (o : Opening) (past : Log T A) (p : Step T × Reply T A) (done : Change T) (old new : State T S)
      → Represents o past old
      → IsReply (channel o past) p.0 p.1 → change past p.0 p.1 ≡ done → is_over (p ∷ past) ≡ true
      → ((c : Option ℕ) → capacity_after c done ≡ c)
      → new.capacity ≡ old.capacity → new.greatest ≡ old.greatest → new.queue ≡ [] → new.blocked ≡ []
      → ((t : ℕ) → mark new.sends t ≡ None) → new.entries ≡ [] → new.peak ≡ old.peak
      → new.next_ticket ≡ old.next_ticket + tickets_issued done → new.senders ≡ senders_after old.senders done
      → new.receivers ≡ receivers_after old.receivers done
      → Represents o (p ∷ past) new
  represents_over o past p done old new h reply e over keeps same_capacity same_greatest no_queue no_blocked no_sends no_entries same_peak
      next senders_
      receivers_ =
      let in_force : new.capacity ≡ capacity o (p ∷ past) =
      same_capacity ∙ h.capacity_is ∙ sym (ap (capacity_after (capacity o past)) e ∙ keeps (capacity o past)) in
      record {
        run = (reply, h.run);
        capacity_is = in_force;
        greatest_is = same_greatest ∙ greatest_kept h ∙ ap₂ greater h.greatest_is (sym same_capacity ∙ in_force);
        queue_is = no_queue ∙ sym (ap (λ l. messages (take (queue_len o (p ∷ past)) l)) (line_over (p ∷ past) over)
            ∙ ap messages (take-nil (queue_len o (p ∷ past))));
        blocked_are = ap offers_of no_blocked ∙ sym (ap (drop (queue_len o (p ∷ past))) (line_over (p ∷ past) over)
            ∙ drop-nil (queue_len o (p ∷ past)));
        sends_are = λ t. no_sends t ∙ sym (ap (λ b. status b (has_ticket t (blocked o (p ∷ past)))) (none_live (p ∷ past) t over));
        entries_are = ap (map bare) no_entries ∙ sym (cond-true (is_over (p ∷ past)) [] _ over);
        peak_is =
            let none : waiting_count (entries o (p ∷ past)) ≡ 0 = ap waiting_count (cond-true (is_over (p ∷ past)) [] _ over) in
            same_peak ∙ h.peak_is ∙ omega arith;
        next_is = next ∙ ap (λ n. n + tickets_issued done) h.next_is ∙ sym (ap (λ d. next_ticket o past + tickets_issued d) e);
        senders_are = senders_ ∙ ap (λ n. senders_after n done) h.senders_are ∙ sym (ap (senders_after (senders past)) e);
        receivers_are = receivers_ ∙ ap (λ n. receivers_after n done) h.receivers_are
            ∙ sym (ap (receivers_after (receivers past)) e);
      }

  -- if no more wait, the peak stays
  pub peak_kept : {o : Opening} {log : Log T A} {s : State T S} → Represents o log s → (es : EntryList T S)
      → waiting_count es ≤ waiting_count s.entries → s.peak ≡ max s.peak (waiting_count es)
  peak_kept {o} {log} {s} h es fewer = let within = waiting_within h in omega arith

  -- once over, nobody is parked
  pub none_parked : {o : Opening} {log : Log T A} {s : State T S} → Represents o log s → is_over log ≡ true → s.entries ≡ []
  none_parked {o} {log} {s} h over = nil_mapped bare s.entries (h.entries_are ∙ (nothing_once_over o log h.run over).1)
