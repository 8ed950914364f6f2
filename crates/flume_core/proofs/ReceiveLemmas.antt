-- What each step of a parked receiver leaves represents the log with that step added.
use Rattle.std.proofs.Common.{◌≡◌, ℕ, ◌+◌, ◌≤◌, Bool, true, false, List, [], ◌∷◌, ◌++◌, length, drop, max, Option, Some, None}
use Rattle.std.proofs.Common.{refl, sym, ◌∙◌, ap, arith}
use Rattle.std.proofs.lemmas.List.{map_push, length-drop, drop-append-le, drop-map}
use Rattle.flume_model.specs.declared.step.Kind.{Kind}
use Rattle.flume_model.specs.declared.step.Step.{Step}
use Rattle.flume_model.specs.declared.step.Reply.{Reply}
use Rattle.flume_model.specs.declared.entry.Entry.{Entry}
use Rattle.flume_state.specs.declared.notice.Notice.{Notice}
use Rattle.flume_model.specs.Log.{Log, Opening, Parks, Asks, Collects, Leaves, change}
use Rattle.flume_model.specs.Counts.{is_over}
use Rattle.flume_model.specs.Line.{is_live, fill_count}
use Rattle.flume_model.specs.Channel.{channel, has_ticket}
use Rattle.flume_model.specs.Replies.{IsReply, IsRun}
use Rattle.flume_model.specs.Entries.{entry_of, without_ticket, again, after_leave, leave_fills, passes_on, round_for, round_for_fills}
use Rattle.flume_model.specs.Entries.{waiting_count}
use Rattle.flume_model.specs.Parked.{LogEntry, entries}
use Rattle.flume_state.specs.Notices.{due_now}
use Rattle.flume_state.specs.Receivers.{new_receiver, with_receiver_notice}
use Rattle.flume_state.specs.State.{State, offers_of, bare}
use Rattle.flume_core.specs.Represents.{Represents}
use Rattle.flume_state.specs.Effects.{without_receiver, after_withdrawal, with_peak}
use Rattle.flume_state.specs.Receivers.{after_fill}
use Rattle.flume_model.proofs.order.LineStepLemmas.{line_leaves}
use Rattle.flume_model.proofs.waits.WaitingOpenLemmas.{nothing_once_over}
use Rattle.flume_model.proofs.WaitingCountLemmas.{fewer_without, fewer_after_leave}
use Rattle.flume_core.proofs.BareEntryLemmas.{bare_without, bare_again, bare_noticed, bare_after_leave}
use Rattle.flume_core.proofs.ViewLemmas.{status, status_is, greatest_kept, queued_length, line_is, queued}
use Rattle.flume_core.proofs.RepresentsLemmas.{represents_as, represents_open, fits_as, open_not_over, over_same, still_live, peak_kept}
use Rattle.flume_model.proofs.order.PartLemmas.{at_most}
use Rattle.flume_core.proofs.InvariantLemmas.{keeps_standing}
use Rattle.flume_core.proofs.MoveLemmas.{unfilled_is}

-- a round fills at most as many receivers as messages are queued
fills_within : {X N : Type 0} (queue : List X) (es : List (Entry X N)) → fill_count (round_for_fills queue es) ≤ length queue
fills_within [] es = omega arith
fills_within (m ∷ queue) es = let one = at_most (round_for_fills (m ∷ queue) es) in omega arith

module _ {T N : Type 0} where
  -- the wake of a receiver that leaves fills at most as many as messages are queued
  leave_within : (t : ℕ) (queue : List T) (es : List (Entry T N)) → fill_count (leave_fills t queue es) ≤ length queue
  leave_within t queue es = by_case (passes_on (entry_of t es)) refl
    where
      by_case : (b : Bool) → passes_on (entry_of t es) ≡ b → fill_count (leave_fills t queue es) ≤ length queue
      by_case true passes = rw passes (fills_within queue (without_ticket t es))
      by_case false stays = rw stays (omega arith)

module _ {T S : Type 0} where
  -- what a receiver that leaves with no message leaves
  departed_is : (t : ℕ) (s : State T S) → after_withdrawal t s ≡ record s {
    queue = after_fill (leave_fills t s.queue s.entries) s.queue;
    entries = after_leave due_now t s.queue s.entries;
  }
  departed_is t s = by_case (passes_on (entry_of t s.entries)) refl
    where
      by_case : (b : Bool) → passes_on (entry_of t s.entries) ≡ b → after_withdrawal t s ≡ record s {
        queue = after_fill (leave_fills t s.queue s.entries) s.queue;
        entries = after_leave due_now t s.queue s.entries;
      }
      by_case true passes = rw passes refl
      by_case false stays = rw stays refl

  -- if nothing is queued, no wake is passed on
  pub departed_empty : (t : ℕ) (s : State T S) → s.queue ≡ [] → after_withdrawal t s ≡ without_receiver t s
  departed_empty t s none = by_case (passes_on (entry_of t s.entries)) refl
    where
      by_case : (b : Bool) → passes_on (entry_of t s.entries) ≡ b → after_withdrawal t s ≡ without_receiver t s
      by_case true passes =
          rw passes (ap (λ q. record (without_receiver t s) {
            queue = after_fill (round_for_fills q (without_ticket t s.entries)) q;
            entries = round_for due_now q (without_ticket t s.entries);
          }) none
          ∙ sym (ap (λ q. record (without_receiver t s) { queue = q }) none))
      by_case false stays = rw stays refl

module _ {T A : Type 0} where
  -- while somebody is parked, an end is there
  pub entry_not_over : (o : Opening) (log : Log T A) (t : ℕ) (e : LogEntry T) → IsRun o log
      → entry_of t (entries o log) ≡ Some e → is_over log ≡ false
  entry_not_over o log t e run found = by_case (is_over log) refl
    where
      by_case : (b : Bool) → is_over log ≡ b → is_over log ≡ false
      by_case false open_ = open_
      by_case true over =
          let none : entries o log ≡ [] = (nothing_once_over o log run over).1 in
          absurd (let absent : None ≡ Some e = sym (ap (entry_of t) none) ∙ found in let no : ⊥ = cc in no)

module _ {T A S : Type 0} where
  -- a receiver parks
  pub parks : (o : Opening) (past : Log T A) (p : Step T × Reply T A) (old new : State T S) (kind : Kind) (signal : S)
      → Represents o past old
      → IsReply (channel o past) p.0 p.1 → change past p.0 p.1 ≡ Parks old.next_ticket kind
      → new ≡ with_peak (old.entries ++ new_receiver old.next_ticket kind signal ∷ []) (record old { next_ticket = old.next_ticket + 1 })
      → Represents o (p ∷ past) new
  parks o past p old new kind signal h reply e is =
      let fit = fits_as o past p (Parks old.next_ticket kind) h.run reply e in
      let es = old.entries ++ new_receiver old.next_ticket kind signal ∷ [] in
      keeps_standing o past p (Parks old.next_ticket kind) old new old.sends es (max old.peak (waiting_count es))
      (old.next_ticket + 1) h reply e refl
      (over_same past p (Parks old.next_ticket kind) e refl ∙ open_not_over past (let is_open = fit.1 in omega arith)) is (λ t. refl)
      (map_push bare old.entries (new_receiver old.next_ticket kind signal)) refl refl

  -- a receiver waits on, or again behind all others
  pub asks : (o : Opening) (past : Log T A) (p : Step T × Reply T A) (old new : State T S) (t : ℕ) (f : Notice S → Notice S)
      → Represents o past old
      → IsReply (channel o past) p.0 p.1 → change past p.0 p.1 ≡ Asks t
      → new ≡ with_peak (again t (with_receiver_notice f t old.entries)) old → Represents o (p ∷ past) new
  asks o past p old new t f h reply e is =
      let fit = fits_as o past p (Asks t) h.run reply e in
      let es = again t (with_receiver_notice f t old.entries) in
      keeps_standing o past p (Asks t) old new old.sends es (max old.peak (waiting_count es)) old.next_ticket h reply e refl
      (over_same past p (Asks t) e refl ∙ entry_not_over o past t fit.0 h.run fit.1) is (λ q. refl)
      (bare_again t (with_receiver_notice f t old.entries) ∙ ap (again t) (bare_noticed f t old.entries)) refl (omega arith)

  -- a filled receiver leaves with its message
  pub collects : (o : Opening) (past : Log T A) (p : Step T × Reply T A) (old new : State T S) (t : ℕ) → Represents o past old
      → IsReply (channel o past) p.0 p.1 → change past p.0 p.1 ≡ Collects t → new ≡ without_receiver t old → Represents o (p ∷ past) new
  collects o past p old new t h reply e is =
      let fit = fits_as o past p (Collects t) h.run reply e in
      let es = without_ticket t old.entries in
      keeps_standing o past p (Collects t) old new old.sends es old.peak old.next_ticket h reply e refl
      (over_same past p (Collects t) e refl ∙ entry_not_over o past t fit.0 h.run fit.2) is (λ q. refl) (bare_without t old.entries)
      (peak_kept h es (fewer_without t old.entries)) (omega arith)

  -- a receiver leaves with no message, and its wake is passed on
  pub departs : (o : Opening) (past : Log T A) (p : Step T × Reply T A) (old new : State T S) (t : ℕ) (filled : Option ℕ)
      → Represents o past old
      → IsReply (channel o past) p.0 p.1 → change past p.0 p.1 ≡ Leaves t filled → filled ≡ leave_fills t old.queue old.entries
      → new ≡ after_withdrawal t old → Represents o (p ∷ past) new
  departs o past p old new t filled h reply e fills is =
      let fit = fits_as o past p (Leaves t filled) h.run reply e in
      let open_ : is_over past ≡ false = entry_not_over o past t fit.0.entry h.run fit.0.found in
      let still_open = over_same past p (Leaves t filled) e refl ∙ open_ in
      let n = fill_count filled in
      let few : n ≤ length (queued h) =
      let long = queued_length h in
      let within : fill_count (leave_fills t old.queue old.entries) ≤ length old.queue = leave_within t old.queue old.entries in
      let same : n ≡ fill_count (leave_fills t old.queue old.entries) = ap fill_count fills in omega arith in
      let rest : after_fill (leave_fills t old.queue old.entries) old.queue ≡ drop n old.queue =
      ap (λ f. after_fill f old.queue) (sym fills) ∙ unfilled_is filled old.queue in
      represents_as o (p ∷ past) new _ (is
      ∙ departed_is t old) (represents_open o past p (Leaves t filled) old _ h reply e still_open record {
        capacity_is = refl;
        greatest_is = greatest_kept h;
        queued = drop n (queued h);
        line_is = line_leaves o past p t filled h.run e open_ ∙ ap (drop n) (line_is h)
            ∙ drop-append-le n (queued h) (offers_of old.blocked) few;
        queue_is = rest ∙ ap (drop n) h.queue_is ∙ drop-map (λ offer. offer.message) n (queued h);
        length_is = ap length rest ∙ length-drop n old.queue;
        marks = λ q. status_is h q
            ∙ sym (ap (λ b. status b (has_ticket q (offers_of old.blocked))) (still_live false (is_live past q) false refl refl));
        entries_are = bare_after_leave due_now t old.queue old.entries;
        peak_is = peak_kept h _ (fewer_after_leave due_now t old.queue old.entries);
        next_is = omega arith;
        senders_are = refl;
        receivers_are = refl;
      })
