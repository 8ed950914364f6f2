-- What each step of a sender leaves represents the log with that step added.
use Rattle.std.proofs.Common.{◌≡◌, ℕ, ◌+◌, ◌-◌, ◌≤◌, Bool, true, false, List, [], ◌∷◌, ◌++◌, length, drop, Option, Some, None, refl, sym}
use Rattle.std.proofs.Common.{◌∙◌, ap, arith, append-nil, append_assoc}
use Rattle.std.specs.FinMap.{insert, remove}
use Rattle.std.proofs.lemmas.List.{map-append, map_push, length_push, length-drop, drop-append-le, drop-map}
use Rattle.flume_model.specs.declared.step.Step.{Step}
use Rattle.flume_model.specs.declared.step.Reply.{Reply}
use Rattle.flume_model.specs.Log.{Log, Opening, Offer, Queues, Blocks, Accepts, Withdraws, change}
use Rattle.flume_model.specs.Counts.{is_over}
use Rattle.flume_model.specs.Line.{line, is_live, fill_count}
use Rattle.flume_model.specs.Channel.{channel, has_ticket, TakesIn}
use Rattle.flume_model.specs.Replies.{IsReply}
use Rattle.flume_model.specs.Entries.{some_wait, round_for_fills}
use Rattle.flume_state.specs.Messages.{Blocked}
use Rattle.flume_state.specs.Sends.{newly_blocked as blocked_send}
use Rattle.flume_state.specs.Notices.{due_now}
use Rattle.flume_state.specs.State.{State, offers_of}
use Rattle.flume_core.specs.Represents.{Represents}
use Rattle.flume_state.specs.Effects.{after_wake_round}
use Rattle.flume_state.specs.Receivers.{after_fill}
use Rattle.flume_model.proofs.order.KeptLemmas.{keeps_line}
use Rattle.flume_model.proofs.order.PartLemmas.{at_most}
use Rattle.flume_model.proofs.order.LineStepLemmas.{line_queues, line_blocks, line_withdraws, line_stays}
use Rattle.flume_model.proofs.WaitingCountLemmas.{fewer_rounded}
use Rattle.flume_core.proofs.BareEntryLemmas.{bare_round_for}
use Rattle.flume_core.proofs.ViewLemmas.{status, status_is, greatest_kept, room_at_state, none_blocked, none_blocked_waiting}
use Rattle.flume_core.proofs.ViewLemmas.{waiting_at_log, line_is, queued}
use Rattle.flume_core.proofs.MarkLemmas.{has_without, marks_inserted, marks_removed}
use Rattle.flume_core.proofs.RepresentsLemmas.{peak_kept, represents_as, represents_open, fits_as, open_not_over, live_not_over, over_same}
use Rattle.flume_core.proofs.RepresentsLemmas.{still_live}

-- what is left of a queue after a wake round
pub unfilled_is : {X : Type 0} (filled : Option ℕ) (xs : List X) → after_fill filled xs ≡ drop (fill_count filled) xs
unfilled_is None xs = refl
unfilled_is (Some t) [] = refl
unfilled_is (Some t) (x ∷ xs) = refl

module _ {T : Type 0} where
  -- one more behind nothing
  push_front : (xs ys : List (Offer T)) (x : Offer T) → ys ≡ [] → (xs ++ ys) ++ x ∷ [] ≡ (xs ++ x ∷ []) ++ ys
  push_front xs ys x e = rw (e, append-nil xs, append-nil (xs ++ x ∷ []))

module _ {T A S : Type 0} where
  -- nobody is blocked if a message is queued
  none_blocked_joining : {o : Opening} {log : Log T A} {s : State T S} → Represents o log s → TakesIn (channel o log) → s.blocked ≡ []
  none_blocked_joining {o} {log} {s} h takes = by_case (some_wait s.entries) refl
    where
      by_case : (b : Bool) → some_wait s.entries ≡ b → s.blocked ≡ []
      by_case true some = none_blocked_waiting h some
      by_case false none = none_blocked h (room_at_state h (takes.1 (waiting_at_log h ∙ none)))

  -- a message is queued, and a wake round follows
  pub queues : (o : Opening) (past : Log T A) (p : Step T × Reply T A) (old new : State T S) (m : T) (filled : Option ℕ) (space : ℕ)
      → Represents o past old → IsReply (channel o past) p.0 p.1 → change past p.0 p.1 ≡ Queues m filled
      → filled ≡ round_for_fills (old.queue ++ m ∷ []) old.entries
      → new ≡ after_wake_round (record old { queue = old.queue ++ m ∷ []; space = space }) → Represents o (p ∷ past) new
  queues o past p old new m filled space h reply e fills is =
      let x : Offer T = record { message = m; ticket = None } in
      let fit = fits_as o past p (Queues m filled) h.run reply e in
      let open_ : is_over past ≡ false = open_not_over past (let is_open = fit.0.0 in omega arith) in
      let none : old.blocked ≡ [] = none_blocked_joining h fit.0 in
      let still_open = over_same past p (Queues m filled) e refl ∙ open_ in
      let n = fill_count filled in
      let few : n ≤ length ((queued h) ++ x ∷ []) =
      let long = length_push (queued h) x in let one = at_most filled in omega arith in
      let left : after_fill (round_for_fills (old.queue ++ m ∷ []) old.entries) (old.queue ++ m ∷ []) ≡ drop n (old.queue ++ m ∷ []) =
      ap (λ f. after_fill f (old.queue ++ m ∷ [])) (sym fills) ∙ unfilled_is filled (old.queue ++ m ∷ []) in
      represents_as o (p ∷ past) new _ is (represents_open o past p (Queues m filled) old _ h reply e still_open record {
        capacity_is = refl;
        greatest_is = greatest_kept h;
        queued = drop n ((queued h) ++ x ∷ []);
        line_is = line_queues o past p m filled h.run e open_
            ∙ ap (drop n) (ap (λ l. l ++ x ∷ []) (line_is h) ∙ push_front (queued h) (offers_of old.blocked) x (ap offers_of none))
            ∙ drop-append-le n ((queued h) ++ x ∷ []) (offers_of old.blocked) few;
        queue_is = left ∙ ap (drop n) (ap (λ l. l ++ m ∷ []) h.queue_is ∙ sym (map_push _ (queued h) x))
            ∙ drop-map (λ offer. offer.message) n ((queued h) ++ x ∷ []);
        length_is = ap length left ∙ length-drop n (old.queue ++ m ∷ []) ∙ ap (λ k. k - n) (length_push old.queue m);
        marks = λ t. status_is h t
            ∙ sym (ap (λ b. status b (has_ticket t (offers_of old.blocked))) (still_live false (is_live past t) false refl refl));
        entries_are = bare_round_for due_now (old.queue ++ m ∷ []) old.entries;
        peak_is = peak_kept h _ (fewer_rounded due_now (old.queue ++ m ∷ []) old.entries);
        next_is = omega arith;
        senders_are = refl;
        receivers_are = refl;
      })

  -- a message is blocked
  pub blocks : (o : Opening) (past : Log T A) (p : Step T × Reply T A) (old new : State T S) (m : T) (signal : S) (space : ℕ)
      → Represents o past old → IsReply (channel o past) p.0 p.1 → change past p.0 p.1 ≡ Blocks m old.next_ticket
      → new ≡ record old {
        blocked = old.blocked ++ record { ticket = old.next_ticket; message = m } ∷ [];
        space = space;
        sends = insert old.sends old.next_ticket (blocked_send signal);
        next_ticket = old.next_ticket + 1;
      }
      → Represents o (p ∷ past) new
  blocks o past p old new m signal space h reply e is =
      let b : Blocked T = record { ticket = old.next_ticket; message = m } in
      let fit = fits_as o past p (Blocks m old.next_ticket) h.run reply e in
      let open_ : is_over past ≡ false = open_not_over past (let is_open = fit.0.0 in omega arith) in
      let still_open = over_same past p (Blocks m old.next_ticket) e refl ∙ open_ in
      represents_as o (p ∷ past) new _ is (represents_open o past p (Blocks m old.next_ticket) old _ h reply e still_open record {
        capacity_is = refl;
        greatest_is = greatest_kept h;
        queued = queued h;
        line_is = line_blocks o past p m old.next_ticket h.run e h.next_is open_
            ∙ ap (λ l. l ++ record { message = m; ticket = Some old.next_ticket } ∷ []) (line_is h)
            ∙ append_assoc (queued h) (offers_of old.blocked) _ ∙ ap (λ l. (queued h) ++ l) (sym (map_push _ old.blocked b));
        queue_is = h.queue_is;
        length_is = refl;
        marks = λ t. marks_inserted h m signal t;
        entries_are = refl;
        peak_is = peak_kept h old.entries (omega arith);
        next_is = refl;
        senders_are = refl;
        receivers_are = refl;
      })

  -- a send learns that its message was accepted
  pub accepts : (o : Opening) (past : Log T A) (p : Step T × Reply T A) (old new : State T S) (t : ℕ) → Represents o past old
      → IsReply (channel o past) p.0 p.1 → change past p.0 p.1 ≡ Accepts t → new ≡ record old { sends = remove old.sends t }
      → Represents o (p ∷ past) new
  accepts o past p old new t h reply e is =
      let fit = fits_as o past p (Accepts t) h.run reply e in
      let open_ : is_over past ≡ false = live_not_over past t fit.0 in
      let still_open = over_same past p (Accepts t) e refl ∙ open_ in
      represents_as o (p ∷ past) new _ is (represents_open o past p (Accepts t) old _ h reply e still_open record {
        capacity_is = refl;
        greatest_is = greatest_kept h;
        queued = queued h;
        line_is = line_stays o past p h.run (ap keeps_line e) open_ still_open ∙ line_is h;
        queue_is = h.queue_is;
        length_is = refl;
        marks = λ q. marks_removed h t q (has_ticket q (offers_of old.blocked)) (λ other. refl);
        entries_are = refl;
        peak_is = peak_kept h old.entries (omega arith);
        next_is = omega arith;
        senders_are = refl;
        receivers_are = refl;
      })

  -- a blocked message is withdrawn
  pub withdraws : (o : Opening) (past : Log T A) (p : Step T × Reply T A) (old new : State T S) (t : ℕ) (m : T)
      (before later : List (Blocked T)) → Represents o past old
      → IsReply (channel o past) p.0 p.1 → change past p.0 p.1 ≡ Withdraws t
      → old.blocked ≡ before ++ record { ticket = t; message = m } ∷ later
      → new ≡ record old { blocked = before ++ later; sends = remove old.sends t } → Represents o (p ∷ past) new
  withdraws o past p old new t m before later h reply e at is =
      let fit = fits_as o past p (Withdraws t) h.run reply e in
      let open_ : is_over past ≡ false = live_not_over past t fit.1.0 in
      let place : line past ≡ (queued h) ++ (offers_of before ++ record { message = m; ticket = Some t } ∷ offers_of later) =
      line_is h ∙ ap (λ l. (queued h) ++ l) (ap offers_of at ∙ map-append _ before _) in
      let still_open = over_same past p (Withdraws t) e refl ∙ open_ in
      represents_as o (p ∷ past) new _ is (represents_open o past p (Withdraws t) old _ h reply e still_open record {
        capacity_is = refl;
        greatest_is = greatest_kept h;
        queued = queued h;
        line_is = line_withdraws o past p t m (queued h) (offers_of before) (offers_of later) h.run e open_ place
            ∙ ap (λ l. (queued h) ++ l) (sym (map-append _ before later));
        queue_is = h.queue_is;
        length_is = refl;
        marks = λ q. marks_removed h t q (has_ticket q (offers_of (before ++ later)))
            (λ other. has_without q t m before later other ∙ ap (λ l. has_ticket q (offers_of l)) (sym at));
        entries_are = refl;
        peak_is = peak_kept h old.entries (omega arith);
        next_is = omega arith;
        senders_are = refl;
        receivers_are = refl;
      })
