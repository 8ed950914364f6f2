-- The capacity set: what that leaves represents the log with that step added.
use Rattle.std.proofs.Common.{◌≡◌, ℕ, ◌+◌, ◌≤◌, true, false, ◌⊎◌, inl, inr, ⊎_elim, ◌∷◌, ◌++◌}
use Rattle.std.proofs.Common.{length, max, min, Some, refl, sym, ◌∙◌, ap, ap₂, arith, append_assoc, length-append}
use Rattle.std.proofs.Math.Bool.{and-true}
use Rattle.std.proofs.lemmas.List.{map-append, length-map}
use Rattle.flume_model.specs.declared.step.Step.{Step}
use Rattle.flume_model.specs.declared.step.Reply.{Reply}
use Rattle.flume_model.specs.Log.{Log, Opening, Resizes, change}
use Rattle.flume_model.specs.Counts.{is_over}
use Rattle.flume_model.specs.Line.{line, is_live, greater}
use Rattle.flume_model.specs.Channel.{channel, has_ticket}
use Rattle.flume_model.specs.Replies.{IsReply}
use Rattle.flume_model.specs.Limits.{HasRoom, IsAtCapacity, is_full}
use Rattle.flume_state.specs.State.{State, offers_of}
use Rattle.flume_state.specs.Effects.{after_admissions, with_capacity}
use Rattle.flume_core.specs.Represents.{Represents}
use Rattle.flume_model.proofs.order.KeptLemmas.{keeps_line}
use Rattle.flume_model.proofs.order.LineStepLemmas.{line_stays}
use Rattle.flume_core.proofs.ViewLemmas.{status, status_is, queued_length, offered_messages, line_is, queued}
use Rattle.flume_core.proofs.RepresentsLemmas.{represents_as, represents_open, fits_as, over_same, open_not_over, peak_kept, still_live}
use Rattle.flume_core.proofs.TakeLemmas.{full_or_room}
use Rattle.flume_core.proofs.DrainLemmas.{MovedIn, moves_in, marks_all, apart_blocked, fills_none_full}

-- a queue at the capacity stays so long, whatever the line
stays_long : (c n long : ℕ) → c ≤ n → n ≡ max n (min c long)
stays_long c n long full = omega arith

-- a queue below it takes in as much of the line as there is room for
grows_long : (c n more later : ℕ) → n + more ≤ c → (c ≤ n + more) ⊎ (later ≡ 0) → n + more ≡ max n (min c (n + (more + later)))
grows_long c n more later within (inl full) = omega arith
grows_long c n more later within (inr none) = omega arith

module _ {T A S : Type 0} where
  -- the capacity is set
  pub resizes : (o : Opening) (past : Log T A) (p : Step T × Reply T A) (old new : State T S) (c : ℕ) → Represents o past old
      → IsReply (channel o past) p.0 p.1 → change past p.0 p.1 ≡ Resizes c → new ≡ with_capacity c old → Represents o (p ∷ past) new
  resizes o past p old new c h reply e is = by_room (full_or_room (Some c) (length old.queue))
    where
      set_ : State T S
      set_ = record old { capacity = Some c; greatest = greater old.greatest (Some c) }

      open_ : is_over past ≡ false
      open_ = open_not_over past (let fit = fits_as o past p (Resizes c) h.run reply e in let both = fit.1 in omega arith)

      still_open : is_over (p ∷ past) ≡ false
      still_open = over_same past p (Resizes c) e refl ∙ open_

      same : line (p ∷ past) ≡ (queued h) ++ offers_of old.blocked
      same = line_stays o past p h.run (ap keeps_line e) open_ still_open ∙ line_is h

      by_room : ((is_full (Some c) (length old.queue) ≡ true) × IsAtCapacity (Some c) (length old.queue))
          ⊎ ((is_full (Some c) (length old.queue) ≡ false) × HasRoom (Some c) (length old.queue))
          → Represents o (p ∷ past) new
      by_room (inl full) =
          represents_as o (p ∷ past) new set_ (is ∙ fills_none_full set_ full.1)
          (represents_open o past p (Resizes c) old set_ h reply e still_open record {
            capacity_is = refl;
            greatest_is = refl;
            queued = queued h;
            line_is = same;
            queue_is = h.queue_is;
            length_is = stays_long c (length old.queue) (length (line (p ∷ past))) full.1;
            marks = λ t. status_is h t
                ∙ sym (ap (λ b. status b (has_ticket t (offers_of old.blocked))) (still_live false (is_live past t) false refl refl));
            entries_are = refl;
            peak_is = peak_kept h old.entries (omega arith);
            next_is = omega arith;
            senders_are = refl;
            receivers_are = refl;
          })
      by_room (inr room) =
          let below : length old.queue ≤ c = let lt = room.1 in omega arith in
          let at : MovedIn old.blocked set_ (after_admissions set_) = moves_in old.blocked set_ refl below in
          let parts : offers_of old.blocked ≡ offers_of at.moved ++ offers_of at.later =
          ap offers_of at.parts ∙ map-append _ at.moved at.later in
          let whole : line (p ∷ past) ≡ ((queued h) ++ offers_of at.moved) ++ offers_of at.later =
          same ∙ ap (λ l. (queued h) ++ l) parts ∙ sym (append_assoc (queued h) (offers_of at.moved) (offers_of at.later)) in
          let long : length (line (p ∷ past)) ≡ length old.queue + (length at.moved + length at.later) =
          ap length same ∙ length-append (queued h) (offers_of old.blocked)
          ∙ ap₂ (λ a b. a + b) (queued_length h) (ap length parts ∙ length-append (offers_of at.moved) (offers_of at.later)
          ∙ ap₂ (λ a b. a + b) (length-map at.moved _) (length-map at.later _)) in
          let enough : (c ≤ length old.queue + length at.moved) ⊎ (length at.later ≡ 0) =
          ⊎_elim (λ full. inl full) (λ none. inr (ap length none)) at.enough in
          represents_as o (p ∷ past) new _ (is ∙ at.state) (represents_open o past p (Resizes c) old _ h reply e still_open record {
            capacity_is = refl;
            greatest_is = refl;
            queued = (queued h) ++ offers_of at.moved;
            line_is = whole;
            queue_is = ap₂ (λ a b. a ++ b) h.queue_is (sym (offered_messages at.moved))
                ∙ sym (map-append _ (queued h) (offers_of at.moved));
            length_is = length-append old.queue _ ∙ ap (λ n. length old.queue + n) (length-map at.moved _)
                ∙ grows_long c (length old.queue) (length at.moved) (length at.later) at.in_capacity enough
                ∙ ap (λ n. max (length old.queue) (min c n)) (sym long);
            marks = λ q. marks_all at.moved at.later old.sends (is_live past)
                (λ k. status_is h k ∙ ap (λ l. status (is_live past k) (has_ticket k (offers_of l))) at.parts)
                (λ before b later found. apart_blocked h before b later (at.parts ∙ found)) q
                ∙ sym (ap (λ b. status b (has_ticket q (offers_of at.later))) (and-true (is_live past q)));
            entries_are = refl;
            peak_is = peak_kept h old.entries (omega arith);
            next_is = omega arith;
            senders_are = refl;
            receivers_are = refl;
          })
