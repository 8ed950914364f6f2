-- What the entries of each run are: their tickets are apart from one another and from those of
-- sends, and they are filled if a reply says so.
use Rattle.flume_model.proofs.Common.{◌≡◌, ℕ, ◌+◌, ◌<◌, ◌≤◌, Bool, true, false, not, ◌||◌, ◌&&◌, if◌then◌else◌, [], ◌∷◌, Option, Some, None}
use Rattle.flume_model.proofs.Common.{refl, sym, ◌∙◌, ap, subst, arith, inl, inr, ◌⊎◌, or_from, or_cases, and_parts, channel, is_over}
use Rattle.flume_model.proofs.Common.{entry_of, next_ticket, queue, tickets_issued, issues, spends, is_live, Log, Opening, Takes, Collects}
use Rattle.flume_model.proofs.Common.{filled_by, was_filled, is_ticket, change, entries_after, entries, is_closed_after, IsReply, IsRun}
use Rattle.flume_model.proofs.Common.{DistinctTickets, TicketsDisjoint, FilledIfNamed, Reply, Step, Poll, Withdraw, common_steps}
use Rattle.flume_model.proofs.EntryMarkLemmas.{FilledBy, filled_found, none_past}
use Rattle.flume_model.proofs.AskingCaseLemmas.{polled_cases, gone_cases}
use Rattle.flume_model.proofs.LawfulReplyLemmas.{Fits, fits}
use Rattle.flume_model.proofs.EntryChangeLemmas.{fills, apart_by, fills_none, filled_by_change, sides_by}

module _ {T : Type 0} where
  -- a receiver that gets a message fills none
  got_fills_none : (was : Bool) (t : ℕ) (m : T) → None ≡ fills (if was then Collects t else Takes m (Some t))
  got_fills_none was t m = grind (arith, common_steps)

module _ {T A : Type 0} where
  -- a lawful reply names as filled what its change fills
  named_is_filled : (o : Opening) (past : Log T A) (step : Step T) (reply : Reply T A) → IsReply (channel o past) step reply
      → filled_by reply ≡ fills (change past step reply)
  named_is_filled o past (Poll t) reply h =
      polled_cases (channel o past) t (λ r. filled_by r ≡ fills (change past (Poll t) r)) reply h (record {
        unknown = refl;
        collects = λ e held found is. got_fills_none (was_filled past t) t held;
        takes = λ u m front. got_fills_none (was_filled past t) t m;
        waits_on = λ u woken. refl;
        ends = λ u empty. refl;
        refused = λ back. refl;
      })
  named_is_filled o past (Withdraw t) reply h =
      gone_cases (channel o past) t (λ r. filled_by r ≡ fills (change past (Withdraw t) r)) reply h (record {
        unknown = refl;
        collects = λ e held found is. got_fills_none (was_filled past t) t held;
        takes = λ u m front. got_fills_none (was_filled past t) t m;
        fills_none = λ u closed empty. refl;
        passes_on = λ u closed. refl;
      })
  named_is_filled o past step reply h = grind (arith, common_steps)

  -- what the entries of a run are
  pub record Entered (o : Opening) (log : Log T A) : Type 0 where
    pub apart : DistinctTickets (next_ticket o log) (entries o log)
    pub marks : FilledBy (was_filled log) (entries o log)
    pub unfilled : (t : ℕ) → next_ticket o log ≤ t → was_filled log t ≡ false
    pub sides : TicketsDisjoint o log

  -- a receiver is filled exactly if a reply named its ticket as filled
  pub entered_if_named : (o : Opening) (log : Log T A) → Entered o log → FilledIfNamed o log
  entered_if_named o log h t e found = filled_found (was_filled log) t e (entries o log) h.marks found

  -- what the entries are after one more pair
  entered_more : (o : Opening) (past : Log T A) (p : Step T × Reply T A) → IsReply (channel o past) p.0 p.1 → Entered o past
      → Entered o (p ∷ past)
  entered_more o past p reply h = by_case (is_over (p ∷ past)) refl
    where
      fit : Fits (channel o past) (change past p.0 p.1)
      fit = fits o past p.0 p.1 (entered_if_named o past h) reply

      closes : Bool
      closes = not (is_closed_after past) && is_closed_after (p ∷ past)

      named : filled_by p.1 ≡ fills (change past p.0 p.1)
      named = named_is_filled o past p.0 p.1 reply

      unfilled_now : (t : ℕ) → next_ticket o (p ∷ past) ≤ t → was_filled (p ∷ past) t ≡ false
      unfilled_now t le =
          let none = none_past (next_ticket o past) t (entries o past) (omega arith) h.apart in
          or_from _ _ (ap (is_ticket t) named ∙ fills_none (channel o past) (change past p.0 p.1) t fit none) (h.unfilled t (omega arith))

      FilledNow : Option ℕ → Type 0
      FilledNow f = FilledBy (λ t. is_ticket t f || was_filled past t)
          (entries_after (queue o past) (not (is_closed_after past) && is_closed_after (p ∷ past)) (entries o past) (change past p.0 p.1))

      marks_now : FilledNow (filled_by p.1)
      marks_now =
          subst FilledNow (sym named)
          (filled_by_change (channel o past) closes (change past p.0 p.1) (was_filled past) fit h.apart h.unfilled h.marks)

      sides_now : (t : ℕ) → (issues (change past p.0 p.1) t || (is_live past t && not (spends (change past p.0 p.1) t))) ≡ true
          → (t < next_ticket o past + tickets_issued (change past p.0 p.1))
          × (entry_of t (entries_after (queue o past) closes (entries o past) (change past p.0 p.1)) ≡ None)
      sides_now t live =
          sides_by (channel o past) closes (change past p.0 p.1) t fit h.apart (h.sides t)
          (elim (or_cases (issues (change past p.0 p.1) t) (is_live past t && not (spends (change past p.0 p.1) t)) live)
          as (λ _. (issues (change past p.0 p.1) t ≡ true) ⊎ (is_live past t ≡ true))
          [ inl e ↦ inl e | inr e ↦ inr (and_parts _ _ e).0 ])

      by_case : (b : Bool) → is_over (p ∷ past) ≡ b → Entered o (p ∷ past)
      by_case true over = record {
        apart = rw over tt;
        marks = rw over tt;
        unfilled = unfilled_now;
        sides = λ t live. (let live2 = rw over at live in absurd (let none : ⊥ = cc in none));
      }
      by_case false still = record {
        apart = rw still (apart_by (channel o past) closes (change past p.0 p.1) fit h.apart);
        marks = rw still marks_now;
        unfilled = unfilled_now;
        sides = λ t live. rw still (sides_now t (and_parts (not (is_over (p ∷ past))) _ live).1);
      }

  -- of each run
  pub entered : (o : Opening) (log : Log T A) → IsRun o log → Entered o log
  entered o [] run = record { apart = tt; marks = tt; unfilled = λ t le. refl; sides = λ t live. absurd (let none : ⊥ = cc in none) }
  entered o (p ∷ past) run = entered_more o past p run.0 (entered o past run.1)

  -- a receiver is filled exactly if a reply named its ticket as filled
  pub filled_if_named : (o : Opening) (log : Log T A) → IsRun o log → FilledIfNamed o log
  filled_if_named o log run = entered_if_named o log (entered o log run)

  -- the tickets of parked receivers are apart and below the next one
  pub entries_apart : (o : Opening) (log : Log T A) → IsRun o log → DistinctTickets (next_ticket o log) (entries o log)
  entries_apart o log run = (entered o log run).apart

  -- no ticket is live of a send and of a receiver
  pub sides_apart : (o : Opening) (log : Log T A) → IsRun o log → TicketsDisjoint o log
  sides_apart o log run = (entered o log run).sides

  -- what a lawful reply changes fits what is before it
  pub fits_run : (o : Opening) (past : Log T A) (p : Step T × Reply T A) → IsRun o (p ∷ past) → Fits (channel o past) (change past p.0 p.1)
  fits_run o past p run = fits o past p.0 p.1 (filled_if_named o past run.1) run.0
