-- The moves by which ends join and leave answer as their steps do.
use Rattle.std.proofs.Common.{◌≡◌, ◌<◌, ◌+◌, ◌-◌, ◌==◌, ℕ, true, false, not, ◌∙◌, sym, ap, refl, subst, List, arith, eq-eqb, ne_eqb}
use Rattle.flume_model.specs.declared.step.Step.TheVariants as step
use Rattle.flume_model.specs.declared.step.Reply.{Reply}
use Rattle.flume_model.specs.declared.step.Reply.TheVariants as own
use Rattle.flume_model.specs.Log.{SenderJoins, ReceiverJoins, SenderLeaves, ReceiverLeaves}
use Rattle.flume_model.specs.Limits.{most}
use Rattle.flume_model.specs.Channel.{channel}
use Rattle.flume_model.specs.Replies.{IsReply}
use Rattle.flume_state.specs.State.{State as Channel}
use Rattle.flume_state.specs.Effects.{after_end_dropped}
use Rattle.flume_core.proofs.ClosingLemmas.{leaves}
use Rattle.flume_core.proofs.InvariantLemmas.{counts_open}
use Rattle.judge_calls.specs.declared.event.Event.{Event}
use Rattle.judge_search.specs.declared.step_of.Move.TheVariants as move
use Rattle.judge_search.specs.declared.place_reply.PlaceReply.TheVariants as reply
use Rattle.judge_search.specs.Configurations.{State}
use Rattle.judge_search.specs.ByPlaces.{closed_now, end_dropped}
use Rattle.judge_search.specs.Outcomes.{clone_outcome, drop_outcome}
use Rattle.judge_search.specs.Mirrors.{Mirrors}
use Rattle.judge_search.proofs.MoveAnswerLemmas.{MoveAnswers, IsNew}
use Rattle.judge_search.proofs.MoveCaseLemmas.{AnswersAs, changes_nothing, places_left, receives_stay}
use Rattle.judge_search.proofs.MirrorViewLemmas.{closed_same}
use Rattle.judge_search.proofs.LeavingEndLemmas.{end_dropped_mirrors, blocked_end_dropped, receives_end_dropped}

module _ {T A : Type 0} (events : List (Event T A)) where
  -- an end joins: it is none if there is none, or if there are as many as can be counted
  no_end_joins : (n : ℕ) (more c : State) → n ≡ 0 → clone_outcome n more c ≡ (reply.NoEnd, c)
  no_end_joins n more c none = let zero : (n == 0) ≡ true = eq-eqb n 0 none in rw zero refl

  count_is_full : (n : ℕ) (more c : State) → n ≡ most → clone_outcome n more c ≡ (reply.CountFull, c)
  count_is_full n more c full =
      let some : (n == 0) ≡ false = ne_eqb n 0 (λ e. omega arith) in
      let last : (n == most) ≡ true = eq-eqb n most full in
      rw (some, last) refl

  one_more_joins : (n : ℕ) (more c : State) → 0 < n → n < most → clone_outcome n more c ≡ (reply.Done, more)
  one_more_joins n more c above below =
      let some : (n == 0) ≡ false = ne_eqb n 0 (λ e. omega arith) in
      let room : (n == most) ≡ false = ne_eqb n most (λ e. omega arith) in
      rw (some, room) refl

  -- one more sender
  pub clone_sender_answers : MoveAnswers events move.CloneSender
  clone_sender_answers o log s c tickets place call made_step given h m at is new lawful unrefused =
      let same : step.CloneSender ≡ made_step = cc in
      subst (λ done. AnswersAs events o log tickets s c place done (clone_outcome c.senders more c)) same
      (by_given given (subst (λ done. IsReply (channel o log) done given) (sym same) lawful))
    where
      more : State
      more = record c { senders = c.senders + 1 }

      by_given : (given : Reply T A) → IsReply (channel o log) step.CloneSender given
          → AnswersAs events o log tickets s c place step.CloneSender (clone_outcome c.senders more c)
      by_given own.Done lawful =
          let count = m.senders_are in
          let logged = h.senders_are in
          let above = lawful.0 in
          let below = lawful.1 in
          subst (AnswersAs events o log tickets s c place step.CloneSender)
          (sym (one_more_joins c.senders more c (omega arith) (omega arith))) record {
            reply = own.Done;
            corresponds = tt;
            state = record s { senders = s.senders + 1 };
            represents = counts_open o log (step.CloneSender, own.Done) SenderJoins s _ s.sends s.entries h lawful refl refl refl
                (λ t. refl) refl (omega arith) refl (omega arith);
            mirrors = record {
              capacity_is = m.capacity_is;
              senders_are = ap (λ n. n + 1) m.senders_are;
              receivers_are = m.receivers_are;
              queue_is = m.queue_is;
              blocked_are = m.blocked_are;
              receives_are = m.receives_are;
            };
            blocked_after = places_left reply.Done place c.blocked new.not_blocked;
            receives_after = receives_stay reply.Done place c.receives new.not_parked;
          }
      by_given own.NoEnd lawful =
          subst (AnswersAs events o log tickets s c place step.CloneSender)
          (sym (no_end_joins c.senders more c (m.senders_are ∙ h.senders_are ∙ lawful)))
          (changes_nothing events o log s c tickets place step.CloneSender reply.NoEnd own.NoEnd h m new lawful refl refl tt)
      by_given own.CountFull lawful =
          subst (AnswersAs events o log tickets s c place step.CloneSender)
          (sym (count_is_full c.senders more c (m.senders_are ∙ h.senders_are ∙ lawful)))
          (changes_nothing events o log s c tickets place step.CloneSender reply.CountFull own.CountFull h m new lawful refl refl tt)
      by_given _ lawful = absurd lawful

  -- one more receiver
  pub clone_receiver_answers : MoveAnswers events move.CloneReceiver
  clone_receiver_answers o log s c tickets place call made_step given h m at is new lawful unrefused =
      let same : step.CloneReceiver ≡ made_step = cc in
      subst (λ done. AnswersAs events o log tickets s c place done (clone_outcome c.receivers more c)) same
      (by_given given (subst (λ done. IsReply (channel o log) done given) (sym same) lawful))
    where
      more : State
      more = record c { receivers = c.receivers + 1 }

      by_given : (given : Reply T A) → IsReply (channel o log) step.CloneReceiver given
          → AnswersAs events o log tickets s c place step.CloneReceiver (clone_outcome c.receivers more c)
      by_given own.Done lawful =
          let count = m.receivers_are in
          let logged = h.receivers_are in
          let above = lawful.0 in
          let below = lawful.1 in
          subst (AnswersAs events o log tickets s c place step.CloneReceiver)
          (sym (one_more_joins c.receivers more c (omega arith) (omega arith))) record {
            reply = own.Done;
            corresponds = tt;
            state = record s { receivers = s.receivers + 1 };
            represents = counts_open o log (step.CloneReceiver, own.Done) ReceiverJoins s _ s.sends s.entries h lawful refl refl refl
                (λ t. refl) refl (omega arith) refl (omega arith);
            mirrors = record {
              capacity_is = m.capacity_is;
              senders_are = m.senders_are;
              receivers_are = ap (λ n. n + 1) m.receivers_are;
              queue_is = m.queue_is;
              blocked_are = m.blocked_are;
              receives_are = m.receives_are;
            };
            blocked_after = places_left reply.Done place c.blocked new.not_blocked;
            receives_after = receives_stay reply.Done place c.receives new.not_parked;
          }
      by_given own.NoEnd lawful =
          subst (AnswersAs events o log tickets s c place step.CloneReceiver)
          (sym (no_end_joins c.receivers more c (m.receivers_are ∙ h.receivers_are ∙ lawful)))
          (changes_nothing events o log s c tickets place step.CloneReceiver reply.NoEnd own.NoEnd h m new lawful refl refl tt)
      by_given own.CountFull lawful =
          subst (AnswersAs events o log tickets s c place step.CloneReceiver)
          (sym (count_is_full c.receivers more c (m.receivers_are ∙ h.receivers_are ∙ lawful)))
          (changes_nothing events o log s c tickets place step.CloneReceiver reply.CountFull own.CountFull h m new lawful refl refl tt)
      by_given _ lawful = absurd lawful

  -- an end leaves: it is none if there is none
  no_end_leaves : (n : ℕ) (fewer c : State) → n ≡ 0 → drop_outcome n fewer c ≡ (reply.NoEnd, c)
  no_end_leaves n fewer c none = let zero : (n == 0) ≡ true = eq-eqb n 0 none in rw zero refl

  one_end_leaves : (n : ℕ) (fewer c : State) → 0 < n → drop_outcome n fewer c ≡ (reply.Done, end_dropped (closed_now c) fewer)
  one_end_leaves n fewer c above = let some : (n == 0) ≡ false = ne_eqb n 0 (λ e. omega arith) in rw some refl

  -- one sender less
  pub drop_sender_answers : MoveAnswers events move.DropSender
  drop_sender_answers o log s c tickets place call made_step given h m at is new lawful unrefused =
      let same : step.DropSender ≡ made_step = cc in
      subst (λ done. AnswersAs events o log tickets s c place done (drop_outcome c.senders fewer c)) same
      (by_given given (subst (λ done. IsReply (channel o log) done given) (sym same) lawful))
    where
      fewer : State
      fewer = record c { senders = c.senders - 1 }

      fewer_state : Channel T (Unit {0})
      fewer_state = record s { senders = s.senders - 1 }

      fewer_mirrors : Mirrors events tickets fewer_state fewer
      fewer_mirrors = record {
        capacity_is = m.capacity_is;
        senders_are = ap (λ n. n - 1) m.senders_are;
        receivers_are = m.receivers_are;
        queue_is = m.queue_is;
        blocked_are = m.blocked_are;
        receives_are = m.receives_are;
      }

      still_new : IsNew place fewer
      still_new = record { not_blocked = new.not_blocked; not_parked = new.not_parked }

      by_given : (given : Reply T A) → IsReply (channel o log) step.DropSender given
          → AnswersAs events o log tickets s c place step.DropSender (drop_outcome c.senders fewer c)
      by_given own.Done lawful =
          let count = m.senders_are in
          let logged = h.senders_are in
          subst (AnswersAs events o log tickets s c place step.DropSender)
          (sym (one_end_leaves c.senders fewer c (omega arith))) record {
            reply = own.Done;
            corresponds = tt;
            state = after_end_dropped (not (closed_now c)) fewer_state;
            represents = leaves o log (step.DropSender, own.Done) SenderLeaves s _ h lawful refl refl
                (ap (λ b. after_end_dropped (not b) fewer_state) (closed_same events tickets s c m));
            mirrors = end_dropped_mirrors events tickets (closed_now c) fewer_state fewer fewer_mirrors;
            blocked_after = blocked_end_dropped reply.Done place (closed_now c) fewer still_new;
            receives_after = receives_end_dropped reply.Done place (closed_now c) fewer still_new;
          }
      by_given own.NoEnd lawful =
          subst (AnswersAs events o log tickets s c place step.DropSender)
          (sym (no_end_leaves c.senders fewer c (m.senders_are ∙ h.senders_are ∙ lawful)))
          (changes_nothing events o log s c tickets place step.DropSender reply.NoEnd own.NoEnd h m new lawful refl refl tt)
      by_given _ lawful = absurd lawful

  -- one receiver less
  pub drop_receiver_answers : MoveAnswers events move.DropReceiver
  drop_receiver_answers o log s c tickets place call made_step given h m at is new lawful unrefused =
      let same : step.DropReceiver ≡ made_step = cc in
      subst (λ done. AnswersAs events o log tickets s c place done (drop_outcome c.receivers fewer c)) same
      (by_given given (subst (λ done. IsReply (channel o log) done given) (sym same) lawful))
    where
      fewer : State
      fewer = record c { receivers = c.receivers - 1 }

      fewer_state : Channel T (Unit {0})
      fewer_state = record s { receivers = s.receivers - 1 }

      fewer_mirrors : Mirrors events tickets fewer_state fewer
      fewer_mirrors = record {
        capacity_is = m.capacity_is;
        senders_are = m.senders_are;
        receivers_are = ap (λ n. n - 1) m.receivers_are;
        queue_is = m.queue_is;
        blocked_are = m.blocked_are;
        receives_are = m.receives_are;
      }

      still_new : IsNew place fewer
      still_new = record { not_blocked = new.not_blocked; not_parked = new.not_parked }

      by_given : (given : Reply T A) → IsReply (channel o log) step.DropReceiver given
          → AnswersAs events o log tickets s c place step.DropReceiver (drop_outcome c.receivers fewer c)
      by_given own.Done lawful =
          let count = m.receivers_are in
          let logged = h.receivers_are in
          subst (AnswersAs events o log tickets s c place step.DropReceiver)
          (sym (one_end_leaves c.receivers fewer c (omega arith))) record {
            reply = own.Done;
            corresponds = tt;
            state = after_end_dropped (not (closed_now c)) fewer_state;
            represents = leaves o log (step.DropReceiver, own.Done) ReceiverLeaves s _ h lawful refl refl
                (ap (λ b. after_end_dropped (not b) fewer_state) (closed_same events tickets s c m));
            mirrors = end_dropped_mirrors events tickets (closed_now c) fewer_state fewer fewer_mirrors;
            blocked_after = blocked_end_dropped reply.Done place (closed_now c) fewer still_new;
            receives_after = receives_end_dropped reply.Done place (closed_now c) fewer still_new;
          }
      by_given own.NoEnd lawful =
          subst (AnswersAs events o log tickets s c place step.DropReceiver)
          (sym (no_end_leaves c.receivers fewer c (m.receivers_are ∙ h.receivers_are ∙ lawful)))
          (changes_nothing events o log s c tickets place step.DropReceiver reply.NoEnd own.NoEnd h m new lawful refl refl tt)
      by_given _ lawful = absurd lawful
