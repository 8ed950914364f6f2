-- The moves after which blocked sends join the queue, since it was drained or has another capacity, answer as their steps do.
use Rattle.std.proofs.Common.{◌≡◌, ℕ, true, false, ◌∙◌, sym, ap, ap₂, refl, subst, List, [], map, Option, Some, None, eq-eqb, ne_eqb, arith}
use Rattle.std.specs.List.{All}
use Rattle.flume_model.specs.declared.step.Step.TheVariants as step
use Rattle.flume_model.specs.declared.step.Reply.{Reply}
use Rattle.flume_model.specs.declared.step.Reply.TheVariants as own
use Rattle.flume_model.specs.Line.{greater, capacity}
use Rattle.flume_model.specs.Limits.{is_closed, IsBounded}
use Rattle.flume_model.specs.Counts.{senders, receivers}
use Rattle.flume_model.specs.Channel.{channel}
use Rattle.flume_model.specs.Replies.{IsReply}
use Rattle.flume_state.specs.State.{State as Channel}
use Rattle.flume_state.specs.Effects.{after_admissions, with_capacity}
use Rattle.flume_core.proofs.ViewLemmas.{queue_at_log}
use Rattle.flume_core.proofs.DrainLemmas.{drains}
use Rattle.flume_core.proofs.ResizeLemmas.{resizes}
use Rattle.judge_calls.specs.declared.event.Event.{Event}
use Rattle.judge_search.specs.declared.step_of.Move.TheVariants as move
use Rattle.judge_search.specs.declared.place_reply.PlaceReply.{PlaceReply}
use Rattle.judge_search.specs.declared.place_reply.PlaceReply.TheVariants as reply
use Rattle.judge_search.specs.Configurations.{State}
use Rattle.judge_search.specs.ByPlaces.{admit_all, closed_now, resize}
use Rattle.judge_search.specs.Outcomes.{resize_outcome}
use Rattle.judge_search.specs.Mirrors.{Mirrors}
use Rattle.judge_search.proofs.MoveAnswers.{Answers, IsPlaceAfter}
use Rattle.judge_search.specs.Moves.{is_refusal}
use Rattle.judge_search.proofs.MoveAnswerLemmas.{MoveAnswers, IsNew}
use Rattle.judge_search.proofs.MoveCaseLemmas.{AnswersAs, changes_nothing, places_left, receives_stay}
use Rattle.judge_search.proofs.MirrorAdmitLemmas.{admits_all, blocked_kept, receives_kept}

-- the parked receives that are left once blocked sends have joined the queue
receives_admitted : (reply_by_place : PlaceReply) (place : ℕ) (c : State) → IsNew place c
    → All (IsPlaceAfter reply.Parked reply_by_place place (map (λ r. r.place) c.receives)) (map (λ r. r.place) (admit_all c).receives)
receives_admitted reply_by_place place c new =
    subst (λ rs. All (IsPlaceAfter reply.Parked reply_by_place place (map (λ r. r.place) c.receives)) (map (λ r. r.place) rs))
    (sym (receives_kept c.blocked c))
    (receives_stay reply_by_place place c.receives new.not_parked)

-- the blocked sends that are left then
blocked_admitted : (reply_by_place : PlaceReply) (place : ℕ) (c : State) → IsNew place c
    → All (IsPlaceAfter reply.Pending reply_by_place place c.blocked) (admit_all c).blocked
blocked_admitted reply_by_place place c new =
    blocked_kept (IsPlaceAfter reply.Pending reply_by_place place c.blocked) c.blocked c refl
    (places_left reply_by_place place c.blocked new.not_blocked)

module _ {T A : Type 0} (events : List (Event T A)) where
  -- all that is queued is handed out
  pub drain_answers : MoveAnswers events move.Drain
  drain_answers o log s c tickets place call made_step given h m at is new lawful unrefused =
      let same : step.Drain ≡ made_step = cc in
      subst (λ done. Answers events o log tickets s c place done reply.Drained left) same
      (by_given given (subst (λ done. IsReply (channel o log) done given) (sym same) lawful) unrefused)
    where
      left : State
      left = admit_all (record c { queue = [] })

      empty : Mirrors events tickets (record s { queue = [] }) (record c { queue = [] })
      empty = record {
        capacity_is = m.capacity_is;
        senders_are = m.senders_are;
        receivers_are = m.receivers_are;
        queue_is = refl;
        blocked_are = m.blocked_are;
        receives_are = m.receives_are;
      }

      still_new : IsNew place (record c { queue = [] })
      still_new = record { not_blocked = new.not_blocked; not_parked = new.not_parked }

      by_given : (given : Reply T A) → IsReply (channel o log) step.Drain given → is_refusal given ≡ false
          → Answers events o log tickets s c place step.Drain reply.Drained left
      by_given (own.Drained list) lawful unrefused =
          let items : list.items ≡ s.queue = lawful ∙ queue_at_log h in
          record {
            reply = own.Drained list;
            corresponds = m.queue_is ∙ ap (map Some) (sym items);
            state = after_admissions (record s { queue = [] });
            represents = drains o log (step.Drain, own.Drained list) s (after_admissions (record s { queue = [] })) list.items h lawful
                refl refl;
            mirrors = admits_all events tickets (record s { queue = [] }) (record c { queue = [] }) empty;
            blocked_after = blocked_admitted reply.Drained place (record c { queue = [] }) still_new;
            receives_after = receives_admitted reply.Drained place (record c { queue = [] }) still_new;
          }
      by_given (own.NoMemory back) lawful unrefused = absurd (let none : ⊥ = cc in none)
      by_given _ lawful unrefused = absurd lawful

  -- the capacity is set
  pub set_capacity_answers : (n : ℕ) → MoveAnswers events (move.SetCapacity n)
  set_capacity_answers n o log s c tickets place call made_step given h m at is new lawful unrefused =
      let same : step.SetCapacity n ≡ made_step = cc in
      subst (λ done. AnswersAs events o log tickets s c place done (resize_outcome c.capacity n c)) same
      (by_given given (subst (λ done. IsReply (channel o log) done given) (sym same) lawful))
    where
      set_state : Channel T (Unit {0})
      set_state = record s { capacity = Some n; greatest = greater s.greatest (Some n) }

      set_mirrors : Mirrors events tickets set_state (record c { capacity = Some n })
      set_mirrors = record {
        capacity_is = refl;
        senders_are = m.senders_are;
        receivers_are = m.receivers_are;
        queue_is = m.queue_is;
        blocked_are = m.blocked_are;
        receives_are = m.receives_are;
      }

      still_new : IsNew place (record c { capacity = Some n })
      still_new = record { not_blocked = new.not_blocked; not_parked = new.not_parked }

      -- whether it is closed, by the log
      closed_logged : closed_now c ≡ is_closed (senders log) (receivers log)
      closed_logged = ap₂ is_closed (m.senders_are ∙ h.senders_are) (m.receivers_are ∙ h.receivers_are)

      bounded : IsBounded (capacity o log) → (bound : Option ℕ) → bound ≡ capacity o log → IsBounded bound
      bounded some bound is = subst IsBounded (sym is) some

      closed_answer : (bound : Option ℕ) → IsBounded bound → closed_now c ≡ true → resize_outcome bound n c ≡ (reply.Ended, c)
      closed_answer None some closed = absurd some
      closed_answer (Some old) some closed = rw closed refl

      open_answer : (bound : Option ℕ) → IsBounded bound → closed_now c ≡ false → resize_outcome bound n c ≡ (reply.Done, resize n c)
      open_answer None some open_ = absurd some
      open_answer (Some old) some open_ = rw open_ refl

      by_given : (given : Reply T A) → IsReply (channel o log) (step.SetCapacity n) given
          → AnswersAs events o log tickets s c place (step.SetCapacity n) (resize_outcome c.capacity n c)
      by_given own.Unbounded lawful =
          subst (λ bound. AnswersAs events o log tickets s c place (step.SetCapacity n) (resize_outcome bound n c))
          (sym (m.capacity_is ∙ h.capacity_is ∙ lawful))
          (changes_nothing events o log s c tickets place (step.SetCapacity n) reply.Unbounded own.Unbounded h m new lawful refl refl tt)
      by_given own.Ended lawful =
          let closed : is_closed (senders log) (receivers log) ≡ true = eq-eqb _ 0 lawful.1 in
          subst (AnswersAs events o log tickets s c place (step.SetCapacity n))
          (sym (closed_answer c.capacity (bounded lawful.0 c.capacity (m.capacity_is ∙ h.capacity_is)) (closed_logged ∙ closed)))
          (changes_nothing events o log s c tickets place (step.SetCapacity n) reply.Ended own.Ended h m new lawful refl refl tt)
      by_given own.Done lawful =
          let is_open = lawful.1 in
          let open_ : is_closed (senders log) (receivers log) ≡ false = ne_eqb _ 0 (λ e. omega arith) in
          subst (AnswersAs events o log tickets s c place (step.SetCapacity n))
          (sym (open_answer c.capacity (bounded lawful.0 c.capacity (m.capacity_is ∙ h.capacity_is)) (closed_logged ∙ open_)))
          record {
            reply = own.Done;
            corresponds = tt;
            state = with_capacity n s;
            represents = resizes o log (step.SetCapacity n, own.Done) s (with_capacity n s) n h lawful refl refl;
            mirrors = admits_all events tickets set_state (record c { capacity = Some n }) set_mirrors;
            blocked_after = blocked_admitted reply.Done place (record c { capacity = Some n }) still_new;
            receives_after = receives_admitted reply.Done place (record c { capacity = Some n }) still_new;
          }
      by_given _ lawful = absurd lawful
