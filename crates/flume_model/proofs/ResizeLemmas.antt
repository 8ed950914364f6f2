-- What setting the capacity leaves of a run.
use Rattle.flume_model.proofs.Common.{◌≡◌, ℕ, ◌+◌, ◌<◌, ◌≤◌, Bool, true, false, not, ◌&&◌, ◌||◌, [], ◌∷◌}
use Rattle.flume_model.proofs.Common.{length, max, min, Option, Some, None}
use Rattle.flume_model.proofs.Common.{refl, ◌∙◌, ap, arith, cond-false, eqb, is_over, senders, receivers, IsOpen, IsBounded, Channel}
use Rattle.flume_model.proofs.Common.{channel, line, capacity, capacity_after, queue_len, is_live, Log, Opening, Change, Resizes}
use Rattle.flume_model.proofs.Common.{change, IsRun, SetCapacity, Done, common_steps}
use Rattle.std.specs.Prelude.{◌↔◌}
use Rattle.flume_model.specs.Resized.{set_to, IsResized, queued_at}
use Rattle.flume_model.proofs.LawfulReplyLemmas.{Fits}
use Rattle.flume_model.proofs.EntryShapeLemmas.{fits_run}
use Rattle.flume_model.proofs.order.RunLemmas.{shape_of}
use Rattle.flume_model.proofs.order.LineStepLemmas.{line_stays}

-- an open channel isn't over
open_not_over : (s r : ℕ) → IsOpen s r → eqb (s + r) 0 ≡ false
open_not_over s r is = grind (arith, common_steps)

-- a ticket stays live if the channel isn't over
stays_live : (over live : Bool) → over ≡ false → (not over && (false || (live && true))) ≡ live
stays_live over live e = grind (arith, common_steps)

-- at capacity, or if the line is no longer, the same capacity lets none in
none_more : (n long same : ℕ) → n ≤ long → (n < long → same ≤ n) → max n (min same long) ≡ n
none_more n long same within full = grind (arith, common_steps)

-- a capacity that is there isn't none
bounded : (capacity_ : Option ℕ) → IsBounded capacity_ → capacity_ ≡ None → ⊥
bounded None is e = is
bounded (Some c) is e = let none : ⊥ = cc in none

module _ {T A : Type 0} where
  -- if the capacity was set
  pub resized : (o : Opening) (past : Log T A) (new : ℕ) → IsRun o (set_to new past)
      → IsResized o past (set_to new past) new (queued_at o past new)
  resized o past new run =
      let open_ : is_over past ≡ false = open_not_over (senders past) (receivers past) run.0.1 in
      let same : line (set_to new past) ≡ line past = line_stays o past (SetCapacity new, Done) run.1 refl open_ open_ in
      record {
        capacity_is = refl;
        line_is = same;
        queue_len_is = cond-false (is_over (set_to new past)) 0 _ open_
            ∙ ap (λ l. max (queue_len o past) (min new (length l))) same;
        entries_are = cond-false (is_over (set_to new past)) [] _ open_;
        next_is = omega arith;
        live_are = λ t. stays_live (is_over past) (is_live past t) open_;
      }

  -- if it was set to what it was
  pub same_resized : (o : Opening) (past : Log T A) (same : ℕ) → IsRun o (set_to same past) → capacity o past ≡ Some same
      → IsResized o past (set_to same past) same (queue_len o past)
  same_resized o past same run e =
      let by = resized o past same run in
      let shape = shape_of o past run.1 in
      let none : queued_at o past same ≡ queue_len o past =
      none_more (queue_len o past) (length (line past)) same shape.within (λ lt. rw e at (shape.full lt)) in
      record {
        capacity_is = by.capacity_is;
        line_is = by.line_is;
        queue_len_is = by.queue_len_is ∙ none;
        entries_are = by.entries_are;
        next_is = by.next_is;
        live_are = by.live_are;
      }

  -- if it was set, and then set to no more
  pub twice_resized : (o : Opening) (past : Log T A) (high low : ℕ) → low ≤ high → IsRun o (set_to low (set_to high past))
      → IsResized o past (set_to low (set_to high past)) low (queued_at o past high)
  twice_resized o past high low le run =
      let first = resized o past high run.1 in
      let second = resized o (set_to high past) low run in
      let queued = first.queue_len_is in
      let long = ap length first.line_is in
      record {
        capacity_is = second.capacity_is;
        line_is = second.line_is ∙ first.line_is;
        queue_len_is = second.queue_len_is ∙ omega arith;
        entries_are = second.entries_are ∙ first.entries_are;
        next_is = second.next_is ∙ first.next_is;
        live_are = λ t. second.live_are t ∙ first.live_are t;
      }

module _ {T : Type 0} where
  -- after a change that fits
  stays_by : (c : Channel T) (done : Change T) → Fits c done → (capacity_after c.capacity done ≡ None) ↔ (c.capacity ≡ None)
  stays_by c (Resizes new) h = (λ e. absurd (let none : ⊥ = cc in none), λ e. absurd (bounded c.capacity h.0 e))
  stays_by c _ h = (λ e. e, λ e. e)

module _ {T A : Type 0} where
  -- a bounded channel stays so, and an unbounded one too
  pub stays_bounded_or_not : (o : Opening) (log : Log T A) → IsRun o log → (capacity o log ≡ None) ↔ (o.capacity ≡ None)
  stays_bounded_or_not o [] run = (λ e. e, λ e. e)
  stays_bounded_or_not o (p ∷ past) run =
      let before = stays_bounded_or_not o past run.1 in
      let step = stays_by (channel o past) (change past p.0 p.1) (fits_run o past p run) in
      (λ e. before.0 (step.0 e), λ e. step.1 (before.1 e))
