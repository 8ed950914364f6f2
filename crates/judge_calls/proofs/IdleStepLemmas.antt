-- Each idle step of an explanation whose steps come late may be taken out.
use Rattle.std.proofs.Common.{◌≡◌, ◌≢◌, ℕ, ◌==◌, Bool, true, false, List, [], ◌∷◌, Option, Some, None, ◌⊎◌}
use Rattle.std.proofs.Common.{inl, inr, refl, sym, ap, ◌∙◌, subst, reverse, if◌then◌else◌}
use Rattle.std.proofs.lemmas.Bool.Decides.{eqb_tells}
use Rattle.std.proofs.lemmas.List.{reverse-reverse, append-nil}
use Rattle.std.specs.Bool.{IsTrue}
use Rattle.flume_model.specs.declared.step.Step.{Step}
use Rattle.flume_model.specs.declared.step.Reply.{Reply}
use Rattle.flume_model.specs.declared.step.Reply.TheVariants.{Waiting}
use Rattle.flume_model.specs.Log.{Log, Opening}
use Rattle.flume_model.specs.Channel.{Channel, channel}
use Rattle.flume_model.specs.Entries.{waiting_count}
use Rattle.flume_model.specs.Parked.{entries}
use Rattle.flume_model.specs.Replies.{IsRun, IsReply}
use Rattle.judge_calls.specs.declared.call.Call.{Call}
use Rattle.judge_calls.specs.declared.event.Event.{Event}
use Rattle.judge_calls.specs.declared.event.Event.TheVariants.{Begins, Returns}
use Rattle.judge_calls.specs.declared.event.Item.{Item}
use Rattle.judge_calls.specs.declared.event.Item.TheVariants.{Happens, Makes}
use Rattle.judge_calls.specs.declared.stage.Stage.{Stage}
use Rattle.judge_calls.specs.declared.stage.Stage.TheVariants.{Begun}
use Rattle.judge_calls.specs.Explanations.{events_in, steps_in, after_reply, open_call, IsNextStep}
use Rattle.judge_calls.specs.Explanations.{returns, Fits, AreCalls, IsExplanation}
use Rattle.judge_calls.specs.LateSteps.{AreLate, IsExplainedLate}
use Rattle.judge_calls.specs.NoIdleSteps.{IsIdle, NoneIsIdle, IsExplainedWithoutIdle}
use Rattle.judge_calls.proofs.SameCallsLemmas.{Alike, alike_self, alike_through, alike_step, channel_is}
use Rattle.judge_calls.proofs.IdleReplyLemmas.{asks, waiting_asks, alike_idle}
use Rattle.judge_calls.proofs.IdleItemLemmas.{Follows, Ends, ends_before, ends_late, late_ends, events_reverse, asks_on}

module _ {T A : Type 0} where
  -- a reply is `Waiting` or isn't, and a step is idle or isn't
  waits_or_not : (reply : Reply T A) → (reply ≡ Waiting) ⊎ (reply ≡ Waiting → ⊥)
  waits_or_not Waiting = inl refl
  waits_or_not _ = inr (λ e. let none : ⊥ = cc in none)

  idle_or_not : (o : Opening) (past : Log T A) (p : Step T × Reply T A) → IsIdle o past p ⊎ (IsIdle o past p → ⊥)
  idle_or_not o past p =
      by_both (waits_or_not p.1) (eqb_tells (waiting_count (entries o (p ∷ past))) (waiting_count (entries o past)))
    where
      by_both : {C D : Type 0} → (p.1 ≡ Waiting) ⊎ (p.1 ≡ Waiting → ⊥)
          → (C × (waiting_count (entries o (p ∷ past)) ≡ waiting_count (entries o past)))
          ⊎ (D × (waiting_count (entries o (p ∷ past)) ≢ waiting_count (entries o past)))
          → IsIdle o past p ⊎ (IsIdle o past p → ⊥)
      by_both (inl waits) (inl same) = inl (waits, same.1)
      by_both (inl waits) (inr more) = inr (λ idle. more.1 idle.1)
      by_both (inr not) other = inr (λ idle. not idle.0)

  -- the log with an idle step is like the log without it
  alike_waiting : (o : Opening) (past : Log T A) (step : Step T) (reply : Reply T A) → reply ≡ Waiting → IsReply (channel o past) step reply
      → waiting_count (entries o ((step, reply) ∷ past)) ≡ waiting_count (entries o past) → Alike o ((step, reply) ∷ past) past
  alike_waiting o past step Waiting is h same = alike_idle o past step h same
  alike_waiting o past step _ is h same = absurd (let none : ⊥ = cc in none)

  -- a call that is answered `Waiting` has asked
  told_asks : (c : Channel T) (step : Step T) (reply : Reply T A) → reply ≡ Waiting → IsReply c step reply → asks step ≡ true
  told_asks c step Waiting is h = waiting_asks A c step h
  told_asks c step _ is h = absurd (let none : ⊥ = cc in none)

  -- a call that is answered `Waiting` is as far as before
  further_waiting : (current : Option (Call T × Stage T A)) → after_reply Waiting current ≡ current
  further_waiting None = refl
  further_waiting (Some current) = refl

  open_at : (b : Bool) (current : Option (Call T × Stage T A)) → (if b then after_reply Waiting current else current) ≡ current
  open_at true current = further_waiting current
  open_at false current = refl

  open_waiting : (past : List (Item T A)) (t : ℕ) (step : Step T) (reply : Reply T A) → reply ≡ Waiting → (u : ℕ)
      → open_call (Makes t step reply ∷ past) u ≡ open_call past u
  open_waiting past t step reply is u =
      ap (λ r. open_call (Makes t step r ∷ past) u) is ∙ open_at (t == u) (open_call past u)

  -- the same calls stay open by the same item
  same_open : (item : Item T A) (past other : List (Item T A)) → ((u : ℕ) → open_call past u ≡ open_call other u) → (u : ℕ)
      → open_call (item ∷ past) u ≡ open_call (item ∷ other) u
  same_open (Happens (Begins t call)) past other same u = λ i. if t == u then Some (call, Begun) else same u i
  same_open (Happens (Returns t recorded)) past other same u = λ i. if t == u then None else same u i
  same_open (Makes t step reply) past other same u = λ i. if t == u then after_reply reply (same u i) else same u i

-- if `equal` compares messages
module _ {T A : Type 0} (equal : T → T → Bool) where
  -- by the same open calls the same item fits
  same_fits : (item : Item T A) (past other : List (Item T A)) → ((u : ℕ) → open_call past u ≡ open_call other u)
      → Fits equal past item → Fits equal other item
  same_fits (Happens (Begins t call)) past other same h = sym (same t) ∙ h
  same_fits (Happens (Returns t recorded)) past other same h = subst (λ c. IsTrue (returns equal c recorded)) (same t) h
  same_fits (Makes t step reply) past other same h = subst (λ c. IsNextStep c step) (same t) h

  -- the item that comes next, if there is one, fits
  abbrev Goes : List (Item T A) → Option (Item T A) → Type 0
  Goes past None = Unit {0}
  Goes past (Some item) = Fits equal past item

  -- what is left of items without the idle steps, if this item comes next
  pub record Leaner (o : Opening) (next : Option (Item T A)) (past : List (Item T A)) : Type 0 where
    pub items : List (Item T A)
    pub run : IsRun o (steps_in items)
    pub calls : AreCalls equal items
    pub no_idle : NoneIsIdle o (steps_in items)
    pub alike : Alike o (steps_in past) (steps_in items)
    pub opened : (u : ℕ) → open_call past u ≡ open_call items u
    pub events_are : events_in past ≡ events_in items
    pub ends : Ends next items

  -- if an idle step may be before an item, a step that was before it may be there as well
  ends_without : (next : Option (Item T A)) (t : ℕ) (step : Step T) (reply : Reply T A) (past items : List (Item T A)) → asks step ≡ true
      → reply ≡ Waiting → IsNextStep (open_call past t) step → Goes (Makes t step reply ∷ past) next → Follows next t
      → Ends (Some (Makes t step reply)) items → Ends next items
  ends_without None t step reply past items a is m goes follows ends = absurd follows
  ends_without (Some (Makes u other recorded)) t step reply past items a is m goes follows ends =
      ends_before t u step other reply recorded items ends
  ends_without (Some (Happens (Begins u call))) t step reply past items a is m goes follows ends = absurd follows
  ends_without (Some (Happens (Returns u recorded))) t step reply past items a is m goes follows ends =
      absurd (asks_on equal (open_call past t) step recorded a m
      (sym (ap (λ c. returns equal c recorded)
      (ap (open_call (Makes t step reply ∷ past)) (sym follows) ∙ open_waiting past t step reply is t)) ∙ goes))

  -- one more item, and one more step
  more_event : (o : Opening) (next : Option (Item T A)) (event : Event T A) (past : List (Item T A))
      → Fits equal past (Happens event) → Leaner o (Some (Happens event)) past → Leaner o next (Happens event ∷ past)
  more_event o next event past fit k = record {
    items = Happens event ∷ k.items;
    run = k.run;
    calls = (same_fits (Happens event) past k.items k.opened fit, k.calls);
    no_idle = k.no_idle;
    alike = k.alike;
    opened = same_open (Happens event) past k.items k.opened;
    events_are = ap (λ l. event ∷ l) k.events_are;
    ends = k.ends;
  }

  more_step : (o : Opening) (next : Option (Item T A)) (t : ℕ) (step : Step T) (reply : Reply T A) (past : List (Item T A))
      → Fits equal past (Makes t step reply) → IsReply (channel o (steps_in past)) step reply
      → Goes (Makes t step reply ∷ past) next → Follows next t
      → Leaner o (Some (Makes t step reply)) past → Leaner o next (Makes t step reply ∷ past)
  more_step o next t step reply past fit lawful goes follows k = by_case (idle_or_not o (steps_in k.items) (step, reply))
    where
      lawful_on : IsReply (channel o (steps_in k.items)) step reply
      lawful_on = subst (λ c. IsReply c step reply) (channel_is o (steps_in past) (steps_in k.items) k.alike) lawful

      next_alike : Alike o ((step, reply) ∷ steps_in past) ((step, reply) ∷ steps_in k.items)
      next_alike = alike_step o (steps_in past) (steps_in k.items) (step, reply) k.alike

      by_case : IsIdle o (steps_in k.items) (step, reply) ⊎ (IsIdle o (steps_in k.items) (step, reply) → ⊥)
          → Leaner o next (Makes t step reply ∷ past)
      by_case (inl idle) = record {
        items = k.items;
        run = k.run;
        calls = k.calls;
        no_idle = k.no_idle;
        alike = alike_through o ((step, reply) ∷ steps_in past) ((step, reply) ∷ steps_in k.items) (steps_in k.items) next_alike
            (alike_waiting o (steps_in k.items) step reply idle.0 lawful_on idle.1);
        opened = λ u. open_waiting past t step reply idle.0 u ∙ k.opened u;
        events_are = k.events_are;
        ends = ends_without next t step reply past k.items (told_asks (channel o (steps_in k.items)) step reply idle.0 lawful_on)
            idle.0 fit goes follows k.ends;
      }
      by_case (inr busy) = record {
        items = Makes t step reply ∷ k.items;
        run = (lawful_on, k.run);
        calls = (same_fits (Makes t step reply) past k.items k.opened fit, k.calls);
        no_idle = (busy, k.no_idle);
        alike = next_alike;
        opened = same_open (Makes t step reply) past k.items k.opened;
        events_are = k.events_are;
        ends = (follows, k.ends);
      }

  leaner : (o : Opening) (next : Option (Item T A)) (past : List (Item T A)) → IsRun o (steps_in past) → AreCalls equal past
      → Goes past next → Ends next past → Leaner o next past
  leaner o next [] run calls goes ends = record {
    items = [];
    run = tt;
    calls = tt;
    no_idle = tt;
    alike = alike_self o [];
    opened = λ u. refl;
    events_are = refl;
    ends = tt;
  }
  leaner o next (Happens event ∷ past) run calls goes ends =
      more_event o next event past calls.0 (leaner o (Some (Happens event)) past run calls.1 calls.0 ends)
  leaner o next (Makes t step reply ∷ past) run calls goes ends =
      more_step o next t step reply past calls.0 run.0 goes ends.0
      (leaner o (Some (Makes t step reply)) past run.1 calls.1 calls.0 ends.1)

  -- events that have an explanation whose steps come late have one without idle steps
  pub explained_lean : (o : Opening) (events : List (Event T A)) → IsExplainedLate equal o events → IsExplainedWithoutIdle equal o events
  explained_lean o events h =
      let items = h.0 in
      let whole = h.2 in
      let ended : Ends None (reverse items) = subst (Ends None) (append-nil (reverse items)) (ends_late items [] h.3 tt) in
      let k = leaner o None (reverse items) whole.run whole.calls tt ended in
      let back = sym (reverse-reverse k.items) in
      record {
        items = reverse k.items;
        events_are = events_reverse k.items ∙ ap reverse (sym k.events_are) ∙ sym (events_reverse (reverse items))
            ∙ ap events_in (reverse-reverse items) ∙ h.1;
        explains = subst (IsExplanation equal o) back (record { calls = k.calls; run = k.run });
        late = subst AreLate (append-nil (reverse k.items)) (late_ends k.items [] k.ends tt);
        no_idle = subst (λ l. NoneIsIdle o (steps_in l)) back k.no_idle;
      }
