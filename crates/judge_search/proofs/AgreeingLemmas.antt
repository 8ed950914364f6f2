-- A configuration agrees with one more step of a call.
use Rattle.std.proofs.Common.{◌≡◌, ◌≢◌, ◌⊎◌, inl, inr, ℕ, ◌<◌, ◌≤◌, Bool, true, false, eqb, if◌then◌else◌, List, [], ◌∷◌, map, Option, Some}
use Rattle.std.proofs.Common.{None, refl, sym, ◌∙◌, ap, subst, subst₂, eqb-true, ne_eqb, arith}
use Rattle.std.specs.List.{All, Contains}
use Rattle.std.specs.Option.{option_map}
use Rattle.std.proofs.lemmas.List.Elements.{All-weaker, All-contains, All-map, All-contains_itself}
use Rattle.flume_model.specs.declared.step.Step.{Step}
use Rattle.flume_model.specs.declared.step.Reply.{Reply}
use Rattle.flume_model.specs.Log.{Opening}
use Rattle.flume_state.specs.State.{State as Channel}
use Rattle.flume_core.specs.Represents.{Represents}
use Rattle.judge_calls.specs.declared.call.Call.{Call}
use Rattle.judge_calls.specs.declared.event.Event.{Event}
use Rattle.judge_calls.specs.declared.event.Item.{Item}
use Rattle.judge_calls.specs.declared.event.Item.TheVariants.{Makes}
use Rattle.judge_calls.specs.declared.stage.Stage.{Stage}
use Rattle.judge_calls.specs.Calls.{stage_after}
use Rattle.judge_calls.specs.Explanations.{open_call, steps_in, after_reply}
use Rattle.judge_search.specs.declared.configuration.OpenCall.{OpenCall}
use Rattle.judge_search.specs.declared.configuration.ParkedReceive.{ParkedReceive}
use Rattle.judge_search.specs.declared.configuration.Progress.{Progress}
use Rattle.judge_search.specs.Configurations.{State, call_with_progress, calls_with_progress, is_parked, call_at, thread_at, call_by}
use Rattle.judge_search.specs.Configurations.{first_answer}
use Rattle.judge_search.specs.Mirrors.{Mirrors}
use Rattle.judge_search.specs.Agreement.{Agrees, AreParked, IsOpenAs, IsOwn, IsProgress, parked_at}
use Rattle.judge_search.proofs.CallListLemmas.{not_equal, differ, call_by_once, call_by_thread, once_other, own_once, threads_still}
use Rattle.judge_search.proofs.CallListLemmas.{parked_other, parked_none, parked_now, parked_self}

-- what a step leaves of the parked calls: if the call that moved is parked, it has a new ticket or was parked before
module _ {T A : Type 0} (equal : T → T → Bool) (events : List (Event T A)) where
  -- a step by which a call goes on, and the channel is as the configuration has it
  pub agrees_after : (o : Opening) (past : List (Item T A)) (rest : List (Event T A)) (c new : State) (t : ℕ) (one : OpenCall)
      (own : Call T)
      (stage : Stage T A) (step : Step T) (reply : Reply T A) (q : Progress) (tickets : ℕ → ℕ) (s : Channel T (Unit {0}))
      (h : Agrees equal events o past rest c)
      → call_by events t c.calls ≡ Some one → call_at events one.place ≡ Some own → open_call past t ≡ Some (own, stage)
      → new.calls ≡ calls_with_progress one.place q c.calls → ((p : ℕ) → p ≢ one.place → tickets p ≡ h.tickets p)
      → IsProgress equal events own (first_answer t rest) (tickets one.place) q (stage_after own stage reply)
      → Represents o ((step, reply) ∷ steps_in past) s → Mirrors events tickets s new → AreParked events tickets s.next_ticket new
      → Agrees equal events o (Makes t step reply ∷ past) rest new
  agrees_after o past rest c new t one own stage step reply q tickets s h is_own call_is opened calls kept progress represents mirrors
      parked_ =
      record {
        state = s;
        represents = represents;
        tickets = tickets;
        channel = mirrors;
        calls_are = λ u. by_thread u (eqb t u) refl;
        threads_apart = subst (λ (l : List OpenCall). All (IsOwn equal events l) l) (sym calls)
            (threads_still equal events one.place q c.calls h.threads_apart);
        parked = parked_;
      }
    where
      here : IsOpenAs equal events tickets (first_answer t rest) (call_by events t new.calls) (after_reply reply (open_call past t))
      here =
          subst₂ (λ (a : Option OpenCall) (b : Option (Call T × Stage T A)). IsOpenAs equal events tickets (first_answer t rest) a b)
          (sym (ap (call_by events t) calls ∙ own_once events t q c.calls one is_own)) (sym (ap (after_reply reply) opened))
          (call_is, progress)

      others : (u : ℕ) → eqb t u ≡ false → (a : Option OpenCall) → call_by events u c.calls ≡ a → (current : Option (Call T × Stage T A))
          → IsOpenAs equal events h.tickets (first_answer u rest) a current
          → IsOpenAs equal events tickets (first_answer u rest) (option_map (call_with_progress one.place q) a) current
      others u is None e None m = m
      others u is None e (Some current) m = m
      others u is (Some x) e None m = m
      others u is (Some x) e (Some current) m =
          let other : x.place ≢ one.place = λ (same : x.place ≡ one.place).
          let a : thread_at events x.place ≡ Some u = call_by_thread events u c.calls x e in
          let b : thread_at events one.place ≡ Some t = call_by_thread events t c.calls one is_own in
          let ab : Some t ≡ Some u = sym b ∙ ap (thread_at events) (sym same) ∙ a in
          let tu : t ≡ u = cc in
          (let no : ⊥ = not_equal t u tu is in no) in
          subst (λ (y : OpenCall). (call_at events y.place ≡ Some current.0)
          × IsProgress equal events current.0 (first_answer u rest) (tickets y.place) y.progress current.1)
          (sym (once_other one.place q x other)) (
            m.0,
            subst (λ (n : ℕ). IsProgress equal events current.0 (first_answer u rest) n x.progress current.1)
                (sym (kept x.place other)) m.1,
          )

      by_thread : (u : ℕ) (b : Bool) → eqb t u ≡ b
          → IsOpenAs equal events tickets (first_answer u rest) (call_by events u new.calls)
          (if b then after_reply reply (open_call past u) else open_call past u)
      by_thread u true is =
          subst (λ (v : ℕ). IsOpenAs equal events tickets (first_answer v rest) (call_by events v new.calls)
          (after_reply reply (open_call past v)))
          (eqb-true t u is) here
      by_thread u false is =
          subst (λ (a : Option OpenCall). IsOpenAs equal events tickets (first_answer u rest) a (open_call past u))
          (sym (ap (call_by events u) calls ∙ call_by_once events u one.place q c.calls))
          (others u is (call_by events u c.calls) refl (open_call past u) (h.calls_are u))
