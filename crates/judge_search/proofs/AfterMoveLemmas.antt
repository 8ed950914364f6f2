-- Where the moves of an open call lead, so do its steps.
use Rattle.std.proofs.Common.{◌≡◌, ℕ, Bool, List, ◌∷◌, Option, Some, None, refl, sym, ◌∙◌, ap, subst}
use Rattle.std.specs.List.{Contains}
use Rattle.flume_model.specs.declared.step.Step.{Step}
use Rattle.flume_model.specs.declared.step.Reply.{Reply}
use Rattle.flume_model.specs.Log.{Opening}
use Rattle.flume_model.specs.Replies.{IsRun}
use Rattle.judge_calls.specs.declared.call.Call.{Call}
use Rattle.judge_calls.specs.declared.call.Answer.{Answer}
use Rattle.judge_calls.specs.declared.event.Event.{Event}
use Rattle.judge_calls.specs.declared.event.Item.{Item}
use Rattle.judge_calls.specs.declared.event.Item.TheVariants.{Happens, Makes}
use Rattle.judge_calls.specs.Explanations.{open_call, steps_in}
use Rattle.judge_search.specs.declared.configuration.OpenCall.{OpenCall}
use Rattle.judge_search.specs.declared.step_of.Move.{Move}
use Rattle.judge_search.specs.Configurations.{State, call_at, thread_at, first_answer}
use Rattle.judge_search.specs.Agreement.{Agrees}
use Rattle.judge_search.specs.Moves.{move_of, IsMove}
use Rattle.judge_search.specs.Leads.{IsMade, IsWrong, LeadsTo, LeadsNowhere, CallLeadsTo, CallLeadsNowhere}
use Rattle.judge_search.proofs.StepMoveLemmas.{found}

module _ {T A : Type 0} (equal : T → T → Bool) (events : List (Event T A)) (c : State) (one : OpenCall) (other refused : Bool)
    (rest : List (Event T A)) (t : ℕ) (has : Contains c.calls one) (there : thread_at events one.place ≡ Some t) where
  -- no call began at the place of the open call
  pub no_call : call_at events one.place ≡ None → LeadsNowhere equal events c rest t other refused
  no_call none o past (Happens event) agrees moved run = absurd moved
  no_call none o past (Makes u step reply) agrees moved run =
      let h = found equal events c rest t one other refused o past step reply u has there agrees moved run in
      let no = h.call_is in
      absurd (let gone : ⊥ = cc in gone)

  module _ (own : Call T) (call_is : call_at events one.place ≡ Some own) where
    -- the call has no such move
    pub no_move : move_of own one.progress other ≡ None → LeadsNowhere equal events c rest t other refused
    no_move none o past (Happens event) agrees moved run = absurd moved
    no_move none o past (Makes u step reply) agrees moved run =
        let h = found equal events c rest t one other refused o past step reply u has there agrees moved run in
        let both : Some own ≡ Some h.own = sym call_is ∙ h.call_is in
        let same : own ≡ h.own = cc in
        absurd (h.moves (subst (λ (x : Call T). move_of x one.progress other ≡ None) same none))

    module _ (mv : Move) (chosen : move_of own one.progress other ≡ Some mv) where
      -- the step is that move
      is_made : (o : Opening) (past : List (Item T A)) (u : ℕ) (step : Step T) (reply : Reply T A) → Agrees equal events o past rest c
          → IsMove past t other refused (Makes u step reply) → IsRun o (steps_in (Makes u step reply ∷ past))
          → IsMade equal events c rest t one own mv refused o past step reply
      is_made o past u step reply agrees moved run =
          let h = found equal events c rest t one other refused o past step reply u has there agrees moved run in
          let both : Some own ≡ Some h.own = sym call_is ∙ h.call_is in
          let same : own ≡ h.own = cc in
          subst (λ (x : Call T). IsMade equal events c rest t one x mv refused o past step reply) (sym same)
          (h.outcome mv (subst (λ (x : Call T). move_of x one.progress other ≡ Some mv) same chosen))

      pub step_leads : (recorded : Option (Answer T A)) → first_answer t rest ≡ recorded → (want : Bool) → refused ≡ want → (new : State)
          → CallLeadsTo equal events c recorded one own mv want new → LeadsTo equal events c rest t other refused new
      step_leads recorded first want so new leads o past (Happens event) agrees moved run = absurd moved
      step_leads recorded first want so new leads o past (Makes u step reply) agrees moved run =
          let mine : u ≡ t = moved.0 in
          subst (λ (v : ℕ). Agrees equal events o (Makes v step reply ∷ past) rest new) (sym mine)
          (leads rest t other first chosen o past step reply
          (subst (λ (b : Bool). IsMade equal events c rest t one own mv b o past step reply) so
          (is_made o past u step reply agrees moved run)))

      pub step_wrong : (recorded : Option (Answer T A)) → first_answer t rest ≡ recorded → (want : Bool) → refused ≡ want
          → CallLeadsNowhere equal events c recorded one own mv want → LeadsNowhere equal events c rest t other refused
      step_wrong recorded first want so wrong o past (Happens event) agrees moved run = absurd moved
      step_wrong recorded first want so wrong o past (Makes u step reply) agrees moved run =
          let mine : u ≡ t = moved.0 in
          subst (λ (v : ℕ). IsWrong equal events (open_call (Makes v step reply ∷ past) t) (first_answer t rest)) (sym mine)
          (wrong rest t other first chosen o past step reply
          (subst (λ (b : Bool). IsMade equal events c rest t one own mv b o past step reply) so
          (is_made o past u step reply agrees moved run)))
