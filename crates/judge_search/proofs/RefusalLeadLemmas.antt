-- Where a refused move of an open call leads.
use Rattle.std.proofs.Common.{◌≡◌, ℕ, Some, Bool, true, false, List, ◌∷◌, Option, None, refl, sym, ◌∙◌, ap, subst}
use Rattle.flume_model.specs.declared.step.Reply.TheVariants.{NoMemory}
use Rattle.judge_calls.specs.declared.call.Call.{Call}
use Rattle.judge_calls.specs.declared.call.Answer.{Answer}
use Rattle.judge_calls.specs.declared.event.Event.{Event}
use Rattle.judge_calls.specs.declared.event.Item.TheVariants.{Makes}
use Rattle.judge_calls.specs.declared.stage.Stage.{Stage}
use Rattle.judge_calls.specs.Calls.{stage_after}
use Rattle.judge_search.specs.declared.configuration.OpenCall.{OpenCall}
use Rattle.judge_search.specs.declared.configuration.Progress.{Progress}
use Rattle.judge_search.specs.declared.configuration.Progress.TheVariants.{Done}
use Rattle.judge_search.specs.declared.step_of.Move.{Move}
use Rattle.judge_search.specs.Configurations.{State, with_progress, first_answer}
use Rattle.judge_search.specs.Agreement.{Agrees}
use Rattle.judge_search.specs.Moves.{step_for}
use Rattle.judge_search.specs.Leads.{CallLeadsTo, CallLeadsNowhere}
use Rattle.judge_search.specs.Progresses.{progress_of, clear_ticket, is_wrong}
use Rattle.judge_search.proofs.CallListLemmas.{progressed_same}
use Rattle.judge_search.proofs.ProgressLemmas.{progress_is}
use Rattle.judge_search.proofs.MoveFactLemmas.{IsAllowed, allowed, move_for, not_done, step_move}
use Rattle.judge_search.proofs.AnsweringLemmas.{ready}
use Rattle.judge_search.proofs.RefusedMoveLemmas.{KnowsPlace, refused_here}
use Rattle.judge_search.specs.Refusals.{may_be_refused}
use Rattle.judge_search.specs.declared.step_of.Move.TheVariants as move
use Rattle.flume_model.specs.declared.step.Step.{Step}
use Rattle.flume_model.specs.declared.step.Step.TheVariants.{Poll}
use Rattle.judge_calls.specs.Explanations.{steps_in}
use Rattle.std.proofs.lemmas.Bool.{false≢true}
use Rattle.judge_search.proofs.RefusingLemmas.{refused_agrees, refused_wrong}

-- a stage is the one of each call that is so far, apart from its ticket
abbrev pub StandsFor : {T A : Type 0} → Progress → Stage T A → Type 0
StandsFor {T} {A} p s = (own : Stage T A) → progress_of own ≡ p → (p ≡ Done → ⊥) → s ≡ clear_ticket own

module _ {T A : Type 0} (equal : T → T → Bool) (events : List (Event T A)) (c : State) (recorded : Option (Answer T A)) (one : OpenCall)
    (own : Call T) (mv : Move) where
  -- a move that can't be refused leads nowhere
  pub never_refused : may_be_refused mv one.place c ≡ false → CallLeadsNowhere equal events c recorded one own mv true
  never_refused never rest t other first chosen o past step reply outcome = absurd (false≢true (sym never ∙ may))
    where
      tickets : ℕ → ℕ
      tickets = outcome.agrees.tickets

      is_for : move_for step ≡ mv
      is_for = step_move own (tickets one.place) mv step outcome.step_is

      knows : (x : Step T) → step_for own (tickets one.place) mv ≡ Some x → move_for x ≡ mv
          → KnowsPlace events o (steps_in past) outcome.agrees.state c tickets
          one.place outcome.agrees.represents outcome.agrees.channel x
      knows (Poll n) is polls =
          let asks : ◌≡◌ {A = Option (Step T)} (Some (Poll (tickets one.place))) (Some (Poll n)) =
          subst (λ m. step_for own (tickets one.place) m ≡ Some (Poll n)) (sym polls) is in
          let same : n ≡ tickets one.place = cc in
          let allowed_so : IsAllowed own one.progress move.Poll = subst (IsAllowed own one.progress) (sym polls)
          (allowed own one.progress other mv chosen) in
          let parked_so = allowed_so.0 in (
            same,
            (ready equal events c t one own move.Poll tickets outcome.agrees.state.next_ticket outcome.agrees.threads_apart outcome.call_is
                (λ refused. absurd (let none : ⊥ = cc in none)) outcome.is_own outcome.agrees.parked allowed_so).0.from_parked,
          )
      knows _ is polls = tt

      may : may_be_refused mv one.place c ≡ true
      may = subst (λ m. may_be_refused m one.place c ≡ true) is_for
          (refused_here events o (steps_in past) outcome.agrees.state c tickets one.place outcome.agrees.represents outcome.agrees.channel
          step reply outcome.refused_is
          outcome.lawful (knows step outcome.step_is is_for))

  module _ (s after : Stage T A) (represents : StandsFor one.progress s) (after_is : after ≡ stage_after own s (NoMemory None)) where
    pub refusal_leads : is_wrong equal own recorded after ≡ false
        → CallLeadsTo equal events c recorded one own mv true (with_progress one.place (progress_of after) c)
    refusal_leads right rest t other first chosen o past step reply outcome =
        let so : s ≡ clear_ticket outcome.stage =
        represents outcome.stage (progress_is equal events own (first_answer t rest)
        (outcome.agrees.tickets one.place) one.progress outcome.stage
        outcome.progress_is) (not_done own one.progress other mv chosen) in
        let is : after ≡ stage_after own (clear_ticket outcome.stage) (NoMemory None) = after_is
        ∙ ap (λ (x : Stage T A). stage_after own x (NoMemory None)) so in
        subst (λ (x : Stage T A). Agrees equal events o (Makes t step reply ∷ past) rest (with_progress one.place (progress_of x) c))
        (sym is)
        (refused_agrees equal events c rest t one own mv other o past step reply outcome chosen
        (subst (λ (x : Stage T A). is_wrong equal own (first_answer t rest) x ≡ false) is
        (ap (λ (r : Option (Answer T A)). is_wrong equal own r after) first ∙ right)))

    pub refusal_same : is_wrong equal own recorded after ≡ false → progress_of after ≡ one.progress
        → CallLeadsTo equal events c recorded one own mv true c
    refusal_same right same rest t other first chosen o past step reply outcome =
        let calls = progressed_same equal events t c.calls one outcome.agrees.threads_apart outcome.is_own in
        let still : with_progress one.place (progress_of after) c ≡ c =
        ap (λ (p : Progress). with_progress one.place p c) same
        ∙ ap (λ (l : List OpenCall). let d : State = record c { calls = l } in d) calls in
        subst (λ (d : State). Agrees equal events o (Makes t step reply ∷ past) rest d) still
        (refusal_leads right rest t other first chosen o past step reply outcome)

    pub refusal_wrong : is_wrong equal own recorded after ≡ true → CallLeadsNowhere equal events c recorded one own mv true
    refusal_wrong wrong rest t other first chosen o past step reply outcome =
        let so : s ≡ clear_ticket outcome.stage =
        represents outcome.stage (progress_is equal events own (first_answer t rest)
        (outcome.agrees.tickets one.place) one.progress outcome.stage
        outcome.progress_is) (not_done own one.progress other mv chosen) in
        let is : after ≡ stage_after own (clear_ticket outcome.stage) (NoMemory None) = after_is
        ∙ ap (λ (x : Stage T A). stage_after own x (NoMemory None)) so in
        refused_wrong equal events c rest t one own mv other o past step reply outcome chosen
        (subst (λ (x : Stage T A). is_wrong equal own (first_answer t rest) x ≡ true) is
        (ap (λ (r : Option (Answer T A)). is_wrong equal own r after) first ∙ wrong))
