-- Where a move of an open call leads that isn't refused.
use Rattle.std.proofs.Common.{◌≡◌, ℕ, Bool, true, false, List, ◌∷◌, Option, refl, sym, ◌∙◌, ap, ap₂, subst}
use Rattle.flume_model.specs.declared.step.Reply.{Reply}
use Rattle.judge_calls.specs.declared.call.Call.{Call}
use Rattle.judge_calls.specs.declared.call.Answer.{Answer}
use Rattle.judge_calls.specs.declared.event.Event.{Event}
use Rattle.judge_calls.specs.declared.event.Item.TheVariants.{Makes}
use Rattle.judge_calls.specs.declared.stage.Stage.{Stage}
use Rattle.judge_calls.specs.Calls.{stage_after}
use Rattle.judge_search.specs.declared.configuration.OpenCall.{OpenCall}
use Rattle.judge_search.specs.declared.configuration.Progress.{Progress}
use Rattle.judge_search.specs.declared.place_reply.PlaceReply.{PlaceReply}
use Rattle.judge_search.specs.declared.step_of.Move.{Move}
use Rattle.judge_search.specs.Configurations.{State, calls_with_progress, first_answer}
use Rattle.judge_search.specs.Outcomes.{outcome}
use Rattle.judge_search.specs.Mirrors.{Corresponds}
use Rattle.judge_search.specs.Agreement.{Agrees}
use Rattle.judge_search.specs.Leads.{CallLeadsTo, CallLeadsNowhere}
use Rattle.judge_search.specs.Progresses.{progress_of, clear_ticket, is_wrong}
use Rattle.judge_search.proofs.CallListLemmas.{progressed_same}
use Rattle.judge_search.proofs.EachMoveLemmas.{answers}
use Rattle.judge_search.proofs.ProgressLemmas.{progress_is}
use Rattle.judge_search.proofs.MoveFactLemmas.{not_done}
use Rattle.judge_search.proofs.RefusalLeadLemmas.{StandsFor}
use Rattle.judge_search.proofs.SteppingLemmas.{move_leads, move_wrong}

-- the configuration that a move left, with the call so far
abbrev pub left_with : State → OpenCall → Progress → State → State
left_with c one p left = record left { calls = calls_with_progress one.place p c.calls }

module _ {T A : Type 0} (equal : T → T → Bool) (events : List (Event T A)) (c : State) (recorded : Option (Answer T A)) (one : OpenCall)
    (own : Call T) (mv : Move) (reply_by_place : PlaceReply) (left : State) (made_is : (reply_by_place, left) ≡ outcome mv one.place c)
    (n : ℕ) (found : Reply T A)
    (corresponds : Corresponds events n c.queue reply_by_place found) (s after : Stage T A) (represents : StandsFor one.progress s)
    (after_is : after ≡ stage_after own s found) where
  told_is : Corresponds events n c.queue (outcome mv one.place c).0 found
  told_is = subst (λ (r : PlaceReply). Corresponds events n c.queue r found) (ap (λ (x : PlaceReply × State). x.0) made_is) corresponds

  left_is : left ≡ (outcome mv one.place c).1
  left_is = ap (λ (x : PlaceReply × State). x.1) made_is

  pub leads : is_wrong equal own recorded after ≡ false
      → CallLeadsTo equal events c recorded one own mv false (left_with c one (progress_of after) left)
  leads right rest t other first chosen o past step reply h =
      let so : s ≡ clear_ticket h.stage =
      represents h.stage (progress_is equal events own (first_answer t rest)
      (h.agrees.tickets one.place) one.progress h.stage h.progress_is)
      (not_done own one.progress other mv chosen) in
      let is : after ≡ stage_after own (clear_ticket h.stage) found = after_is ∙ ap (λ (x : Stage T A). stage_after own x found) so in
      subst (λ (d : State). Agrees equal events o (Makes t step reply ∷ past) rest d)
      (ap₂ (λ (x : Stage T A) (d : State). left_with c one (progress_of x) d) (sym is) (sym left_is))
      (move_leads equal events (answers events) c rest t one own mv other o past step reply h chosen n found told_is
      (subst (λ (x : Stage T A). is_wrong equal own (first_answer t rest) x ≡ false) is
      (ap (λ (r : Option (Answer T A)). is_wrong equal own r after) first ∙ right)))

  pub leads_same : is_wrong equal own recorded after ≡ false → progress_of after ≡ one.progress → left ≡ c
      → CallLeadsTo equal events c recorded one own mv false c
  leads_same right same stays rest t other first chosen o past step reply h =
      let calls = progressed_same equal events t c.calls one h.agrees.threads_apart h.is_own in
      let still : left_with c one (progress_of after) left ≡ c =
      ap₂ (λ (p : Progress) (d : State). left_with c one p d) same stays
      ∙ ap (λ (l : List OpenCall). let d : State = record c { calls = l } in d) calls in
      subst (λ (d : State). Agrees equal events o (Makes t step reply ∷ past) rest d) still
      (leads right rest t other first chosen o past step reply h)

  pub leads_wrong : is_wrong equal own recorded after ≡ true → CallLeadsNowhere equal events c recorded one own mv false
  leads_wrong wrong rest t other first chosen o past step reply h =
      let so : s ≡ clear_ticket h.stage =
      represents h.stage (progress_is equal events own (first_answer t rest)
      (h.agrees.tickets one.place) one.progress h.stage h.progress_is)
      (not_done own one.progress other mv chosen) in
      let is : after ≡ stage_after own (clear_ticket h.stage) found = after_is ∙ ap (λ (x : Stage T A). stage_after own x found) so in
      move_wrong equal events (answers events) c rest t one own mv other o past step reply h chosen n found told_is
      (subst (λ (x : Stage T A). is_wrong equal own (first_answer t rest) x ≡ true) is
      (ap (λ (r : Option (Answer T A)). is_wrong equal own r after) first ∙ wrong))
