-- A message that was received was sent.
use Rattle.std.proofs.Common.{◌≡◌, ℕ, Bool, false, not, List, [], ◌∷◌, ap, ◌∙◌, subst}
use Rattle.flume_model.specs.Log.{Opening, Offer}
use Rattle.flume_model.specs.Offers.{offers, withdrawn}
use Rattle.flume_model.proofs.users.FilterPlaceLemmas.{filter_place, at_filter_place}
use Rattle.judge_calls.specs.declared.call.Answer.TheVariants.{Got}
use Rattle.judge_calls.specs.declared.event.Event.{Event}
use Rattle.judge_calls.specs.declared.event.Event.TheVariants.{Returns}
use Rattle.judge_calls.specs.declared.event.Item.{Item}
use Rattle.judge_calls.specs.declared.event.Item.TheVariants.{Happens}
use Rattle.judge_calls.specs.Explanations.{events_in, steps_in, IsExplanation, IsExplained}
use Rattle.judge_calls.specs.Patterns.{begins_send, IsUnsent}
use Rattle.judge_calls.proofs.BeginningLemmas.{older}
use Rattle.judge_calls.proofs.OffersMadeLemmas.{Lacks, lacks_at, offers_none, begins_none}
use Rattle.judge_calls.proofs.ReceivedLemmas.{HandedOut, received}
use Rattle.judge_calls.proofs.SplitItemLemmas.{told_all, split_at}

module _ {T A : Type 0} (equal : T → T → Bool) where
  -- what was received is one of the offers
  is_offered : (past : List (Item T A)) (recorded : T) → HandedOut equal past recorded → Lacks (equal recorded) (offers (steps_in past)) → ⊥
  is_offered past recorded k lacks =
      let log = steps_in past in
      let keeps : Offer T → Bool = λ offer. not (withdrawn log offer) in
      let none : equal recorded k.offer.message ≡ false =
      lacks_at (equal recorded) (offers log) (filter_place keeps (offers log) k.number) k.offer lacks
      (at_filter_place keeps (offers log) k.number k.offer k.is_kept) in
      let no_way : ⊥ = (let same = k.same in cc) in
      no_way

  -- so some call sends it that has begun
  returned_unsent : (o : Opening) (past : List (Item T A)) (t : ℕ) (recorded : T)
      → IsExplanation equal o (Happens (Returns t (Got recorded)) ∷ past) → begins_send (equal recorded) (events_in past) ≡ false → ⊥
  returned_unsent o past t recorded x none =
      is_offered past recorded (received equal o past (record { calls = x.calls.1; run = x.run }) t recorded x.calls.0)
      (offers_none (equal recorded) equal past x.calls.1 none)

  pub unsent : (o : Opening) (events : List (Event T A)) → IsExplained equal o events → IsUnsent equal events → ⊥
  unsent o events h pattern =
      let k = split_at h.0 pattern.before (Returns pattern.thread (Got pattern.message)) []
      (told_all h.0 ∙ h.1 ∙ pattern.parts) in
      returned_unsent o k.older pattern.thread pattern.message
      (older equal o k.newer _ (subst (IsExplanation equal o) k.parts h.2))
      (begins_none (equal pattern.message) (events_in k.older)
      (ap (begins_send (equal pattern.message)) k.older_are ∙ pattern.unsent))
