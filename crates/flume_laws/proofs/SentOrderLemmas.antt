-- What some parties sent, together, is what is kept of the offers of a run, in their order.
use Rattle.std.proofs.Common.{◌≡◌, ℕ, ◌+◌, ◌≤◌, Bool, not, List, [], ◌∷◌, ◌++◌, map, refl, ap, sym}
use Rattle.std.proofs.Common.{◌∙◌, arith, subst}
use Rattle.std.proofs.lemmas.List.{reverse-reverse}
use Rattle.std.specs.Prelude.{reverse}
use Rattle.std.specs.List.{flat_map}
use Rattle.flume_model.specs.Log.{Log, Opening, Offer}
use Rattle.flume_model.specs.Offers.{withdrawn, kept}
use Rattle.flume_model.specs.Line.{messages}
use Rattle.flume_model.specs.Replies.{IsRun}
use Rattle.flume_model.proofs.order.KeptLemmas.{not_withdrawn}
use Rattle.flume_party.specs.Interleavings.{Interleaving}
use Rattle.flume_actions.specs.Actions.{Action}
use Rattle.flume_laws.specs.Together.{Interleaved}
use Rattle.flume_laws.proofs.MergeLemmas.{tally, tally_reverse, tally_merged, flat_merged}
use Rattle.flume_laws.proofs.PartyLemmas.{Member, actions_of, AreFree, Parties}
use Rattle.flume_laws.proofs.SentOfferLemmas.{sent_of, issues, returns, passes, messages_of}
use Rattle.flume_laws.proofs.SentOfferLemmas.{returned, not_returned, issued_once}
use Rattle.flume_laws.proofs.SentCourseLemmas.{blocked_under, kept_of, course_counts, Judges, judges_fewer, course_sent}

module _ {T A : Type 0} where
  -- parties that are free end each ticket as often as they issue it
  pub balanced : (members : List (Member T A)) (all : List (Action T A)) (t : ℕ) → AreFree members
      → Interleaved (actions_of members) all
      → tally (issues t) all ≡ tally (returns t) all + tally (passes t) all
  balanced [] all t free none = rw none refl
  balanced (m ∷ members) all t free merged = omega (
    arith,
    tally_merged (issues t) m.actions merged.0 all merged.2,
    tally_merged (returns t) m.actions merged.0 all merged.2,
    tally_merged (passes t) m.actions merged.0 all merged.2,
    ap (blocked_under t) free.0,
    course_counts t m.actions m.stand m.sent m.got m.course,
    balanced members merged.0 t free.1 merged.1,
  )

  -- what each party sent is what its actions offer and keep
  pub parties_sent : (keeps : Offer T → Bool) (members : List (Member T A)) (all : List (Action T A))
      → AreFree members → Interleaved (actions_of members) all → Judges keeps all
      → Interleaved (map (λ member. member.sent) members) (flat_map (sent_of keeps) all)
  parties_sent keeps [] all free none judges = ap (flat_map (sent_of keeps)) none
  parties_sent keeps (m ∷ members) all free merged judges =
      let f : Action T A → List T = sent_of keeps in
      let fewer = λ (some : List (Action T A))
      (less : (count : Action T A → ℕ) → tally count some ≤ tally count all).
      judges_fewer keeps all some judges (λ t. less (returns t)) (λ t. less (passes t)) in
      let own = course_sent keeps m.actions m.stand m.sent m.got m.course (fewer m.actions
      (λ count. omega (arith, tally_merged count m.actions merged.0 all merged.2))) in (
        flat_map f merged.0,
        parties_sent keeps members merged.0 free.1 merged.1 (fewer merged.0
            (λ count. omega (arith, tally_merged count m.actions merged.0 all merged.2))),
        subst (λ list. Interleaving list (flat_map f merged.0) (flat_map f all))
            (ap (λ stand. kept_of keeps stand ++ flat_map f m.actions) (sym free.0) ∙ own)
            (flat_merged f m.actions merged.0 all merged.2),
      )

  -- the actions of parties say of each offer of a run whether it is kept
  pub judged : (o : Opening) (history : List (Action T A)) → IsRun o (reverse history)
      → ((t : ℕ) → tally (issues t) history ≡ tally (returns t) history + tally (passes t) history)
      → Judges (λ offer. not (withdrawn (reverse history) offer)) history
  judged o history run same = record {
    at_once = λ m. ap not (not_withdrawn log m);
    gone = λ m t some.
        ap not (returned log m t (omega (arith, some, tally_reverse (returns t) history)));
    stays = λ m t some. ap not (not_returned log m t (omega (
      arith,
      some,
      same t,
      tally_reverse (returns t) history,
      tally_reverse (issues t) history,
      issued_once o log run t,
    )));
  }
    where
      log : Log T A
      log = reverse history

  -- what the parties sent is what is kept
  pub sent_in_order : (o : Opening) (history : List (Action T A)) (sents gots : List (List T))
      → IsRun o (reverse history) → Parties history sents gots
      → Interleaved sents (messages (kept (reverse history)))
  sent_in_order o history sents gots run s =
      let keeps = λ (offer : Offer T). not (withdrawn (reverse history) offer) in
      let same : flat_map (sent_of keeps) history ≡ messages (kept (reverse history)) =
      sym (messages_of keeps (reverse history)
      ∙ ap (flat_map (sent_of keeps)) (reverse-reverse history)) in
      subst (λ (both : List (List T) × List T). Interleaved both.0 both.1)
      (λ i. (s.sents_are i, same i))
      (parties_sent keeps s.members history s.free s.merged
      (judged o history run (λ t. balanced s.members history t s.free s.merged)))
