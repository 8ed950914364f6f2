-- What some parties sent before others sent comes before what those sent.
use Rattle.std.proofs.Common.{◌≡◌, ℕ, ◌≤◌, Bool, true, false, not, List, [], ◌∷◌, ◌++◌, Option}
use Rattle.std.proofs.Common.{Some}
use Rattle.std.proofs.Common.{refl, ap, sym, subst, ◌∙◌, arith}
use Rattle.std.proofs.lemmas.Grind.{flat_map-append}
use Rattle.std.proofs.lemmas.List.{reverse-reverse}
use Rattle.std.specs.Prelude.{reverse}
use Rattle.std.specs.List.{flat_map, filter}
use Rattle.flume_model.specs.declared.step.Step.{Step}
use Rattle.flume_model.specs.declared.step.Step.TheVariants.{TrySend, Send}
use Rattle.flume_model.specs.declared.step.Reply.{Reply}
use Rattle.flume_model.specs.Log.{Log, Offer, opens}
use Rattle.flume_model.specs.Offers.{withdrawn, kept}
use Rattle.flume_model.specs.Line.{messages}
use Rattle.flume_party.specs.Interleavings.{Interleaving}
use Rattle.flume_party.proofs.InterleavingLemmas.{interleaved_swap}
use Rattle.flume_actions.specs.Actions.{Action, IsWhole, is_of_party, moves_message}
use Rattle.flume_laws.specs.Together.{Interleaved, EachAreCalls, AreExchangedInPhases}
use Rattle.flume_laws.proofs.MergeLemmas.{tally, tally_append, tally_merged, filter_merged}
use Rattle.flume_laws.proofs.MergeLemmas.{flat_merged, leave_out}
use Rattle.flume_laws.proofs.PartyLemmas.{calling, all_parties}
use Rattle.flume_laws.proofs.SentOfferLemmas.{sent_of, returns, passes, messages_of}
use Rattle.flume_laws.proofs.SentCourseLemmas.{Judges, judges_fewer}
use Rattle.flume_laws.proofs.SentOrderLemmas.{balanced, parties_sent, judged}
use Rattle.flume_laws.proofs.GotInOrderLemmas.{got_all}
use Rattle.flume_laws.proofs.JoinLemmas.{one_behind, joined, both_calls}

module _ {T A : Type 0} where
  -- an action that moves no message offers none
  none_sent : (keeps : Offer T → Bool) (step : Step T) (reply : Reply T A)
      → moves_message step ≡ false → sent_of keeps (step, reply) ≡ []
  none_sent keeps (TrySend message) reply is = absurd cc
  none_sent keeps (Send message) reply is = absurd cc
  none_sent keeps _ reply is = refl

  -- so what is offered is what parties offer
  sent_by_parties : (keeps : Offer T → Bool) (history : List (Action T A))
      → flat_map (sent_of keeps) history ≡ flat_map (sent_of keeps) (filter is_of_party history)
  sent_by_parties keeps [] = refl
  sent_by_parties keeps (p ∷ later) =
      by_case (is_of_party p) refl (sent_by_parties keeps later)
    where
      by_case : (b : Bool) → is_of_party p ≡ b
          → flat_map (sent_of keeps) later ≡ flat_map (sent_of keeps) (filter is_of_party later)
          → flat_map (sent_of keeps) (p ∷ later)
          ≡ flat_map (sent_of keeps) (filter is_of_party (p ∷ later))
      by_case true is rest = rw is (ap (λ list. sent_of keeps p ++ list) rest)
      by_case false is rest = rw is
          (ap (λ list. list ++ flat_map (sent_of keeps) later) (none_sent keeps p.0 p.1 is) ∙ rest)

  -- what parties sent is what their actions offer and keep
  sent_by_some : (keeps : Offer T → Bool) (history some : List (Action T A))
      (parties : List (List (Action T A))) (sents gots : List (List T)) → Judges keeps history
      → ((count : Action T A → ℕ) → tally count some ≤ tally count history)
      → EachAreCalls parties sents gots → Interleaved parties some
      → Interleaved sents (flat_map (sent_of keeps) some)
  sent_by_some keeps history some parties sents gots judges fewer calls merged =
      let s = calling parties sents gots some calls merged in
      subst (λ lists. Interleaved lists (flat_map (sent_of keeps) some)) s.sents_are
      (parties_sent keeps s.members some s.free s.merged (judges_fewer keeps history some judges
      (λ t. fewer (returns t)) (λ t. fewer (passes t))))

  pub in_phases : {capacity : Option ℕ} {parties parties' parties'' : List (List (Action T A))}
      {others all : List (Action T A)} (early late : List (Action T A))
      {sents sents' sents'' gots gots' gots'' : List (List T)}
      → Interleaved parties early → EachAreCalls parties sents gots
      → Interleaved parties' late → EachAreCalls parties' sents' gots'
      → Interleaved parties'' others → EachAreCalls parties'' sents'' gots''
      → Interleaving (early ++ late) others all → IsWhole capacity all (Some 0)
      → AreExchangedInPhases sents sents' sents'' (gots'' ++ (gots' ++ gots))
  in_phases {capacity = capacity} {parties = parties} {parties' = parties'} {parties'' = parties''}
      {others = others} {all = all} early late {sents = sents} {sents' = sents'}
      {sents'' = sents''} {gots = gots} {gots' = gots'} {gots'' = gots''}
      merged calls merged' calls' merged'' calls'' both whole =
      let o = opens capacity 1 in
      let history = whole.history in
      let log : Log T A = reverse history in
      let keeps : Offer T → Bool = λ offer. not (withdrawn log offer) in
      let f : Action T A → List T = sent_of keeps in
      let everyone = joined parties'' (parties' ++ parties) merged''
      (joined parties' parties merged' merged
      (interleaved_swap early late (early ++ late) (one_behind early late)))
      (interleaved_swap (early ++ late) others all both) in
      let s = all_parties history (parties'' ++ (parties' ++ parties))
      (sents'' ++ (sents' ++ sents)) (gots'' ++ (gots' ++ gots))
      (subst (Interleaved (parties'' ++ (parties' ++ parties))) whole.all everyone)
      (both_calls calls'' (both_calls calls' calls)) in
      let judges = judged o history whole.run (λ t. balanced s.members history t s.free s.merged) in
      let count_all = λ (count : Action T A → ℕ). tally_merged count
      (filter (λ p. not (is_of_party p)) history) (filter is_of_party history) history
      (filter_merged is_of_party history) in
      let count_parties = λ (count : Action T A → ℕ). ap (tally count) whole.all in
      let count_some = λ (count : Action T A → ℕ).
      tally_merged count (early ++ late) others all both in
      let count_both = λ (count : Action T A → ℕ). tally_append count early late in
      let line : flat_map f all ≡ messages (kept log) =
      ap (flat_map f) whole.all
      ∙ (sym (sent_by_parties keeps history)
      ∙ sym (messages_of keeps log ∙ ap (flat_map f) (reverse-reverse history))) in (
        flat_map f early,
        flat_map f late,
        flat_map f others,
        messages (kept log),
        sent_by_some keeps history early parties sents gots judges
            (λ count. omega (
              arith,
              count_all count,
              count_parties count,
              count_some count,
              count_both count,
            )) calls merged,
        sent_by_some keeps history late parties' sents' gots' judges
            (λ count. omega (
              arith,
              count_all count,
              count_parties count,
              count_some count,
              count_both count,
            )) calls' merged',
        sent_by_some keeps history others parties'' sents'' gots'' judges
            (λ count. omega (
              arith,
              count_all count,
              count_parties count,
              count_some count,
              count_both count,
            )) calls'' merged'',
        subst (λ (ends : List T × List T). Interleaving ends.0 (flat_map f others) ends.1)
            (λ i. (flat_map-append f early late i, line i))
            (flat_merged f (early ++ late) others all both),
        leave_out (gots'' ++ (gots' ++ gots)) (messages (kept log))
            (got_all o history _ _ whole.run (whole.counted 0 refl) s),
      )
