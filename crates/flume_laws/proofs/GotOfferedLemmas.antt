-- What one party got was offered, and kept.
use Rattle.std.proofs.Common.{◌≡◌, ℕ, zero, suc, Bool, true, false, not, List, [], ◌∷◌, Option, Some}
use Rattle.std.proofs.Common.{None, refl, ap, sym, subst, ◌∙◌}
use Rattle.std.proofs.lemmas.List.{reverse-reverse}
use Rattle.std.specs.Prelude.{reverse}
use Rattle.std.specs.List.{filter, flat_map, slice_get}
use Rattle.flume_model.specs.declared.step.Step.{Step}
use Rattle.flume_model.specs.declared.step.Step.TheVariants.{TrySend, Send}
use Rattle.flume_model.specs.declared.step.Reply.{Reply}
use Rattle.flume_model.specs.declared.step.Reply.TheVariants.{Sent, Pending}
use Rattle.flume_model.specs.Log.{Log, Opening, Offer, HandOut, Shown, FilledIn}
use Rattle.flume_model.specs.Offers.{handed_out, withdrawn, kept}
use Rattle.flume_model.specs.Counts.{is_over}
use Rattle.flume_model.specs.Line.{messages}
use Rattle.flume_model.specs.Entries.{entry_of, held_by}
use Rattle.flume_model.specs.Fills.{FillIs, IsHandOutOf, shown}
use Rattle.flume_model.specs.Parked.{entries}
use Rattle.flume_model.specs.Replies.{IsRun}
use Rattle.flume_model.proofs.fills.FillsOrderLemmas.{in_order}
use Rattle.flume_party.specs.Interleavings.{Interleaving}
use Rattle.flume_actions.specs.Actions.{Action}
use Rattle.flume_actions.specs.Calls.{AreCalls}
use Rattle.flume_laws.specs.Offered.{IsSublist, offered_by, offered_in, kept_in}
use Rattle.flume_laws.proofs.SublistLemmas.{none_of, all_of, some_of_some, some_of_both, some_of_each}
use Rattle.flume_laws.proofs.TurnLemmas.{Free}
use Rattle.flume_laws.proofs.CallLemmas.{calls_course}
use Rattle.flume_laws.proofs.GotEffectLemmas.{as_list, final}
use Rattle.flume_laws.proofs.GotInOrderLemmas.{all_to_come}
use Rattle.flume_laws.proofs.GotAmongLemmas.{due}
use Rattle.flume_laws.proofs.SentOfferLemmas.{sent_of, messages_of}

module _ {T : Type 0} where
  -- a fill shows nothing, or its message
  fill_among : (over : Bool) (got held : Option T) (m : T) → FillIs over got held m
      → IsSublist (as_list got) (m ∷ [])
  fill_among over None held m is = none_of (m ∷ [])
  fill_among over (Some x) held m is = subst (λ y. IsSublist (x ∷ []) (y ∷ [])) is (all_of (x ∷ []))

  -- if each hand-out is of the offer at its place, what was handed out is among the offers
  given_among : (seen : ℕ → Option T) (given : List (HandOut T)) (some : List (Offer T))
      → ((j : ℕ) (g : HandOut T) → slice_get given j ≡ Some g
      → (offer : Offer T) × (slice_get some j ≡ Some offer)
      × IsSublist (final seen g) (offer.message ∷ []))
      → IsSublist (flat_map (final seen) given) (messages some)
  given_among seen [] some each = none_of (messages some)
  given_among seen (g ∷ given) [] each =
      let first = each zero g refl in
      let there = first.1 in
      absurd (let none : ⊥ = cc in none)
  given_among seen (g ∷ given) (x ∷ some) each =
      let first = each zero g refl in
      let there = first.1 in
      let same : first.0 ≡ x = cc in
      some_of_both (subst (λ offer. IsSublist (final seen g) (offer.message ∷ [])) same first.2)
      (given_among seen given some (λ j g e. each (suc j) g e))

  -- an offer alone, which may be kept
  one_among : (keeps : Offer T → Bool) (x : Offer T)
      → IsSublist (messages (filter keeps (x ∷ []))) (x.message ∷ [])
  one_among keeps x = by_case (keeps x) refl
    where
      by_case : (b : Bool) → keeps x ≡ b
          → IsSublist (messages (filter keeps (x ∷ []))) (x.message ∷ [])
      by_case true is = rw is (all_of (x.message ∷ []))
      by_case false is = rw is (none_of (x.message ∷ []))

module _ {T A : Type 0} where
  -- the message of a hand-out is shown to nobody, or is its offer's
  final_among : (o : Opening) (log : Log T A) (g : HandOut T) (m : T)
      → IsHandOutOf (entries o log) log g m → IsSublist (final (shown log) g) (m ∷ [])
  final_among o log (Shown given) m is =
      subst (λ y. IsSublist (given ∷ []) (y ∷ [])) is (all_of (given ∷ []))
  final_among o log (FilledIn t) m is =
      fill_among (is_over log) (shown log t) (held_by (entry_of t (entries o log))) m is

  -- what is kept of an action's offer is of its offer
  kept_among : (keeps : Offer T → Bool) (step : Step T) (reply : Reply T A)
      → IsSublist (sent_of keeps (step, reply)) (offered_by step reply)
  kept_among keeps (TrySend m) (Sent filled) = one_among keeps (record { message = m; ticket = None })
  kept_among keeps (Send m) (Sent filled) = one_among keeps (record { message = m; ticket = None })
  kept_among keeps (Send m) (Pending t) = one_among keeps (record { message = m; ticket = Some t })
  kept_among keeps _ _ = none_of []

  -- what is kept was offered
  pub offered : (history : List (Action T A)) → IsSublist (kept_in history) (offered_in history)
  offered history =
      let log : Log T A = reverse history in
      let keeps = λ (offer : Offer T). not (withdrawn log offer) in
      let same : flat_map (sent_of keeps) history ≡ kept_in history =
      sym (messages_of keeps log ∙ ap (flat_map (sent_of keeps)) (reverse-reverse history)) in
      subst (λ list. IsSublist list (offered_in history)) same
      (some_of_each (sent_of keeps) (λ p. offered_by p.0 p.1) (λ p. kept_among keeps p.0 p.1) history)

  -- what a party got by whole calls is among what is kept, whatever others did
  pub got_kept : (o : Opening) {actions others history : List (Action T A)} {sent got : List T}
      → AreCalls actions sent got → Interleaving actions others history
      → IsRun o (reverse history) → IsSublist got (kept_in history)
  got_kept o {actions = actions} {history = history} {sent = sent} {got = got} calls among run =
      let log : Log T A = reverse history in
      let seen : ℕ → Option T = shown log in
      let order = in_order o log run in
      some_of_some
      (subst (IsSublist got) (all_to_come seen history [])
      (due o seen [] Free sent got among (calls_course actions sent got calls) run (λ t. refl)))
      (given_among seen (handed_out log) (kept log)
      (λ j g e.
      (let at = order j g e in
      (at.0, at.1, final_among o log g at.0.message at.2))))
