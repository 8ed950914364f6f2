-- What parties got is what was handed out, in its order.
use Rattle.std.proofs.Common.{◌≡◌, ℕ, zero, suc, Bool, false, List, [], ◌∷◌, ◌++◌, length, take}
use Rattle.std.proofs.Common.{◌≤◌, drop, map}
use Rattle.std.proofs.Common.{Option, Some, None, refl, ap, sym, subst, ◌∙◌, arith}
use Rattle.std.proofs.lemmas.List.{append-nil, append_assoc, nil_from_length, take-append-drop}
use Rattle.std.proofs.lemmas.Grind.{common_steps, flat_map-append}
use Rattle.std.specs.Prelude.{reverse}
use Rattle.std.specs.List.{flat_map, slice_get}
use mathlib.Core.List.{reverse_aux}
use Rattle.flume_model.specs.Log.{Log, Opening, Offer, HandOut, Shown, FilledIn, change, was_filled}
use Rattle.flume_model.specs.Offers.{hands_out, handed_out, hand_outs, kept}
use Rattle.flume_model.specs.Counts.{is_over}
use Rattle.flume_model.specs.Line.{messages, line}
use Rattle.flume_model.specs.Entries.{entry_of, held_by}
use Rattle.flume_model.specs.Fills.{FillIs, IsHandOutOf, shown}
use Rattle.flume_model.specs.Parked.{entries}
use Rattle.flume_model.specs.Replies.{IsRun}
use Rattle.flume_model.proofs.fills.FillsOrderLemmas.{in_order}
use Rattle.flume_model.proofs.order.KeptLemmas.{line_is_open}
use Rattle.flume_actions.specs.Actions.{Action}
use Rattle.flume_laws.specs.Together.{Interleaved}
use Rattle.flume_laws.proofs.TurnLemmas.{parked_of}
use Rattle.flume_laws.proofs.PartyLemmas.{Member, AreFree, parkers, Parties}
use Rattle.flume_laws.proofs.GotDueLemmas.{AreDue}
use Rattle.flume_laws.proofs.GotEntryLemmas.{stands, held_stands}
use Rattle.flume_laws.proofs.GotEffectLemmas.{as_list, final, in_hand}
use Rattle.flume_laws.proofs.GotRunLemmas.{to_come, Outcome, outcome}
use Rattle.flume_laws.proofs.StandingLemmas.{standing_first}

-- what none are left of is all
taken_all : {X : Type 0} (n : ℕ) (xs : List X) → drop n xs ≡ [] → take n xs ≡ xs
taken_all n xs none =
    sym (append-nil (take n xs))
    ∙ (ap (λ list. take n xs ++ list) (sym none) ∙ take-append-drop n xs)

module _ {T : Type 0} where
  -- if each hand-out is of the offer at its place, their messages are those of the first offers
  placed_messages : (seen : ℕ → Option T) (given : List (HandOut T)) (some : List (Offer T))
      → ((j : ℕ) (g : HandOut T) → slice_get given j ≡ Some g
      → (offer : Offer T) × (slice_get some j ≡ Some offer) × (final seen g ≡ offer.message ∷ []))
      → flat_map (final seen) given ≡ messages (take (length given) some)
  placed_messages seen [] some each = refl
  placed_messages seen (g ∷ given) [] each =
      let first = each zero g refl in
      let there = first.1 in
      absurd (let none : ⊥ = cc in none)
  placed_messages seen (g ∷ given) (x ∷ some) each =
      let first = each zero g refl in
      let there = first.1 in
      let same : x ≡ first.0 = cc in
      let one : final seen g ≡ x.message ∷ [] =
      first.2 ∙ ap (λ offer. offer.message ∷ []) (sym same) in
      ap (λ list. list ++ flat_map (final seen) given) one
      ∙ ap (λ list. x.message ∷ list) (placed_messages seen given some (λ j g e. each (suc j) g e))

  -- a fill is of what was shown, if no receiver holds a message
  fill_shown : (over : Bool) (got held : Option T) (m : T) → over ≡ false
      → (held ≡ Some m → ⊥) → FillIs over got held m → as_list got ≡ m ∷ []
  fill_shown over got held m open_ none is = grind (arith, common_steps)

module _ {T A : Type 0} where
  final_is : (o : Opening) (log : Log T A) (g : HandOut T) (m : T) → is_over log ≡ false
      → ((t : ℕ) → stands t (entries o log) ≡ 0) → IsHandOutOf (entries o log) log g m
      → final (shown log) g ≡ m ∷ []
  final_is o log (Shown given) m open_ nobody is = ap (λ x. x ∷ []) is
  final_is o log (FilledIn t) m open_ nobody is =
      fill_shown (is_over log) (shown log t) (held_by (entry_of t (entries o log))) m open_
      (λ held. omega (arith, nobody t, held_stands t m (entries o log) held)) is

  -- what was handed out and what is to come
  pub all_to_come : (seen : ℕ → Option T) (rest : List (Action T A)) (past : Log T A)
      → flat_map (final seen) (handed_out past) ++ to_come seen past rest
      ≡ flat_map (final seen) (handed_out (reverse_aux rest past))
  all_to_come seen [] past = append-nil (flat_map (final seen) (handed_out past))
  all_to_come seen (p ∷ rest) past =
      let now = hands_out (change past p.0 p.1) in
      let all = flat_map-append (final seen) (handed_out past) now in
      sym (append_assoc (flat_map (final seen) (handed_out past)) (flat_map (final seen) now)
      (to_come seen (p ∷ past) rest))
      ∙ (ap (λ list. list ++ to_come seen (p ∷ past) rest) (sym all)
      ∙ all_to_come seen rest (p ∷ past))

  -- of parties that are free
  free_dues : (held : Option ℕ → List T) (members : List (Member T A)) (dues : List (List T))
      → held None ≡ [] → AreFree members → AreDue held members dues
      → dues ≡ map (λ member. member.got) members
  free_dues held [] [] none free each = refl
  free_dues held [] (due ∷ dues) none free each = absurd each
  free_dues held (m ∷ members) [] none free each = absurd each
  free_dues held (m ∷ members) (due ∷ dues) none free each =
      let empty = ap (λ stand. held (parked_of stand)) free.0 ∙ none in
      let first : due ≡ m.got = sym (each.0 ∙ ap (λ list. list ++ due) empty) in
      let others = free_dues held members dues none free.1 each.1 in
      ap (λ list. list ∷ dues) first ∙ ap (λ lists. m.got ∷ lists) others

  -- what parties are due from the first action on, and how it stands in the end
  pub outcome_of : (opening : Opening) (most : ℕ) (history : List (Action T A))
      (sents gots : List (List T)) → IsRun opening (reverse history)
      → is_over (reverse history) ≡ false → (s : Parties history sents gots)
      → parkers s.members ≤ most
      → Outcome opening most (shown (reverse history)) [] history s.members
  outcome_of o most history sents gots run still s few =
      outcome o most (shown (reverse history)) history [] s.members run still (λ t. refl)
      (standing_first o most s.members s.free few) s.merged

  -- what each party got, merged, is what was handed out
  pub got_in_order : (opening : Opening) (history : List (Action T A)) (sents gots : List (List T))
      → IsRun opening (reverse history) → is_over (reverse history) ≡ false
      → Parties history sents gots
      → Interleaved gots (messages (take (hand_outs (reverse history)) (kept (reverse history))))
  got_in_order o history sents gots run still s =
      let log : Log T A = reverse history in
      let seen : ℕ → Option T = shown log in
      let end = outcome_of o (parkers s.members) history sents gots run still s (omega arith) in
      let given = free_dues (in_hand seen (was_filled {T = T} {A = A} [])) s.members end.due.dues
      refl s.free end.due.each ∙ s.gots_are in
      let all = all_to_come seen history [] in
      let order = in_order o log run in
      let placed = placed_messages seen (handed_out log) (kept log)
      (λ j g e.
      (let at = order j g e in
      (at.0, at.1, final_is o log g at.0.message still (λ t. sym (end.last.agree t)) at.2))) in
      subst (λ lists. Interleaved lists (messages (take (hand_outs log) (kept log)))) given
      (subst (Interleaved end.due.dues) (all ∙ placed) end.due.merged)

  -- if nothing is left, it is all that is kept of the offers
  pub got_all : (opening : Opening) (history : List (Action T A)) (sents gots : List (List T))
      → IsRun opening (reverse history)
      → (length (line (reverse history)) ≡ 0) × (is_over (reverse history) ≡ false)
      → Parties history sents gots → Interleaved gots (messages (kept (reverse history)))
  got_all o history sents gots run left parties =
      let log : Log T A = reverse history in
      let none = sym (line_is_open log left.1) ∙ nil_from_length (line log) left.0 in
      subst (λ list. Interleaved gots (messages list)) (taken_all (hand_outs log) (kept log) none)
      (got_in_order o history sents gots run left.1 parties)
