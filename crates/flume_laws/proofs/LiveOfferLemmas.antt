-- Offers whose tickets are live.
use Rattle.std.proofs.Common.{◌≡◌, ℕ, ◌+◌, ◌-◌, ◌≤◌, Bool, true, false, List, [], ◌∷◌, ◌++◌, take}
use Rattle.std.proofs.Common.{drop}
use Rattle.std.proofs.Common.{Option, Some, None, refl, ap, sym, ◌∙◌, arith, drop-drop}
use Rattle.std.proofs.Common.{take-append-drop, eq-eqb}
use Rattle.std.proofs.lemmas.Bool.{or_left, or_right, and_from, and_parts}
use Rattle.std.proofs.lemmas.Grind.{common_steps}
use Rattle.std.proofs.lemmas.List.Folds.{list_all-append}
use Rattle.std.specs.List.{list_all}
use Rattle.flume_model.specs.Log.{Offer, is_ticket}
use Rattle.flume_model.specs.Channel.{has_ticket}
use Rattle.flume_laws.proofs.MergeLemmas.{bit}

-- whether there is a ticket, and it is one of these
abbrev pub is_one_of : (ℕ → Bool) → Option ℕ → Bool
is_one_of live None = false
is_one_of live (Some t) = live t

module _ {T : Type 0} where
  -- whether each of these offers has a ticket that is live
  abbrev pub all_live : (ℕ → Bool) → List (Offer T) → Bool
  all_live live some = list_all (λ offer. is_one_of live offer.ticket) some

  -- of two lists
  pub live_parts : (live : ℕ → Bool) (xs ys : List (Offer T)) → all_live live (xs ++ ys) ≡ true
      → (all_live live xs ≡ true) × (all_live live ys ≡ true)
  live_parts live xs ys all =
      and_parts _ _ (sym (list_all-append (λ offer. is_one_of live offer.ticket) xs ys) ∙ all)

  pub live_both : (live : ℕ → Bool) (xs ys : List (Offer T)) → all_live live xs ≡ true
      → all_live live ys ≡ true → all_live live (xs ++ ys) ≡ true
  live_both live xs ys left right =
      list_all-append (λ offer. is_one_of live offer.ticket) xs ys ∙ and_from _ _ left right

  -- of those behind a later place, if some of the front are gone
  pub live_behind : (live : ℕ → Bool) (q d n : ℕ) (xs ys : List (Offer T)) → ys ≡ drop d xs
      → q ≤ d + n → all_live live (drop q xs) ≡ true → all_live live (drop n ys) ≡ true
  live_behind live q d n xs ys is le all =
      let k = d + n - q in
      let sum : q + k ≡ d + n = omega arith in
      ap (λ some. all_live live (drop n some)) is
      ∙ (ap (all_live live)
      (drop-drop n d xs ∙ (ap (λ i. drop i xs) (sym sum) ∙ sym (drop-drop k q xs)))
      ∙ (live_parts live (take k (drop q xs)) (drop k (drop q xs))
      (ap (all_live live) (take-append-drop k (drop q xs)) ∙ all)).1)

  -- if each ticket among them stays live
  pub live_still : (live later : ℕ → Bool) (xs : List (Offer T))
      → ((t : ℕ) → has_ticket t xs ≡ true → live t ≡ true → later t ≡ true)
      → all_live live xs ≡ true → all_live later xs ≡ true
  live_still live later [] each all = refl
  live_still live later (x ∷ xs) each all =
      let parts = and_parts (is_one_of live x.ticket) (all_live live xs) all in
      and_from _ _ (one x.ticket refl parts.0)
      (live_still live later xs (λ t is. each t (or_right _ _ is)) parts.1)
    where
      one : (ticket : Option ℕ) → x.ticket ≡ ticket → is_one_of live ticket ≡ true
          → is_one_of later ticket ≡ true
      one None e is = is
      one (Some t) e is = each t (or_left _ _ (ap (is_ticket t) e ∙ eq-eqb t t refl)) is

  -- if no ticket is live, no offer has a live one
  pub none_live : (live : ℕ → Bool) (some : List (Offer T)) → ((t : ℕ) → bit (live t) ≤ 0)
      → all_live live some ≡ true → some ≡ []
  none_live live [] none all = refl
  none_live live (x ∷ some) none all = grind (arith, common_steps, none)
