-- Which messages are in the line of a configuration, and which number in it has a message that is handed out later.
use Rattle.std.proofs.Common.{◌≡◌, inl, inr, ◌⊎◌, ℕ, zero, suc, ◌+◌, ◌-◌, ◌≤◌, ◌<◌, Bool, true, false, List, [], ◌∷◌, ◌++◌, Option, Some}
use Rattle.std.proofs.Common.{refl, sym, ap, ◌∙◌, subst, arith, length, take, drop, map, if◌then◌else◌}
use Rattle.std.proofs.lemmas.Bool.{or_parts}
use Rattle.std.specs.List.{slice_get, filter, take-map, drop-map}
use Rattle.std.specs.Option.{option_map_or}
use Rattle.flume_model.specs.Log.{Offer}
use Rattle.judge_calls.specs.declared.event.Event.{Event}
use Rattle.judge_calls.proofs.OffersMadeLemmas.{Lacks, lacks_at}
use Rattle.judge_search.specs.Configurations.{message_at}
use Rattle.judge_search.specs.Overtaking.{some_sends}

module _ {X : Type 0} where
  -- an element of two lists is in the first one, or in the second behind its length
  at_part : (xs ys : List X) (k : ℕ) (x : X) → slice_get (xs ++ ys) k ≡ Some x
      → ((k < length xs) × (slice_get xs k ≡ Some x)) ⊎ ((length xs ≤ k) × (slice_get ys (k - length xs) ≡ Some x))
  at_part [] ys k x at = inr (omega arith, subst (λ n. slice_get ys n ≡ Some x) (let same : k ≡ k - 0 = omega arith in same) at)
  at_part (y ∷ xs) ys zero x at = inl (omega arith, at)
  at_part (y ∷ xs) ys (suc k) x at =
      elim (at_part xs ys k x at) as (λ _. ((suc k < length (y ∷ xs)) × (slice_get (y ∷ xs) (suc k) ≡ Some x))
      ⊎ ((length (y ∷ xs) ≤ suc k) × (slice_get ys (suc k - length (y ∷ xs)) ≡ Some x))) [
        | inl h ↦ inl (let lt = h.0 in omega arith, h.1)
        | inr h ↦ inr (
          let le = h.0 in omega arith,
          subst (λ n. slice_get ys n ≡ Some x) (let same : k - length xs ≡ suc k - length (y ∷ xs) = omega arith in same) h.1,
        )
      ]

  -- of the first ones so many are left at most
  pub filtered_short : (f : X → Bool) (n : ℕ) (xs : List X) → length (filter f (take n xs)) ≤ n
  filtered_short f zero xs = omega arith
  filtered_short f (suc n) [] = omega arith
  filtered_short f (suc n) (x ∷ xs) = by (f x) (filtered_short f n xs)
    where
      by : (b : Bool) → length (filter f (take n xs)) ≤ n
          → length (if b then x ∷ filter f (take n xs) else filter f (take n xs)) ≤ suc n
      by true le = omega arith
      by false le = omega arith

  pub map_twice : {Y Z : Type 0} (f : Y → Z) (g : X → Y) (xs : List X) → map f (map g xs) ≡ map (λ x. f (g x)) xs
  map_twice f g [] = refl
  map_twice f g (x ∷ xs) = ap (λ l. f (g x) ∷ l) (map_twice f g xs)

module _ {T : Type 0} where
  pub lacks_filter : (such : T → Bool) (f : Offer T → Bool) (xs : List (Offer T)) → Lacks such xs → Lacks such (filter f xs)
  lacks_filter such f [] h = tt
  lacks_filter such f (x ∷ xs) h = by (lacks_filter such f xs h.1) (f x)
    where
      by : Lacks such (filter f xs) → (b : Bool) → Lacks such (if b then x ∷ filter f xs else filter f xs)
      by others true = (h.0, others)
      by others false = others

  -- Of three parts, the second has no `other` and the third no `such`. Then behind the first one no `such` comes after an `other`.
  pub not_after : (such other : T → Bool) (early middle rest : List (Offer T)) (j k : ℕ) (first second : Offer T) → length early ≤ j
      → j < k → slice_get (early ++ (middle ++ rest)) k ≡ Some first → slice_get (early ++ (middle ++ rest)) j ≡ Some second
      → Lacks other middle → Lacks such rest → such first.message ≡ true → other second.message ≡ true → ⊥
  not_after such other early middle rest j k first second behind lt first_at second_at no_other no_such is is_other =
      by (at_part early (middle ++ rest) k first first_at) (at_part early (middle ++ rest) j second second_at)
    where
      in_middle : (k - length early < length middle) → (j - length early < length middle)
          × (slice_get middle (j - length early) ≡ Some second) ⊎ (length middle ≤ j - length early)
          × (slice_get rest (j - length early - length middle) ≡ Some second) → ⊥
      in_middle within (inl h) =
          let none = lacks_at other middle (j - length early) second no_other h.1 in let no_way : ⊥ = cc in no_way
      in_middle within (inr h) = let le = h.0 in omega arith

      by_middle : (k - length early < length middle) × (slice_get middle (k - length early) ≡ Some first)
          ⊎ (length middle ≤ k - length early) × (slice_get rest (k - length early - length middle) ≡ Some first)
          → slice_get (middle ++ rest) (j - length early) ≡ Some second → ⊥
      by_middle (inl h) at = in_middle h.0 (at_part middle rest (j - length early) second at)
      by_middle (inr h) at =
          let none = lacks_at such rest (k - length early - length middle) first no_such h.1 in let no_way : ⊥ = cc in no_way

      by : (k < length early) × (slice_get early k ≡ Some first)
          ⊎ (length early ≤ k) × (slice_get (middle ++ rest) (k - length early) ≡ Some first)
          → (j < length early) × (slice_get early j ≡ Some second)
          ⊎ (length early ≤ j) × (slice_get (middle ++ rest) (j - length early) ≡ Some second) → ⊥
      by (inl h) at = let less = h.0 in omega arith
      by (inr h) (inl other_at) = let less = other_at.0 in omega arith
      by (inr h) (inr other_at) = by_middle (at_part middle rest (k - length early) first h.1) other_at.1

module _ {T A : Type 0} (events : List (Event T A)) where
  -- offers have the messages of the sends at these places
  abbrev pub AreAt : List ℕ → List (Offer T) → Type 0
  AreAt places offers = map (message_at events) places ≡ map (λ offer. Some offer.message) offers

  pub taken_at : (n : ℕ) (places : List ℕ) (offers : List (Offer T)) → AreAt places offers → AreAt (take n places) (take n offers)
  taken_at n places offers are =
      sym (take-map (message_at events) n places) ∙ ap (take n) are ∙ take-map (λ offer. Some offer.message) n offers

  pub dropped_at : (n : ℕ) (places : List ℕ) (offers : List (Offer T)) → AreAt places offers → AreAt (drop n places) (drop n offers)
  dropped_at n places offers are =
      sym (drop-map (message_at events) n places) ∙ ap (drop n) are ∙ drop-map (λ offer. Some offer.message) n offers

  -- so if none of the sends is of such a message, no offer is
  pub lacks_sends : (such : T → Bool) (places : List ℕ) (offers : List (Offer T)) → AreAt places offers
      → some_sends events such places ≡ false → Lacks such offers
  lacks_sends such [] [] are none = tt
  lacks_sends such [] (offer ∷ offers) are none = let no_way : ⊥ = cc in absurd no_way
  lacks_sends such (p ∷ places) [] are none = let no_way : ⊥ = cc in absurd no_way
  lacks_sends such (p ∷ places) (offer ∷ offers) are none =
      let one : message_at events p ≡ Some offer.message = cc in
      let others : AreAt places offers = cc in
      let apart = or_parts (option_map_or such (message_at events p) false) (some_sends events such places) none in (
        subst (λ (m : Option T). option_map_or such m false ≡ false) one apart.0,
        lacks_sends such places offers others apart.1,
      )
