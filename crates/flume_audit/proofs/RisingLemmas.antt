-- What a search finds in a list of receipts whose numbers rise as far as it looks.
use Rattle.std.proofs.Common.{◌≡◌, ℕ, zero, suc, ◌<◌, ◌≤◌, ◌≢◌, inl, inr, Bool, cond, List, [], ◌∷◌, length, get_or, filter, slice_get}
use Rattle.std.proofs.Common.{option_to_list, ltb, refl, ap, ◌∙◌, arith, nat_eq, lt-ltb, ltb-true, eq-eqb}
use Rattle.std.specs.List.Sorted.{IsPartitionedBy, IsPartitionPoint}
use Rattle.std.proofs.lemmas.Bool.{ne_eqb, cond-false, cond-true, cases_lt}
use Rattle.std.proofs.lemmas.Option.{slice_get_past, slice_get_read}
use Rattle.flume_audit.specs.declared.receipt.Receipt.{Receipt}
use Rattle.flume_audit.specs.Settled.{NotAbove}

module _ {T A : Type 0} (number : ℕ) where
  -- whether a receipt has the number
  abbrev pub is_numbered : Receipt T A → Bool
  is_numbered receipt = nat_eq receipt.number number

  -- whether a receipt's number is lower
  abbrev pub is_lower : Receipt T A → Bool
  is_lower receipt = ltb receipt.number number

  -- the numbers of all receipts that aren't above the one before them are above the number
  abbrev pub RisesPast : List (Receipt T A) → Type 0
  RisesPast list = (misplaced : ℕ) → NotAbove misplaced list → number < misplaced

  -- so they are in the list without its first
  rises_later : (x y : Receipt T A) (ys : List (Receipt T A)) → RisesPast (x ∷ y ∷ ys)
      → RisesPast (y ∷ ys)
  rises_later x y ys rises = λ misplaced not_above. rises misplaced (inr not_above)

  -- after a receipt with this number or a higher one, the next has a higher one
  next_is_higher : (x y : Receipt T A) (ys : List (Receipt T A)) → RisesPast (x ∷ y ∷ ys)
      → number ≤ x.number → number < y.number
  next_is_higher x y ys rises high = elim (cases_lt x.number y.number) [
    | inl above ↦ omega arith
    | inr le ↦ rises y.number (inl (refl, le))
  ]

  -- after it, each has a higher one
  each_is_higher : (x : Receipt T A) (xs : List (Receipt T A)) (place : ℕ) (other : Receipt T A)
      → RisesPast (x ∷ xs) → number ≤ x.number → place < length xs
      → number < (get_or xs place other).number
  each_is_higher x [] place other rises high within = absurd (omega arith)
  each_is_higher x (y ∷ ys) zero other rises high within = next_is_higher x y ys rises high
  each_is_higher x (y ∷ ys) (suc place) other rises high within =
      let higher : number < y.number = next_is_higher x y ys rises high in
      each_is_higher y ys place other (rises_later x y ys rises) (omega arith) (omega arith)

  -- after it, none has this number
  none_after : (x : Receipt T A) (xs : List (Receipt T A)) → RisesPast (x ∷ xs)
      → number ≤ x.number → filter is_numbered xs ≡ []
  none_after x [] rises high = refl
  none_after x (y ∷ ys) rises high =
      let higher : number < y.number = next_is_higher x y ys rises high in
      let other : y.number ≢ number = omega arith in
      cond-false _ _ _ (ne_eqb _ _ other)
      ∙ none_after y ys (rises_later x y ys rises) (omega arith)

  -- no receipt with a lower number comes after one with this number or a higher one
  pub lower_come_first : (list : List (Receipt T A)) → RisesPast list
      → IsPartitionedBy is_lower list
  lower_come_first [] rises i j other le within lower = absurd (omega arith)
  lower_come_first (x ∷ []) rises zero zero other le within lower = lower
  lower_come_first (x ∷ []) rises i (suc j) other le within lower = absurd (omega arith)
  lower_come_first (x ∷ []) rises (suc i) zero other le within lower = absurd (omega arith)
  lower_come_first (x ∷ y ∷ ys) rises zero zero other le within lower = lower
  lower_come_first (x ∷ y ∷ ys) rises (suc i) zero other le within lower = absurd (omega arith)
  lower_come_first (x ∷ y ∷ ys) rises zero (suc j) other le within lower =
      elim (cases_lt x.number number) [
        | inl below ↦ lt-ltb _ _ below
        | inr high ↦
            let later : j < length (y ∷ ys) = omega arith in
            let higher = each_is_higher x (y ∷ ys) j other rises high later in
            let below = ltb-true _ _ lower in
            absurd (omega (arith, higher, below))
      ]
  lower_come_first (x ∷ y ∷ ys) rises (suc i) (suc j) other le within lower =
      lower_come_first (y ∷ ys) (rises_later x y ys rises) i j other (omega arith) (omega arith)
      lower

  -- if the receipts before a place have lower numbers and those from it on do not, no receipt but
  -- the one at that place has the number
  one_at_place : (list : List (Receipt T A)) (place : ℕ) → RisesPast list
      → ((k : ℕ) (other : Receipt T A) → k < place → (get_or list k other).number < number)
      → ((k : ℕ) (other : Receipt T A) → place ≤ k → k < length list
      → number ≤ (get_or list k other).number)
      → filter is_numbered list ≡ filter is_numbered (option_to_list (slice_get list place))
  one_at_place [] place rises before after = refl
  one_at_place (x ∷ xs) zero rises before after =
      ap (λ rest. cond (nat_eq x.number number) (x ∷ rest) rest)
      (none_after x xs rises (after 0 x (omega arith) (omega arith)))
  one_at_place (x ∷ []) (suc place) rises before after =
      let below : x.number < number = before 0 x (omega arith) in
      let other : x.number ≢ number = omega arith in
      cond-false _ _ _ (ne_eqb _ _ other)
  one_at_place (x ∷ y ∷ ys) (suc place) rises before after =
      let below : x.number < number = before 0 x (omega arith) in
      let other : x.number ≢ number = omega arith in
      cond-false _ _ _ (ne_eqb _ _ other)
      ∙ one_at_place (y ∷ ys) place (rises_later x y ys rises)
      (λ k other lt. before (suc k) other (omega arith))
      (λ k other le lt. after (suc k) other (omega arith) (omega arith))

  module _ (list : List (Receipt T A)) (place : ℕ) (rises : RisesPast list)
      (point : IsPartitionPoint (λ x. x.number < number) (λ x. number ≤ x.number) list place) where
    -- the receipts with the number are those at that place with it
    at_place : filter is_numbered list ≡ filter is_numbered (option_to_list (slice_get list place))
    at_place = one_at_place list place rises
        (λ k other lt. point.0 k other (omega arith) lt) (λ k other le lt. point.1 k other le lt)

    -- past the end there is none
    pub none_past : length list ≤ place → filter is_numbered list ≡ []
    none_past past = at_place
        ∙ ap (λ found. filter is_numbered (option_to_list found)) (slice_get_past list place past)

    module _ (receipt : Receipt T A) (within : place < length list)
        (at : receipt ≡ get_or list place receipt) where
      -- the receipts with the number are the one at that place, if it has it
      this_at_place : filter is_numbered list ≡ filter is_numbered (receipt ∷ [])
      this_at_place = at_place
          ∙ ap (λ found. filter is_numbered (option_to_list found))
          (slice_get_read list (length list) place receipt refl within at)

      -- it has it
      pub the_one : receipt.number ≡ number → filter is_numbered list ≡ receipt ∷ []
      the_one same = this_at_place ∙ cond-true _ _ _ (eq-eqb _ _ same)

      -- it has another
      pub none_other : receipt.number ≢ number → filter is_numbered list ≡ []
      none_other other = this_at_place ∙ cond-false _ _ _ (ne_eqb _ _ other)
