-- The numbers of a worker from a place of the list on, and those that still lack.
use Rattle.std.proofs.Common.{◌≡◌, ℕ, ◌+◌, ◌-◌, ◌<◌, ◌≤◌, ◌⊎◌, inl, inr, ◌↔◌, List, [], ◌∷◌, drop, get_or}
use Rattle.std.proofs.Common.{suc, length, refl, sym, ◌∙◌, ap, arith}
use Rattle.std.specs.List.{range_with_len}
use Rattle.std.proofs.lemmas.Bool.{eq-eqb, ne_eqb}
use Rattle.std.proofs.lemmas.List.{drop_more}
use Rattle.std.proofs.lemmas.List.FromFn.{length-range_with_len}
use Rattle.std.proofs.Math.ListN.{drop_of_length-le}
use Rattle.mailbox.specs.InOrder.{numbers_of}

-- the numbers that lack while some do begin with the next one
lacking_from : (next : ℕ) → next ≤ 100
    → range_with_len next (101 - next) ≡ next ∷ range_with_len (next + 1) (101 - (next + 1))
lacking_from next le =
    let one_more : 101 - next ≡ suc (101 - (next + 1)) = omega arith in rw one_more refl

module _ (worker : ℕ) (pairs : List (ℕ × ℕ)) (place : ℕ) where
  -- a pair of this worker adds its number at the front
  of_worker : place < length pairs → (get_or pairs place (0, 0)).0 ≡ worker
      → numbers_of worker (drop place pairs)
      ≡ (get_or pairs place (0, 0)).1 ∷ numbers_of worker (drop (place + 1) pairs)
  of_worker within same =
      rw (drop_more pairs place (0, 0) within) (simp (eq-eqb _ _ same) refl)

  -- a pair of another one adds none
  of_another : place < length pairs → ((get_or pairs place (0, 0)).0 ≡ worker → ⊥)
      → numbers_of worker (drop place pairs) ≡ numbers_of worker (drop (place + 1) pairs)
  of_another within other =
      rw (drop_more pairs place (0, 0) within) (simp (ne_eqb _ _ other) refl)

  module _ {Whole : Type 0} (next : ℕ) (so_far : (numbers_of worker (drop place pairs) ≡ range_with_len next (101 - next)) ↔ Whole) where
    -- the next number of this worker: one less lacks
    pub after_next : place < length pairs → (get_or pairs place (0, 0)).0 ≡ worker
        → (get_or pairs place (0, 0)).1 ≡ next → next ≤ 100
        → (numbers_of worker (drop (place + 1) pairs) ≡ range_with_len (next + 1) (101 - (next + 1))) ↔ Whole
    after_next within same is_next le =
        let here = of_worker within same ∙ ap (λ number. number ∷ numbers_of worker (drop (place + 1) pairs)) is_next in (
          λ rest. so_far.0 (here ∙ ap (λ list. next ∷ list) rest ∙ sym (lacking_from next le)),
          λ all. ap (drop 1) (sym here ∙ so_far.1 all ∙ lacking_from next le),
        )

    -- a pair of another worker: the same lack
    pub after_another : place < length pairs → ((get_or pairs place (0, 0)).0 ≡ worker → ⊥)
        → (numbers_of worker (drop (place + 1) pairs) ≡ range_with_len next (101 - next)) ↔ Whole
    after_another within other =
        let here = of_another within other in
        (λ rest. so_far.0 (here ∙ rest), λ all. sym here ∙ so_far.1 all)

    -- another number of this worker, or one if none lacks: these aren't all
    pub not_all : place < length pairs → (get_or pairs place (0, 0)).0 ≡ worker
        → (100 < next) ⊎ ((get_or pairs place (0, 0)).1 ≡ next → ⊥) → Whole → ⊥
    not_all within same wrong all = by_cases wrong
      where
        here : (get_or pairs place (0, 0)).1 ∷ numbers_of worker (drop (place + 1) pairs) ≡ range_with_len next (101 - next)
        here = sym (of_worker within same) ∙ so_far.1 all

        long : suc (length (numbers_of worker (drop (place + 1) pairs))) ≡ 101 - next
        long = ap length here ∙ length-range_with_len next (101 - next)

        by_cases : (100 < next) ⊎ ((get_or pairs place (0, 0)).1 ≡ next → ⊥) → ⊥
        by_cases (inl past) = let too_many = long in omega arith
        by_cases (inr other) =
            let some = long in let le : next ≤ 100 = omega arith in
            other (ap (λ list. get_or list 0 0) (here ∙ lacking_from next le))

    -- at the end of the list these are all exactly if none lacks
    pub at_end : length pairs ≤ place → next ≤ 101 → (100 < next) ↔ Whole
    at_end past at_most =
        let none : numbers_of worker (drop place pairs) ≡ [] = rw (drop_of_length-le pairs past) refl in (
          λ over. so_far.0 (none ∙ (let over_all : 101 - next ≡ 0 = omega arith in rw over_all refl)),
          λ all. let long : 0 ≡ 101 - next = ap length (sym none ∙ so_far.1 all) ∙ length-range_with_len next (101 - next) in
              omega arith,
        )
