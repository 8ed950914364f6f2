-- The least number with one property or another.
use Rattle.std.proofs.Common.{◌≡◌, ℕ, ◌≤◌, ◌⊎◌, ◌↔◌, inl, inr, Option, Some, None, min, List, [], ◌∷◌, Any, refl, ap, arith}
use Rattle.std.proofs.Math.Nat.{min-eq_left, min-eq_right}
use Rattle.std.proofs.lemmas.Bool.{cases_lt}
use Rattle.flume_audit.specs.Misplaced.{IsLeast, lesser}
use Rattle.flume_audit.proofs.AnyLemmas.{first_is, later_is, first_or_later, none_of_empty}

-- the least number with a property is the least with one that the same numbers have
pub least_same : (Is Also : ℕ → Type 0) (answer : Option ℕ)
    → ((number : ℕ) → Is number ↔ Also number) → IsLeast Is answer → IsLeast Also answer
least_same Is Also (Some least) same is =
    ((same least).0 is.0, λ number also. is.1 number ((same number).1 also))
least_same Is Also None same is = λ number also. is number ((same number).1 also)

-- the lesser of two has one of the two properties
lesser_is : (Is Also : ℕ → Type 0) (one other : ℕ) → Is one → Also other
    → Is (min one other) ⊎ Also (min one other)
lesser_is Is Also one other is also = elim (cases_lt other one) [
  | inl below ↦ let le : other ≤ one = omega arith in rw min-eq_right (inr also)
  | inr le ↦ rw min-eq_left (inl is)
]

-- the lesser of the least numbers with two properties is the least number with one of them
pub least_either : (Is Also : ℕ → Type 0) (one other : Option ℕ) → IsLeast Is one
    → IsLeast Also other → IsLeast (λ number. Is number ⊎ Also number) (lesser one other)
least_either Is Also (Some one) (Some other) is also = (
  lesser_is Is Also one other is.0 also.0,
  λ number. elim [
    | inl here ↦ (let le : one ≤ number = is.1 number here in omega arith)
    | inr there ↦ (let le : other ≤ number = also.1 number there in omega arith)
  ],
)
least_either Is Also (Some one) None is also = (
  inl is.0,
  λ number. elim [ inl here ↦ is.1 number here | inr there ↦ absurd (also number there) ],
)
least_either Is Also None (Some other) is also = (
  inr also.0,
  λ number. elim [ inl here ↦ absurd (is number here) | inr there ↦ also.1 number there ],
)
least_either Is Also None None is also =
    λ number. elim [ inl here ↦ is number here | inr there ↦ also number there ]

-- the lesser of three, taken from either end
pub lesser_assoc : (one other third : Option ℕ)
    → lesser (lesser one other) third ≡ lesser one (lesser other third)
lesser_assoc (Some one) (Some other) (Some third) = ap Some (omega arith)
lesser_assoc (Some one) (Some other) None = refl
lesser_assoc (Some one) None (Some third) = refl
lesser_assoc (Some one) None None = refl
lesser_assoc None other third = refl

-- the lesser of a number and none is the number
pub lesser_none : (one : Option ℕ) → lesser one None ≡ one
lesser_none (Some one) = refl
lesser_none None = refl

-- in a list of one element and others, it is the lesser of that of the element and of the others
pub least_of_any : {X : Type 0} (Is : ℕ → X → Type 0) (x : X) (xs : List X) (one other : Option ℕ)
    → IsLeast (λ number. Is number x) one → IsLeast (λ number. Any (Is number) xs) other
    → IsLeast (λ number. Any (Is number) (x ∷ xs)) (lesser one other)
least_of_any Is x xs one other here there =
    least_same (λ number. Is number x ⊎ Any (Is number) xs) (λ number. Any (Is number) (x ∷ xs))
    (lesser one other)
    (λ number. (
      elim [ inl is ↦ first_is (Is number) x xs is | inr is ↦ later_is (Is number) x xs is ],
      first_or_later (Is number) x xs,
    ))
    (least_either (λ number. Is number x) (λ number. Any (Is number) xs) one other here there)

-- in the empty list there is none
pub least_of_none : {X : Type 0} (Is : ℕ → X → Type 0)
    → IsLeast (λ number. Any (Is number) []) None
least_of_none Is = λ number any. none_of_empty (Is number) any
