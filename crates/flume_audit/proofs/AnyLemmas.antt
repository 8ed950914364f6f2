-- Properties that some element of a list has.
use Rattle.std.proofs.Common.{ℕ, zero, suc, ◌<◌, ◌⊎◌, inl, inr, List, [], ◌∷◌, Any, length}
use Rattle.std.proofs.Common.{◌≡◌, All, map, get_or, refl, sym, ap, ◌∙◌, subst, arith}
use Rattle.std.proofs.Math.ListN.{get_or-map}
use Rattle.std.proofs.lemmas.List.{length-map, get_or_default}

module _ {X : Type 0} (Is : X → Type 0) where
  -- no element of the empty list has it
  pub none_of_empty : Any Is [] → ⊥
  none_of_empty any = let within : any.0 < 0 = any.2 in omega arith

  -- the first element has it
  pub first_is : (x : X) (xs : List X) → Is x → Any Is (x ∷ xs)
  first_is x xs is = (0, x, omega arith, refl, is)

  -- a later element has it
  pub later_is : (x : X) (xs : List X) → Any Is xs → Any Is (x ∷ xs)
  later_is x xs any = let within : any.0 < length xs = any.2 in
      (suc any.0, any.1, omega arith, any.3, any.4)

  -- the first element has it, or a later one
  pub first_or_later : (x : X) (xs : List X) → Any Is (x ∷ xs) → Is x ⊎ Any Is xs
  first_or_later x xs (zero, y, within, at, is) = inl (subst Is (sym at) is)
  first_or_later x xs (suc place, y, within, at, is) =
      inr (place, y, (let later : suc place < suc (length xs) = within in omega arith), at, is)

-- what has one property has another
pub any_as : {X : Type 0} (Is Also : X → Type 0) (xs : List X) → ((x : X) → Is x → Also x)
    → Any Is xs → Any Also xs
any_as Is Also xs also any = (any.0, any.1, any.2, any.3, also any.1 any.4)

-- what is at a place of the list has it
pub is_at : {X Y : Type 0} (what : X → Y) (Is : Y → Type 0) (list : List X) (place : ℕ) (x : X)
    → place < length list → x ≡ get_or list place x → Is (what x) → Any Is (map what list)
is_at what Is list place x within at is =
    (place, what x, rw length-map within, get_or-map what list place x ∙ sym (ap what at), is)

module _ {X : Type 0} where
  -- what is at a place of the list is an element of it
  pub any_at : (Is : X → Type 0) (list : List X) (place : ℕ) (other : X) → place < length list
      → Is (get_or list place other) → Any Is list
  any_at Is list place other within is = (
    place,
    get_or list place other,
    within,
    get_or_default list place (get_or list place other) other within,
    is,
  )

  -- if each element has a property that rules out another, none has the other
  pub any_none : (Is Also : X → Type 0) (list : List X) → ((x : X) → Is x → Also x → ⊥)
      → All Is list → Any Also list → ⊥
  any_none Is Also list not all any =
      not any.1 (subst Is any.3 (all any.0 any.1 any.2)) any.4
