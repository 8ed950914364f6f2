-- Lists that are beginnings of others.
use Rattle.std.proofs.Common.{◌≡◌, ◌≤◌, List, [], ◌∷◌, ◌++◌, map, length, refl, sym}
use Rattle.std.proofs.Common.{◌⊎◌, inl, inr, arith}
use Rattle.std.proofs.lemmas.List.{map-append}
use mathlib.Core.List.{IsPrefix}
use native.Mathlib.Decide.{dec_le}
use base.Stored.{Gv, Coded}

module _ {X : Type 0} where
  -- of two beginnings of one list, one that is no longer begins the other
  no_longer : (xs ys zs : List X) → IsPrefix xs zs → IsPrefix ys zs → length xs ≤ length ys
      → IsPrefix xs ys
  no_longer [] ys zs p q le = (ys, refl)
  no_longer (x ∷ xs) [] zs p q le = absurd (omega arith)
  no_longer (x ∷ xs) (y ∷ ys) [] p q le = absurd (cc (p.1))
  no_longer (x ∷ xs) (y ∷ ys) (z ∷ zs) p q le =
      let heads : x ≡ y = cc (p.1, q.1) in
      let rest = no_longer xs ys zs (p.0, cc (p.1)) (q.0, cc (q.1)) (omega arith) in
      (rest.0, cc (heads, rest.1))

  -- of two beginnings of one list, one begins the other
  in_line : (xs ys zs : List X) → IsPrefix xs zs → IsPrefix ys zs → Dec (length xs ≤ length ys)
      → IsPrefix xs ys ⊎ IsPrefix ys xs
  in_line xs ys zs p q (yes shorter) = inl (no_longer xs ys zs p q shorter)
  in_line xs ys zs p q (no longer) = inr (no_longer ys xs zs q p (omega (arith, longer)))

module _ {X : Type 0} (c : Coded X) where
  -- what begins a list as codes begins it
  pub decoded_prefix : (xs ys : List X) → IsPrefix (map c.code xs) (map c.code ys)
      → IsPrefix xs ys
  decoded_prefix [] ys p = (ys, refl)
  decoded_prefix (x ∷ xs) [] p = absurd (cc (p.1))
  decoded_prefix (x ∷ xs) (y ∷ ys) p =
      let heads : c.code x ≡ c.code y = cc (p.1) in
      let same : x ≡ y = c.inj x y heads in
      let rest = decoded_prefix xs ys (p.0, cc (p.1)) in
      (rest.0, cc (same, rest.1))

  -- the codes of a list begin the codes of a longer one
  pub coded_prefix : (xs more : List X) → IsPrefix (map c.code xs) (map c.code (xs ++ more))
  coded_prefix xs more = (map c.code more, sym (map-append c.code xs more))

  decoded_in_line : (xs ys : List X)
      → IsPrefix (map c.code xs) (map c.code ys) ⊎ IsPrefix (map c.code ys) (map c.code xs)
      → IsPrefix xs ys ⊎ IsPrefix ys xs
  decoded_in_line xs ys (inl p) = inl (decoded_prefix xs ys p)
  decoded_in_line xs ys (inr p) = inr (decoded_prefix ys xs p)

  -- of two lists whose codes begin one list, one begins the other
  pub coded_in_line : (xs ys : List X) (codes : List Gv) → IsPrefix (map c.code xs) codes
      → IsPrefix (map c.code ys) codes → IsPrefix xs ys ⊎ IsPrefix ys xs
  coded_in_line xs ys codes p q =
      let first : List Gv = map c.code xs in
      let second : List Gv = map c.code ys in
      decoded_in_line xs ys (in_line first second codes p q (dec_le (length first) (length second)))
