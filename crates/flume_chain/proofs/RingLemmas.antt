-- A ring of places: each has one after it and one before it, and `nil` closes it.
use Rattle.std.proofs.Common.{◌≡◌, ℕ, suc, ◌+◌, ◌≤◌, ◌==◌, List, [], ◌∷◌, ◌++◌, false, map, length, refl, sym}
use Rattle.std.proofs.Common.{ap, ap₂, ◌∙◌, inl, inr, arith, length-append, if◌then◌else◌, eq-eqb, ne_eqb}
use Rattle.std.proofs.lemmas.Bool.{cases_Bool, cases_eq, eqb-false}
use Rattle.flume_chain.specs.Links.{nil, with}
use Rattle.flume_chain.specs.ChainState.{once, times}

-- a place is as often in two lists joined as in both
pub times-append : (k : ℕ) (xs ys : List ℕ) → times k (xs ++ ys) ≡ times k xs + times k ys
times-append k [] ys = omega arith
times-append k (x ∷ xs) ys = let e = times-append k xs ys in omega arith

-- a place is the same as itself
pub once_same : (k : ℕ) → once k k ≡ 1
once_same k = ap (λ b. if b then 1 else 0) (eq-eqb k k refl)

-- two places of which neither is the other's once are two
pub once_none : (x k : ℕ) → once x k ≡ 0 → (x == k) ≡ false
once_none x k h = elim (cases_Bool (x == k)) [
  | inl e ↦ absurd (let one : once x k ≡ 1 = ap (λ b. if b then 1 else 0) e in omega arith)
  | inr e ↦ e
]

-- of two places neither is the other's once
pub once_back : (x k : ℕ) → once x k ≡ 0 → once k x ≡ 0
once_back x k h =
    ap (λ b. if b then 1 else 0) (ne_eqb k x (λ e. eqb-false x k (once_none x k h) (sym e)))

-- one more place, that was in none of the lists counted, is once in all of them
pub once_more : (count : ℕ → ℕ) (c k : ℕ) → count c ≡ 0 → count k ≤ 1 → once c k + count k ≤ 1
once_more count c k none most = elim (cases_eq c k) [
  | inl e ↦ (
      let zero_here : count k ≡ 0 = ap count (sym e) ∙ none in
      let one : once c k ≡ 1 = ap (λ b. if b then 1 else 0) (eq-eqb c k e) in
      omega arith
      )
  | inr ne ↦ (let none_here : once c k ≡ 0 = ap (λ b. if b then 1 else 0) (ne_eqb c k ne) in omega arith)
]

module _ {X : Type 0} where
  -- what is written at a place is read there
  pub with_same : (f : ℕ → X) (k : ℕ) (v : X) → with f k v k ≡ v
  with_same f k v = ap (λ b. if b then v else f k) (eq-eqb k k refl)

  -- what is written at a place is not read at another
  pub with_other : (f : ℕ → X) (k : ℕ) (v : X) (x : ℕ) → once x k ≡ 0 → with f k v x ≡ f x
  with_other f k v x h = ap (λ b. if b then v else f x) (once_none x k h)

  -- what is written at a place is read at none of others
  pub map_with : (f : ℕ → X) (k : ℕ) (v : X) (xs : List ℕ) → times k xs ≡ 0 → map (with f k v) xs ≡ map f xs
  map_with f k v [] h = refl
  map_with f k v (x ∷ xs) h =
      ap₂ (λ (y : X) (ys : List X). y ∷ ys) (with_other f k v x (omega arith)) (map_with f k v xs (omega arith))

-- a function that takes two lists to two others, the first to one as long, takes each to its own
pub record Parts (f : ℕ → ℕ) (us vs xs ws : List ℕ) : Type 0 where
  pub ahead : map f us ≡ xs
  pub behind : map f vs ≡ ws

-- such a function is known from the lists joined
pub parts : (f : ℕ → ℕ) (us vs xs ws : List ℕ) → length us ≡ length xs → map f (us ++ vs) ≡ xs ++ ws → Parts f us vs xs ws
parts f [] vs [] ws l e = record { ahead = refl; behind = e }
parts f [] vs (x ∷ xs) ws l e = absurd (omega arith)
parts f (u ∷ us) vs [] ws l e = absurd (omega arith)
parts f (u ∷ us) vs (x ∷ xs) ws l e =
    let tails : map f (us ++ vs) ≡ xs ++ ws = cc in
    let r = parts f us vs xs ws (omega arith) tails in
    let heads : f u ≡ x = cc in
    record { ahead = ap₂ (λ (y : ℕ) (ys : List ℕ). y ∷ ys) heads r.ahead; behind = r.behind }

-- a list that isn't empty as its front and its last
pub record Ends (x : ℕ) (xs : List ℕ) : Type 0 where
  pub front : List ℕ
  pub last : ℕ
  pub is : x ∷ xs ≡ front ++ last ∷ []
  pub long : length front ≡ length xs

-- each list that isn't empty has a front and a last
pub ends : (x : ℕ) (xs : List ℕ) → Ends x xs
ends x [] = record { front = []; last = x; is = refl; long = refl }
ends x (y ∷ ys) =
    let r = ends y ys in
    record { front = x ∷ r.front; last = r.last; is = ap (λ (l : List ℕ). x ∷ l) r.is; long = ap suc r.long }

-- a list that has one more at its end as its head and its rest
pub record Begins (xs : List ℕ) (y : ℕ) : Type 0 where
  pub head : ℕ
  pub rest : List ℕ
  pub is : xs ++ y ∷ [] ≡ head ∷ rest
  pub long : length rest ≡ length xs

-- each list that has one more at its end has a head and a rest
pub begins : (xs : List ℕ) (y : ℕ) → Begins xs y
begins [] y = record { head = y; rest = []; is = refl; long = refl }
begins (x ∷ xs) y = record { head = x; rest = xs ++ y ∷ []; is = refl; long = simp length-append (omega arith) }

-- f leads round the ring of these places, g round it the other way, and none is in it twice
pub record Ring (f g : ℕ → ℕ) (xs : List ℕ) : Type 0 where
  pub forward : map f (nil ∷ xs) ≡ xs ++ nil ∷ []
  pub backward : map g (xs ++ nil ∷ []) ≡ nil ∷ xs
  pub apart : (k : ℕ) → times k (nil ∷ xs) ≤ 1
