-- The only receipt with a number, as it is found list by list.
use Rattle.std.proofs.Common.{◌≡◌, ℕ, ◌+◌, ◌<◌, true, false, Option, Some, None, is_some, List, [], ◌∷◌, ◌++◌, length, map, drop, get_or}
use Rattle.std.proofs.Common.{filter, refl, sym, ◌∙◌}
use Rattle.flume_audit.specs.declared.receipt.Receipt.{Receipt}
use Rattle.flume_audit.specs.Only.{only}
use Rattle.flume_audit.specs.Settled.{receipts_at}
use Rattle.flume_audit.proofs.RisingLemmas.{is_numbered}
use Rattle.flume_audit.proofs.FromLemmas.{from_here}

module _ {X : Type 0} where
  -- the only element of the one found before and of the rest
  abbrev pub only_with : Option X → List X → Option X
  only_with None rest = only rest
  only_with (Some one) [] = Some one
  only_with (Some one) (other ∷ rest) = None

  -- a list with an only element is that element alone
  pub only_is : (one : X) (list : List X) → Some one ≡ only list → list ≡ one ∷ []
  only_is one [] is = cc
  only_is one (x ∷ []) is = cc
  only_is one (x ∷ other ∷ rest) is = cc

  -- with no rest it is the one found
  pub only_with_none : (found : Option X) → only_with found [] ≡ found
  only_with_none None = refl
  only_with_none (Some one) = refl

  -- the first that is found
  first_found : (found : Option X) (one : X) (rest : List X) → is_some found ≡ false
      → only_with found (one ∷ rest) ≡ only_with (Some one) rest
  first_found None one [] none = refl
  first_found None one (other ∷ rest) none = refl
  first_found (Some other) one rest none = cc

  -- another is found
  another_found : (found : Option X) (one : X) (rest : List X) → is_some found ≡ true
      → only_with found (one ∷ rest) ≡ None
  another_found None one rest some = cc
  another_found (Some other) one rest some = refl

-- after this many lists, the only receipt with the number is that of those found and of the others
module _ {T A H : Type 0} (receipts : H → List (Receipt T A)) (number : ℕ) (seats : List H)
    (place : ℕ) (seat : H) (within : place < length seats) (at : seat ≡ get_or seats place seat)
    (found : Option (Receipt T A)) (known : only (receipts_at number (map receipts seats))
    ≡ only_with found (receipts_at number (map receipts (drop place seats))))
    (list : List (Receipt T A)) (is : list ≡ receipts seat) where
  -- it is that of those found, of the next list and of those after
  known_here : (here : List (Receipt T A)) → filter (is_numbered number) list ≡ here
      → only (receipts_at number (map receipts seats))
      ≡ only_with found (here ++ receipts_at number (map receipts (drop (place + 1) seats)))
  known_here here filtered =
      rw (sym filtered, is) (rw (from_here receipts seats place seat within at) at known)

  -- the next list has none
  pub none_here : filter (is_numbered number) list ≡ []
      → only (receipts_at number (map receipts seats))
      ≡ only_with found (receipts_at number (map receipts (drop (place + 1) seats)))
  none_here filtered = known_here [] filtered

  module _ (one : Receipt T A) (filtered : filter (is_numbered number) list ≡ one ∷ []) where
    -- the next list has the first
    pub first_here : is_some found ≡ false
        → only (receipts_at number (map receipts seats))
        ≡ only_with (Some one) (receipts_at number (map receipts (drop (place + 1) seats)))
    first_here none = known_here (one ∷ []) filtered ∙ first_found found one _ none

    -- the next list has another
    pub another_here : is_some found ≡ true → only (receipts_at number (map receipts seats)) ≡ None
    another_here some = known_here (one ∷ []) filtered ∙ another_found found one _ some
