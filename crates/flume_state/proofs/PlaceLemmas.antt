-- The places as the lone one and the others: what changes of the one, and of the others, are changes of all.
use Rattle.std.specs.Prelude.{⊤, OnOk, OnErr, Result, Ok, Err}
use Rattle.std.proofs.Common.{◌≡◌, ◌≢◌, ℕ, Option, Some, None, refl, sym, ◌∙◌}
use Rattle.std.specs.FinMap.{get, insert, remove}
use Rattle.flume_state.specs.layout.Places.{PlaceMap, with_lone, IsApart}
use Rattle.flume_state.proofs.MapLemmas.{get-insert_same, get-insert_other, get-remove_other, remove-insert, lone_insert, lone_remove}

-- the ticket isn't that of the lone one
abbrev pub IsAway : Option (ℕ × ℕ) → ℕ → Type 0
IsAway None t = ⊤
IsAway (Some one) t = one.0 ≢ t

-- there is no lone one
pub away_none : (one : Option (ℕ × ℕ)) (t : ℕ) → one ≡ None → IsAway one t
away_none one t is = rw is tt

-- the lone one has another ticket
pub away_some : (one : Option (ℕ × ℕ)) (n : ℕ × ℕ) (t : ℕ) → one ≡ Some n → n.0 ≢ t → IsAway one t
away_some one n t is ne = rw is ne

-- what is found that isn't the lone one's
pub away_get : (one : Option (ℕ × ℕ)) (m : PlaceMap) (t : ℕ) → IsAway one t → get (with_lone one m) t ≡ get m t
away_get None m t ne = refl
away_get (Some n) m t ne = get-insert_other m n.0 n.1 t (λ is. ne (sym is))

-- another one is inserted
away_insert : (one : Option (ℕ × ℕ)) (m : PlaceMap) (t p : ℕ) → IsAway one t
    → with_lone one (insert m t p) ≡ insert (with_lone one m) t p
away_insert None m t p ne = refl
away_insert (Some n) m t p ne = lone_insert m n.0 t n.1 p ne

-- another one is removed
pub away_remove : (one : Option (ℕ × ℕ)) (m : PlaceMap) (t : ℕ) → IsAway one t
    → with_lone one (remove m t) ≡ remove (with_lone one m) t
away_remove None m t ne = refl
away_remove (Some n) m t ne = lone_remove m n.0 t n.1 ne

-- another one comes, and the lone one is still apart
apart_insert : (one : Option (ℕ × ℕ)) (m : PlaceMap) (t p : ℕ) → IsAway one t → IsApart one m → IsApart one (insert m t p)
apart_insert None m t p ne apart = tt
apart_insert (Some n) m t p ne apart = get-insert_other m t p n.0 ne ∙ apart

-- a removal leaves the lone one apart
pub apart_remove : (one : Option (ℕ × ℕ)) (m : PlaceMap) (t : ℕ) → IsAway one t → IsApart one m → IsApart one (remove m t)
apart_remove None m t ne apart = tt
apart_remove (Some n) m t ne apart = get-remove_other m t n.0 ne ∙ apart

-- what is found that is the lone one's
pub here_get : (one : Option (ℕ × ℕ)) (n : ℕ × ℕ) (m all : PlaceMap) (t : ℕ) → one ≡ Some n → n.0 ≡ t
    → with_lone one m ≡ all → get all t ≡ Some n.1
here_get one n m all t is same view =
    rw (sym view) (rw is (rw (sym same) (get-insert_same m n.0 n.1)))

-- the lone one is removed
pub here_remove : (one : Option (ℕ × ℕ)) (n : ℕ × ℕ) (m all : PlaceMap) (t : ℕ) → IsApart one m
    → one ≡ Some n → n.0 ≡ t → with_lone one m ≡ all → m ≡ remove all t
here_remove one n m all t apart is same view =
    let none : get m n.0 ≡ None = rw is at apart in
    rw (sym view) (rw is (rw (sym same) (sym (remove-insert m n.0 n.1 none))))

-- if there is no lone one the others are all
pub none_view : (one : Option (ℕ × ℕ)) (m all : PlaceMap) → one ≡ None → with_lone one m ≡ all → m ≡ all
none_view one m all is view = rw (sym view) (rw is refl)

module _ {E : Type 0} where
  -- another one was inserted, or wasn't: the lone one is apart
  pub insert_apart : (one : Option (ℕ × ℕ)) (m n : PlaceMap) (t p : ℕ) (r : Result (Unit {0}) E)
      → IsAway one t → IsApart one m → OnOk r (n ≡ insert m t p) → OnErr r (n ≡ m) → IsApart one n
  insert_apart one m n t p (Ok done) away apart ok err = rw ok (apart_insert one m t p away apart)
  insert_apart one m n t p (Err e) away apart ok err = rw err apart

  -- it is among all if it was inserted
  pub insert_ok : (one : Option (ℕ × ℕ)) (m n all : PlaceMap) (t p : ℕ) (r : Result (Unit {0}) E)
      → IsAway one t → with_lone one m ≡ all → OnOk r (n ≡ insert m t p) → OnOk r (with_lone one n ≡ insert all t p)
  insert_ok one m n all t p (Ok done) away view ok = rw (sym view, ok) (away_insert one m t p away)
  insert_ok one m n all t p (Err e) away view ok = ok

  -- its ticket had no place if it was
  pub insert_absent : (one : Option (ℕ × ℕ)) (m all : PlaceMap) (t : ℕ) (r : Result (Unit {0}) E)
      → IsAway one t → with_lone one m ≡ all → OnOk r (get m t ≡ None) → OnOk r (get all t ≡ None)
  insert_absent one m all t (Ok done) away view absent = rw (sym view) (away_get one m t away ∙ absent)
  insert_absent one m all t (Err e) away view absent = absent
