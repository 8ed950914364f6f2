-- Elements in order, each place of one at most: one among others, and what is read and written there.
use Rattle.std.proofs.Common.{◌≡◌, ◌≢◌, ℕ, List, [], ◌∷◌, ◌++◌, Option, Some, sym, ap, subst, ◌∙◌, arith}
use Rattle.std.proofs.lemmas.List.{map-append, append-nil}
use Rattle.flume_state.proofs.Chains.{once, times, ChainItem, places, found, without_place, first_place}
use Rattle.flume_state.proofs.Chains.{place_after, times-append, once_same, changed_at, without_at}
use Rattle.flume_state.proofs.Chains.{put_before_at, after_at, put_before_or_last}
use Rattle.flume_state.proofs.EntryPartLemmas.{DistinctTickets, alone, edited_at, seat_found}

module _ {E : Type 0} where
  -- an element is found at its place
  pub found_here : (xs ys : List (ChainItem E)) (x : ChainItem E) → DistinctTickets (xs ++ x ∷ ys)
      → found (xs ++ x ∷ ys) x.place ≡ Some x.element
  found_here xs ys x apart =
      seat_found xs ys x.place x.element (alone xs ys x.place x.element apart).0

  -- without its place the others are left
  pub without_here : (xs ys : List (ChainItem E)) (x : ChainItem E) → DistinctTickets (xs ++ x ∷ ys)
      → without_place (xs ++ x ∷ ys) x.place ≡ xs ++ ys
  without_here xs ys x apart =
      without_at xs ys x.place x.element (alone xs ys x.place x.element apart).0 (alone xs ys x.place x.element apart).1

  -- an element changed at its place leaves the others
  pub edited_here : (f : E → E) (xs ys : List (ChainItem E)) (x : ChainItem E) → DistinctTickets (xs ++ x ∷ ys)
      → changed_at f x.place (xs ++ x ∷ ys) ≡ xs ++ record x { element = f x.element } ∷ ys
  edited_here f xs ys x apart =
      let at = alone xs ys x.place x.element apart in
      edited_at f x.place xs ys x.element at.0 at.1

  -- one more ahead of the first of those behind is between both parts
  pub put_ahead_between : (xs ys : List (ChainItem E)) (x : ChainItem E) → DistinctTickets (xs ++ ys)
      → put_before_or_last (xs ++ ys) (first_place ys) x ≡ xs ++ x ∷ ys
  put_ahead_between xs [] x apart = ap (λ (l : List (ChainItem E)). l ++ x ∷ []) (append-nil xs)
  put_ahead_between xs (y ∷ ys) x apart = put_before_at xs ys y.place y.element x (alone xs ys y.place y.element apart).0

  -- the first place of some that come last, once an element of them is out: the next one's if it
  -- was the first
  pub first_left : (items front before after : List (ChainItem E)) (x : ChainItem E) (first next : Option ℕ) → DistinctTickets items
      → items ≡ front ++ before ++ x ∷ after → first ≡ first_place (before ++ x ∷ after)
      → (first ≡ Some x.place → next ≡ place_after items x.place) → (first ≢ Some x.place → next ≡ first)
      → next ≡ first_place (before ++ after)
  first_left items front [] after x first next apart is begins same other =
      same begins ∙ ap (λ (l : List (ChainItem E)). place_after l x.place) is
      ∙ after_at (front ++ []) after x.place x.element (alone (front ++ []) after x.place x.element (subst DistinctTickets is apart)).0
  first_left items front (y ∷ before) after x first next apart is begins same other =
      other (λ e.
      let both : Some y.place ≡ Some x.place = sym begins ∙ e in
      let name : y.place ≡ x.place = cc in
      let none = (alone (front ++ y ∷ before) after x.place x.element (subst DistinctTickets is apart)).0 in
      let names = ap (times x.place) (map-append (λ (z : ChainItem E). z.place) front (y ∷ before)) in
      let split = times-append x.place (places front) (places (y ∷ before)) in
      let here = ap (λ k. once k x.place) name in
      let one = once_same x.place in
      absurd (omega arith)) ∙ begins
