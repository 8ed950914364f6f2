-- What the words of a chain's contracts come to on lists, for those that call it.
use Rattle.std.proofs.Common.{◌≡◌, ℕ, suc, ◌≤◌, ◌==◌, List, [], ◌∷◌, ◌++◌, false, Option, Some, None, length}
use Rattle.std.proofs.Common.{refl, sym, ap, ap₂, ◌∙◌, inl, inr, arith, append-nil, length-append}
use Rattle.std.proofs.Common.{if◌then◌else◌}
use Rattle.std.proofs.lemmas.Bool.{cases_Bool}
use Rattle.std.proofs.lemmas.List.{map-append}
use Rattle.flume_chain.specs.ChainState.{times, ChainItem, places, found, without_place, put_before, listed, moved_back}
use Rattle.flume_chain.specs.ChangedAt.{changed_at}
use Rattle.flume_chain.proofs.RingLemmas.{times-append, once_same, once_back}
use Rattle.flume_chain.proofs.TableLemmas.{item, found_some, without_none, without_at}

module _ {E : Type 0} where
  -- if no element is found, the first has another place, and none is found behind it
  none_first : (x : ChainItem E) (xs : List (ChainItem E)) (k : ℕ) → found (x ∷ xs) k ≡ None → ((k == x.place) ≡ false)
      × (found xs k ≡ None)
  none_first x xs k h = elim (cases_Bool (k == x.place)) [
    | inl t ↦ (
        let none : Some x.element ≡ None = sym (ap (λ b. if b then Some x.element else found xs k) t) ∙ h in
        absurd cc
        )
    | inr t ↦ (t, sym (ap (λ b. if b then Some x.element else found xs k) t) ∙ h)
  ]

  -- if no element is found, none has the place
  pub none_placed : (xs : List (ChainItem E)) (k : ℕ) → found xs k ≡ None → times k (places xs) ≡ 0
  none_placed [] k h = refl
  none_placed (x ∷ xs) k h =
      let none = none_first x xs k h in
      let other = once_back k x.place (ap (λ b. if b then 1 else 0) none.0) in
      let rest = none_placed xs k none.1 in
      omega arith

  -- the places of two lists joined are those of both
  pub places-append : (xs ys : List (ChainItem E)) → places (xs ++ ys) ≡ places xs ++ places ys
  places-append xs ys = map-append (λ (x : ChainItem E). x.place) xs ys

  -- to leave out a place from two lists joined is to leave it out from both
  pub without_place-append : (xs ys : List (ChainItem E)) (k : ℕ) → without_place (xs ++ ys) k ≡ without_place xs k ++ without_place ys k
  without_place-append [] ys k = refl
  without_place-append (x ∷ xs) ys k = elim (cases_Bool (x.place == k)) [
    | inl t ↦ ap (λ b. if b then without_place (xs ++ ys) k else x ∷ without_place (xs ++ ys) k) t
        ∙ without_place-append xs ys k
        ∙ sym (ap (λ b. (if b then without_place xs k else x ∷ without_place xs k) ++ without_place ys k) t)
    | inr t ↦ ap (λ b. if b then without_place (xs ++ ys) k else x ∷ without_place (xs ++ ys) k) t
        ∙ ap (λ (l : List (ChainItem E)). x ∷ l) (without_place-append xs ys k)
        ∙ sym (ap (λ b. (if b then without_place xs k else x ∷ without_place xs k) ++ without_place ys k) t)
  ]

  -- a list without a place at which no element is found is itself
  pub without_missing : (xs : List (ChainItem E)) (k : ℕ) → found xs k ≡ None → without_place xs k ≡ xs
  without_missing xs k h = without_none xs k (none_placed xs k h)

  -- with one more ahead of a place there is one element more
  pub length-put_before : (xs : List (ChainItem E)) (k : ℕ) (x : ChainItem E) → length (put_before xs k x) ≡ suc (length xs)
  length-put_before [] k x = refl
  length-put_before (y ∷ ys) k x = elim (cases_Bool (k == y.place)) [
    | inl e ↦ ap (λ b. length (if b then x ∷ y ∷ ys else y ∷ put_before ys k x)) e
    | inr e ↦ ap (λ b. length (if b then x ∷ y ∷ ys else y ∷ put_before ys k x)) e ∙ ap suc (length-put_before ys k x)
  ]

  -- without the place of an element there is one element less, if no place names two
  pub length-without_place : (xs : List (ChainItem E)) (k : ℕ) (e : E) → times k (places xs) ≤ 1 → found xs k ≡ Some e
      → length xs ≡ suc (length (without_place xs k))
  length-without_place xs k e most h =
      let r = found_some xs k e h in
      let names = ap (times k) (ap places r.is ∙ places-append r.before (item k e ∷ r.after)) in
      let both = times-append k (places r.before) (k ∷ places r.after) in
      let here = once_same k in
      let left = ap length (ap (λ (l : List (ChainItem E)). without_place l k) r.is
      ∙ without_at r.before r.after k e (omega arith) (omega arith)) in
      let all = ap length r.is in
      let a = length-append r.before (item k e ∷ r.after) in
      let d = length-append r.before r.after in
      omega arith

  -- to change an element of two lists joined is to change it in both
  pub changed_at-append : (f : E → E) (xs ys : List (ChainItem E)) (k : ℕ)
      → changed_at f k (xs ++ ys) ≡ changed_at f k xs ++ changed_at f k ys
  changed_at-append f [] ys k = refl
  changed_at-append f (x ∷ xs) ys k =
      ap (λ (l : List (ChainItem E)). (if k == x.place then record x { element = f x.element } else x) ∷ l) (changed_at-append f xs ys k)

  -- to change an element where there is none changes nothing
  pub edited_missing : (f : E → E) (xs : List (ChainItem E)) (k : ℕ) → found xs k ≡ None → changed_at f k xs ≡ xs
  edited_missing f [] k h = refl
  edited_missing f (x ∷ xs) k h =
      let none = none_first x xs k h in
      ap₂ (λ (y : ChainItem E) (l : List (ChainItem E)). y ∷ l) (ap (λ b. if b then record x { element = f x.element } else x) none.0)
      (edited_missing f xs k none.1)

  -- if no element is found, to move it back changes nothing
  pub moved_back_missing : (xs : List (ChainItem E)) (k : ℕ) → found xs k ≡ None → moved_back xs k ≡ xs
  moved_back_missing xs k h =
      ap₂ (λ (l : List (ChainItem E)) (o : Option E). l ++ listed k o []) (without_missing xs k h) h ∙ append-nil xs

  -- if an element is found, moved back it is behind all others
  pub moved_back_some : (xs : List (ChainItem E)) (k : ℕ) (e : E) → found xs k ≡ Some e
      → moved_back xs k ≡ without_place xs k ++ item k e ∷ []
  moved_back_some xs k e h = ap (λ (o : Option E). without_place xs k ++ listed k o []) h
