-- Laws of the live sends' map, for callers: what `get` finds after each change, and which changes undo, join or pass each other.
use Rattle.std.proofs.Common.{◌≡◌, ◌≢◌, ℕ, true, false, cond, Option, Some, None, refl, sym, ap, ◌∙◌, subst, ⊎_elim}
use Rattle.std.proofs.lemmas.Bool.{cases_eq, eq-eqb, ne_eqb}
use Rattle.std.specs.Cmp.{nat_cmp_total, unsigned_tied}
use Rattle.std.specs.FinMap.{FinMap, get, insert, remove, get-insert, get-remove, same_map, nat_cmp-IsAntisymmetric}
use Rattle.std.specs.Option.{option_map, option_map_or}
use Rattle.std.specs.Ordering.{nat_cmp, eq_by_cmp}
use Rattle.flume_state.specs.Sends.{with_send_changed}

-- a ticket ties with itself
tied : (k : ℕ) → eq_by_cmp nat_cmp k k ≡ true
tied k = unsigned_tied k k ∙ eq-eqb k k refl

-- and with no other
untied : (q k : ℕ) → q ≢ k → eq_by_cmp nat_cmp q k ≡ false
untied q k ne = unsigned_tied q k ∙ ne_eqb q k ne

module _ {X : Type 0} where
  -- two maps with the same value at each key are equal
  pub same : (m n : FinMap nat_cmp X) → ((q : ℕ) → get m q ≡ get n q) → m ≡ n
  same m n h = same_map nat_cmp_total nat_cmp-IsAntisymmetric m n h

  -- two maps with the same value at k, and at each other key, are equal
  pub same_by : (m n : FinMap nat_cmp X) (k : ℕ) → get m k ≡ get n k → ((q : ℕ) → q ≢ k → get m q ≡ get n q) → m ≡ n
  same_by m n k here there =
      same m n (λ q. ⊎_elim (λ e. subst (λ x. get m x ≡ get n x) (sym e) here) (λ ne. there q ne) (cases_eq q k))

  -- what was inserted is found
  pub get-insert_same : (m : FinMap nat_cmp X) (k : ℕ) (v : X) → get (insert m k v) k ≡ Some v
  get-insert_same m k v = get-insert nat_cmp_total m k v k ∙ ap (λ b. cond b (Some v) (get m k)) (tied k)

  -- and another key keeps what it has
  pub get-insert_other : (m : FinMap nat_cmp X) (k : ℕ) (v : X) (q : ℕ) → q ≢ k → get (insert m k v) q ≡ get m q
  get-insert_other m k v q ne = get-insert nat_cmp_total m k v q ∙ ap (λ b. cond b (Some v) (get m q)) (untied q k ne)

  -- what was removed is not found
  pub get-remove_same : (m : FinMap nat_cmp X) (k : ℕ) → get (remove m k) k ≡ None
  get-remove_same m k = get-remove nat_cmp_total m k k ∙ ap (λ b. cond b None (get m k)) (tied k)

  -- and another key keeps what it has
  pub get-remove_other : (m : FinMap nat_cmp X) (k q : ℕ) → q ≢ k → get (remove m k) q ≡ get m q
  get-remove_other m k q ne = get-remove nat_cmp_total m k q ∙ ap (λ b. cond b None (get m q)) (untied q k ne)

  -- `changed`, if there is a value
  pub changed_some : (m : FinMap nat_cmp X) (k : ℕ) (f : X → X) (x : X) → get m k ≡ Some x → with_send_changed m k f ≡ insert m k (f x)
  unfolding with_send_changed
  changed_some m k f x e = ap (λ o. option_map_or (λ x. insert m k (f x)) o m) e

  -- `changed`, if there is none
  pub changed_none : (m : FinMap nat_cmp X) (k : ℕ) (f : X → X) → get m k ≡ None → with_send_changed m k f ≡ m
  unfolding with_send_changed
  changed_none m k f e = ap (λ o. option_map_or (λ x. insert m k (f x)) o m) e

  -- what was changed is found changed
  pub get-changed_same : (m : FinMap nat_cmp X) (k : ℕ) (f : X → X) → get (with_send_changed m k f) k ≡ option_map f (get m k)
  get-changed_same m k f =
      elim (get m k) as (λ o. get m k ≡ o → get (with_send_changed m k f) k ≡ option_map f o) [
        | None ↦ λ e. ap (λ n. get n k) (changed_none m k f e) ∙ e
        | Some x ↦ λ e. ap (λ n. get n k) (changed_some m k f x e) ∙ get-insert_same m k (f x)
      ] refl

  -- and another key keeps what it has
  pub get-changed_other : (m : FinMap nat_cmp X) (k : ℕ) (f : X → X) (q : ℕ) → q ≢ k → get (with_send_changed m k f) q ≡ get m q
  get-changed_other m k f q ne =
      elim (get m k) as (λ o. get m k ≡ o → get (with_send_changed m k f) q ≡ get m q) [
        | None ↦ λ e. ap (λ n. get n q) (changed_none m k f e)
        | Some x ↦ λ e. ap (λ n. get n q) (changed_some m k f x e) ∙ get-insert_other m k (f x) q ne
      ] refl

  -- a change that leaves the value as it was changes nothing
  pub changed_same : (m : FinMap nat_cmp X) (k : ℕ) → with_send_changed m k (λ x. x) ≡ m
  changed_same m k =
      same_by _ _ k (get-changed_same m k (λ x. x) ∙ map_same (get m k)) (λ q ne. get-changed_other m k (λ x. x) q ne)
    where
      map_same : (o : Option X) → option_map (λ x. x) o ≡ o
      map_same None = refl
      map_same (Some x) = refl

  -- a key just inserted, and then removed, leaves the map that had not got it
  pub remove-insert : (m : FinMap nat_cmp X) (k : ℕ) (v : X) → get m k ≡ None → remove (insert m k v) k ≡ m
  remove-insert m k v none =
      same_by _ _ k (get-remove_same (insert m k v) k ∙ sym none)
      (λ q ne. get-remove_other (insert m k v) k q ne ∙ get-insert_other m k v q ne)

  -- to remove what is not there changes nothing
  pub remove_absent : (m : FinMap nat_cmp X) (k : ℕ) → get m k ≡ None → remove m k ≡ m
  remove_absent m k none = same_by _ _ k (get-remove_same m k ∙ sym none) (λ q ne. get-remove_other m k q ne)

  -- a change of what is then removed does not show
  pub remove-with_send_changed : (m : FinMap nat_cmp X) (k : ℕ) (f : X → X) → remove (with_send_changed m k f) k ≡ remove m k
  remove-with_send_changed m k f =
      same_by _ _ k (get-remove_same (with_send_changed m k f) k ∙ sym (get-remove_same m k))
      (λ q ne. get-remove_other (with_send_changed m k f) k q ne ∙ get-changed_other m k f q ne ∙ sym (get-remove_other m k q ne))

  -- a change of what was just inserted
  pub with_send_changed-insert : (m : FinMap nat_cmp X) (k : ℕ) (v : X) (f : X → X)
      → with_send_changed (insert m k v) k f ≡ insert m k (f v)
  with_send_changed-insert m k v f =
      same_by _ _ k (get-changed_same (insert m k v) k f ∙ ap (option_map f) (get-insert_same m k v) ∙ sym (get-insert_same m k (f v)))
      (λ q ne. get-changed_other (insert m k v) k f q ne ∙ get-insert_other m k v q ne ∙ sym (get-insert_other m k (f v) q ne))

  option_map_twice : (f h : X → X) (o : Option X) → option_map h (option_map f o) ≡ option_map (λ x. h (f x)) o
  option_map_twice f h None = refl
  option_map_twice f h (Some x) = refl

  -- two changes of one key are one
  pub with_send_changed-with_send_changed : (m : FinMap nat_cmp X) (k : ℕ) (f h : X → X)
      → with_send_changed (with_send_changed m k f) k h ≡ with_send_changed m k (λ x. h (f x))
  with_send_changed-with_send_changed m k f h =
      same_by _ _ k
      (get-changed_same (with_send_changed m k f) k h ∙ ap (option_map h) (get-changed_same m k f) ∙ option_map_twice f h (get m k)
      ∙ sym (get-changed_same m k (λ x. h (f x))))
      (λ q ne. get-changed_other (with_send_changed m k f) k h q ne ∙ get-changed_other m k f q ne
      ∙ sym (get-changed_other m k (λ x. h (f x)) q ne))

-- which changes of one key undo or join each other
pub ruleset joins = (remove-insert, remove_absent, remove-with_send_changed, with_send_changed-insert, with_send_changed-with_send_changed)
