-- Laws of finite maps from tickets: what `get` finds after each change, and which changes undo, replace or pass each other.
use Rattle.std.proofs.Common.{◌≡◌, ◌≢◌, ℕ, cond, Some, sym, ap, ◌∙◌}
use Rattle.std.specs.Cmp.{nat_cmp_total}
use Rattle.std.specs.FinMap.{FinMap, get, insert, remove, get-insert}
use Rattle.std.specs.Ordering.{nat_cmp, eq_by_cmp}
pub use Rattle.flume_state.proofs.SendMapLemmas.{same, same_by, get-insert_same, get-insert_other, get-remove_same, get-remove_other}
pub use Rattle.flume_state.proofs.SendMapLemmas.{remove-insert}

module _ {X : Type 0} where
  -- a value put in again leaves the map
  pub insert_again : (m : FinMap nat_cmp X) (k : ℕ) (v : X) → get m k ≡ Some v → insert m k v ≡ m
  insert_again m k v is = same_by _ _ k (get-insert_same m k v ∙ sym is) (λ q ne. get-insert_other m k v q ne)

  -- a value removed, and put in again, leaves the map
  pub insert-remove : (m : FinMap nat_cmp X) (k : ℕ) (v : X) → get m k ≡ Some v → insert (remove m k) k v ≡ m
  insert-remove m k v is =
      same_by _ _ k (get-insert_same (remove m k) k v ∙ sym is)
      (λ q ne. get-insert_other (remove m k) k v q ne ∙ get-remove_other m k q ne)

  -- what is there is replaced
  pub lone_again : (m : FinMap nat_cmp X) (k : ℕ) (v w : X) → insert m k w ≡ insert (insert m k v) k w
  lone_again m k v w =
      same_by _ _ k (get-insert_same m k w ∙ sym (get-insert_same (insert m k v) k w))
      (λ q ne. get-insert_other m k w q ne ∙ sym (get-insert_other (insert m k v) k w q ne ∙ get-insert_other m k v q ne))

  -- insertions at two keys pass each other
  pub lone_insert : (m : FinMap nat_cmp X) (k q : ℕ) (v w : X) → k ≢ q → insert (insert m q w) k v ≡ insert (insert m k v) q w
  lone_insert m k q v w ne =
      same_by _ _ k
      (get-insert_same (insert m q w) k v ∙ sym (get-insert_other (insert m k v) q w k ne ∙ get-insert_same m k v))
      (λ p other. get-insert_other (insert m q w) k v p other ∙ passes p other)
    where
      passes : (p : ℕ) → p ≢ k → get (insert m q w) p ≡ get (insert (insert m k v) q w) p
      passes p other =
          get-insert nat_cmp_total m q w p
          ∙ ap (cond (eq_by_cmp nat_cmp p q) (Some w)) (sym (get-insert_other m k v p other))
          ∙ sym (get-insert nat_cmp_total (insert m k v) q w p)

  -- an insertion and a removal at two keys pass each other
  pub lone_remove : (m : FinMap nat_cmp X) (k q : ℕ) (v : X) → k ≢ q → insert (remove m q) k v ≡ remove (insert m k v) q
  lone_remove m k q v ne =
      same_by _ _ q
      (get-insert_other (remove m q) k v q (λ is. ne (sym is)) ∙ get-remove_same m q ∙ sym (get-remove_same (insert m k v) q))
      (λ p other.
      get-insert nat_cmp_total (remove m q) k v p
      ∙ ap (cond (eq_by_cmp nat_cmp p k) (Some v)) (get-remove_other m q p other)
      ∙ sym (get-insert nat_cmp_total m k v p)
      ∙ sym (get-remove_other (insert m k v) q p other))
