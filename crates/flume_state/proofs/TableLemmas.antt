-- How a `HashMap` from tickets is seen as a finite map, and what a table that isn't made has.
use Rattle.std.proofs.Common.{◌≡◌, ◌↔◌, ℕ, Bool, true, cond, nat_eq, List, [], ◌∷◌, length, Option, Some}
use Rattle.std.proofs.Common.{None, Result, Ok, Err, OnOk, OnErr, refl, sym, ap, ◌∙◌, IsTrue}
use Rattle.std.specs.HashMap as table
use Rattle.std.specs.HashMap.{HashMap, hash_map_len}
use Rattle.std.specs.Cmp.{nat_cmp_total, eq_by_cmp_equiv, unsigned_tied}
use Rattle.std.specs.FinMap.{FinMap, empty, from_entries, find, get, insert, remove, get-empty, get-insert, get-remove, get-from_entries}
use Rattle.std.specs.Map.{lookup}
use Rattle.std.specs.Ordering.{nat_cmp, eq_by_cmp}
use Rattle.flume_state.proofs.SendMapLemmas.{same, remove_absent}
use Rattle.flume_state.proofs.MapLemmas.{lone_again, insert_again}

-- the finite map of some entries
abbrev pub seen : {X : Type 0} → List (ℕ × X) → FinMap nat_cmp X
seen es = from_entries es

module _ {X : Type 0} where
  -- a scan and a look-up find the same value
  find-lookup : (q : ℕ) (es : List (ℕ × X)) → find nat_cmp q es ≡ lookup (nat_eq q) es
  find-lookup q [] = refl
  find-lookup q (e ∷ es) =
      ap (cond (eq_by_cmp nat_cmp q e.0) (Some e.1)) (find-lookup q es)
      ∙ ap (λ b. cond b (Some e.1) (lookup (nat_eq q) es)) (unsigned_tied q e.0)

  -- entries of which nothing is seen are none
  none_seen : (es : List (ℕ × X)) → seen es ≡ empty → length es ≡ 0
  none_seen [] _ = refl
  none_seen (e ∷ es) is =
      let here : get (seen (e ∷ es)) e.0 ≡ Some e.1 =
      get-from_entries nat_cmp_total (e ∷ es) e.0
      ∙ ap (λ b. cond b (Some e.1) (find nat_cmp e.0 es)) ((eq_by_cmp_equiv nat_cmp_total).refl e.0)
      in let both : Some e.1 ≡ None = sym here ∙ ap (λ s. get s e.0) is ∙ get-empty nat_cmp e.0
      in absurd (let no : ⊥ = cc in no)

  -- no entries are seen as the empty map
  seen_none : (es : List (ℕ × X)) → length es ≡ 0 → seen es ≡ empty
  seen_none [] _ = refl
  seen_none (e ∷ es) none = absurd (let no : ⊥ = cc in no)

module _ {X S : Type 0} where
  -- the finite map of a table's entries has what the table has
  pub get_of_table : (m : HashMap ℕ X S) (s : FinMap nat_cmp X) → seen m.entries ≡ s → (q : ℕ) → get s q ≡ table.get nat_eq m q
  get_of_table m s is q = ap (λ n. get n q) (sym is) ∙ get-from_entries nat_cmp_total m.entries q ∙ find-lookup q m.entries

  -- what an update of the table leaves at each key
  updated : (m n : HashMap ℕ X S) (k : ℕ) (w : Option X) → table.Updates nat_eq m n k w
      → (q : ℕ) → get (seen n.entries) q ≡ cond (eq_by_cmp nat_cmp q k) w (get (seen m.entries) q)
  updated m n k w u q =
      get_of_table n _ refl q ∙ u.0 q
      ∙ ap (λ b. cond b w (table.get nat_eq m q)) (sym (unsigned_tied k q) ∙ (eq_by_cmp_equiv nat_cmp_total).symm k q)
      ∙ ap (cond (eq_by_cmp nat_cmp q k) w) (sym (get_of_table m _ refl q))

  -- a table is seen as empty exactly if it has no entries
  pub nothing_seen : (m : HashMap ℕ X S) (s : FinMap nat_cmp X) (b : Bool) → seen m.entries ≡ s
      → IsTrue b ↔ (hash_map_len m ≡ 0) → b ≡ true ↔ s ≡ empty
  nothing_seen m s b is count =
      ((λ t. sym is ∙ seen_none m.entries (count.0 t)), (λ e. count.1 (none_seen m.entries (is ∙ e))))

  -- to insert into the table is to insert into its finite map
  pub inserted : (m n : HashMap ℕ X S) (s : FinMap nat_cmp X) (k : ℕ) (v : X) → seen m.entries ≡ s
      → table.Updates nat_eq m n k (Some v) → seen n.entries ≡ insert s k v
  inserted m n s k v is u =
      same _ _ (λ q. updated m n k (Some v) u q ∙ sym (get-insert nat_cmp_total _ k v q)) ∙ ap (λ t. insert t k v) is

  -- to remove from the table is to remove from its finite map
  pub removed : (m n : HashMap ℕ X S) (s : FinMap nat_cmp X) (k : ℕ) → seen m.entries ≡ s
      → table.Updates nat_eq m n k None → seen n.entries ≡ remove s k
  removed m n s k is u =
      same _ _ (λ q. updated m n k None u q ∙ sym (get-remove nat_cmp_total _ k q)) ∙ ap (λ t. remove t k) is

  -- a value written over another, and that put back, leave its finite map, since no new key comes
  pub put_back : {Y Z : Type 0} (r : Result Y Z) (m n o : HashMap ℕ X S) (k : ℕ) (v w : X) → table.get nat_eq m k ≡ Some w
      → table.Updates nat_eq m n k (Some v) → OnOk r (table.Updates nat_eq n o k (Some w)) → OnErr r (table.get nat_eq n k ≡ None)
      → seen o.entries ≡ seen m.entries
  put_back (Ok done) m n o k v w is u back absent =
      inserted n o _ k w (inserted m n _ k v refl u) back ∙ sym (lone_again (seen m.entries) k v w)
      ∙ insert_again (seen m.entries) k w (get_of_table m _ refl k ∙ is)
  put_back (Err e) m n o k v w is u back absent =
      let none : Some v ≡ None = sym u.1 ∙ absent in
      absurd (let no : ⊥ = cc in no)

-- what an insertion into the table needs
pub ruleset inserts = (inserted, get_of_table)

-- no table finds anything
pub nothing_found : {X : Type 0} (k : ℕ) → get (empty {X = X} {R = nat_cmp}) k ≡ None
nothing_found k = get-empty nat_cmp k

-- to remove from no table leaves none
pub nothing_removed : {X : Type 0} (k : ℕ) → remove (empty {X = X} {R = nat_cmp}) k ≡ empty
nothing_removed k = remove_absent empty k (nothing_found k)
