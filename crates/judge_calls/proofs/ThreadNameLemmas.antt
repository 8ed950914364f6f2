-- The names of threads, as they are read by reference, and what one more name changes.
use Rattle.std.proofs.Common.{◌≡◌, ℕ, ◌+◌, ◌<◌, ◌≤◌, max, List, [], ◌∷◌, ◌++◌, length, get_or, Bor, refl, sym, subst, ap, ◌∙◌, inl, inr}
use Rattle.std.proofs.Common.{arith}
use Rattle.std.proofs.lemmas.Bool.{cases_lt}
use Rattle.std.proofs.lemmas.List.{get_or-map, map-append, length-map, get_or_append_left, get_or_push, length_push}
use Rattle.judge_calls.specs.EventLines.{name_of}
use Rattle.judge_calls.specs.Recordings.{names_of, AreDistinct}
use Rattle.judge_calls.specs.NextEvents.{IsThreadOf}

-- the name at a place
pub name_at : (names : List (Bor (List ℕ))) (t : ℕ) (d : Bor (List ℕ)) → t < length names
    → name_of (names_of names) t ≡ (get_or names t d).now
name_at names t d within = get_or-map (λ name. name.now) names t d [] within

-- there are as many
pub names_length : (names : List (Bor (List ℕ))) → length (names_of names) ≡ length names
names_length names = length-map names (λ name. name.now)

-- one more name at the end
pub names_push : (names : List (Bor (List ℕ))) (name : Bor (List ℕ)) → names_of (names ++ name ∷ []) ≡ names_of names ++ name.now ∷ []
names_push names name = simp map-append

-- what holds behind the thread of a name
pub record KeepsNames (names names' : List (List ℕ)) (thread : ℕ) (name : List ℕ) : Type 0 where
  pub same : (t : ℕ) → t < length names → name_of names' t ≡ name_of names t
  pub more : length names ≤ length names'
  pub known : thread < length names'
  pub has_name : name_of names' thread ≡ name
  pub next : thread ≤ length names
  pub count : max (length names) (thread + 1) ≡ length names'
  pub distinct : AreDistinct names → AreDistinct names'

-- of a thread that had its name before
known_thread : (names : List (List ℕ)) (name : List ℕ) (thread : ℕ) → thread < length names → name_of names thread ≡ name
    → KeepsNames names names thread name
known_thread names name thread within is = record {
  same = λ t h. refl;
  more = omega arith;
  known = within;
  has_name = is;
  next = omega arith;
  count = omega arith;
  distinct = λ distinct. distinct;
}

-- of a new thread
new_thread : (names : List (List ℕ)) (name : List ℕ) → ((t : ℕ) → t < length names → ¬ (name_of names t ≡ name))
    → KeepsNames names (names ++ name ∷ []) (length names) name
new_thread names name other =
    let longer = length_push names name in
    let kept : (t : ℕ) → t < length names → name_of (names ++ name ∷ []) t ≡ name_of names t =
    λ t h. get_or_append_left names (name ∷ []) [] t h in
    let last = get_or_push names name [] (length names) refl in
    record {
      same = kept;
      more = omega arith;
      known = omega arith;
      has_name = last;
      next = omega arith;
      count = omega arith;
      distinct = λ distinct t u before within e. distinct_push distinct t u before (omega arith) kept last other e;
    }
  where
    distinct_push : AreDistinct names → (t u : ℕ) → t < u → u ≤ length names
        → ((t : ℕ) → t < length names → name_of (names ++ name ∷ []) t ≡ name_of names t)
        → name_of (names ++ name ∷ []) (length names) ≡ name
        → ((t : ℕ) → t < length names → ¬ (name_of names t ≡ name))
        → ¬ (name_of (names ++ name ∷ []) t ≡ name_of (names ++ name ∷ []) u)
    distinct_push distinct t u before within kept last other e = elim (cases_lt u (length names)) [
      | inl low ↦ distinct t u before low (sym (kept t (omega arith)) ∙ e ∙ kept u low)
      | inr high ↦
          let here : u ≡ length names = omega arith in
          other t (omega arith) (sym (kept t (omega arith)) ∙ e ∙ ap (λ k. name_of (names ++ name ∷ []) k) here ∙ last)
    ]

-- of either
pub keeps_names : (names : List (List ℕ)) (name : List ℕ) (thread : ℕ) (names' : List (List ℕ)) → IsThreadOf names name thread names'
    → KeepsNames names names' thread name
keeps_names names name thread names' (inl old) =
    subst (λ ns. KeepsNames names ns thread name) (sym old.2) (known_thread names name thread old.0 old.1)
keeps_names names name thread names' (inr new) =
    subst (λ ns. KeepsNames names ns thread name) (sym new.2)
    (subst (λ t. KeepsNames names (names ++ name ∷ []) t name) (sym new.1) (new_thread names name new.0))
