-- The answers that came so far, and the places that they fill.
use Rattle.std.proofs.Common.{◌≡◌, ◌≢◌, ℕ, ◌<◌, ◌≤◌, Bool, true, false, not, eqb, cond, suc, zero, List, []}
use Rattle.std.proofs.Common.{◌∷◌, ◌++◌, length, map, Option, Some, None}
use Rattle.std.proofs.Common.{refl, sym, ap, ◌∙◌, subst, arith, eqb-true, get_or, set}
use Rattle.std.specs.Prelude.{All, is_some, Result, Ok, Err, IfErr}
use Rattle.std.specs.Result.{IsErrAnd}
use Rattle.std.specs.Cmp.{IsEquivalence}
use Rattle.std.specs.List.{slice_get}
use Rattle.std.specs.Iterator.{Yields, Drains, AlwaysYields}
use Rattle.std.proofs.lemmas.Bool.{eq-eqb, eqb-false}
use Rattle.std.proofs.lemmas.List.{map-append, append_assoc, append-nil}
use Rattle.std.proofs.lemmas.List.Elements.{All-nil, All-push, All-head, All-tail}
use Rattle.std.proofs.lemmas.List.Sums.{sum_by_push, sum_by-append, sum_by-cons}
use Rattle.std.proofs.lemmas.Option.{slice_get_past, slice_get-get_or, slice_get_within}
use Rattle.parallel_map.specs.declared.error.WorkError.{WorkError}
use Rattle.parallel_map.specs.declared.error.WorkError.TheVariants.{NoMemory}
use Rattle.parallel_map.specs.RightAnswers.{IsTo, times, AreRight, AreComplete, CanBring}
use Rattle.parallel_map.specs.RightAnswers.{Brings, OutOfMemory, IsUnknown, IsDoubled, IsMissing}
use Rattle.parallel_map.specs.SlotValues.{held, held_in, Places, IsRefused, NoJob, NotEmpty, Lacks, NoRoom, FirstEmpty}

module _ {X : Type 0} where
  -- an error of which it is known which one it is
  pub error_is : (r : Result X WorkError) (P : WorkError → Type 0) (error : WorkError) → P error → IsErrAnd r (λ e. e ≡ error) → IfErr r P
  error_is (Ok x) P error holds is = tt
  error_is (Err e) P error holds is = subst P (sym is) holds

  -- what was put at a place is there, and all else is as it was
  get-set_same : (xs : List X) (n : ℕ) (y : X) → n < length xs → slice_get (set xs n y) n ≡ Some y
  get-set_same [] n y within = absurd (let none : ⊥ = omega arith in none)
  get-set_same (x ∷ xs) zero y within = refl
  get-set_same (x ∷ xs) (suc n) y within = get-set_same xs n y (omega arith)

  get-set_other : (xs : List X) (n k : ℕ) (y : X) → k ≢ n → slice_get (set xs n y) k ≡ slice_get xs k
  get-set_other [] n k y other = refl
  get-set_other (x ∷ xs) zero zero y other = absurd (other refl)
  get-set_other (x ∷ xs) zero (suc k) y other = refl
  get-set_other (x ∷ xs) (suc n) zero y other = refl
  get-set_other (x ∷ xs) (suc n) (suc k) y other = get-set_other xs n k y (λ e. other (ap suc e))

  -- what is at a place is got there
  represents : (xs : List X) (n : ℕ) (x : X) → n < length xs → x ≡ get_or xs n x → slice_get xs n ≡ Some x
  represents xs n x within is = slice_get-get_or xs n x within ∙ ap Some (sym is)

  -- nothing is past the end
  pub past_end : (xs : List X) (n : ℕ) (x : X) → length xs ≤ n → slice_get xs n ≡ Some x → ⊥
  past_end xs n x past is = let none = slice_get_past xs n past in cc

  -- what holds of each holds of the one at the seam
  at_seam : (P : X → Type 0) (xs : List X) (x : X) (ys : List X) → All P (xs ++ x ∷ ys) → P x
  at_seam P [] x ys all = All-head P x ys all
  at_seam P (y ∷ xs) x ys all = at_seam P xs x ys (All-tail P y (xs ++ x ∷ ys) all)

module _ {J : Type 0} (eq : J → J → Bool) where
  -- a job that isn't equal to the one that is there doesn't are there
  pub no_job : IsEquivalence eq → (jobs : List J) (n : ℕ) (there job : J) → n < length jobs → there ≡ get_or jobs n there
      → not (eq (get_or jobs n there) job) ≡ true → slice_get jobs n ≡ Some job → ⊥
  no_job laws jobs n there job within is differs stood =
      let found = represents jobs n there within is in
      let same : there ≡ job = cc in
      let equal : eq (get_or jobs n there) job ≡ true = subst (λ x. eq x job ≡ true) (sym same ∙ is) (laws.refl job) in
      let no = rw equal at differs in cc

  -- and one that is equal is there
  pub its_job : ((one other : J) → eq one other ≡ true → one ≡ other) → (jobs : List J) (n : ℕ) (there job : J) → n < length jobs
      → there ≡ get_or jobs n there → not (eq (get_or jobs n there) job) ≡ false → slice_get jobs n ≡ Some job
  its_job exact jobs n there job within is differs =
      let same : get_or jobs n there ≡ job = exact _ _ (by_case (eq (get_or jobs n there) job) differs) in
      represents jobs n there within is ∙ ap Some (is ∙ same)
    where
      by_case : (b : Bool) → not b ≡ false → b ≡ true
      by_case true e = refl
      by_case false e = sym e

module _ {V : Type 0} where
  -- a place that has a value, and one that has none
  pub full : (places : List (Option V)) (n : ℕ) (there : Option V) → n < length places → there ≡ get_or places n there
      → is_some there ≡ true → held places n ≡ 1
  full places n None within is some = absurd (let none : ⊥ = cc in none)
  full places n (Some v) within is some = ap held_in (represents places n (Some v) within is)

  pub empty : (places : List (Option V)) (n : ℕ) (there : Option V) → n < length places → there ≡ get_or places n there
      → is_some there ≡ false → slice_get places n ≡ Some None
  empty places n None within is none = represents places n None within is
  empty places n (Some v) within is none = absurd (let no : ⊥ = cc in no)

  -- a value was put at an empty place
  pub put_at : (old : List (Option V)) (n : ℕ) (v : V) → n < length old → slice_get old n ≡ Some None → Places old n (set old n (Some v))
  put_at old n v within none = record {
    was_empty = ap held_in none;
    is_filled = ap held_in (get-set_same old n (Some v) within);
    others = λ k other. ap held_in (get-set_other old n k (Some v) other);
  }

  -- at most one value is at a place
  one_at_most : (o : Option (Option V)) → held_in o ≤ 1
  one_at_most None = omega arith
  one_at_most (Some None) = omega arith
  one_at_most (Some (Some v)) = omega arith

module _ {I R : Type 0} (steps : I → Option R → I → Type 0) where
  -- one item more
  yields_more : (s t u : I) (came : List R) (r : R) → Yields steps s came t → steps t (Some r) u → Yields steps s (came ++ r ∷ []) u
  yields_more s t u [] r yields step = (u, subst (λ i. steps i (Some r) u) (sym yields) step, refl)
  yields_more s t u (x ∷ came) r yields step = (yields.0, yields.1, yields_more yields.0 t u came r yields.2 step)

  -- what came from an iterator that gives this list is its beginning
  beginning : (all came : List R) (s t : I) → AlwaysYields steps (λ r. r) s all → Yields steps s came t
      → (later : List R) × (all ≡ came ++ later) × AlwaysYields steps (λ r. r) t later
  beginning all [] s t gives yields = (all, refl, subst (λ i. AlwaysYields steps (λ r. r) i all) yields gives)
  beginning [] (x ∷ came) s t gives yields = absurd (gives x yields.0 yields.1)
  beginning (y ∷ all) (x ∷ came) s t gives yields =
      let next = gives.1 x yields.0 yields.1 in
      let rest = beginning all came yields.0 t next.1 yields.2 in
      (rest.0, (λ i. sym next.0 i ∷ rest.1 i), rest.2)

  -- and if no more comes it is all
  ends : (t u : I) (later : List R) → AlwaysYields steps (λ r. r) t later → steps t None u → later ≡ []
  ends t u [] gives over = refl
  ends t u (y ∷ later) gives over = absurd (gives.0 u over)

module _ {I R J : Type 0} (steps : I → Option R → I → Type 0) (at : R → ℕ × J) where
  -- the parts of a list of answers
  seam : (all before later : List R) (last : R) → all ≡ (before ++ last ∷ []) ++ later
      → map at all ≡ map at before ++ at last ∷ map at later
  seam all before later last is =
      ap (map at) (is ∙ append_assoc before (last ∷ []) later) ∙ map-append at before (last ∷ later)

  -- what an iterator's answers bring is an error that some answers can bring
  pub can_bring : (jobs : List J) (answers : I) (error : WorkError) → Brings steps at jobs answers error → CanBring jobs error
  can_bring jobs answers _ OutOfMemory = tt
  can_bring jobs answers _ (IsUnknown before last rest yields rights unknown) = ((at last).1, unknown)
  can_bring jobs answers _ (IsDoubled before last rest yields rights is some) = slice_get_within jobs (at last).0 (at last).1 is
  can_bring jobs answers _ (IsMissing came number drains rights within none lower) = within

  -- if there is one right answer for each job, only memory may be needed
  pub only_no_memory : (jobs : List J) (answers : I) (error : WorkError) (all : List R) → Brings steps at jobs answers error
      → AlwaysYields steps (λ r. r) answers all → AreComplete jobs (map at all) → error ≡ NoMemory
  only_no_memory jobs answers _ all OutOfMemory gives complete = refl
  only_no_memory jobs answers _ all (IsUnknown before last rest yields rights unknown) gives complete =
      let first = beginning steps all (before ++ last ∷ []) answers rest gives yields in
      let parts = seam all before first.0 last first.1 in
      absurd (unknown (at_seam (IsTo jobs) (map at before) (at last) (map at first.0)
      (subst (λ l. All (IsTo jobs) l) parts complete.right.known)))
  only_no_memory jobs answers _ all (IsDoubled before last rest yields rights is some) gives complete =
      let first = beginning steps all (before ++ last ∷ []) answers rest gives yields in
      let n = (at last).0 in
      let count = ap (times n) (seam all before first.0 last first.1)
      ∙ sum_by-append (λ a. cond (eqb a.0 n) 1 0) (map at before) (at last ∷ map at first.0) in
      let cons = sum_by-cons (λ a. cond (eqb a.0 n) 1 0) (at last) (map at first.0) in
      let self = rw (eq-eqb n n refl) at cons in
      let most = complete.right.once n in
      absurd (let none : ⊥ = omega (arith, count, self, most, some) in none)
  only_no_memory jobs answers _ all (IsMissing came number drains rights within none lower) gives complete =
      let first = beginning steps all came answers drains.1.0 gives drains.1.1 in
      let whole = ends steps drains.1.0 drains.0 first.0 first.2 drains.1.2 in
      let same : all ≡ came = first.1 ∙ ap (λ l. came ++ l) whole ∙ append-nil came in
      let no = subst (λ l. times number (map at l) ≡ 1) same (complete.each number within) in
      absurd (let nothing : ⊥ = omega (arith, no, none) in nothing)

module _ {I R J V : Type 0} (steps : I → Option R → I → Type 0) (at : R → ℕ × J) where
  -- these answers came, each to a job of the list, and filled the places
  pub record Filled (jobs : List J) (places : List (Option V)) (came : List R) : Type 0 where
    pub known : All (IsTo jobs) (map at came)
    pub count : (k : ℕ) → times k (map at came) ≡ held places k

  pub none_yet : (jobs : List J) (places : List (Option V)) → ((k : ℕ) → held places k ≡ 0) → Filled jobs places []
  none_yet jobs places none = record { known = All-nil _; count = λ k. sym (none k) }

  -- one answer more
  pub one_more : (jobs : List J) (old new : List (Option V)) (came : List R) (r : R) → Filled jobs old came → IsTo jobs (at r)
      → Places old (at r).0 new → Filled jobs new (came ++ r ∷ [])
  one_more jobs old new came r filled is placed =
      let longer : map at came ++ at r ∷ [] ≡ map at (came ++ r ∷ []) = sym (map-append at came (r ∷ [])) in
      record {
        known = subst (λ l. All (IsTo jobs) l) longer (All-push (IsTo jobs) (map at came) (at r) filled.known is);
        count = λ k. subst (λ l. times k l ≡ held new k) longer (by_case k (eqb (at r).0 k) refl);
      }
    where
      by_case : (k : ℕ) → (b : Bool) → eqb (at r).0 k ≡ b → times k (map at came ++ at r ∷ []) ≡ held new k
      by_case k true e =
          let same : (at r).0 ≡ k = eqb-true (at r).0 k e in
          let pushed = sum_by_push (λ a. cond (eqb a.0 k) 1 0) (map at came) (at r) in
          let before = filled.count k in
          let was : held old k ≡ 0 = subst (λ n. held old n ≡ 0) same placed.was_empty in
          let now : held new k ≡ 1 = subst (λ n. held new n ≡ 1) same placed.is_filled in
          let longer = rw e at pushed in
          omega (arith, longer, before, was, now)
      by_case k false e =
          let pushed = sum_by_push (λ a. cond (eqb a.0 k) 1 0) (map at came) (at r) in
          let before = filled.count k in
          let other = placed.others k (λ same. eqb-false (at r).0 k e (sym same)) in
          let longer = rw e at pushed in
          omega (arith, longer, before, other)

  -- so no two are to one job
  rights : (jobs : List J) (places : List (Option V)) (came : List R) → Filled jobs places came → AreRight jobs (map at came)
  rights jobs places came filled = record {
    known = filled.known;
    once = λ k. let count = filled.count k in let most = one_at_most (slice_get places k) in omega (arith, count, most);
  }

  -- which error an answer brings that isn't put into its place
  pub refused : (jobs : List J) (places : List (Option V)) (answers s t : I) (came : List R) (r : R) (error : WorkError)
      → Yields steps answers came s
      → steps s (Some r) t → Filled jobs places came → IsRefused jobs places (at r) error → Brings steps at jobs answers error
  refused jobs places answers s t came r _ yields step filled (NoJob unknown) =
      IsUnknown came r t (yields_more steps answers s t came r yields step) (rights jobs places came filled) unknown
  refused jobs places answers s t came r _ yields step filled (NotEmpty is some) =
      IsDoubled came r t (yields_more steps answers s t came r yields step) (rights jobs places came filled) is (filled.count (at r).0
      ∙ some)

  -- which error a place brings that is empty at the end
  pub lacking : (jobs : List J) (places : List (Option V)) (answers : I) (came : List R) (error : WorkError) → Drains steps answers came
      → Filled jobs places came → Lacks jobs places error → Brings steps at jobs answers error
  lacking jobs places answers came _ drains filled NoRoom = OutOfMemory
  lacking jobs places answers came _ drains filled (FirstEmpty number within none lower) =
      IsMissing came number drains (rights jobs places came filled) within (filled.count number ∙ none) (λ k less. filled.count k
      ∙ lower k less)
