-- The list of parked receivers: how many of them wait.
use Rattle.std.proofs.Common.{◌≡◌, ◌≢◌, ℕ, ◌+◌, ◌≤◌, Bool, true, false, cond, ltb, ◌||◌, List, [], ◌∷◌, ◌++◌}
use Rattle.std.proofs.Common.{length, refl, ap, ◌∙◌, arith, lt-ltb}
use Rattle.flume_model.specs.Entries.{is_waiting, waiting_count, some_wait}
use Rattle.flume_model.specs.declared.entry.Entry.{Entry}
use Rattle.flume_model.specs.declared.entry.Mark.{Mark}
use Rattle.flume_model.specs.declared.entry.Mark.TheVariants.{Waiting, Woken, Filled}

-- one number of two is 1 at most
weight-le : (b : Bool) → cond b 1 0 ≤ 1
weight-le true = omega arith
weight-le false = omega arith

-- if the first waits, somebody does, and else if somebody of the others does
wait_bool : (b : Bool) (n : ℕ) (some : Bool) → ltb 0 n ≡ some → ltb 0 (cond b 1 0 + n) ≡ (b || some)
wait_bool true n some e = lt-ltb _ _ (omega arith)
wait_bool false n some e = ap (ltb 0) (let less : 0 + n ≡ n = omega arith in less) ∙ e

module _ {T : Type 0} where
  -- a mark that isn't one that waits
  pub not_waiting : (mark : Mark T) → mark ≢ Waiting → is_waiting mark ≡ false
  not_waiting Waiting other = absurd (other refl)
  not_waiting Woken other = refl
  not_waiting (Filled message) other = refl

module _ {T N : Type 0} where
  -- what an entry adds to the number of those that wait
  abbrev pub weight : Entry T N → ℕ
  weight e = cond (is_waiting e.mark) 1 0

  -- as many wait in two lists as in the one and in the other
  pub count-append : (xs ys : List (Entry T N)) → waiting_count (xs ++ ys) ≡ waiting_count xs + waiting_count ys
  count-append [] ys = omega arith
  count-append (x ∷ xs) ys = omega (arith, count-append xs ys)

  -- no more wait than are parked
  pub count-le : (xs : List (Entry T N)) → waiting_count xs ≤ length xs
  count-le [] = omega arith
  count-le (x ∷ xs) = omega (arith, count-le xs, weight-le (is_waiting x.mark))

  -- somebody waits exactly if the count isn't 0
  pub some_wait_counted : (xs : List (Entry T N)) → ltb 0 (waiting_count xs) ≡ some_wait xs
  some_wait_counted [] = refl
  some_wait_counted (x ∷ xs) = wait_bool (is_waiting x.mark) (waiting_count xs) (some_wait xs) (some_wait_counted xs)
