-- How many entries wait and how many are woken, after a wake round, a leave and one more entry.
use Rattle.flume_model.proofs.Common.{◌≡◌, ℕ, ◌+◌, ◌<◌, ◌≤◌, true, false, if◌then◌else◌, List, [], ◌∷◌, Option, Some, refl, arith}
use Rattle.flume_model.proofs.Common.{is_waiting, is_woken, some_wait, waiting_count, woken_count, round, round_fills, entry_of}
use Rattle.flume_model.proofs.Common.{without_ticket}
use Rattle.flume_model.proofs.Common.{fill_count, Entry, Mark, common_steps}

module _ {T : Type 0} where
  -- one for a mark that waits
  abbrev pub waits_one : Mark T → ℕ
  waits_one m = if is_waiting m then 1 else 0

  -- one for a mark that is woken
  abbrev pub woken_one : Mark T → ℕ
  woken_one m = if is_woken m then 1 else 0

module _ {T N : Type 0} where
  -- if none waits, none is counted
  pub counted_none : (es : List (Entry T N)) → some_wait es ≡ false → waiting_count es ≡ 0
  counted_none [] h = refl
  counted_none (x ∷ es) h = grind (arith, common_steps, counted_none es)

  -- if one waits, it is counted
  pub counted_some : (es : List (Entry T N)) → some_wait es ≡ true → 0 < waiting_count es
  counted_some [] h = absurd (let none : ⊥ = cc in none)
  counted_some (x ∷ es) h = grind (arith, common_steps, counted_some es)

  -- what a round does to the counts
  pub record Rounded (es after : List (Entry T N)) (filled : Option ℕ) : Type 0 where
    pub total : waiting_count after + woken_count after + fill_count filled ≡ waiting_count es + woken_count es
    pub no_more : waiting_count after ≤ waiting_count es
    pub fewer : some_wait es ≡ true → waiting_count after + 1 ≤ waiting_count es

  -- a round wakes or fills one if one waits, and as many wait no longer as it wakes and fills
  pub round_counts : (notify : N → N) (front : T) (es : List (Entry T N)) → Rounded es (round notify front es) (round_fills es)
  round_counts notify front [] =
      record { total = omega arith; no_more = omega arith; fewer = λ some. absurd (let none : ⊥ = cc in none) }
  round_counts notify front (x ∷ es) = let rest = round_counts notify front es in record {
    total = grind (arith, common_steps, rest.total);
    no_more = grind (arith, common_steps, rest.no_more);
    fewer = grind (arith, common_steps, rest.fewer);
  }

  -- what a leave does to the counts
  pub record OneFewer (es after : List (Entry T N)) (m : Mark T) : Type 0 where
    pub waiting : waiting_count after + waits_one m ≡ waiting_count es
    pub woken : woken_count after + woken_one m ≡ woken_count es

  -- if an entry leaves, it is no longer counted
  pub without_counts : (t : ℕ) (e : Entry T N) (es : List (Entry T N)) → entry_of t es ≡ Some e → OneFewer es (without_ticket t es) e.mark
  without_counts t e [] h = absurd (let none : ⊥ = cc in none)
  without_counts t e (x ∷ es) h = record {
    waiting = grind (arith, common_steps, without_counts t e es);
    woken = grind (arith, common_steps, without_counts t e es);
  }
