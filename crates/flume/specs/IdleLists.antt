-- Arms without a message, with one arm more: through turns and withdrawals they stay so, too.
use Rattle.std.specs.Prelude.{◌≡◌, ◌≢◌, ◌⊎◌, ℕ, Bool}
use Rattle.std.proofs.lemmas.Bool.{cases_eq}
use mathlib.Core.Path.{sym, ap, subst, ◌∙◌}
use mathlib.Core.Logic.{inl, inr}
use Rattle.flume_calls.specs.declared.gates.select.ArmNext.{ArmNext}
use Rattle.flume_calls.specs.declared.gates.select.ArmNext.TheVariants as next
use Rattle.flume.specs.Selections.{ByNumber}
use Rattle.flume.specs.IdleArms.{StaysIdle, StayIdle}

module _ {L M C N : Type 0} (count : M → ℕ) (mappers : L → M) (all_idle : L → Type 0)
    (others_idle : L → ℕ → Type 0) (turns : Bool → L → ℕ → L → ArmNext → Type 0)
    (withdraws : L → ℕ → L → Type 0) (mapper : C → N) (is_idle : C → Type 0)
    (turns_one : Bool → C → ArmNext → C → Type 0) (withdraws_one : C → C → Type 0) where
  -- the mappers with one more
  abbrev pub both_mappers : L × C → M × N
  both_mappers arms = (mappers arms.0, mapper arms.1)

  -- all are idle, with one more
  abbrev pub both_idle : L × C → Type 0
  both_idle arms = all_idle arms.0 × is_idle arms.1

  -- all but the one with this number
  abbrev pub others_of_both : L × C → ℕ → Type 0
  others_of_both arms arm = ByNumber (count (mappers arms.0))
      (λ n. others_idle arms.0 n × is_idle arms.1) (all_idle arms.0) arm

  -- a turn, with one arm more
  abbrev pub turns_of_both : Bool → L × C → ℕ → L × C → ArmNext → Type 0
  turns_of_both parks old arm new answer = ByNumber (count (mappers old.0))
      (λ n. turns parks old.0 n new.0 answer × (new.1 ≡ old.1))
      (turns_one parks old.1 answer new.1 × (new.0 ≡ old.0)) arm

  -- a withdrawal, with one arm more
  abbrev pub withdraws_of_both : L × C → ℕ → L × C → Type 0
  withdraws_of_both old arm new = ByNumber (count (mappers old.0))
      (λ n. withdraws old.0 n new.0 × (new.1 ≡ old.1))
      (withdraws_one old.1 new.1 × (new.0 ≡ old.0)) arm

  module _ (kept : StayIdle mappers all_idle others_idle turns withdraws)
      (kept_one : StaysIdle mapper is_idle turns_one withdraws_one) where
    -- a turn of both keeps the mappers
    both_same : (parks : Bool) (old new : L × C) (arm : ℕ) (answer : ArmNext)
        → turns_of_both parks old arm new answer → both_mappers new ≡ both_mappers old
    both_same parks old new arm answer turn =
        by_case (cases_eq arm (count (mappers old.0)))
      where
        by_case : (arm ≡ count (mappers old.0)) ⊎ (arm ≡ count (mappers old.0) → ⊥)
            → both_mappers new ≡ both_mappers old
        by_case (inl is) =
            let last = turn.is_last is in
            λ i. (mappers (last.1 i), kept_one.same_after_turn _ _ _ _ last.0 i)
        by_case (inr apart) =
            let before = turn.is_before apart in
            λ i. (kept.same_after_turn _ _ _ _ _ before.0 i, mapper (before.1 i))

    -- so does a withdrawal
    both_same_withdrawn : (old new : L × C) (arm : ℕ) → withdraws_of_both old arm new
        → both_mappers new ≡ both_mappers old
    both_same_withdrawn old new arm left =
        by_case (cases_eq arm (count (mappers old.0)))
      where
        by_case : (arm ≡ count (mappers old.0)) ⊎ (arm ≡ count (mappers old.0) → ⊥)
            → both_mappers new ≡ both_mappers old
        by_case (inl is) =
            let last = left.is_last is in
            λ i. (mappers (last.1 i), kept_one.same_withdrawn _ _ last.0 i)
        by_case (inr apart) =
            let before = left.is_before apart in
            λ i. (kept.same_withdrawn _ _ _ before.0 i, mapper (before.1 i))

    -- a turn that completes none leaves all idle
    both_after_turn : (parks : Bool) (old new : L × C) (arm : ℕ) (answer : ArmNext)
        → turns_of_both parks old arm new answer → answer ≢ next.Completed → both_idle old
        → both_idle new
    both_after_turn parks old new arm answer turn none idle =
        by_case (cases_eq arm (count (mappers old.0)))
      where
        by_case : (arm ≡ count (mappers old.0)) ⊎ (arm ≡ count (mappers old.0) → ⊥)
            → both_idle new
        by_case (inl is) =
            let last = turn.is_last is in
            (subst all_idle (sym last.1) idle.0, kept_one.after_turn _ _ _ _ last.0 none idle.1)
        by_case (inr apart) =
            let before = turn.is_before apart in
            (kept.after_turn _ _ _ _ _ before.0 none idle.0, subst is_idle (sym before.1) idle.1)

    -- each turn leaves the others idle
    both_completed : (parks : Bool) (old new : L × C) (arm : ℕ) (answer : ArmNext)
        → turns_of_both parks old arm new answer → both_idle old → others_of_both new arm
    both_completed parks old new arm answer turn idle =
        by_case (cases_eq arm (count (mappers old.0)))
      where
        by_case : (arm ≡ count (mappers old.0)) ⊎ (arm ≡ count (mappers old.0) → ⊥)
            → others_of_both new arm
        by_case (inl is) =
            let last = turn.is_last is in record {
              is_before = λ other. absurd (other (is ∙ sym (ap (λ l. count (mappers l)) last.1)));
              is_last = λ same. subst all_idle (sym last.1) idle.0;
            }
        by_case (inr apart) =
            let before = turn.is_before apart in record {
              is_before = λ other.
                  (kept.completed _ _ _ _ _ before.0 idle.0, subst is_idle (sym before.1) idle.1);
              is_last = λ same. absurd (apart (same ∙ ap count (kept.same_after_turn _ _ _ _ _ before.0)));
            }

    -- a withdrawal leaves all idle
    both_withdrawn : (old new : L × C) (arm : ℕ) → withdraws_of_both old arm new → both_idle old
        → both_idle new
    both_withdrawn old new arm left idle =
        by_case (cases_eq arm (count (mappers old.0)))
      where
        by_case : (arm ≡ count (mappers old.0)) ⊎ (arm ≡ count (mappers old.0) → ⊥)
            → both_idle new
        by_case (inl is) =
            let last = left.is_last is in
            (subst all_idle (sym last.1) idle.0, kept_one.withdrawn _ _ last.0 idle.1)
        by_case (inr apart) =
            let before = left.is_before apart in
            (kept.withdrawn _ _ _ before.0 idle.0, subst is_idle (sym before.1) idle.1)

    -- and all but one
    both_others : (old new : L × C) (arm other : ℕ) → withdraws_of_both old arm new
        → others_of_both old other → others_of_both new other
    both_others old new arm other left idle =
        by_case (cases_eq arm (count (mappers old.0)))
      where
        by_case : (arm ≡ count (mappers old.0)) ⊎ (arm ≡ count (mappers old.0) → ⊥)
            → others_of_both new other
        by_case (inl is) =
            let last = left.is_last is in
            let same = ap (λ l. count (mappers l)) last.1 in record {
              is_before = λ o. (
                subst (λ l. others_idle l other) (sym last.1)
                    (idle.is_before (λ e. o (e ∙ sym same))).0,
                kept_one.withdrawn _ _ last.0 (idle.is_before (λ e. o (e ∙ sym same))).1,
              );
              is_last = λ e. subst all_idle (sym last.1) (idle.is_last (e ∙ same));
            }
        by_case (inr apart) =
            let before = left.is_before apart in
            let same = ap count (kept.same_withdrawn _ _ _ before.0) in record {
              is_before = λ o. (
                kept.others_withdrawn _ _ _ _ before.0 (idle.is_before (λ e. o (e ∙ sym same))).0,
                subst is_idle (sym before.1) (idle.is_before (λ e. o (e ∙ sym same))).1,
              );
              is_last = λ e. kept.withdrawn _ _ _ before.0 (idle.is_last (e ∙ same));
            }

    -- all of that
    pub both_stay_idle :
        StayIdle both_mappers both_idle others_of_both turns_of_both withdraws_of_both
    both_stay_idle = record {
      same_after_turn = both_same;
      same_withdrawn = both_same_withdrawn;
      after_turn = both_after_turn;
      completed = both_completed;
      withdrawn = both_withdrawn;
      others_withdrawn = both_others;
    }
