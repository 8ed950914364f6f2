-- The least number at which a history and receipts disagree, from the least misplaced number.
use Rattle.std.proofs.Common.{◌≡◌, ℕ, ◌<◌, ◌≤◌, inl, inr, Bool, true, false, Option, Some, None, List, length, slice_get, get_or, Any}
use Rattle.std.proofs.Common.{IfSome, IfNone, unwrap_or, refl, sym, ◌∙◌, arith}
use Rattle.std.proofs.lemmas.Bool.{cases_lt, false≢true}
use Rattle.std.proofs.lemmas.Option.{slice_get_past, get_or_from_slice_get}
use Rattle.flume_model.specs.declared.step.Step.{Step}
use Rattle.flume_model.specs.declared.step.Reply.{Reply}
use Rattle.flume_audit.specs.declared.receipt.Receipt.{Receipt}
use Rattle.flume_audit.specs.Recorded.{History}
use Rattle.flume_audit.specs.Settled.{NotAbove, AgreeAt, DisagreeAt, LeastDisagreement, has_one_receipt, receipts_at}
use Rattle.flume_audit.specs.Misplaced.{IsLeast, Misplaced}
use Rattle.flume_audit.proofs.AnyLemmas.{any_as}
use Rattle.flume_audit.proofs.NeighbourLemmas.{there_if_not_above}

-- if a misplaced number is past the end, so is a receipt, and the end is misplaced
end_if_past : {T A : Type 0} (end number : ℕ) (list : List (Receipt T A)) → end ≤ number
    → Misplaced end number list → Misplaced end end list
end_if_past end number list le (inl not_above) =
    inr (
      refl,
      any_as (λ receipt. receipt.number ≡ number) (λ receipt. end ≤ receipt.number) list
          (λ receipt same. omega arith) (there_if_not_above number list not_above),
    )
end_if_past end number list le (inr past) = inr (refl, past.1)

-- this is the least misplaced number, or none is misplaced
abbrev pub IsEnd : {T A : Type 0} → History T A → List (List (Receipt T A)) → Option ℕ → Type 0
IsEnd history lists end = IsLeast (λ number. Any (Misplaced (length history) number) lists) end

-- the least misplaced number is at most the history's length
pub bound_within : {T A : Type 0} (history : History T A) (lists : List (List (Receipt T A)))
    (end : Option ℕ) → IsEnd history lists end → unwrap_or end (length history) ≤ length history
bound_within history lists None none = omega arith
bound_within history lists (Some number) is = elim (cases_lt (length history) number) [
  | inl past ↦ is.1 (length history) (any_as (Misplaced (length history) number)
      (Misplaced (length history) (length history)) lists
      (λ list. end_if_past (length history) number list (omega arith)) is.0)
  | inr within ↦ within
]

-- a number below it is below that of every receipt that isn't above the one before it
pub rises_below : {T A : Type 0} (history : History T A) (lists : List (List (Receipt T A)))
    (end : Option ℕ) → IsEnd history lists end → (number : ℕ)
    → number < unwrap_or end (length history) → (misplaced : ℕ) → Any (NotAbove misplaced) lists
    → number < misplaced
rises_below history lists None none number below misplaced any =
    absurd (none misplaced (any_as (NotAbove misplaced) (Misplaced (length history) misplaced)
    lists (λ list not_above. inl not_above) any))
rises_below history lists (Some first) is number below misplaced any =
    let le : first ≤ misplaced = is.1 misplaced (any_as (NotAbove misplaced)
    (Misplaced (length history) misplaced) lists (λ list not_above. inl not_above) any) in
    omega arith

module _ {T A : Type 0} (history : History T A) (lists : List (List (Receipt T A)))
    (equal : Step T × Reply T A → Step T × Reply T A → Bool) where
  -- they agree at each number below this one
  abbrev pub AgreeBelow : ℕ → Type 0
  AgreeBelow number = (lower : ℕ) → lower < number → AgreeAt equal history lists lower

  module _ (end : Option ℕ) (is : IsEnd history lists end) where
    -- if they agree at a number below the least misplaced, they don't disagree there
    agree_below : (number : ℕ) → number < unwrap_or end (length history)
        → AgreeAt equal history lists number → DisagreeAt equal history lists number → ⊥
    agree_below number below agree (inl not) = not agree
    agree_below number below agree (inr (inl any)) =
        let lt = rises_below history lists end is number below number any in omega (arith, lt)
    agree_below number below agree (inr (inr past)) =
        let within = bound_within history lists end is in
        let same : number ≡ length history = past.0 in omega (arith, within)

    -- at a number below it whose entry hasn't exactly one receipt they disagree, and not before
    pub without_one_receipt : (number : ℕ) (entry : Step T × Reply T A)
        → number < unwrap_or end (length history) → slice_get history number ≡ Some entry
        → false ≡ has_one_receipt equal entry (receipts_at number lists) → AgreeBelow number
        → LeastDisagreement equal history lists number
    without_one_receipt number entry below at not agree = (
      inl (λ all_agree. false≢true (not ∙ all_agree entry at)),
      λ lower lt. agree_below lower (omega arith) (agree lower lt),
    )

  -- what is misplaced disagrees
  misplaced_disagrees : (number : ℕ) → Any (Misplaced (length history) number) lists
      → DisagreeAt equal history lists number
  misplaced_disagrees number (place, list, within, at, inl not_above) =
      inr (inl (place, list, within, at, not_above))
  misplaced_disagrees number (place, list, within, at, inr past) =
      inr (inr (past.0, (place, list, within, at, past.1)))

  -- if they agree throughout and nothing is misplaced, they disagree nowhere
  agree_throughout : IsEnd history lists None → AgreeBelow (length history) → (number : ℕ)
      → DisagreeAt equal history lists number → ⊥
  agree_throughout none agree number (inl not) = elim (cases_lt number (length history)) [
    | inl within ↦ not (agree number within)
    | inr past ↦ not (λ entry at. (let nothing = slice_get_past history number past in cc))
  ]
  agree_throughout none agree number (inr (inl any)) =
      none number (any_as (NotAbove number) (Misplaced (length history) number) lists
      (λ list not_above. inl not_above) any)
  agree_throughout none agree number (inr (inr past)) =
      none number (any_as (Any (λ receipt. length history ≤ receipt.number))
      (Misplaced (length history) number) lists (λ list any. inr (past.0, any)) past.1)

  -- if they agree below the least misplaced number, they disagree there, and not before
  pub end_some : (end : Option ℕ) → IsEnd history lists end
      → AgreeBelow (unwrap_or end (length history))
      → IfSome end (LeastDisagreement equal history lists)
  end_some None none agree = tt
  end_some (Some number) is agree = (
    misplaced_disagrees number is.0,
    λ lower lt. agree_below (Some number) is lower lt (agree lower lt),
  )

  -- if they agree throughout and no number is misplaced, they disagree nowhere
  pub end_none : (end : Option ℕ) → IsEnd history lists end
      → AgreeBelow (unwrap_or end (length history))
      → IfNone end ((number : ℕ) → DisagreeAt equal history lists number → ⊥)
  end_none None none agree = agree_throughout none agree
  end_none (Some number) is agree = tt

  -- if the entry at a number has one receipt, they agree there
  pub agree_here : (number : ℕ) (entry : Step T × Reply T A) → entry ≡ get_or history number entry
      → true ≡ has_one_receipt equal entry (receipts_at number lists)
      → AgreeAt equal history lists number
  agree_here number entry at all_agree = λ other is.
      let same : entry ≡ other = at ∙ get_or_from_slice_get history number other entry is in
      rw (← same) (sym all_agree)
