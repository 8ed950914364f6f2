-- When a history and receipts agree.
use Rattle.std.specs.Prelude.{◌≡◌, ℕ, ◌<◌, ◌≤◌, ◌==◌, Bool, true, false, ◌⊎◌, List, [], ◌∷◌, length}
use Rattle.std.specs.Prelude.{filter, flat_map, Some, slice_get, All, Any, AllPairs}
use Rattle.flume_model.specs.declared.step.Step.{Step}
use Rattle.flume_model.specs.declared.step.Reply.{Reply}
use Rattle.flume_audit.specs.declared.receipt.Receipt.{Receipt}
use Rattle.flume_audit.specs.Recorded.{History}

module _ {T A : Type 0} where
  -- the step and the reply of a receipt
  abbrev pub step_and_reply : Receipt T A → Step T × Reply T A
  step_and_reply receipt = (receipt.step, receipt.reply)

  -- the receipts with this number, of all lists
  abbrev pub receipts_at : ℕ → List (List (Receipt T A)) → List (Receipt T A)
  receipts_at number lists = flat_map (filter (λ receipt. receipt.number == number)) lists

  -- one of these receipts has this number, and isn't above the one before it
  abbrev pub NotAbove : ℕ → List (Receipt T A) → Type 0
  NotAbove number (before ∷ receipt ∷ rest) =
      ((receipt.number ≡ number) × (number ≤ before.number)) ⊎ NotAbove number (receipt ∷ rest)
  NotAbove number _ = ⊥

  module _ (equal : Step T × Reply T A → Step T × Reply T A → Bool) where
    -- there is one receipt, and it equals the entry
    abbrev pub has_one_receipt : Step T × Reply T A → List (Receipt T A) → Bool
    has_one_receipt entry (receipt ∷ []) = equal (step_and_reply receipt) entry
    has_one_receipt entry _ = false

    -- if the history has an entry with this number, one receipt has it, and equals the entry
    abbrev pub AgreeAt : History T A → List (List (Receipt T A)) → ℕ → Type 0
    AgreeAt history lists number =
        (entry : Step T × Reply T A) → slice_get history number ≡ Some entry
        → has_one_receipt entry (receipts_at number lists) ≡ true

    -- they don't agree there, a receipt there isn't above the one before, or one is past this end
    abbrev pub DisagreeAt : History T A → List (List (Receipt T A)) → ℕ → Type 0
    DisagreeAt history lists number =
        (AgreeAt history lists number → ⊥)
        ⊎ Any (NotAbove number) lists
        ⊎ ((number ≡ length history)
        × Any (Any (λ receipt. length history ≤ receipt.number)) lists)

    -- the least number at which they disagree
    abbrev pub LeastDisagreement : History T A → List (List (Receipt T A)) → ℕ → Type 0
    LeastDisagreement history lists number =
        DisagreeAt history lists number
        × ((lower : ℕ) → lower < number → DisagreeAt history lists lower → ⊥)

    -- a history that the receipts agree with
    pub record IsSettled (history : History T A) (lists : List (List (Receipt T A)))
        : Type 0 where
      pub once : (number : ℕ) → AgreeAt history lists number
      pub rising : All (AllPairs (λ receipt later. receipt.number < later.number)) lists
      pub within : All (All (λ receipt. receipt.number < length history)) lists
