-- What steps with their replies weigh.
use Rattle.std.specs.Prelude.{◌≡◌, ◌≤◌, ℕ, List, length, sum_by}
use Rattle.flume_model.specs.declared.step.Step.{Step}
use Rattle.flume_model.specs.declared.step.Reply.{Reply}
use Rattle.flume_model.specs.declared.step.Reply.TheVariants.{Drained}
use Rattle.flume_model.specs.Replies.{SameReply}
use Rattle.flume_audit.specs.declared.receipt.Receipt.{Receipt}

module _ {T A : Type 0} where
  -- a drained list has at most this many messages
  abbrev pub DrainedWithin : ℕ → Reply T A → Type 0
  DrainedWithin most (Drained list) = length list.items ≤ most
  DrainedWithin most reply = Unit {0}

  -- the same replies to a step weigh the same
  abbrev pub GoesByMessages : (Step T → Reply T A → ℕ) → Type 0
  GoesByMessages weight =
      (step : Step T) (reply other : Reply T A) → SameReply reply other
      → weight step reply ≡ weight step other

  module _ (weight : Step T → Reply T A → ℕ) where
    -- what a history weighs
    abbrev pub history_weight : List (Step T × Reply T A) → ℕ
    history_weight history = sum_by (λ entry. weight entry.0 entry.1) history

    -- what receipts weigh
    abbrev pub receipts_weight : List (Receipt T A) → ℕ
    receipts_weight receipts = sum_by (λ receipt. weight receipt.step receipt.reply) receipts

    -- what all lists of receipts weigh
    abbrev pub lists_weight : List (List (Receipt T A)) → ℕ
    lists_weight lists = sum_by receipts_weight lists
