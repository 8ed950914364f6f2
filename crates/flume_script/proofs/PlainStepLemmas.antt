-- The steps without a number.
use Rattle.std.proofs.Common.{◌≡◌, ◌≢◌, ℕ, None, List, [], ◌∷◌, rules}
use Rattle.std.specs.List.{All}
use Rattle.std.proofs.lemmas.List.Elements.{recursion_from_All}
use Rattle.flume_model.specs.declared.step.Kind.TheVariants.{Block, Plain, Stream, Arm}
use Rattle.flume_model.specs.declared.step.Step.{Step}
use Rattle.flume_model.specs.declared.step.Step.TheVariants.{TrySend, TryRecv, Recv, Drain, CloneSender}
use Rattle.flume_model.specs.declared.step.Step.TheVariants.{CloneReceiver, DropSender, DropReceiver, Len}
use Rattle.flume_model.specs.declared.step.Step.TheVariants.{IsEmpty, IsFull, Capacity, SenderCount, ReceiverCount, IsDisconnected}
use Rattle.flume_script.specs.Script.{step_parts}

-- all of them
abbrev pub plain : List (Step ℕ)
plain =
    TryRecv ∷ Recv Block ∷ Recv Plain ∷ Recv Stream ∷ Recv Arm ∷ Drain ∷ CloneSender ∷ CloneReceiver ∷ DropSender ∷ DropReceiver
    ∷ Len ∷ IsEmpty ∷ IsFull ∷ Capacity ∷ SenderCount ∷ ReceiverCount ∷ IsDisconnected ∷ []

-- a word that none of them has is no step's without a number
pub no_plain : (word : List ℕ) (step : Step ℕ) → step_parts step ≡ (word, None) → All (λ s. step_parts s ≢ (word, None)) plain → ⊥
no_plain word step is none =
    let each = recursion_from_All (λ s. step_parts s ≢ (word, None)) plain none in
    (elim step as (λ s. step_parts s ≢ (word, None)) [
      | TrySend n ↦ search rules
      | Recv kind ↦ elim kind as (λ k. step_parts (Recv k) ≢ (word, None)) [ Block ↦ search rules | _ ↦ search rules ]
      | _ ↦ search rules
    ]) is
