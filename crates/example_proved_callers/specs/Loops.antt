-- What a loop over a channel of one owner did.
use Rattle.std.specs.Prelude.{◌≡◌, ℕ, zero, suc, ◌%◌, ◌^◌, List, [], ◌∷◌, ◌++◌, map, sum_by}
use Rattle.flume_model.specs.declared.step.Step.{Step}
use Rattle.flume_model.specs.declared.step.Step.TheVariants.{TrySend, TryRecv}
use Rattle.flume_model.specs.Log.{Log, Opening}
use Rattle.flume_model.specs.Theorem.{TheoremThroughout}
use Rattle.flume_model.specs.Conserved.{given_out}
use Rattle.flume.specs.State.{State}
use Rattle.flume.specs.Represents.{Represents}

-- the steps that send this many numbers, from 0 on, with a receive after each; the last one first
abbrev pub passes : ℕ → List (Step ℕ)
passes zero = []
passes (suc count) = TryRecv ∷ TrySend count ∷ passes count

-- the sum of messages
abbrev pub sum_of : List ℕ → ℕ
sum_of messages = sum_by (λ message. message) messages

module _ {A : Type 0} where
  -- these steps were made, the theorem held throughout the log with them, and the sum is of what
  -- came
  pub record HasPassed (opening : Opening) (log : Log ℕ A) (count : ℕ) (s : State ℕ (Unit {0}))
      (sum : ℕ) : Type 0 where
    pub steps : Log ℕ A
    pub made : map (λ pair. pair.0) steps ≡ passes count
    pub leads : Represents opening (steps ++ log) s
    pub throughout : TheoremThroughout opening (steps ++ log)
    pub sum_is : sum ≡ sum_of (given_out steps) % 2 ^ 64
