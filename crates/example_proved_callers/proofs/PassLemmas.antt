-- One number more was passed: what its two steps gave out is added.
use Rattle.std.proofs.Common.{◌≡◌, ℕ, suc, ◌+◌, ◌%◌, ◌^◌, List, [], ◌∷◌, ◌++◌, refl, sym, ◌∙◌, ap, ap₂, arith}
use Rattle.std.proofs.lemmas.List.Sums.{sum_by-append, sum_by-cons}
use Rattle.std.proofs.Math.Nat.{mod-add-mod}
use Rattle.flume_model.specs.declared.step.Step.{Step}
use Rattle.flume_model.specs.declared.step.Step.TheVariants.{TrySend, TryRecv}
use Rattle.flume_model.specs.declared.step.Reply.{Reply}
use Rattle.flume_model.specs.declared.step.Reply.TheVariants.{Returned, Got, Drained}
use Rattle.flume_model.specs.Log.{Log}
use Rattle.flume_model.specs.Conserved.{gives, given_out}
use Rattle.flume.specs.PossibleReply.{PossibleReply}
use Rattle.example_proved_callers.specs.Loops.{passes, sum_of}

-- the steps for one number more
pub passes_next : (count : ℕ) (steps : List (Step ℕ)) → steps ≡ passes count
    → TryRecv ∷ TrySend count ∷ steps ≡ passes (count + 1)
passes_next count steps are =
    let next : suc count ≡ count + 1 = omega arith in
    ap (λ l. TryRecv ∷ TrySend count ∷ l) are ∙ ap passes next

-- the sum of one message
pub sum_of_one : (message : ℕ) → sum_of (message ∷ []) ≡ message
sum_of_one message =
    let none : message + 0 ≡ message = omega arith in sum_by-cons (λ m. m) message [] ∙ none

module _ {A : Type 0} where
  -- an offer gives out nothing
  offer_gives : (number : ℕ) (reply : Reply ℕ A) → PossibleReply (TrySend number) reply → gives reply ≡ []
  offer_gives number (Returned message closed) possible_reply = absurd possible_reply
  offer_gives number (Got message) possible_reply = absurd possible_reply
  offer_gives number (Drained list) possible_reply = absurd possible_reply
  offer_gives number _ possible_reply = refl

  -- the sum goes on by what was received
  pub sum_next : (steps : Log ℕ A) (number : ℕ) (offered received : Reply ℕ A) (message sum after : ℕ)
      → PossibleReply (TrySend number) offered → sum_of (gives received) ≡ message
      → sum ≡ sum_of (given_out steps) % 2 ^ 64 → after ≡ (sum + message) % 2 ^ 64
      → after ≡ sum_of (given_out ((TryRecv, received) ∷ (TrySend number, offered) ∷ steps)) % 2 ^ 64
  sum_next steps number offered received message sum after possible_reply got was is =
      let none : gives offered ≡ [] = offer_gives number offered possible_reply in
      let before = sum_of (given_out steps) in
      let all : sum_of (gives received ++ (gives offered ++ given_out steps)) ≡ message + before =
      sum_by-append (λ m. m) (gives received) (gives offered ++ given_out steps)
      ∙ ap₂ (λ n m. n + m) got (ap (λ l. sum_of (l ++ given_out steps)) none) in
      let turned : before + message ≡ message + before = omega arith in
      is ∙ ap (λ s. (s + message) % 2 ^ 64) was ∙ mod-add-mod before (2 ^ 64) message
      ∙ ap (λ s. s % 2 ^ 64) (turned ∙ sym all)
