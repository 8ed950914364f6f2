-- How long it is, by what the clock read.
use Rattle.std.proofs.Common.{◌≡◌, ℕ, ◌+◌, ◌<◌, ◌≤◌, ◌↔◌, ◌⊎◌, inl, inr, Result, Ok, Err, Option, Some, None}
use Rattle.std.proofs.Common.{IsErr, IsNone, IfSome, IfOk, refl, arith}
use Rattle.std.proofs.lemmas.Bool.{cases_order}
use Rattle.std.specs.Duration.{as_nanos}
use Rattle.std.specs.declared.time.Duration.{Duration}
use Rattle.std.specs.declared.time.Instant.{Instant}
use Rattle.std.specs.Time.{instant_nanos, FitsClock}
use Rattle.flume_deadline.proofs.left_until.Goals as goal

module _ {E : Type 0} where
  -- from what is left at each reading
  until_of : (now : Result Instant E) (deadline : Instant) (left : Option Duration)
      → IfOk now (λ t. FitsClock (instant_nanos t)) → (IsErr now → IsNone left)
      → ((time : Instant) → now ≡ Ok time → (IsNone left ↔ (instant_nanos deadline ≤ instant_nanos time)))
      → ((time : Instant) → now ≡ Ok time → IfSome left (λ d. as_nanos d + instant_nanos time ≡ instant_nanos deadline))
      → IfSome left (λ d. (now : ℕ) × FitsClock now × (now < instant_nanos deadline) × (as_nanos d + now ≡ instant_nanos deadline))
  until_of now deadline None fits unread reached left = tt
  until_of (Err e) deadline (Some d) fits unread reached left = absurd (let none = unread refl in let no : ⊥ = cc in no)
  until_of (Ok time) deadline (Some d) fits unread reached left = go (cases_order (instant_nanos time) (instant_nanos deadline))
    where
      go : (instant_nanos time ≡ instant_nanos deadline) ⊎ ((instant_nanos time < instant_nanos deadline)
          ⊎ (instant_nanos deadline < instant_nanos time))
          → (now : ℕ) × FitsClock now × (now < instant_nanos deadline) × (as_nanos d + now ≡ instant_nanos deadline)
      go (inl same) = absurd (let none = (reached time refl).1 (omega arith) in let no : ⊥ = cc in no)
      go (inr (inl less)) = (instant_nanos time, fits, less, left time refl)
      go (inr (inr more)) = absurd (let none = (reached time refl).1 (omega arith) in let no : ⊥ = cc in no)

pub returns : goal.returns
returns g c = record {
  left = until_of c.now.result c.args.deadline c.left_from.result c.now.ensures c.left_from.ensures.unread
      c.left_from.ensures.reached c.left_from.ensures.left;
}
