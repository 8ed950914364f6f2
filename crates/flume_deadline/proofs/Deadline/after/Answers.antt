-- Which deadline a timeout gives, by what the clock read.
use Rattle.std.proofs.Common.{◌≡◌, ◌+◌, ◌<◌, ◌*◌, ◌^◌, ◌⊎◌, inl, inr, Result, Ok, Err, IsErr, IfOk, refl, arith}
use Rattle.std.proofs.lemmas.Bool.{cases_order}
use Rattle.std.specs.Duration.{as_nanos}
use Rattle.std.specs.declared.time.Duration.{Duration}
use Rattle.std.specs.declared.time.Instant.{Instant}
use Rattle.std.specs.Time.{instant_nanos, FitsClock}
use Rattle.flume_deadline.specs.declared.Deadline.{Deadline}
use Rattle.flume_deadline.specs.declared.Deadline.TheVariants.{Never, At, Reached}
use Rattle.flume_deadline.specs.Deadlines.{IsAt, IsAfter}
use Rattle.flume_deadline.proofs.Deadline.after.Goals as goal

module _ {E : Type 0} where
  -- from what the deadline is at each reading
  after_of : (now : Result Instant E) (timeout : Duration) (deadline : Deadline) → IfOk now (λ t. FitsClock (instant_nanos t))
      → (IsErr now → deadline ≡ Reached)
      → ((time : Instant) → now ≡ Ok time → FitsClock (instant_nanos time + as_nanos timeout)
      → IsAt deadline (instant_nanos time + as_nanos timeout))
      → ((time : Instant) → now ≡ Ok time → (FitsClock (instant_nanos time + as_nanos timeout) → ⊥) → deadline ≡ Never)
      → IsAfter timeout deadline
  after_of now timeout Reached fits unread sum no_sum = tt
  after_of (Err e) timeout Never fits unread sum no_sum = absurd (let same = unread refl in let none : ⊥ = cc in none)
  after_of (Err e) timeout (At at) fits unread sum no_sum = absurd (let same = unread refl in let none : ⊥ = cc in none)
  after_of (Ok time) timeout Never fits unread sum no_sum = (instant_nanos time, fits, λ within. sum time refl within)
  after_of (Ok time) timeout (At at) fits unread sum no_sum =
      go (cases_order (instant_nanos time + as_nanos timeout) (2 ^ 63 * 1_000_000_000))
    where
      never : (FitsClock (instant_nanos time + as_nanos timeout) → ⊥) → IsAfter timeout (At at)
      never not = absurd (let same = no_sum time refl not in let none : ⊥ = cc in none)

      go : (instant_nanos time + as_nanos timeout ≡ 2 ^ 63 * 1_000_000_000)
          ⊎ ((instant_nanos time + as_nanos timeout < 2 ^ 63 * 1_000_000_000)
          ⊎ (2 ^ 63 * 1_000_000_000 < instant_nanos time + as_nanos timeout)) → IsAfter timeout (At at)
      go (inl same) = never (λ within. omega arith)
      go (inr (inl less)) = (instant_nanos time, fits, sum time refl less)
      go (inr (inr more)) = never (λ within. omega arith)

pub returns : goal.returns
returns g c = record {
  after = after_of c.now.result c.args.timeout c.past.result c.now.ensures c.past.ensures.unread c.past.ensures.sum
      c.past.ensures.no_sum;
}
