-- How a channel is to be opened.
use Rattle.std.specs.Prelude.{ℕ}

-- what a contract sees of a `Builder`
pub record BuilderValue (R A : Type 0) : Type 0 where
  pub runtime : R
  pub allocator : A
  pub number : ℕ
