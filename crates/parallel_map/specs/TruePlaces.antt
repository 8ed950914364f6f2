-- The place of a `true`, found in a list.
use Rattle.std.specs.Prelude.{◌≡◌, ℕ, Bool, true, false, List, Option, Some, All, IfNone, IfSome}
use Rattle.std.specs.List.{slice_get}

-- there is a `true` at the place that was found; if none was found, there is no `true`
pub record IsFound (values : List Bool) (found : Option ℕ) : Type 0 where
  pub some : IfSome found (λ number. slice_get values number ≡ Some true)
  pub none : IfNone found (All (λ value. value ≡ false) values)
