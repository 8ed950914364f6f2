-- What a chain over a stream by reference needs: a type that is `'static` outlives each borrow.
use mathlib.Core.List.{List, [], Mem, not-mem-nil}
use Prim.Native.Nat.{ℕ}

-- what outlives `'static` outlives any lifetime
pub static_outlives : {κ l : List ℕ} → ((a : ℕ) → Mem a l → Mem a []) → (a : ℕ) → Mem a l → Mem a κ
static_outlives s a m = absurd (not-mem-nil (s a m))
