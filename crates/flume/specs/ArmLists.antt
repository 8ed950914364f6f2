-- The arms of a list: which arm has which number, what a turn of one changes, and the error.
use Rattle.std.specs.Prelude.{◌≡◌, ◌<◌, ◌≤◌, ◌-◌, ◌+◌, ℕ, min, List, Some, None}
use Rattle.std.specs.Prelude.{slice_get, slice_set, codes}
use Rattle.std.specs.declared.io.ErrorKind.{ErrorKind}
use Rattle.std.specs.declared.io.ErrorKind.TheVariants as kind
use Rattle.flume.specs.declared.select.error.EachError.{EachError}
use Rattle.flume.specs.declared.select.error.EachError.TheVariants as each

-- the first holds of an arm among so many before a list, the second of the place of one in it
pub record ByPlace (count : ℕ) (before listed : ℕ → Type 0) (arm : ℕ) : Type 0 where
  pub is_before : arm < count → before arm
  pub is_listed : count ≤ arm → listed (arm - count)

-- how many arms there are with those of a list, as far as they can be counted
abbrev pub count_with : (before listed : ℕ) → ℕ
count_with before listed = min (before + listed) 18446744073709551615

module _ {C : Type 0} where
  -- this holds of the arm at this place
  pub record HoldsAt (holds : C → Type 0) (arms : List C) (place : ℕ) : Type 0 where
    pub arm : C
    pub found : slice_get arms place ≡ Some arm
    pub holding : holds arm

  -- the arm at this place changes so, and nothing else; if there is none, `absent` holds
  pub record ChangesAt (changes : C → C → Type 0) (absent : Type 0) (old : List C) (place : ℕ)
      (new : List C) : Type 0 where
    pub found : (arm : C) → slice_get old place ≡ Some arm
        → (after : C) × changes arm after × (new ≡ slice_set old place after)
    pub none : slice_get old place ≡ None → absent × (new ≡ old)

-- the text of the error of a list
abbrev pub each_text : EachError → List ℕ
each_text each.NoArm = codes "no arm to wait for"
each_text each.NoMemory = codes "out of memory"

-- its kind as an io error
abbrev pub each_kind : EachError → ErrorKind
each_kind each.NoArm = kind.InvalidInput
each_kind each.NoMemory = kind.OutOfMemory
