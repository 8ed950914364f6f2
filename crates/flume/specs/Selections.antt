-- What the mappers of a selector's arms answer, and the numbers of the arms.
use Rattle.std.specs.Prelude.{◌≡◌, ◌≢◌, ◌<◌, ◌+◌, if◌then◌else◌, nat_lt, ℕ, min, Option, Some, None}

module _ {F I : Type 0} where
  -- the mapper may be called on each input of this form
  abbrev pub CanMap : (F → I → Type 0) → (I → Type 0) → F → Type 0
  CanMap pre form mapper = (input : I) → form input → pre mapper input

  -- the same at each place in a list
  abbrev pub CanMapEach : (F → ℕ → I → Type 0) → (I → Type 0) → F → Type 0
  CanMapEach pre form mapper = (place : ℕ) (input : I) → place < 18446744073709551616
      → form input → pre mapper place input

module _ {F I V : Type 0} where
  -- the value is what the mapper answers on an input of this form
  abbrev pub Maps : (F → I → V → Type 0) → (I → Type 0) → F → V → Type 0
  Maps post form mapper value = (input : I) × form input × post mapper input value

  -- the same at this place in a list
  abbrev pub MapsEach : (F → ℕ → I → V → Type 0) → (I → Type 0) → F → ℕ → V → Type 0
  MapsEach post form mapper place value = (input : I) × form input × post mapper place input value

  -- the value is what the mapper answers on this result, if there is one
  abbrev pub MapsResult : (F → I → V → Type 0) → F → Option I → V → Type 0
  MapsResult post mapper (Some result) value = post mapper result value
  MapsResult post mapper None value = ⊥

-- how many arms there are with one more, as far as they can be counted
abbrev pub count_one_more : ℕ → ℕ
count_one_more count = min (count + 1) 18446744073709551615

-- one of these holds of the arm with this number: the second if so many arms are before it
pub record ByNumber (count : ℕ) (before : ℕ → Type 0) (last : Type 0) (arm : ℕ) : Type 0 where
  pub is_before : arm ≢ count → before arm
  pub is_last : arm ≡ count → last

-- the arm that a round begins with: the random one, or else arm 0
abbrev pub first_arm : (count start : ℕ) → ℕ
first_arm count start = if nat_lt start count then start else 0

module _ {M V : Type 0} where
  -- the value is what the mapper of one of the arms answers to a result of its arm
  pub record IsValue (count : M → ℕ) (maps : M → ℕ → V → Type 0) (mappers : M) (value : V)
      : Type 0 where
    pub arm : ℕ
    pub within : arm < count mappers
    pub mapped : maps mappers arm value
