-- What comes out of a program that halves numbers.
use Rattle.std.specs.Prelude.{ℕ, ◌/◌, List, map}

-- half of a number
abbrev pub half : ℕ → ℕ
half number = number / 2

-- half of each number, in their order
abbrev pub halves : List ℕ → List ℕ
halves numbers = map half numbers
