-- Takes the front of the line.
use Rattle.std.specs.Prelude.{ℕ, List, [], ◌∷◌, Option, Some, None}
use Rattle.judge_search.specs.Configurations.{State}
use Rattle.judge_search.specs.ByPlaces.{with_front, take_leaving}

-- the front of this queue, into which a blocked send has come, and the configuration without it
abbrev pub taken_front_of : List ℕ → State → Option ℕ × State
taken_front_of [] c = (None, c)
taken_front_of (p ∷ rest) c = (Some p, take_leaving rest c)

-- the front of the line, if any, and the configuration without it
abbrev pub taken_front : State → Option ℕ × State
taken_front c = taken_front_of (with_front c).queue c
