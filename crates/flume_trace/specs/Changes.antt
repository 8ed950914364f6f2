-- What is known of a trace and its claims after they changed. A write is a list of actions.
use Rattle.std.specs.Prelude.{◌≡◌, ℕ, ◌++◌, List, length}
use mathlib.Core.List.{IsPrefix}
use Rattle.flume_trace.specs.Positions.{AreApart, AreBelow, positions_from}

module _ {E : Type 0} where
  -- A claim appended writes that `may` allows. `writes` and `writes'` are the trace before and
  -- after, `seen` and `seen'` what the claim has seen of it, `ps` and `ps'` the claim's positions.
  pub record Appended (may : List (List E) → Type 0) (writes writes' seen seen' : List (List E))
      (ps ps' : List ℕ) : Type 0 where
    -- the writes that were appended
    pub more : List (List E)
    -- they were allowed
    pub allowed : may more
    -- they are the end of the trace
    pub written : writes' ≡ writes ++ more
    -- the claim has seen them all
    pub saw_all : seen' ≡ writes ++ more
    -- their positions are the claim's too
    pub claimed : ps' ≡ ps ++ positions_from (length writes) more
    -- what the claim had seen was a beginning of the trace
    pub saw_prefix : IsPrefix seen writes
    -- the claim's positions were in the trace
    pub below : AreBelow (length writes) ps
    -- no two of them were the same
    pub apart : AreApart ps

  -- A claim took in another, which had seen `others` and had the positions `qs`.
  pub record Joined (seen others seen' : List (List E)) (ps qs ps' : List ℕ) : Type 0 where
    -- it has the positions of both
    pub claimed : ps' ≡ ps ++ qs
    -- no two of them are the same
    pub apart : AreApart (ps ++ qs)
    -- it has seen what it had seen
    pub saw_own : IsPrefix seen seen'
    -- it has seen what the other had seen
    pub saw_other : IsPrefix others seen'
