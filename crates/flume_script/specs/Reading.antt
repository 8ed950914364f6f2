-- What a reading of a script says of its bytes.
use Rattle.std.specs.Prelude.{ℕ, List}
use Rattle.std.specs.Str.Lines.{lines}
use Rattle.flume_script.specs.declared.reading.Reading.{Reading}
use Rattle.flume_script.specs.declared.reading.Reading.TheVariants.{Right, Wrong}
use Rattle.flume_script.specs.Script.{IsScript, IsFirstWrong}

-- the bytes are a script of this capacity and these steps, or this line of them is the first wrong
abbrev pub IsReading : {X Z : Type 0} → (List ℕ → X → Type 0) → List ℕ → Reading X Z → Type 0
IsReading IsLine input (Right capacity steps) = IsScript IsLine (lines input) capacity steps.items
IsReading IsLine input (Wrong line) = IsFirstWrong IsLine (lines input) line
