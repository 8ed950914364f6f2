-- What a wake round does, by its rule.
use Rattle.std.specs.Prelude.{◌≡◌, ◌≢◌, ◌⊎◌, ℕ, true, if◌then◌else◌, List, ◌∷◌, ◌++◌, Option, Some}
use Rattle.std.specs.Prelude.{None}
use Rattle.std.specs.List.{All}
use Rattle.flume_model.specs.declared.step.Kind.TheVariants.{Stream}
use Rattle.flume_model.specs.declared.entry.Entry.{Entry}
use Rattle.flume_model.specs.declared.entry.Mark.TheVariants.{Woken, Filled}
use Rattle.flume_model.specs.Entries.{is_waiting, marked, all_woken}
use Rattle.flume_model.specs.WaitLaws.{is_block}

module _ {T N : Type 0} where
  -- a round goes past this entry: if it waits, it is a stream
  abbrev pub IsPassed : Entry T N → Type 0
  IsPassed e = is_waiting e.mark ≡ true → e.kind ≡ Stream

  -- a round that ends at one of the old entries leaves the new ones, and fills this ticket, if any
  pub record EndsAtOne (notify : N → N) (front : T) (old new : List (Entry T N))
      (filled : Option ℕ) : Type 0 where
    pub before : List (Entry T N)
    pub first : Entry T N
    pub later : List (Entry T N)
    pub old_are : old ≡ before ++ first ∷ later
    pub passed : All IsPassed before
    pub waits : is_waiting first.mark ≡ true
    pub no_stream : first.kind ≢ Stream
    pub new_are :
        new ≡ all_woken notify before
        ++ marked notify (if is_block first.kind then Filled front else Woken) first ∷ later
    pub fills : filled ≡ (if is_block first.kind then Some first.ticket else None)

  -- a round that ends at none of the old entries leaves the new ones, and fills no ticket
  pub record EndsAtNone (notify : N → N) (old new : List (Entry T N)) (filled : Option ℕ)
      : Type 0 where
    pub passed : All IsPassed old
    pub new_are : new ≡ all_woken notify old
    pub fills : filled ≡ None

  -- a wake round with this front makes the old entries the new ones, and fills this ticket, if any
  abbrev pub IsWakeRound : (N → N) → T → List (Entry T N) → List (Entry T N) → Option ℕ → Type 0
  IsWakeRound notify front old new filled =
      EndsAtOne notify front old new filled ⊎ EndsAtNone notify old new filled
