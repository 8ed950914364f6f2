-- What holds of each run.
use Rattle.std.specs.Prelude.{◌≡◌, ℕ, ◌<◌, List, [], ◌∷◌, Option, Some, None}
use Rattle.std.specs.List.{All, slice_get}
use Rattle.flume_model.specs.declared.entry.Entry.{Entry}
use Rattle.flume_model.specs.Log.{Log, Offer, HandOut}
use Rattle.flume_model.specs.Offers.{kept, handed_out}
use Rattle.flume_model.specs.Fills.{IsHandOutOf}

-- the ticket, if there is one, is below this
abbrev pub IsBelow : ℕ → Option ℕ → Type 0
IsBelow n None = Unit {0}
IsBelow n (Some t) = t < n

-- the first ticket, if both are there, is below the second
abbrev pub IsEarlier : Option ℕ → Option ℕ → Type 0
IsEarlier (Some t) (Some u) = t < u
IsEarlier _ _ = Unit {0}

module _ {T A N : Type 0} where
  -- the j-th message handed out is the message of the j-th offer that wasn't withdrawn
  abbrev pub InOrder : List (Entry T N) → Log T A → Type 0
  InOrder entries log =
      (j : ℕ) (given : HandOut T) → slice_get (handed_out log) j ≡ Some given
      → (offer : Offer T) × (slice_get (kept log) j ≡ Some offer)
      × IsHandOutOf entries log given offer.message

module _ {T : Type 0} where
  -- the ticket of each of these offers is below those of the later ones, and below the bound
  abbrev pub Rising : ℕ → List (Offer T) → Type 0
  Rising bound [] = Unit {0}
  Rising bound (x ∷ xs) =
      IsBelow bound x.ticket × All (λ later. IsEarlier x.ticket later.ticket) xs × Rising bound xs
