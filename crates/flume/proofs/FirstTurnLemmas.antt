-- A send that goes on after its first turn is a whole send.
use Rattle.std.proofs.Common.{◌≡◌, ℕ, Bool, Result, ap, sym, subst}
use Rattle.flume_core.specs.declared.error.SendTimeoutError.{SendTimeoutError}
use Rattle.flume_calls.specs.declared.calls.send.SendNext.{SendNext}
use Rattle.flume_calls.specs.declared.calls.send.SendNext.TheVariants.{NeedSignal}
use Rattle.flume_calls.specs.SendGates.{WholeSend, AtFirst, NoWaiter, AtPark, Parked}
use Rattle.flume.specs.GateSteps.{Found}

module _ {G H T : Type 0} (seen : G → H) where
  -- what is seen of the gate
  pub seen_found : (old : G) (message : T) (new : G) (next : SendNext T) → Found old message new next
      → Found (seen old) message (seen new) next
  seen_found old message new next found = (ap seen found.0, found.1)

module _ {G T : Type 0} {first : G → T → G → SendNext T → Type 0} {makes : G → G → Bool → Type 0}
    {parking : G → T → G → SendNext T → Type 0} {parked : G → ℕ → Bool → G → SendNext T → Type 0} {waits : G → G → Bool → Type 0} where
  -- with its first turn
  pub after_first : {start old new : G} {message : T} {result : Result (Unit {0}) (SendTimeoutError T)}
      → first start message old (NeedSignal message) → WholeSend Found makes parking parked waits old message new result
      → WholeSend first makes parking parked waits start message new result
  after_first {start = start} {old = old} {message = message} turn sends = go sends
    where
      full : (found : G) → found ≡ old → first start message found (NeedSignal message)
      full found same = subst (λ gate. first start message gate (NeedSignal message)) (sym same) turn

      go : {new : G} {result : Result (Unit {0}) (SendTimeoutError T)} → WholeSend Found makes parking parked waits old message new result
          → WholeSend first makes parking parked waits start message new result
      go (AtFirst found) = absurd (let none : ⊥ = let same = found.1 in cc in none)
      go (NoWaiter found none is) = NoWaiter (full _ found.0) none is
      go (AtPark found made ends) = AtPark (full _ found.0) made ends
      go (Parked found made parks rest) = Parked (full _ found.0) made parks rest
