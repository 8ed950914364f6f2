-- A send through a gate: the ways in which it ends.
use Rattle.std.specs.Prelude.{◌≡◌, ℕ, Bool, true, false, Result, Err}
use Rattle.flume_core.specs.declared.error.SendTimeoutError.{SendTimeoutError}
use Rattle.flume_core.specs.declared.error.SendTimeoutError.TheVariants.{NoMemory}
use Rattle.flume_calls.specs.declared.calls.send.SendNext.{SendNext}
use Rattle.flume_calls.specs.declared.calls.send.SendNext.TheVariants.{Done, NeedSignal, Park}

module _ {G T : Type 0} (parked_turn : G → ℕ → Bool → G → SendNext T → Type 0)
    (waits : G → G → Bool → Type 0) where
  -- a parked send, to its end: it asks and waits until a turn ends it, at the deadline the last
  pub data ParkedSend : G → ℕ → G → Result (Unit {0}) (SendTimeoutError T) → Type 0 where
    Asked : {old new : G} {ticket : ℕ} {result : Result (Unit {0}) (SendTimeoutError T)}
        → parked_turn old ticket false new (Done result) → ParkedSend old ticket new result
    Expired : {old asked waited new : G} {ticket same : ℕ}
        {result : Result (Unit {0}) (SendTimeoutError T)}
        → parked_turn old ticket false asked (Park same) → waits asked waited true
        → parked_turn waited same true new (Done result) → ParkedSend old ticket new result
    Waited : {old asked waited new : G} {ticket same : ℕ}
        {result : Result (Unit {0}) (SendTimeoutError T)}
        → parked_turn old ticket false asked (Park same) → waits asked waited false
        → ParkedSend waited same new result → ParkedSend old ticket new result

module _ {G T : Type 0} (first_turn : G → T → G → SendNext T → Type 0)
    (makes : G → G → Bool → Type 0) (parking_turn : G → T → G → SendNext T → Type 0)
    (parked_turn : G → ℕ → Bool → G → SendNext T → Type 0) (waits : G → G → Bool → Type 0) where
  -- a send, from its gate and its message to its gate at the end and its result
  pub data WholeSend (old : G) (message : T) (new : G)
      (result : Result (Unit {0}) (SendTimeoutError T)) : Type 0 where
    AtFirst : first_turn old message new (Done result) → WholeSend old message new result
    NoWaiter : {first : G} → first_turn old message first (NeedSignal message)
        → makes first new false → result ≡ Err (NoMemory message) → WholeSend old message new result
    AtPark : {first made : G} → first_turn old message first (NeedSignal message)
        → makes first made true → parking_turn made message new (Done result)
        → WholeSend old message new result
    Parked : {first made parked : G} {ticket : ℕ}
        → first_turn old message first (NeedSignal message) → makes first made true
        → parking_turn made message parked (Park ticket)
        → ParkedSend parked_turn waits parked ticket new result → WholeSend old message new result
