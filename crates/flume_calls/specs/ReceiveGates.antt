-- A receive through a gate: the ways in which it ends.
use Rattle.std.specs.Prelude.{◌≡◌, ◌⊎◌, ℕ, Bool, true, false, Result, Ok, Err}
use Rattle.flume_core.specs.declared.error.RecvTimeoutError.{RecvTimeoutError}
use Rattle.flume_core.specs.declared.error.RecvTimeoutError.TheVariants.{NoMemory}
use Rattle.flume_calls.specs.declared.calls.receive.RecvNext.{RecvNext}
use Rattle.flume_calls.specs.declared.calls.receive.RecvNext.TheVariants.{Done, NeedSignal, Park}
use Rattle.flume_calls.specs.declared.calls.receive.RecvNext.TheVariants.{Refused}

module _ {T : Type 0} where
  -- how a receive ends that withdraws because memory ran out
  abbrev pub got_or_no_memory : Result T RecvTimeoutError → Result T RecvTimeoutError
  got_or_no_memory (Ok message) = Ok message
  got_or_no_memory (Err error) = Err NoMemory

module _ {G T : Type 0} (parked_turn : G → ℕ → Bool → G → RecvNext T → Type 0) where
  -- no turn of a parked receive runs out of memory
  abbrev pub IsNeverRefused : Type 0
  IsNeverRefused = (old new : G) (ticket same : ℕ) (last : Bool)
      → ¬ (parked_turn old ticket last new (Refused same))

module _ {G T : Type 0} (parked_turn : G → ℕ → Bool → G → RecvNext T → Type 0)
    (waits : G → G → Bool → Type 0) where
  -- a parked receive, to its end: it asks and waits until a turn ends it, the last one at the
  -- deadline or out of memory
  pub data ParkedReceive : G → ℕ → G → Result T RecvTimeoutError → Type 0 where
    Asked : {old new : G} {ticket : ℕ} {result : Result T RecvTimeoutError}
        → parked_turn old ticket false new (Done result) → ParkedReceive old ticket new result
    Withdrawn : {old asked new : G} {ticket same : ℕ} {answer result : Result T RecvTimeoutError}
        → parked_turn old ticket false asked (Refused same)
        → parked_turn asked same true new (Done answer)
        → result ≡ got_or_no_memory answer → ParkedReceive old ticket new result
    Expired : {old asked waited new : G} {ticket same : ℕ} {result : Result T RecvTimeoutError}
        → parked_turn old ticket false asked (Park same) → waits asked waited true
        → parked_turn waited same true new (Done result) → ParkedReceive old ticket new result
    Waited : {old asked waited new : G} {ticket same : ℕ} {result : Result T RecvTimeoutError}
        → parked_turn old ticket false asked (Park same) → waits asked waited false
        → ParkedReceive waited same new result → ParkedReceive old ticket new result

module _ {G T : Type 0} (first_turn : G → G → RecvNext T → Type 0) (makes : G → G → Bool → Type 0)
    (parking_turn : G → G → RecvNext T → Type 0)
    (parked_turn : G → ℕ → Bool → G → RecvNext T → Type 0) (waits : G → G → Bool → Type 0) where
  -- a receive, from its gate to its gate at the end and its result
  pub data WholeReceive (old new : G) (result : Result T RecvTimeoutError) : Type 0 where
    AtFirst : first_turn old new (Done result) → WholeReceive old new result
    NoWaiter : {first : G} → first_turn old first NeedSignal → makes first new false
        → result ≡ Err NoMemory → WholeReceive old new result
    AtPark : {first made : G} → first_turn old first NeedSignal → makes first made true
        → parking_turn made new (Done result) → WholeReceive old new result
    Parked : {first made parked : G} {ticket : ℕ} → first_turn old first NeedSignal
        → makes first made true → parking_turn made parked (Park ticket)
        → ParkedReceive parked_turn waits parked ticket new result → WholeReceive old new result

module _ {G T : Type 0} (first_turn : G → G → RecvNext T → Type 0) (makes : G → G → Bool → Type 0)
    (parking_turn : G → G → RecvNext T → Type 0) where
  -- a receive that ran out of memory before it was parked
  abbrev pub EndsUnparked : G → G → Type 0
  EndsUnparked old new = first_turn old new (Done (Err NoMemory))
      ⊎ ((first : G) × first_turn old first NeedSignal × (makes first new false
      ⊎ ((made : G) × makes first made true × parking_turn made new (Done (Err NoMemory)))))
