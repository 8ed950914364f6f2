-- How a wake round, an ask and a withdrawal change the parked receives, by the places of calls.
use Rattle.std.specs.Prelude.{ℕ, ◌==◌, Bool, true, false, if◌then◌else◌, List, [], ◌∷◌}
use Rattle.std.specs.Prelude.{Option, Some, None}
use Rattle.flume_model.specs.declared.step.Kind.{Kind}
use Rattle.flume_model.specs.declared.step.Kind.TheVariants.{Block, Stream}
use Rattle.judge_search.specs.declared.configuration.ParkedReceive.{ParkedReceive}
use Rattle.judge_search.specs.declared.configuration.Status.{Status}
use Rattle.judge_search.specs.declared.configuration.Status.TheVariants.{Waiting, Woken, Filled}

-- whether a receive waits
abbrev pub waits : Status → Bool
waits Waiting = true
waits _ = false

-- whether a receive was notified
abbrev pub is_awake : Status → Bool
is_awake Woken = true
is_awake _ = false

-- a receive in this state from now on
abbrev pub with_status : Status → ParkedReceive → ParkedReceive
with_status status r = record r { status = status }

-- the first waiting receive in a wake round and those behind it, if the round ends here or goes on
abbrev pub round_from : Kind → ℕ → ParkedReceive → List ParkedReceive → List ParkedReceive
    → List ParkedReceive
round_from Stream front r as_are goes_on = with_status Woken r ∷ goes_on
round_from Block front r as_are goes_on = with_status (Filled front) r ∷ as_are
round_from kind front r as_are goes_on = with_status Woken r ∷ as_are

-- the receives after a wake round, if the send at this place is the front of the queue
abbrev pub round_of : ℕ → List ParkedReceive → List ParkedReceive
round_of front [] = []
round_of front (r ∷ rs) =
    if waits r.status then round_from r.kind front r rs (round_of front rs)
    else r ∷ round_of front rs

-- whether a round fills a receive that comes to one of this kind, given whether it would behind it
abbrev pub fills_at : Kind → Bool → Bool
fills_at Stream on = on
fills_at Block on = true
fills_at kind on = false

-- whether a wake round fills a receive
abbrev pub round_fills_one : List ParkedReceive → Bool
round_fills_one [] = false
round_fills_one (r ∷ rs) =
    if waits r.status then fills_at r.kind (round_fills_one rs) else round_fills_one rs

-- the first receive with a place
abbrev pub receive_at : ℕ → List ParkedReceive → Option ParkedReceive
receive_at p [] = None
receive_at p (r ∷ rs) = if r.place == p then Some r else receive_at p rs

-- the receives without the first one with a place
abbrev pub without_place : ℕ → List ParkedReceive → List ParkedReceive
without_place p [] = []
without_place p (r ∷ rs) = if r.place == p then rs else r ∷ without_place p rs
