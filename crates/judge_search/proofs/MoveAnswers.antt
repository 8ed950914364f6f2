-- When a move answers as a step does, which calls are parked after it, and whether it may be refused.
use Rattle.std.specs.Prelude.{◌≡◌, ◌≢◌, ◌⊎◌, ◌==◌, ℕ, Bool, true, false, if◌then◌else◌, List, ◌∷◌, map}
use Rattle.std.specs.List.{All, Contains}
use Rattle.flume_model.specs.declared.step.Step.{Step}
use Rattle.flume_model.specs.declared.step.Reply.{Reply}
use Rattle.flume_model.specs.Log.{Log, Opening}
use Rattle.flume_state.specs.State.{State as Channel}
use Rattle.flume_core.specs.Represents.{Represents}
use Rattle.judge_calls.specs.declared.event.Event.{Event}
use Rattle.judge_search.specs.declared.place_reply.PlaceReply.{PlaceReply}
use Rattle.judge_search.specs.declared.place_reply.PlaceReply.TheVariants as reply
use Rattle.judge_search.specs.declared.place_reply.PlaceReply.TheVariants.{Pending, Parked}
use Rattle.judge_search.specs.declared.step_of.Move.{Move}
use Rattle.judge_search.specs.declared.step_of.Move.TheVariants as move
use Rattle.judge_search.specs.Configurations.{State}
use Rattle.judge_search.specs.Mirrors.{Mirrors, Corresponds}

-- the tickets by places, with this one for a place
abbrev pub with_ticket : ℕ → ℕ → (ℕ → ℕ) → ℕ → ℕ
with_ticket place ticket tickets p = if p == place then ticket else tickets p

-- whether a call with this reply parks
abbrev pub parks : PlaceReply → Bool
parks reply.Pending = true
parks reply.Parked = true
parks _ = false

-- whether a call with this reply is parked then
abbrev pub stays_parked : PlaceReply → Bool
stays_parked reply.Pending = true
stays_parked reply.Parked = true
stays_parked reply.Waiting = true
stays_parked _ = false

-- the tickets after a reply to the call at a place, if this is the next ticket
abbrev pub tickets_after : PlaceReply → ℕ → ℕ → (ℕ → ℕ) → ℕ → ℕ
tickets_after reply_by_place place next tickets =
    if parks reply_by_place then with_ticket place next tickets else tickets

-- a place after a move: it was there before, and the call's own stays parked; or the call joined
abbrev pub IsPlaceAfter : PlaceReply → PlaceReply → ℕ → List ℕ → ℕ → Type 0
IsPlaceAfter joins reply_by_place place before p =
    (Contains before p × ((p ≢ place) ⊎ (stays_parked reply_by_place ≡ true)))
    ⊎ ((p ≡ place) × (reply_by_place ≡ joins))

-- the recorded events
module _ {T A : Type 0} (events : List (Event T A)) where
  -- after the log, the step may have the reply of this move, after which `new` mirrors the state
  pub record Answers (o : Opening) (log : Log T A) (tickets : ℕ → ℕ) (s : Channel T (Unit {0}))
      (c : State) (place : ℕ) (step : Step T) (reply_by_place : PlaceReply) (new : State)
      : Type 0 where
    pub reply : Reply T A
    pub corresponds : Corresponds events s.next_ticket c.queue reply_by_place reply
    pub state : Channel T (Unit {0})
    pub represents : Represents o ((step, reply) ∷ log) state
    pub mirrors : Mirrors events (tickets_after reply_by_place place s.next_ticket tickets) state new
    pub blocked_after : All (IsPlaceAfter Pending reply_by_place place c.blocked) new.blocked
    pub receives_after : All
        (IsPlaceAfter Parked reply_by_place place (map (λ r. r.place) c.receives))
        (map (λ r. r.place) new.receives)

-- whether a move may be refused memory or a ticket
abbrev pub may_refuse : Move → Bool
may_refuse move.TrySend = true
may_refuse move.Send = true
may_refuse move.TryRecv = true
may_refuse (move.Recv kind) = true
may_refuse move.Poll = true
may_refuse move.Drain = true
may_refuse _ = false
