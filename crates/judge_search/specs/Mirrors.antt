-- When a configuration's channel is that of a state, and a reply by places is that of a step.
use Rattle.std.specs.Prelude.{◌≡◌, ℕ, List, map, Option, Some}
use Rattle.flume_model.specs.declared.entry.Mark.{Mark}
use Rattle.flume_model.specs.declared.entry.Mark.TheVariants as mark
use Rattle.flume_model.specs.declared.step.Reply.{Reply}
use Rattle.flume_model.specs.declared.step.Reply.TheVariants as own
use Rattle.flume_model.specs.Log.{Offer}
use Rattle.flume_model.specs.Parked.{LogEntry}
use Rattle.flume_state.specs.State.{State as Channel, offers_of, bare}
use Rattle.judge_calls.specs.declared.event.Event.{Event}
use Rattle.judge_search.specs.declared.configuration.ParkedReceive.{ParkedReceive}
use Rattle.judge_search.specs.declared.configuration.Status.{Status}
use Rattle.judge_search.specs.declared.configuration.Status.TheVariants as status
use Rattle.judge_search.specs.declared.place_reply.PlaceReply.{PlaceReply}
use Rattle.judge_search.specs.declared.place_reply.PlaceReply.TheVariants as reply
use Rattle.judge_search.specs.Configurations.{State, message_at}

module _ {T : Type 0} where
  -- a mark with messages that may be there
  abbrev pub some_mark : Mark T → Mark (Option T)
  some_mark mark.Waiting = mark.Waiting
  some_mark mark.Woken = mark.Woken
  some_mark (mark.Filled m) = mark.Filled (Some m)

  -- an entry with messages that may be there
  abbrev pub some_entry : LogEntry T → LogEntry (Option T)
  some_entry e = record { ticket = e.ticket; kind = e.kind; mark = some_mark e.mark; notice = tt }

  -- an offer with messages that may be there
  abbrev pub some_offer : Offer T → Offer (Option T)
  some_offer offer = record { message = Some offer.message; ticket = offer.ticket }

module _ {T A : Type 0} (events : List (Event T A)) where
  -- the state of a parked receive, as a mark
  abbrev pub mark_of : Status → Mark (Option T)
  mark_of status.Waiting = mark.Waiting
  mark_of status.Woken = mark.Woken
  mark_of (status.Filled p) = mark.Filled (message_at events p)

  -- a parked receive as an entry, with these tickets by places
  abbrev pub entry_for : (ℕ → ℕ) → ParkedReceive → LogEntry (Option T)
  entry_for tickets r =
      record { ticket = tickets r.place; kind = r.kind; mark = mark_of r.status; notice = tt }

  -- a blocked send as an offer
  abbrev pub offer_for : (ℕ → ℕ) → ℕ → Offer (Option T)
  offer_for tickets p = record { message = message_at events p; ticket = Some (tickets p) }

  -- the configuration's channel is that of a state, with these tickets by places
  pub record Mirrors (tickets : ℕ → ℕ) (s : Channel T (Unit {0})) (c : State) : Type 0 where
    pub capacity_is : c.capacity ≡ s.capacity
    pub senders_are : c.senders ≡ s.senders
    pub receivers_are : c.receivers ≡ s.receivers
    pub queue_is : map (message_at events) c.queue ≡ map Some s.queue
    pub blocked_are : map (offer_for tickets) c.blocked ≡ map some_offer (offers_of s.blocked)
    pub receives_are : map (entry_for tickets) c.receives ≡ map some_entry (map bare s.entries)

  -- a reply by places is this reply of a step, with these next ticket and queued sends; a send that
  -- isn't blocked was accepted, or both sides are disconnected
  abbrev pub Corresponds : ℕ → List ℕ → PlaceReply → Reply T A → Type 0
  Corresponds next queue reply.Sent (own.Sent filled) = Unit {0}
  Corresponds next queue reply.Full (own.Full back) = Unit {0}
  Corresponds next queue reply.Closed (own.Closed back) = Unit {0}
  Corresponds next queue reply.Pending (own.Pending t) = t ≡ next
  Corresponds next queue reply.Accepted own.Accepted = Unit {0}
  Corresponds next queue reply.Accepted own.NoTicket = Unit {0}
  Corresponds next queue reply.Waiting own.Waiting = Unit {0}
  Corresponds next queue (reply.Returned closed) (own.Returned back shut) = closed ≡ shut
  Corresponds next queue reply.NoTicket own.NoTicket = Unit {0}
  Corresponds next queue (reply.Got p) (own.Got m) = message_at events p ≡ Some m
  Corresponds next queue reply.Empty own.Empty = Unit {0}
  Corresponds next queue reply.Ended own.Ended = Unit {0}
  Corresponds next queue reply.Parked (own.Parked t) = t ≡ next
  Corresponds next queue (reply.Gone closed) (own.Gone shut filled) = closed ≡ shut
  Corresponds next queue reply.Drained (own.Drained list) =
      map (message_at events) queue ≡ map Some list.items
  Corresponds next queue reply.Done own.Done = Unit {0}
  Corresponds next queue reply.NoEnd own.NoEnd = Unit {0}
  Corresponds next queue reply.CountFull own.CountFull = Unit {0}
  Corresponds next queue (reply.Number n) (own.Number m) = n ≡ m
  Corresponds next queue (reply.Flag b) (own.Flag c) = b ≡ c
  Corresponds next queue (reply.Capacity n) (own.Capacity m) = n ≡ m
  Corresponds next queue reply.Unbounded own.Unbounded = Unit {0}
  Corresponds next queue _ _ = ⊥
