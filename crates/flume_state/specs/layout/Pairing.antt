-- Each blocked message and its send. The view of a channel has `under_tickets` and `live_sends`.
use Rattle.std.specs.Prelude.{◌≡◌, ◌==◌, ℕ, Bool, false, ◌||◌, List, [], ◌∷◌, map}
use Rattle.std.specs.Prelude.{Option, Some, None, if◌then◌else◌}
use Rattle.std.specs.List.{All}
use Rattle.std.specs.Option.{option_map, option_map_or}
use Rattle.flume_chain.specs.ChainState.{ChainItem, found}
use Rattle.flume_state.specs.declared.sends.PlacedSend.{PlacedSend}
use Rattle.flume_state.specs.layout.WithTicket.{WithTicket}
use Rattle.flume_state.specs.layout.SendLayout.{Element, by_ticket}
use Rattle.flume_state.specs.layout.MessageLayout.{BlockedAt}
use Rattle.flume_state.specs.Messages.{Blocked}
use Rattle.flume_state.specs.Sends.{SendMap}

-- the sends of a channel in the order of their chain, each with the place of its message
abbrev pub SendList : Type 0 → Type 0
SendList S = List (ChainItem (WithTicket (PlacedSend S)))

-- what ties a send to its message
pub record Link : Type 0 where
  pub ticket : ℕ
  pub message : ℕ
  pub accepted : Bool

-- the link of a send whose message has another place
abbrev pub at_message : ℕ → Link → Link
at_message message l = record l { message = message }

-- the link of a send whose message is accepted from now on, if this is true
abbrev pub accepting : Bool → Link → Link
accepting accepts l = record l { accepted = accepts || l.accepted }

module _ {S : Type 0} where
  -- a send without the place of its message
  abbrev pub send_in : ChainItem (WithTicket (PlacedSend S)) → Element S
  send_in x = record {
    place = x.place;
    element = record { label = x.element.label; value = x.element.value.send };
  }

  -- the sends without the places of their messages
  abbrev pub sends_in : SendList S → List (Element S)
  sends_in items = map send_in items

  -- the live sends, by ticket
  abbrev pub live_sends : SendList S → SendMap S
  live_sends items = by_ticket (sends_in items)

  -- the ticket of the send at a place, or 0 if there is none there
  abbrev pub ticket_at : SendList S → ℕ → ℕ
  ticket_at items k = option_map_or (λ send. send.label) (found items k) 0

  -- the link of a send
  abbrev pub link_of : WithTicket (PlacedSend S) → Link
  link_of e = record {
    ticket = e.label;
    message = e.value.message;
    accepted = e.value.send.accepted;
  }

  -- the link of the send at a place
  abbrev pub link_at : SendList S → ℕ → Option Link
  link_at items k = option_map link_of (found items k)

-- the place of the send of the first of these blocked messages that has this place
abbrev pub send_place_at : {T : Type 0} → List (BlockedAt T) → ℕ → Option ℕ
send_place_at [] k = None
send_place_at (b ∷ blocked) k = if b.place == k then Some b.send_place else send_place_at blocked k

module _ {T S : Type 0} where
  -- a blocked message under the ticket of its send
  abbrev pub under_ticket : SendList S → BlockedAt T → Blocked T
  under_ticket sends b = record { ticket = ticket_at sends b.send_place; message = b.message }

  -- blocked messages, each under the ticket of its send
  abbrev pub under_tickets : SendList S → List (BlockedAt T) → List (Blocked T)
  under_tickets sends blocked = map (under_ticket sends) blocked

  -- the send of a blocked message is live, isn't accepted, and names its place
  pub record HasLink (sends : SendList S) (b : BlockedAt T) : Type 0 where
    pub ticket : ℕ
    pub is : link_at sends b.send_place
        ≡ Some (record { ticket = ticket; message = b.place; accepted = false })

  -- blocked messages and sends that aren't accepted pair up, and name each other's places
  pub record Pairing (blocked : List (BlockedAt T)) (sends : SendList S) : Type 0 where
    pub held : All (HasLink sends) blocked
    pub owns : (k : ℕ) (l : Link) → link_at sends k ≡ Some l → l.accepted ≡ false
        → send_place_at blocked l.message ≡ Some k
