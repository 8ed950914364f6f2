-- What is left of the offers: the line, how much of it is queued, the capacity, the live tickets.
use Rattle.std.specs.Prelude.{◌==◌, ℕ, ◌+◌, ◌-◌, Bool, false, not, ◌&&◌, ◌||◌, if◌then◌else◌, List}
use Rattle.std.specs.Prelude.{[], ◌∷◌, length, map, drop, take, max, Option, Some, None}
use Rattle.flume_model.specs.Log.{Log, Opening, Offer, Change, Queues, Blocks, Accepts, Withdraws}
use Rattle.flume_model.specs.Log.{Takes, Drains, Parks, Leaves, Resizes, change, capped}
use Rattle.flume_model.specs.Offers.{kept, hand_outs}
use Rattle.flume_model.specs.Counts.{is_over}

-- how many receivers are filled: none or one
abbrev pub fill_count : Option ℕ → ℕ
fill_count None = 0
fill_count (Some ticket) = 1

-- the greater of two capacities; none is greater than each
abbrev pub greater : Option ℕ → Option ℕ → Option ℕ
greater (Some n) (Some m) = Some (max n m)
greater _ _ = None

module _ {T : Type 0} where
  -- the messages of some offers
  abbrev pub messages : List (Offer T) → List T
  messages some = map (λ offer. offer.message) some

  -- the capacity after a change, if this was it before
  abbrev pub capacity_after : Option ℕ → Change T → Option ℕ
  capacity_after capacity (Resizes new) = Some new
  capacity_after capacity _ = capacity

  -- how many offers are queued after a change, if `n` were; capacity and length are those after it
  abbrev pub queue_len_after : Option ℕ → ℕ → ℕ → Change T → ℕ
  queue_len_after capacity line_length n (Queues message filled) = n + 1 - fill_count filled
  queue_len_after capacity line_length n (Takes message receiver) =
      max (n - 1) (capped capacity line_length)
  queue_len_after capacity line_length n (Drains messages) = capped capacity line_length
  queue_len_after capacity line_length n (Leaves ticket filled) = n - fill_count filled
  queue_len_after capacity line_length n (Resizes new) = max n (capped capacity line_length)
  queue_len_after capacity line_length n _ = n

  -- how many tickets a change issues
  abbrev pub tickets_issued : Change T → ℕ
  tickets_issued (Blocks message ticket) = 1
  tickets_issued (Parks ticket kind) = 1
  tickets_issued _ = 0

  -- whether a change issues the send ticket
  abbrev pub issues : Change T → ℕ → Bool
  issues (Blocks message ticket) t = ticket == t
  issues _ t = false

  -- whether a change spends the send ticket
  abbrev pub spends : Change T → ℕ → Bool
  spends (Accepts ticket) t = ticket == t
  spends (Withdraws ticket) t = ticket == t
  spends _ t = false

module _ {T A : Type 0} where
  -- the kept offers that weren't handed out, in order; none once both sides have disconnected
  abbrev pub line : Log T A → List (Offer T)
  line log = if is_over log then [] else drop (hand_outs log) (kept log)

  -- the capacity in force: the one that was set last, or else the opening's
  abbrev pub capacity : Opening → Log T A → Option ℕ
  capacity opening [] = opening.capacity
  capacity opening (p ∷ past) = capacity_after (capacity opening past) (change past p.0 p.1)

  -- the greatest capacity so far, the one in force included; none of an unbounded channel
  abbrev pub greatest : Opening → Log T A → Option ℕ
  greatest opening [] = opening.capacity
  greatest opening (p ∷ past) = greater (greatest opening past) (capacity opening (p ∷ past))

  -- how many offers of the line's front are queued
  abbrev pub queue_len : Opening → Log T A → ℕ
  queue_len opening [] = 0
  queue_len opening (p ∷ past) =
      if is_over (p ∷ past) then 0
      else queue_len_after (capacity opening (p ∷ past)) (length (line (p ∷ past)))
      (queue_len opening past) (change past p.0 p.1)

  -- the queued messages, the front first
  abbrev pub queue : Opening → Log T A → List T
  queue opening log = messages (take (queue_len opening log) (line log))

  -- the offers of the line that aren't queued: their senders are blocked
  abbrev pub blocked : Opening → Log T A → List (Offer T)
  blocked opening log = drop (queue_len opening log) (line log)

  -- the next ticket
  abbrev pub next_ticket : Opening → Log T A → ℕ
  next_ticket opening [] = opening.first
  next_ticket opening (p ∷ past) = next_ticket opening past + tickets_issued (change past p.0 p.1)

  -- whether the send ticket is live: issued, not spent, and both sides haven't disconnected
  abbrev pub is_live : Log T A → ℕ → Bool
  is_live [] t = false
  is_live (p ∷ past) t =
      not (is_over (p ∷ past)) && (issues (change past p.0 p.1) t
      || (is_live past t && not (spends (change past p.0 p.1) t)))
