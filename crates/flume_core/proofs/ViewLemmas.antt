-- What a state that represents a log says of the log.
use Rattle.std.proofs.Common.{◌≡◌, ◌≢◌, ℕ, ◌+◌, ◌<◌, Bool, true, false, not, cond, ⊎_elim, eqb, List, [], ◌∷◌, ◌++◌, length, map, take, ◌≤◌}
use Rattle.std.proofs.Common.{Option, Some, None, refl, sym, ◌∙◌, ap, ap₂, max, subst₂, arith, eqb-true, length-append}
use Rattle.std.specs.List.{All}
use Rattle.std.specs.Option.{option_map}
use Rattle.std.specs.FinMap.{get}
use Rattle.std.proofs.lemmas.Bool.{or_cases}
use Rattle.std.proofs.lemmas.List.{length-map, length-take-le, map-append, take-append-drop}
use Rattle.std.proofs.lemmas.List.Elements.{All-head, All-tail}
use Rattle.flume_model.specs.Log.{Log, Opening, Offer}
use Rattle.flume_model.specs.Counts.{senders, receivers}
use Rattle.flume_model.specs.Line.{line, capacity, greatest, greater, queue_len, queue, blocked, messages, is_live}
use Rattle.flume_model.specs.Entries.{some_wait, waiting_count, entry_of}
use Rattle.flume_model.specs.Parked.{entries, peak}
use Rattle.flume_model.specs.Channel.{IsBlocked, channel, has_ticket}
use Rattle.flume_model.specs.Limits.{HasRoom, IsAtCapacity, IsOpen, IsClosed}
use Rattle.flume_state.specs.Messages.{Blocked}
use Rattle.flume_state.specs.Sends.{SendMap}
use Rattle.flume_state.specs.State.{State, offers_of, bare}
use Rattle.flume_core.specs.Represents.{Represents}
use Rattle.flume_model.proofs.order.RunLemmas.{blocked_at_capacity, shape_of, waits_whole}
use Rattle.flume_core.proofs.BareEntryLemmas.{bare_some_wait, bare_waiting, bare_entry}

-- the greater of a capacity and itself
greater_self : (n : Option ℕ) → n ≡ greater n n
greater_self None = refl
greater_self (Some n) = ap Some (let same : n ≡ max n n = omega arith in same)

-- the greater of two, compared with one of them
greater_again : (n m : Option ℕ) → greater n m ≡ greater (greater n m) m
greater_again None m = refl
greater_again (Some n) None = refl
greater_again (Some n) (Some m) = ap Some (let same : max n m ≡ max (max n m) m = omega arith in same)

-- what isn't there mapped isn't there
pub none_mapped : {X Y : Type 0} (f : X → Y) (x : Option X) → option_map f x ≡ None → x ≡ None
none_mapped f None e = refl
none_mapped f (Some x) e = absurd (let none : ⊥ = cc in none)

-- nothing is mapped to a list only by an empty one
pub nil_mapped : {X Y : Type 0} (f : X → Y) (xs : List X) → map f xs ≡ [] → xs ≡ []
nil_mapped f [] e = refl
nil_mapped f (x ∷ xs) e = absurd (let none : ⊥ = cc in none)

-- a ticket with its mark, if it is live
abbrev pub status : Bool → Bool → Option Bool
status live waits = cond live (Some (not waits)) None

-- a send ticket that has a mark is live
pub live_by : (live waits mark : Bool) → status live waits ≡ Some mark → (live ≡ true) × (waits ≡ not mark)
live_by true true true e = absurd (let none : ⊥ = cc in none)
live_by true true false e = (refl, refl)
live_by true false true e = (refl, refl)
live_by true false false e = absurd (let none : ⊥ = cc in none)
live_by false waits mark e = absurd (let none : ⊥ = cc in none)

-- the mark of a ticket in a map: whether its message was accepted
abbrev pub mark : {S : Type 0} → SendMap S → ℕ → Option Bool
mark m t = option_map (λ x. x.accepted) (get m t)

-- the mark of each send is the same in both maps
abbrev pub SameMarks : {S : Type 0} → SendMap S → SendMap S → Type 0
SameMarks m n = (t : ℕ) → mark m t ≡ mark n t

-- a mark says whether a ticket waits
marked : (mark waits : Bool) → Some mark ≡ Some (not waits) → waits ≡ not mark
marked true true e = absurd (let no : ⊥ = cc in no)
marked true false e = refl
marked false true e = refl
marked false false e = absurd (let no : ⊥ = cc in no)

-- a queue with room isn't at capacity
pub room_or_full : (capacity : Option ℕ) (n : ℕ) → HasRoom capacity n → IsAtCapacity capacity n → ⊥
room_or_full None n h k = k
room_or_full (Some c) n h k = omega arith

-- a list that isn't longer than 0 is empty
pub nil_by : {X : Type 0} (xs : List X) → (0 < length xs → ⊥) → xs ≡ []
nil_by [] longer = refl
nil_by (x ∷ xs) longer = absurd (longer (omega arith))

module _ {T : Type 0} where
  -- if an offer has the ticket, not all blocked messages have others
  pub none_blocked_if_absent : (t : ℕ) (xs : List (Blocked T)) → has_ticket t (offers_of xs) ≡ true → All (λ b. b.ticket ≢ t) xs → ⊥
  none_blocked_if_absent t [] h all = let no : ⊥ = cc in no
  none_blocked_if_absent t (b ∷ xs) h all =
      ⊎_elim (λ e. All-head (λ b. b.ticket ≢ t) b xs all (eqb-true b.ticket t e))
      (λ e. none_blocked_if_absent t xs e (All-tail (λ b. b.ticket ≢ t) b xs all))
      (or_cases (eqb b.ticket t) (has_ticket t (offers_of xs)) h)

  -- blocked messages have the messages of their offers
  pub offered_messages : (xs : List (Blocked T)) → messages (offers_of xs) ≡ map (λ b. b.message) xs
  offered_messages [] = refl
  offered_messages (b ∷ xs) = ap (λ l. b.message ∷ l) (offered_messages xs)

module _ {T A : Type 0} where
  -- the greatest capacity so far is at least the one in force
  greatest_covers : (o : Opening) (log : Log T A) → greatest o log ≡ greater (greatest o log) (capacity o log)
  greatest_covers o [] = greater_self o.capacity
  greatest_covers o (p ∷ past) = greater_again (greatest o past) (capacity o (p ∷ past))

  -- the peak is at least the number that wait
  peak_covers : (o : Opening) (log : Log T A) → waiting_count (entries o log) ≤ peak o log
  peak_covers o [] = omega arith
  peak_covers o (p ∷ past) = omega arith

module _ {T A S : Type 0} where
  -- the queued offers
  abbrev pub queued : {o : Opening} {log : Log T A} {s : State T S} → Represents o log s → List (Offer T)
  queued {o} {log} {s} h = take (queue_len o log) (line log)

  -- `queue_len` counts the queued offers
  many_queued : {o : Opening} {log : Log T A} {s : State T S} (h : Represents o log s) → length (queued h) ≡ queue_len o log
  many_queued {o} {log} {s} h = length-take-le (queue_len o log) (line log) (shape_of o log h.run).within

  -- as many offers are queued as messages
  pub queued_length : {o : Opening} {log : Log T A} {s : State T S} (h : Represents o log s) → length (queued h) ≡ length s.queue
  queued_length {o} {log} {s} h = sym (ap length h.queue_is ∙ length-map (queued h) (λ offer. offer.message))

  -- and the queued messages
  pub queue_len_is : {o : Opening} {log : Log T A} {s : State T S} → Represents o log s → length s.queue ≡ queue_len o log
  queue_len_is {o} {log} {s} h = sym (queued_length h) ∙ many_queued h

  -- the queued offers, and behind them the blocked ones, are the line
  pub line_is : {o : Opening} {log : Log T A} {s : State T S} (h : Represents o log s) → line log ≡ queued h ++ offers_of s.blocked
  line_is {o} {log} {s} h = sym (take-append-drop (queue_len o log) (line log)) ∙ ap (λ l. queued h ++ l) (sym h.blocked_are)

  -- the blocked offers
  pub blocked_is : {o : Opening} {log : Log T A} {s : State T S} → Represents o log s → blocked o log ≡ offers_of s.blocked
  blocked_is {o} {log} {s} h = sym h.blocked_are

  -- the messages of the line
  pub line_messages : {o : Opening} {log : Log T A} {s : State T S} → Represents o log s
      → messages (line log) ≡ s.queue ++ map (λ b. b.message) s.blocked
  line_messages {o} {log} {s} h =
      ap messages (line_is h) ∙ map-append _ (queued h) (offers_of s.blocked)
      ∙ ap (λ l. l ++ messages (offers_of s.blocked)) (sym h.queue_is) ∙ ap (λ l. s.queue ++ l) (offered_messages s.blocked)

  -- how long the line is
  pub line_length : {o : Opening} {log : Log T A} {s : State T S} → Represents o log s → length
      (line log) ≡ length s.queue + length s.blocked
  line_length {o} {log} {s} h =
      let sum : length (line log) ≡ length (queued h) + length (offers_of s.blocked) =
      ap length (line_is h) ∙ length-append (queued h) (offers_of s.blocked) in
      let same = queued_length h in
      let more : length (offers_of s.blocked) ≡ length s.blocked = length-map s.blocked _ in
      omega arith

  -- the state of each ticket
  pub status_is : {o : Opening} {log : Log T A} {s : State T S} → Represents o log s → (t : ℕ)
      → mark s.sends t ≡ status (is_live log t) (has_ticket t (offers_of s.blocked))
  status_is {o} {log} {s} h t = h.sends_are t ∙ ap (λ l. status (is_live log t) (has_ticket t l)) (blocked_is h)

  -- if a message is blocked, the queue is at capacity
  pub at_capacity : {o : Opening} {log : Log T A} {s : State T S} → Represents o log s → 0 < length s.blocked
      → IsAtCapacity s.capacity (length s.queue)
  at_capacity {o} {log} {s} h some =
      let long = line_length h in
      let n = queue_len_is h in
      rw (h.capacity_is, (queue_len_is h)) (blocked_at_capacity o log h.run (omega arith))

  -- the queued messages
  pub queue_at_log : {o : Opening} {log : Log T A} {s : State T S} → Represents o log s → queue o log ≡ s.queue
  queue_at_log {o} {log} {s} h = sym h.queue_is

  -- if a message is queued, the log queues one
  pub some_queued : {o : Opening} {log : Log T A} {s : State T S} → Represents o log s → s.queue ≢ [] → 0 < queue_len o log
  some_queued {o} {log} {s} h some = go s.queue refl
    where
      go : (q : List T) → s.queue ≡ q → 0 < queue_len o log
      go [] e = absurd (some e)
      go (m ∷ q) e = let long = ap length e in let n = queue_len_is h in omega arith

  -- whether some receiver waits
  pub waiting_at_log : {o : Opening} {log : Log T A} {s : State T S} → Represents o log s → some_wait (entries o log) ≡ some_wait s.entries
  waiting_at_log {o} {log} {s} h = ap some_wait (sym h.entries_are) ∙ bare_some_wait s.entries

  -- the entry with a ticket
  pub entry_at_log : {o : Opening} {log : Log T A} {s : State T S} → Represents o log s → (t : ℕ)
      → entry_of t (entries o log) ≡ option_map bare (entry_of t s.entries)
  entry_at_log {o} {log} {s} h t = ap (entry_of t) (sym h.entries_are) ∙ bare_entry t s.entries

  -- no more wait than the peak says
  pub waiting_within : {o : Opening} {log : Log T A} {s : State T S} → Represents o log s → waiting_count s.entries ≤ s.peak
  waiting_within {o} {log} {s} h =
      let a : waiting_count s.entries ≡ waiting_count (entries o log) = sym (bare_waiting s.entries) ∙ ap waiting_count h.entries_are in
      let b = h.peak_is in
      let c = peak_covers o log in
      omega arith

  -- the greatest capacity so far is at least the one in force
  pub greatest_kept : {o : Opening} {log : Log T A} {s : State T S} → Represents o log s → s.greatest ≡ greater s.greatest s.capacity
  greatest_kept {o} {log} {s} h =
      h.greatest_is ∙ greatest_covers o log ∙ ap₂ greater (sym h.greatest_is) (sym h.capacity_is)

  -- while a receiver waits, none is blocked
  pub none_blocked_waiting : {o : Opening} {log : Log T A} {s : State T S} → Represents o log s → some_wait s.entries ≡ true
      → s.blocked ≡ []
  none_blocked_waiting {o} {log} {s} h some =
      let long = line_length h in
      let n = queue_len_is h in
      let whole = waits_whole o log h.run (waiting_at_log h ∙ some) in
      nil_by s.blocked (λ more. omega arith)

  -- if the queue has room, none is blocked
  pub none_blocked : {o : Opening} {log : Log T A} {s : State T S} → Represents o log s → HasRoom s.capacity (length s.queue)
      → s.blocked ≡ []
  none_blocked {o} {log} {s} h room =
      nil_by s.blocked (λ some. room_or_full s.capacity (length s.queue) room (at_capacity h some))

  -- a blocked message of a live ticket
  pub is_blocked : {o : Opening} {log : Log T A} {s : State T S} → Represents o log s → (t : ℕ) (m : T) (before later : List (Blocked T))
      → s.blocked ≡ before ++ record { ticket = t; message = m } ∷ later → is_live log t ≡ true → IsBlocked (channel o log) t m
  is_blocked {o} {log} {s} h t m before later e live =
      (live, offers_of before, offers_of later, blocked_is h ∙ ap offers_of e ∙ map-append _ before _)

  -- an open state has an open log
  pub open_at_log : {o : Opening} {log : Log T A} {s : State T S} → Represents o log s
      → IsOpen s.senders s.receivers → IsOpen (senders log) (receivers log)
  open_at_log {o} {log} {s} h is = let a = h.senders_are in let b = h.receivers_are in subst₂ IsOpen a b is

  -- a closed state has a closed log
  pub closed_at_log : {o : Opening} {log : Log T A} {s : State T S} → Represents o log s
      → IsClosed s.senders s.receivers → IsClosed (senders log) (receivers log)
  closed_at_log {o} {log} {s} h is = subst₂ IsClosed h.senders_are h.receivers_are is

  -- a queue with room has room in the log
  pub room_at_log : {o : Opening} {log : Log T A} {s : State T S} → Represents o log s
      → HasRoom s.capacity (length s.queue) → HasRoom (capacity o log) (queue_len o log)
  room_at_log {o} {log} {s} h is = subst₂ HasRoom h.capacity_is (queue_len_is h) is

  -- if the queue has room in the log it has room
  pub room_at_state : {o : Opening} {log : Log T A} {s : State T S} → Represents o log s
      → HasRoom (capacity o log) (queue_len o log) → HasRoom s.capacity (length s.queue)
  room_at_state {o} {log} {s} h is = subst₂ HasRoom (sym h.capacity_is) (sym (queue_len_is h)) is

  -- a queue at capacity is at capacity in the log
  pub full_at_log : {o : Opening} {log : Log T A} {s : State T S} → Represents o log s
      → IsAtCapacity s.capacity (length s.queue) → IsAtCapacity (capacity o log) (queue_len o log)
  full_at_log {o} {log} {s} h is = subst₂ IsAtCapacity h.capacity_is (queue_len_is h) is
