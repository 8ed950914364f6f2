-- A message handed out: what that leaves represents the log with that step added.
use Rattle.std.proofs.Common.{◌≡◌, ℕ, ◌+◌, ◌-◌, ◌<◌, ◌≤◌, Bool, true, false, not, ◌&&◌, if◌then◌else◌, ◌⊎◌, inl, inr, ⊎_elim, nat_le, List}
use Rattle.std.proofs.Common.{[], ◌∷◌, ◌++◌, length, map, suc, max, Option, Some, None, refl, sym, ◌∙◌, ap, subst, arith, length-append}
use Rattle.std.proofs.Common.{append_assoc}
use Rattle.std.proofs.Math.Bool.{and-true}
use Rattle.std.proofs.lemmas.Bool.{leb-true, leb-false, le-leb}
use Rattle.std.proofs.lemmas.List.{length-map, map_push, length_push}
use Rattle.flume_model.specs.declared.step.Step.{Step}
use Rattle.flume_model.specs.declared.step.Reply.{Reply}
use Rattle.flume_model.specs.Log.{Log, Opening, Offer, Takes, capped, change}
use Rattle.flume_model.specs.Counts.{is_over}
use Rattle.flume_model.specs.Line.{line, greater, messages, is_live}
use Rattle.flume_model.specs.Channel.{channel, has_ticket}
use Rattle.flume_model.specs.Replies.{IsReply}
use Rattle.flume_model.specs.Limits.{HasRoom, IsAtCapacity, is_full}
use Rattle.flume_state.specs.Messages.{Blocked}
use Rattle.flume_state.specs.Sends.{with_send_changed, accepted_now}
use Rattle.flume_state.specs.State.{State, offers_of, bare}
use Rattle.flume_core.specs.Represents.{Represents}
use Rattle.flume_state.specs.Effects.{after_admission, after_admission_of, after_admission_if_room, with_front}
use Rattle.flume_state.specs.Effects.{with_front_of, after_take as taken_state}
use Rattle.flume_model.specs.declared.entry.Entry.{Entry}
use Rattle.flume_model.specs.Entries.{waiting_count, without_ticket}
use Rattle.flume_model.specs.Parked.{entries_after, is_closed_after}
use Rattle.flume_core.proofs.BareEntryLemmas.{bare_without}
use Rattle.flume_model.proofs.WaitingCountLemmas.{fewer_without}
use Rattle.flume_core.proofs.RepresentsLemmas.{peak_kept, represents_as, represents_open, over_same}
use Rattle.flume_model.proofs.order.PartLemmas.{front_at, open_at}
use Rattle.flume_model.proofs.order.LineStepLemmas.{line_takes}
use Rattle.flume_core.proofs.ViewLemmas.{mark, status, status_is, greatest_kept, queued_length, at_capacity, nil_by, line_is, queued}
use Rattle.flume_core.proofs.MarkLemmas.{marks_admitted}

-- a queue at capacity, or a line that is no longer, stays
stays_queued : (cap : Option ℕ) (n long : ℕ) → n ≤ long → IsAtCapacity cap n ⊎ (long ≡ n) → n ≡ max n (capped cap long)
stays_queued None n long le (inl h) = absurd h
stays_queued None n long le (inr h) = omega arith
stays_queued (Some c) n long le (inl h) = omega arith
stays_queued (Some c) n long le (inr h) = omega arith

-- a queue that got room and whose line is longer gets one more
one_more : (cap : Option ℕ) (n long : ℕ) → n < long → HasRoom cap n → IsAtCapacity cap (n + 1) → n + 1 ≡ max n (capped cap long)
one_more None n long lt room full = absurd full
one_more (Some c) n long lt room full = omega arith

-- what the test of a full queue means
pub full_or_room : (cap : Option ℕ) (n : ℕ) → ((is_full cap n ≡ true) × IsAtCapacity cap n) ⊎ ((is_full cap n ≡ false) × HasRoom cap n)
full_or_room None n = inr (refl, tt)
full_or_room (Some c) n = by_case (nat_le c n) refl
  where
    by_case : (b : Bool) → nat_le c n ≡ b → ((nat_le c n ≡ true) × (c ≤ n)) ⊎ ((nat_le c n ≡ false) × (n < c))
    by_case true e = inl (e, leb-true c n e)
    by_case false e = inr (e, leb-false c n e)

-- a full queue is known as such
pub full_known : (cap : Option ℕ) (n : ℕ) → IsAtCapacity cap n → is_full cap n ≡ true
full_known None n h = absurd h
full_known (Some c) n h = le-leb c n h

module _ {T N : Type 0} where
  -- the entries without that of the receiver that took a message, if it was parked
  abbrev pub released : Option ℕ → List (Entry T N) → List (Entry T N)
  released None es = es
  released (Some t) es = without_ticket t es

  -- no more wait
  released_fewer : (receiver : Option ℕ) (es : List (Entry T N)) → waiting_count (released receiver es) ≤ waiting_count es
  released_fewer None es = omega arith
  released_fewer (Some t) es = fewer_without t es

  -- as a log knows them
  released_bare : (receiver : Option ℕ) (es : List (Entry T N)) (m : T) (queue : List T) (closes : Bool)
      → map bare (released receiver es) ≡ entries_after queue closes (map bare es) (Takes m receiver)
  released_bare None es m queue closes = refl
  released_bare (Some t) es m queue closes = bare_without t es

module _ {T S : Type 0} where
  -- the state without the receiver that took a message, if it was parked
  abbrev pub freed : Option ℕ → State T S → State T S
  freed receiver s = record s { entries = released receiver s.entries }

module _ {T A S : Type 0} where
  -- the front of the line leaves
  taken : (o : Opening) (past : Log T A) (p : Step T × Reply T A) (old new : State T S) (m : T) (receiver : Option ℕ) (x : Offer T)
      (queued : List (Offer T))
      → Represents o past old → IsReply (channel o past) p.0 p.1 → change past p.0 p.1 ≡ Takes m receiver
      → line past ≡ x ∷ (queued ++ offers_of new.blocked) → new.queue ≡ messages queued
      → length new.queue ≡ max (length old.queue - 1) (capped old.capacity (length queued + length new.blocked))
      → ((t : ℕ) → mark new.sends t ≡ status (is_live past t && true) (has_ticket t (offers_of new.blocked)))
      → new.capacity ≡ old.capacity → new.greatest ≡ old.greatest → new.next_ticket ≡ old.next_ticket → new.senders ≡ old.senders
      → new.receivers ≡ old.receivers
      → new.entries ≡ released receiver old.entries → new.peak ≡ old.peak → Represents o (p ∷ past) new
  taken o past p old new m receiver x queued h reply e at queue long marks same_capacity same_greatest same_next same_senders
      same_receivers left_parked
      same_peak =
      let open_ : is_over past ≡ false = open_at past [] (queued ++ offers_of new.blocked) x at in
      let left : line (p ∷ past) ≡ queued ++ offers_of new.blocked =
      line_takes o past p m receiver x (queued ++ offers_of new.blocked) h.run e open_ at in
      let many : length (line (p ∷ past)) ≡ length queued + length new.blocked =
      ap length left ∙ length-append queued _ ∙ ap (λ n. length queued + n) (length-map new.blocked _) in
      represents_open o past p (Takes m receiver) old new h reply e (over_same past p (Takes m receiver) e refl ∙ open_) record {
        capacity_is = same_capacity;
        greatest_is = same_greatest ∙ greatest_kept h ∙ ap (greater old.greatest) (sym same_capacity);
        queued = queued;
        line_is = left;
        queue_is = queue;
        length_is = long ∙ ap (λ c. max (length old.queue - 1) (capped c (length queued + length new.blocked))) (sym same_capacity)
            ∙ ap (λ n. max (length old.queue - 1) (capped new.capacity n)) (sym many);
        marks = marks;
        entries_are = ap (map bare) left_parked
            ∙ released_bare receiver old.entries m old.queue (not (is_closed_after past) && is_closed_after (p ∷ past));
        peak_is = same_peak ∙ peak_kept h new.entries
            (let fewer = released_fewer receiver old.entries in let same = ap waiting_count left_parked in omega arith);
        next_is = omega arith;
        senders_are = same_senders;
        receivers_are = same_receivers;
      }

  -- the offers behind the front one
  behind : (o : Opening) (past : Log T A) (old : State T S) (m : T) (rest : List T) → Represents o past old → old.queue ≡ m ∷ rest
      → (x : Offer T) × (queued : List (Offer T)) × (line past ≡ x ∷ (queued ++ offers_of old.blocked)) × (rest ≡ messages queued)
  behind o past old m rest h front =
      let at = front_at (queued h) m rest (sym h.queue_is ∙ front) in
      let same : at.0.message ∷ messages at.1 ≡ m ∷ rest = sym (ap messages at.2) ∙ sym h.queue_is ∙ front in
      (at.0, at.1, (line_is h) ∙ ap (λ l. l ++ offers_of old.blocked) at.2, (let tail : rest ≡ messages at.1 = cc in tail))

  -- the front message leaves, and no message moves in
  takes_one : (o : Opening) (past : Log T A) (p : Step T × Reply T A) (old new : State T S) (m : T) (receiver : Option ℕ) (rest : List T)
      → Represents o past old
      → IsReply (channel o past) p.0 p.1 → change past p.0 p.1 ≡ Takes m receiver → old.queue ≡ m ∷ rest
      → new ≡ record old { queue = rest; entries = released receiver old.entries }
      → IsAtCapacity old.capacity (length rest) ⊎ (old.blocked ≡ []) → Represents o (p ∷ past) new
  takes_one o past p old new m receiver rest h reply e front is full =
      let at = behind o past old m rest h front in
      let n : length rest ≡ length at.1 = ap length at.3 ∙ length-map at.1 _ in
      let was : length old.queue ≡ suc (length rest) = ap length front in
      let all = length at.1 + length old.blocked in
      let keeps : length rest ≡ max (length rest) (capped old.capacity all) =
      stays_queued old.capacity (length rest) all (omega arith)
      (⊎_elim inl (λ none. inr (let no_more : length old.blocked ≡ 0 = ap length none in omega arith)) full) in
      represents_as o (p ∷ past) new _ is (taken o past p old _ m receiver at.0 at.1 h reply e at.2 at.3
      (keeps ∙ ap (λ k. max k (capped old.capacity all)) (omega arith))
      (λ t. status_is h t ∙ sym (ap (λ c. status c (has_ticket t (offers_of old.blocked))) (and-true (is_live past t))))
      refl refl refl refl refl refl refl)

  -- the front message leaves, and the first blocked message moves in
  takes_and_admits : (o : Opening) (past : Log T A) (p : Step T × Reply T A) (old new : State T S) (m : T) (receiver : Option ℕ)
      (rest : List T)
      (b : Blocked T) (later : List (Blocked T)) → Represents o past old
      → IsReply (channel o past) p.0 p.1 → change past p.0 p.1 ≡ Takes m receiver → old.queue ≡ m ∷ rest → old.blocked ≡ b ∷ later
      → new ≡ record old {
        queue = rest ++ b.message ∷ [];
        blocked = later;
        sends = with_send_changed old.sends b.ticket accepted_now;
        entries = released receiver old.entries;
      }
      → HasRoom old.capacity (length rest) → Represents o (p ∷ past) new
  takes_and_admits o past p old new m receiver rest b later h reply e front at is room =
      let x : Offer T = record { message = b.message; ticket = Some b.ticket } in
      let place = behind o past old m rest h front in
      let n : length rest ≡ length place.1 = ap length place.3 ∙ length-map place.1 _ in
      let was : length old.queue ≡ length rest + 1 =
      ap length front ∙ (let next : suc (length rest) ≡ length rest + 1 = omega arith in next) in
      let waits : length old.blocked ≡ suc (length later) = ap length at in
      let full : IsAtCapacity old.capacity (length rest + 1) = subst (IsAtCapacity old.capacity) was (at_capacity h (omega arith)) in
      let push : length (place.1 ++ x ∷ []) ≡ length place.1 + 1 = length_push place.1 x in
      let all = length (place.1 ++ x ∷ []) + length later in
      represents_as o (p ∷ past) new _ is (taken o past p old _ m receiver place.0 (place.1 ++ x ∷ []) h reply e
      (place.2 ∙ ap (λ l. place.0 ∷ (place.1 ++ offers_of l)) at
      ∙ ap (λ l. place.0 ∷ l) (sym (append_assoc place.1 (x ∷ []) (offers_of later))))
      (ap (λ l. l ++ b.message ∷ []) place.3 ∙ sym (map_push _ place.1 x))
      (length_push rest b.message ∙ one_more old.capacity (length rest) all (omega arith) room full
      ∙ ap (λ k. max k (capped old.capacity all)) (omega arith))
      (marks_admitted o past old b later h at) refl refl refl refl refl refl refl)

  -- nothing is queued, and the first blocked message is handed out
  takes_direct : (o : Opening) (past : Log T A) (p : Step T × Reply T A) (old new : State T S) (m : T) (receiver : Option ℕ)
      (b : Blocked T) (later : List (Blocked T)) → Represents o past old
      → IsReply (channel o past) p.0 p.1 → change past p.0 p.1 ≡ Takes m receiver → old.queue ≡ [] → old.blocked ≡ b ∷ later
      → new ≡ record old {
        queue = [];
        blocked = later;
        sends = with_send_changed old.sends b.ticket accepted_now;
        entries = released receiver old.entries;
      }
      → Represents o (p ∷ past) new
  takes_direct o past p old new m receiver b later h reply e none at is =
      let x : Offer T = record { message = b.message; ticket = Some b.ticket } in
      let zero_long : length old.queue ≡ 0 = ap length none in
      let n = queued_length h in
      let no_offer : (queued h) ≡ [] = nil_by (queued h) (λ some. omega arith) in
      let waits : length old.blocked ≡ suc (length later) = ap length at in
      let full : IsAtCapacity old.capacity 0 = subst (IsAtCapacity old.capacity) zero_long (at_capacity h (omega arith)) in
      represents_as o (p ∷ past) new _ is (taken o past p old _ m receiver x [] h reply e
      ((line_is h) ∙ ap (λ l. l ++ offers_of old.blocked) no_offer ∙ ap offers_of at) refl
      (stays_queued old.capacity 0 (0 + length later) (omega arith) (inl full)
      ∙ ap (λ k. max k (capped old.capacity (0 + length later))) (omega arith))
      (marks_admitted o past old b later h at) refl refl refl refl refl refl refl)

  -- a message is handed out, from a queue that isn't empty
  takes_queued : (o : Opening) (past : Log T A) (p : Step T × Reply T A) (old new : State T S) (m : T) (receiver : Option ℕ) (rest : List T)
      → Represents o past old
      → IsReply (channel o past) p.0 p.1 → change past p.0 p.1 ≡ Takes m receiver → old.queue ≡ m ∷ rest
      → new ≡ freed receiver (after_admission_if_room (record old { queue = rest })) → Represents o (p ∷ past) new
  takes_queued o past p old new m receiver rest h reply e front is = by_case (full_or_room old.capacity (length rest)) old.blocked refl
    where
      left : State T S
      left = record old { queue = rest }

      by_case : ((is_full old.capacity (length rest) ≡ true) × IsAtCapacity old.capacity (length rest))
          ⊎ ((is_full old.capacity (length rest) ≡ false) × HasRoom old.capacity (length rest))
          → (xs : List (Blocked T)) → old.blocked ≡ xs → Represents o (p ∷ past) new
      by_case (inl full) xs at =
          let same : new ≡ freed receiver left = is ∙ ap (λ b. freed receiver (if not b then after_admission left else left)) full.0 in
          takes_one o past p old new m receiver rest h reply e front same (inl full.1)
      by_case (inr room) [] at =
          let same : new ≡ freed receiver left =
          is ∙ ap (λ b. freed receiver (if not b then after_admission left else left)) room.0
          ∙ ap (λ xs. freed receiver (after_admission_of xs left)) at in
          takes_one o past p old new m receiver rest h reply e front same (inr at)
      by_case (inr room) (b ∷ later) at =
          takes_and_admits o past p old new m receiver rest b later h reply e front at
          (is ∙ ap (λ b. freed receiver (if not b then after_admission left else left)) room.0
          ∙ ap (λ xs. freed receiver (after_admission_of xs left)) at) room.1

  -- a message is handed out
  pub takes : (o : Opening) (past : Log T A) (p : Step T × Reply T A) (old new : State T S) (m : T) (receiver : Option ℕ) (rest : List T)
      → Represents o past old
      → IsReply (channel o past) p.0 p.1 → change past p.0 p.1 ≡ Takes m receiver → (with_front old).queue ≡ m ∷ rest
      → new ≡ freed receiver (taken_state rest old) → Represents o (p ∷ past) new
  takes o past p old new m receiver rest h reply e front is = by_queue old.queue old.blocked refl refl
    where
      by_queue : (q : List T) (xs : List (Blocked T)) → old.queue ≡ q → old.blocked ≡ xs → Represents o (p ∷ past) new
      by_queue (m' ∷ rest') xs queue at =
          takes_queued o past p old new m receiver rest h reply e (sym (ap (λ q. (with_front_of q old).queue) queue) ∙ front)
          (is ∙ ap (λ q. freed receiver (after_admission_if_room (record (with_front_of q old) { queue = rest }))) queue)
      by_queue [] [] queue at =
          let nothing : (after_admission_of [] old).queue ≡ m ∷ rest =
          sym (ap (λ q. (with_front_of q old).queue) queue ∙ ap (λ xs. (after_admission_of xs old).queue) at) ∙ front in
          absurd (let none : ⊥ = cc in none)
      by_queue [] (b ∷ later) queue at =
          let left : List T → State T S = λ r. record old
          { queue = r; blocked = later; sends = with_send_changed old.sends b.ticket accepted_now } in
          let one : old.queue ++ b.message ∷ [] ≡ m ∷ rest =
          sym (ap (λ q. (with_front_of q old).queue) queue ∙ ap (λ xs. (after_admission_of xs old).queue) at) ∙ front in
          let only : b.message ∷ [] ≡ m ∷ rest = sym (ap (λ q. q ++ b.message ∷ []) queue) ∙ one in
          let empty : rest ≡ [] = cc in
          let zero_long : length old.queue ≡ 0 = ap length queue in
          let waits : length old.blocked ≡ suc (length later) = ap length at in
          let full : IsAtCapacity old.capacity 0 = subst (IsAtCapacity old.capacity) zero_long (at_capacity h (omega arith)) in
          takes_direct o past p old new m receiver b later h reply e queue at
          (is ∙ ap (λ q. freed receiver (after_admission_if_room (record (with_front_of q old) { queue = rest }))) queue
          ∙ ap (λ xs. freed receiver (after_admission_if_room (record (after_admission_of xs old) { queue = rest }))) at
          ∙ ap (λ r. freed receiver (after_admission_if_room (left r))) empty
          ∙ ap (λ c. freed receiver (if not c then after_admission (left []) else left [])) (full_known old.capacity 0 full))
