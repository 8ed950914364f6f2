-- All queued messages handed out: what that leaves represents the log with that step added.
use Rattle.std.proofs.Common.{◌≡◌, ℕ, ◌+◌, ◌≤◌, Bool, true, false, ◌⊎◌, inl, inr, ⊎_elim, List, [], ◌∷◌, ◌++◌}
use Rattle.std.proofs.Common.{length, map, Option, Some, None, refl, sym, ◌∙◌, ap, ap₂, arith, append_assoc, append-nil, length-append}
use Rattle.std.proofs.Math.Bool.{and-true}
use Rattle.std.proofs.lemmas.List.{map-append, length-map, length_push}
use Rattle.flume_model.specs.declared.step.Step.{Step}
use Rattle.flume_model.specs.declared.step.Reply.{Reply}
use Rattle.flume_model.specs.Log.{Log, Opening, Drains, capped, change}
use Rattle.flume_model.specs.Counts.{is_over}
use Rattle.flume_model.specs.Line.{line, is_live}
use Rattle.flume_model.specs.Channel.{channel, has_ticket}
use Rattle.flume_model.specs.Replies.{IsReply}
use Rattle.flume_model.specs.Limits.{HasRoom, IsAtCapacity, is_full}
use Rattle.flume_state.specs.Messages.{Blocked}
use Rattle.flume_state.specs.Sends.{SendMap, with_send_changed, accepted_now}
use Rattle.flume_state.specs.State.{State, offers_of}
use Rattle.flume_core.specs.Represents.{Represents}
use Rattle.flume_state.specs.Effects.{after_admissions, after_admissions_of}
use Rattle.flume_model.proofs.order.LineStepLemmas.{line_drains, apart_in_line, line_over}
use Rattle.flume_core.proofs.ViewLemmas.{mark, status, status_is, greatest_kept, queued_length, queue_at_log}
use Rattle.flume_core.proofs.ViewLemmas.{offered_messages, line_length, nil_by, line_is, queued}
use Rattle.flume_core.proofs.MarkLemmas.{marks_moved_in}
use Rattle.flume_core.proofs.RepresentsLemmas.{represents_as, represents_open, represents_over, fits_as, over_same, none_live, peak_kept}
use Rattle.flume_core.proofs.RepresentsLemmas.{none_parked}
use Rattle.flume_core.proofs.TakeLemmas.{full_or_room, full_known}

-- this many messages are no more than the capacity
abbrev pub IsInCapacity : Option ℕ → ℕ → Type 0
IsInCapacity None n = Unit {0}
IsInCapacity (Some c) n = n ≤ c

-- one more if there is room
in_capacity_more : (cap_ : Option ℕ) (n : ℕ) → HasRoom cap_ n → IsInCapacity cap_ (n + 1)
in_capacity_more None n room = tt
in_capacity_more (Some c) n room = omega arith

-- as many as the line has and the capacity says
capped_is : (cap_ : Option ℕ) (n more : ℕ) → IsInCapacity cap_ n → IsAtCapacity cap_ n ⊎ (more ≡ 0) → n ≡ capped cap_ (n + more)
capped_is None n more in_ (inl full) = absurd full
capped_is None n more in_ (inr none) = omega arith
capped_is (Some c) n more in_ (inl full) = omega arith
capped_is (Some c) n more in_ (inr none) = omega arith

module _ {T : Type 0} where
  -- the tickets of blocked messages are apart
  abbrev pub ApartFrom : List (Blocked T) → Type 0
  ApartFrom xs = (before : List (Blocked T)) (b : Blocked T) (later : List (Blocked T)) → xs ≡ before ++ b ∷ later
      → has_ticket b.ticket (offers_of later) ≡ false

module _ {T S : Type 0} where
  -- the live sends, once each of these was accepted
  abbrev pub accepted_all : List (Blocked T) → SendMap S → SendMap S
  accepted_all [] sends = sends
  accepted_all (b ∷ moved) sends = accepted_all moved (with_send_changed sends b.ticket accepted_now)

  -- what is there once blocked messages moved in while there was room
  pub record MovedIn (xs : List (Blocked T)) (s new : State T S) : Type 0 where
    pub moved : List (Blocked T)
    pub later : List (Blocked T)
    pub parts : xs ≡ moved ++ later
    pub state : new ≡ record s {
      queue = s.queue ++ map (λ b. b.message) moved;
      blocked = later;
      sends = accepted_all moved s.sends;
    }
    pub in_capacity : IsInCapacity s.capacity (length s.queue + length moved)
    pub enough : IsAtCapacity s.capacity (length s.queue + length moved) ⊎ (later ≡ [])

  -- blocked messages move in while there is room
  pub moves_in : (xs : List (Blocked T)) (s : State T S) → s.blocked ≡ xs → IsInCapacity s.capacity (length s.queue)
      → MovedIn xs s (after_admissions_of xs s)
  moves_in [] s at in_ = record {
    moved = [];
    later = [];
    parts = refl;
    state = rw (append-nil s.queue, ← at) refl;
    in_capacity = rw (let same : length s.queue + 0 ≡ length s.queue = omega arith in same) in_;
    enough = inr refl;
  }
  moves_in (b ∷ xs) s at in_ = by_case (full_or_room s.capacity (length s.queue)) (λ u. moves_in xs u)
    where
      next : State T S
      next = record s { queue = s.queue ++ b.message ∷ []; blocked = xs; sends = with_send_changed s.sends b.ticket accepted_now }

      by_case : ((is_full s.capacity (length s.queue) ≡ true) × IsAtCapacity s.capacity (length s.queue))
          ⊎ ((is_full s.capacity (length s.queue) ≡ false) × HasRoom s.capacity (length s.queue))
          → ((u : State T S) → u.blocked ≡ xs → IsInCapacity u.capacity (length u.queue) → MovedIn xs u (after_admissions_of xs u))
          → MovedIn (b ∷ xs) s (after_admissions_of (b ∷ xs) s)
      by_case (inl full) further = record {
        moved = [];
        later = b ∷ xs;
        parts = refl;
        state = rw (full.0, append-nil s.queue, ← at) refl;
        in_capacity = rw (let same : length s.queue + 0 ≡ length s.queue = omega arith in same) in_;
        enough = inl (rw (let same : length s.queue + 0 ≡ length s.queue = omega arith in same) full.1);
      }
      by_case (inr room) further =
          let long : length (s.queue ++ b.message ∷ []) ≡ length s.queue + 1 = length_push s.queue b.message in
          let rest = further next refl (rw long (in_capacity_more s.capacity (length s.queue) room.1)) in
          let same : length (s.queue ++ b.message ∷ []) + length rest.moved ≡ length s.queue + length (b ∷ rest.moved) =
          omega (arith, long) in
          record {
            moved = b ∷ rest.moved;
            later = rest.later;
            parts = ap (λ l. b ∷ l) rest.parts;
            state = rw room.0 (rest.state ∙ rw (append_assoc s.queue (b.message ∷ []) (map (λ b. b.message) rest.moved)) refl);
            in_capacity = rw (← same) rest.in_capacity;
            enough = rw (← same) rest.enough;
          }

  -- the state of each ticket once the first of them have moved in
  pub marks_all : (moved later : List (Blocked T)) (sends : SendMap S) (live : ℕ → Bool)
      → ((q : ℕ) → mark sends q ≡ status (live q) (has_ticket q (offers_of (moved ++ later)))) → ApartFrom (moved ++ later)
      → (q : ℕ) → mark (accepted_all moved sends) q ≡ status (live q) (has_ticket q (offers_of later))
  marks_all [] later sends live marks apart q = marks q
  marks_all (b ∷ moved) later sends live marks apart q =
      marks_all moved later (with_send_changed sends b.ticket accepted_now) live
      (marks_moved_in sends live b (moved ++ later) marks (apart [] b (moved ++ later) refl))
      (λ before x rest e. apart (b ∷ before) x rest (ap (λ l. b ∷ l) e)) q

  -- none moves in if the queue is full
  pub fills_none_full : (s : State T S) → IsAtCapacity s.capacity (length s.queue) → after_admissions s ≡ s
  fills_none_full s full = go s.blocked
    where
      go : (xs : List (Blocked T)) → after_admissions_of xs s ≡ s
      go [] = refl
      go (b ∷ later) = rw (full_known s.capacity (length s.queue) full) refl

module _ {T A S : Type 0} where
  -- the blocked messages of a state have tickets apart
  pub apart_blocked : {o : Opening} {log : Log T A} {s : State T S} → Represents o log s → ApartFrom s.blocked
  apart_blocked {o} {log} {s} h before b later e =
      (apart_in_line o log h.run (queued h) (offers_of before) (offers_of later) b.ticket b.message
      ((line_is h) ∙ ap (λ l. (queued h) ++ l) (ap offers_of e ∙ map-append _ before (b ∷ later)))).1

  -- all queued messages are handed out, and blocked ones move in
  pub drains : (o : Opening) (past : Log T A) (p : Step T × Reply T A) (old new : State T S) (list : List T) → Represents o past old
      → IsReply (channel o past) p.0 p.1 → change past p.0 p.1 ≡ Drains list → new ≡ after_admissions (record old { queue = [] })
      → Represents o (p ∷ past) new
  drains o past p old new list h reply e is = by_over (is_over past) refl
    where
      at : MovedIn old.blocked (record old { queue = [] }) (after_admissions (record old { queue = [] }))
      at = moves_in old.blocked (record old { queue = [] }) refl (room_for_none old.capacity)
        where
          room_for_none : (cap_ : Option ℕ) → IsInCapacity cap_ 0
          room_for_none None = tt
          room_for_none (Some c) = omega arith

      by_over : (b : Bool) → is_over past ≡ b → Represents o (p ∷ past) new
      by_over false open_ =
          let fit = fits_as o past p (Drains list) h.run reply e in
          let still_open = over_same past p (Drains list) e refl ∙ open_ in
          let left : line (p ∷ past) ≡ offers_of at.moved ++ offers_of at.later =
          line_drains o past p list (queued h) (offers_of old.blocked) h.run e open_ (line_is h)
          (queued_length h ∙ sym (ap length (fit ∙ queue_at_log h)))
          ∙ ap offers_of at.parts ∙ map-append _ at.moved at.later in
          let n = length at.moved in
          let many : length (line (p ∷ past)) ≡ n + length at.later =
          ap length left ∙ length-append (offers_of at.moved) (offers_of at.later)
          ∙ ap₂ (λ a b. a + b) (length-map at.moved _) (length-map at.later _) in
          let zero_more : 0 + n ≡ n = omega arith in
          let none_later : IsAtCapacity old.capacity n ⊎ (length at.later ≡ 0) =
          ⊎_elim (λ full. inl (rw (← zero_more) full)) (λ none. inr (ap length none)) at.enough in
          represents_as o (p ∷ past) new _ (is ∙ at.state) (represents_open o past p (Drains list) old _ h reply e still_open record {
            capacity_is = refl;
            greatest_is = greatest_kept h;
            queued = offers_of at.moved;
            line_is = left;
            queue_is = sym (offered_messages at.moved);
            length_is = length-map at.moved _ ∙ capped_is old.capacity n (length at.later) (rw (← zero_more) at.in_capacity) none_later
                ∙ ap (capped old.capacity) (sym many);
            marks = λ q. marks_all at.moved at.later old.sends (is_live past)
                (λ k. status_is h k ∙ ap (λ l. status (is_live past k) (has_ticket k (offers_of l))) at.parts)
                (λ before b later found. apart_blocked h before b later (at.parts ∙ found)) q
                ∙ sym (ap (λ c. status c (has_ticket q (offers_of at.later))) (and-true (is_live past q)));
            entries_are = refl;
            peak_is = peak_kept h old.entries (omega arith);
            next_is = omega arith;
            senders_are = refl;
            receivers_are = refl;
          })
      by_over true over =
          let none : length old.queue + length old.blocked ≡ 0 = sym (line_length h) ∙ ap length (line_over past over) in
          let none_blocked : old.blocked ≡ [] = nil_by old.blocked (λ some. omega arith) in
          let same : new ≡ record old { queue = [] } = is ∙ ap (λ xs. after_admissions_of xs (record old { queue = [] })) none_blocked in
          represents_as o (p ∷ past) new _ same (represents_over o past p (Drains list) old _ h reply e
          (over_same past p (Drains list) e refl ∙ over) (λ c. refl) refl refl refl none_blocked
          (λ t. status_is h t ∙ ap (λ b. status b (has_ticket t (offers_of old.blocked))) (none_live past t over))
          (none_parked h over) refl (omega arith) refl refl)
