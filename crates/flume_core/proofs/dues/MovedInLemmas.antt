-- Blocked messages that move into the queue: whose sends are accepted by that.
use Rattle.std.proofs.Common.{◌≡◌, ℕ, suc, Bool, true, false, not, if◌then◌else◌, inl, Option, List, [], ◌∷◌}
use Rattle.std.proofs.Common.{◌++◌, length, refl, subst, arith}
use Rattle.std.specs.List.{All}
use Rattle.flume_model.specs.Limits.{is_full}
use Rattle.flume_state.specs.Messages.{Blocked}
use Rattle.flume_state.specs.Sends.{with_send_changed, accepted_now}
use Rattle.flume_state.specs.State.{State}
use Rattle.flume_state.specs.Effects.{after_admission_of, after_admission, after_admission_if_room, with_front_of}
use Rattle.flume_state.specs.Effects.{with_front, after_admissions_of, after_admissions, after_take}
use Rattle.flume_core.proofs.dues.SendsDueLemmas.{IsBlocked, Accepts, accepts_more}

module _ {T S : Type 0} where
  -- some of the blocked sends were accepted, and those blocked now were so then
  pub record MovesIn (old new : State T S) : Type 0 where
    pub sends : Accepts old.sends new.sends
    pub entries : new.entries ≡ old.entries
    pub senders : new.senders ≡ old.senders
    pub receivers : new.receivers ≡ old.receivers
    pub still_blocked : All (λ b. IsBlocked old.sends b.ticket) new.blocked

  -- none moved in so far
  pub moves_none : (s : State T S) → All (λ b. IsBlocked s.sends b.ticket) s.blocked → MovesIn s s
  moves_none s live = record { sends = λ t. inl refl; entries = refl; senders = refl; receivers = refl; still_blocked = live }

  -- another queue
  pub moves_queue : (old s : State T S) (queue_ : List T) → MovesIn old s → MovesIn old (record s { queue = queue_ })
  moves_queue old s queue_ h = record {
    sends = h.sends;
    entries = h.entries;
    senders = h.senders;
    receivers = h.receivers;
    still_blocked = h.still_blocked;
  }

  -- another capacity
  pub moves_capacity : (old s : State T S) (capacity_ greatest_ : Option ℕ) → MovesIn old s
      → MovesIn old (record s { capacity = capacity_; greatest = greatest_ })
  moves_capacity old s capacity_ greatest_ h = record {
    sends = h.sends;
    entries = h.entries;
    senders = h.senders;
    receivers = h.receivers;
    still_blocked = h.still_blocked;
  }

  -- the first of those blocked moves in
  moves_one : (old s : State T S) (b : Blocked T) (later : List (Blocked T)) → MovesIn old s → s.blocked ≡ b ∷ later
      → MovesIn old (record s
      { queue = s.queue ++ b.message ∷ []; blocked = later; sends = with_send_changed s.sends b.ticket accepted_now })
  moves_one old s b later h is =
      let all = subst (λ l. All (λ x. IsBlocked old.sends x.ticket) l) is h.still_blocked in
      record {
        sends = accepts_more old.sends s.sends b.ticket h.sends (all 0 b (omega arith));
        entries = h.entries;
        senders = h.senders;
        receivers = h.receivers;
        still_blocked = λ k d within. all (suc k) d (omega (arith, within));
      }

  -- the first blocked message is moved in, if one is blocked
  moves_admitted : (old s : State T S) → MovesIn old s → MovesIn old (after_admission s)
  moves_admitted old s h = by_list s.blocked refl
    where
      by_list : (xs : List (Blocked T)) → s.blocked ≡ xs → MovesIn old (after_admission_of xs s)
      by_list [] is = h
      by_list (b ∷ later) is = moves_one old s b later h is

  -- if nothing is queued
  moves_fronted : (old s : State T S) → MovesIn old s → MovesIn old (with_front s)
  moves_fronted old s h = by_queue s.queue
    where
      by_queue : (q : List T) → MovesIn old (with_front_of q s)
      by_queue [] = moves_admitted old s h
      by_queue (m ∷ rest) = h

  -- if the queue has room
  moves_refilled : (old s : State T S) → MovesIn old s → MovesIn old (after_admission_if_room s)
  moves_refilled old s h = by_room (not (is_full s.capacity (length s.queue)))
    where
      by_room : (b : Bool) → MovesIn old (if b then after_admission s else s)
      by_room true = moves_admitted old s h
      by_room false = h

  -- as the front is handed out
  pub moves_taken : (old : State T S) (rest : List T) → MovesIn old old → MovesIn old (after_take rest old)
  moves_taken old rest h = moves_refilled old _ (moves_queue old (with_front old) rest (moves_fronted old old h))

  -- while the queue has room
  pub moves_filled_up : (old s : State T S) → MovesIn old s → MovesIn old (after_admissions s)
  moves_filled_up old s h = by_list s.blocked s h refl
    where
      by_list : (xs : List (Blocked T)) (s : State T S) → MovesIn old s → s.blocked ≡ xs → MovesIn old (after_admissions_of xs s)
      by_list [] s h is = h
      by_list (b ∷ later) s h is =
          let next = record s {
            queue = s.queue ++ b.message ∷ [];
            blocked = later;
            sends = with_send_changed s.sends b.ticket
                accepted_now;
          } in
          by_room (is_full s.capacity (length s.queue)) (by_list later next (moves_one old s b later h is) refl)
        where
          by_room : (full : Bool)
              → MovesIn old (after_admissions_of later (record s {
                queue = s.queue ++ b.message ∷ [];
                blocked = later;
                sends = with_send_changed s.sends b.ticket accepted_now;
              }))
              → MovesIn old (if full then s else after_admissions_of later (record s {
                queue = s.queue ++ b.message ∷ [];
                blocked = later;
                sends = with_send_changed s.sends b.ticket accepted_now;
              }))
          by_room true more = h
          by_room false more = more
