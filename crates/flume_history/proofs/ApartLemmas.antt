-- What excludes what in a channel, so that a step has at most one reply other than `NoMemory`.
use Rattle.std.proofs.Common.{◌≡◌, ℕ, true, false, List, [], ◌∷◌, ◌++◌, length, get_or}
use Rattle.std.proofs.Common.{Option, Some, None, refl, sym, ◌∙◌, ap, arith, eq-eqb}
use Rattle.std.proofs.lemmas.Grind.{common_steps}
use Rattle.flume_model.specs.declared.step.Reply.{Reply}
use Rattle.flume_model.specs.Log.{Offer}
use Rattle.flume_model.specs.Limits.{HasRoom, IsAtCapacity, IsOpen, IsClosed, IsBounded, most}
use Rattle.flume_model.specs.Channel.{Channel, TakesIn, TakesNoneIn, IsFront, IsBlocked, has_ticket}
use Rattle.flume_model.specs.Replies.{SameReply}
use Rattle.flume_history.specs.SameRuns.{IsNoMemory}

-- a queue has no room at its capacity
room_or_full : (capacity : Option ℕ) (n : ℕ) → HasRoom capacity n → IsAtCapacity capacity n → ⊥
room_or_full None n room full = full
room_or_full (Some capacity) n room full = omega arith

-- a count isn't 0 and the greatest
pub none_or_most : {n : ℕ} → n ≡ 0 → n ≡ most → ⊥
none_or_most none greatest = let same : 0 ≡ most = sym none ∙ greatest in omega arith

-- there is no capacity, and there is one
pub bounded_or_not : (capacity : Option ℕ) → capacity ≡ None → IsBounded capacity → ⊥
bounded_or_not None none bounded = bounded
bounded_or_not (Some capacity) none bounded = let never : ⊥ = cc in never

-- an offer with a ticket among others is found by it
found_at : {T : Type 0} (t : ℕ) (m : T) (before after : List (Offer T))
    → has_ticket t (before ++ record { message = m; ticket = Some t } ∷ after) ≡ true
found_at t m [] after = let same = eq-eqb t t refl in grind (arith, common_steps)
found_at t m (x ∷ before) after = grind (arith, common_steps, found_at t m before after)

module _ {T : Type 0} (c : Channel T) where
  -- an open channel isn't closed
  pub open_or_closed : IsOpen c.senders c.receivers → IsClosed c.senders c.receivers → ⊥
  open_or_closed is_open closed = omega arith

  -- a channel that takes a send in doesn't take none in
  pub in_or_none : TakesIn c → TakesNoneIn c → ⊥
  in_or_none takes none = room_or_full c.capacity c.queue_len (takes.1 none.1) none.2

  -- a line has one front
  pub one_front : (m back : T) → IsFront c m → IsFront c back → m ≡ back
  one_front m back front other = ap (λ line. get_or line 0 m) (sym front.1 ∙ other.1)

  -- and is then not empty
  pub front_or_none : (m : T) → IsFront c m → c.line ≡ [] → ⊥
  front_or_none m front none = let long = ap length (sym front.1 ∙ none) in omega arith

  -- a message that is blocked under a ticket wasn't taken in
  pub blocked_or_taken : (t : ℕ) (m : T) → IsBlocked c t m → has_ticket t c.blocked ≡ false → ⊥
  blocked_or_taken t m blocked taken =
      let found : has_ticket t c.blocked ≡ true = rw blocked.3 (found_at t m blocked.1 blocked.2) in
      let never : ⊥ = cc in never

  -- a ticket is live or it isn't
  pub dead_or_live : (t : ℕ) → c.is_live t ≡ false → c.is_live t ≡ true → ⊥
  dead_or_live t dead live = let never : ⊥ = cc in never

  -- a message is taken in or it isn't
  pub taken_or_not : (t : ℕ) → has_ticket t c.blocked ≡ false → has_ticket t c.blocked ≡ true → ⊥
  taken_or_not t taken blocked = let never : ⊥ = cc in never

module _ {T : Type 0} (A : Type 0) where
  -- of two replies neither of which is `NoMemory`, one of which comes by `P`, and the other too:
  -- they are the same
  abbrev pub Determines : (Reply T A → Type 0) → Type 0
  Determines P =
      (reply other : Reply T A) → P reply → P other → (IsNoMemory reply → ⊥) → (IsNoMemory other → ⊥)
      → SameReply reply other
