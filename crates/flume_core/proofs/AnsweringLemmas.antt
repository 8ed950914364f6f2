-- What the calls of `Chan` find, and what that says of the log.
use Rattle.std.proofs.Common.{◌⊎◌, inl, inr, ◌≡◌, ◌≢◌, ℕ, Bool, true, false, not, cond, List, [], ◌∷◌, ◌++◌, length, map, Some, None, refl}
use Rattle.std.proofs.Common.{sym, ◌∙◌, ap, arith}
use Rattle.std.specs.List.{All}
use Rattle.flume_model.specs.declared.step.Step.{Step}
use Rattle.flume_model.specs.declared.step.Reply.{Reply}
use Rattle.flume_model.specs.declared.step.Reply.TheVariants.{Returned, NoTicket}
use Rattle.flume_model.specs.Log.{Log, Opening, Withdraws, change}
use Rattle.flume_model.specs.Counts.{senders, receivers}
use Rattle.flume_model.specs.Line.{line, blocked, is_live, messages}
use Rattle.flume_model.specs.Channel.{TakesIn, TakesNoneIn, has_ticket, IsAccepted, IsPending, IsBlocked, channel}
use Rattle.flume_model.specs.Replies.{IsReply}
use Rattle.flume_model.specs.Limits.{is_closed, IsOpen, IsClosed, HasRoom, IsAtCapacity}
use Rattle.flume_state.specs.Messages.{Blocked}
use Rattle.flume_state.specs.State.{State, accepted_at}
use Rattle.flume_core.specs.Represents.{Represents}
use Rattle.flume_model.specs.Entries.{some_wait, round_fills, round_for_fills}
use Rattle.flume_model.specs.Parked.{entries}
use Rattle.flume_core.proofs.BareEntryLemmas.{bare_fills}
use Rattle.flume_state.specs.Effects.{with_front, Returns}
use Rattle.flume_core.proofs.ViewLemmas.{open_at_log, full_at_log, room_at_log, waiting_at_log}
use Rattle.flume_core.proofs.ViewLemmas.{live_by, none_blocked_if_absent, is_blocked, line_messages, blocked_is}
use Rattle.flume_core.proofs.MoveLemmas.{withdraws}

-- what is not open is closed
pub closed_where : (n m : ℕ) → (IsOpen n m → ⊥) → IsClosed n m
closed_where n m shut = omega (arith, shut)

module _ {T S : Type 0} where
  -- if no message comes to the front, nothing is queued
  pub fronted_empty : (s : State T S) → (with_front s).queue ≡ [] → s.queue ≡ []
  fronted_empty s none = go s.queue refl
    where
      go : (q : List T) → s.queue ≡ q → s.queue ≡ []
      go [] queue = queue
      go (m ∷ q) queue = absurd (let gone = rw queue at none in cc)

module _ {T A S : Type 0} where
  -- a ticket that the table doesn't know isn't live
  pub unknown : (o : Opening) (log : Log T A) (s : State T S) (t : ℕ) → Represents o log s
      → accepted_at s t ≡ None → is_live log t ≡ false
  unknown o log s t h e = go (is_live log t) (sym (h.sends_are t) ∙ e)
    where
      go : (b : Bool) → cond b (Some (not (has_ticket t (blocked o log)))) None ≡ None → b ≡ false
      go true e = cc
      go false e = refl

  -- one that it has as accepted is accepted
  pub known : (o : Opening) (log : Log T A) (s : State T S) (t : ℕ) → Represents o log s
      → accepted_at s t ≡ Some true → IsAccepted (channel o log) t
  known o log s t h e = live_by (is_live log t) (has_ticket t (blocked o log)) true (sym (h.sends_are t) ∙ e)

  -- one that it has as not accepted waits
  pub waits : (o : Opening) (log : Log T A) (s : State T S) (t : ℕ) → Represents o log s
      → accepted_at s t ≡ Some false → IsPending (channel o log) t
  waits o log s t h e = live_by (is_live log t) (has_ticket t (blocked o log)) false (sym (h.sends_are t) ∙ e)

module _ {T A S : Type 0} where
  -- a send that waits gets its message back, and it is answered so
  pub taken_back : (o : Opening) (log : Log T A) (step : Step T) (old new : State T S) (t : ℕ) (r : Reply T A) → Represents o log old
      → IsPending (channel o log) t
      → ((m : T) (closed : Bool) → r ≡ Returned m closed → change log step r ≡ Withdraws t)
      → ((m : T) (closed : Bool) → r ≡ Returned m closed → IsBlocked (channel o log) t m → closed ≡ is_closed old.senders old.receivers
      → IsReply (channel o log) step r)
      → ((m : T) (closed : Bool) → r ≡ Returned m closed → Returns old new t m closed)
      → (r ≡ NoTicket → All (λ b. b.ticket ≢ t) old.blocked)
      → (r ≡ NoTicket) ⊎ ((m : T) × (closed : Bool) × (r ≡ Returned m closed))
      → Represents o ((step, r) ∷ log) new
  taken_back o log step old new t r h waiting changes replies returns absent (inl none) =
      absurd (none_blocked_if_absent t old.blocked (rw (← blocked_is h) waiting.1) (absent none))
  taken_back o log step old new t r h waiting changes replies returns absent (inr (m, closed, is)) =
      let back = returns m closed is in
      let blocked_ = is_blocked h t m back.before back.later back.found waiting.0 in
      withdraws o log (step, r) old new t m back.before back.later h (replies m closed is blocked_ back.closed_is) (changes m closed is)
      back.found back.becomes

  -- if this message comes to the front, the line begins with it
  pub front_line : (o : Opening) (log : Log T A) (s : State T S) (m : T) (rest : List T) → Represents o log s
      → (with_front s).queue ≡ m ∷ rest → (later : List T) × (messages (line log) ≡ m ∷ later)
  front_line o log s m rest h front = go s.queue s.blocked refl refl
    where
      go : (q : List T) (xs : List (Blocked T)) → s.queue ≡ q → s.blocked ≡ xs → (later : List T) × (messages (line log) ≡ m ∷ later)
      go [] [] queue at = absurd (let gone = rw (queue, at) at front in cc)
      go [] (x ∷ xs) queue at =
          let first = rw (queue, at) at front in
          let same : x.message ≡ m = cc in
          (map (λ b. b.message) xs, line_messages h ∙ rw (queue, at, same) refl)
      go (y ∷ q) xs queue at =
          let first = rw queue at front in
          let same : y ≡ m = cc in
          (q ++ map (λ b. b.message) xs, line_messages h ∙ rw (queue, at, same) refl)

  -- if no message comes to the front, the line is empty
  pub empty_line : (o : Opening) (log : Log T A) (s : State T S) → Represents o log s → (with_front s).queue ≡ [] → messages (line log) ≡ []
  empty_line o log s h none = line_messages h ∙ go s.queue s.blocked refl refl
    where
      go : (q : List T) (xs : List (Blocked T)) → s.queue ≡ q → s.blocked ≡ xs → s.queue ++ map (λ b. b.message) s.blocked ≡ []
      go [] [] queue at = rw (queue, at) refl
      go [] (x ∷ xs) queue at = absurd (let gone = rw (queue, at) at none in cc)
      go (m ∷ q) xs queue at = absurd (let gone = rw queue at none in cc)

  -- a send is taken in
  pub takes_in : {o : Opening} {log : Log T A} {s : State T S} → Represents o log s → IsOpen s.senders s.receivers
      → (some_wait s.entries ≡ false → HasRoom s.capacity (length s.queue)) → TakesIn (channel o log)
  takes_in {o} {log} {s} h open_ room =
      (open_at_log h open_, λ none. room_at_log h (room (sym (waiting_at_log h) ∙ none)))

  -- no send is taken in
  pub takes_none_in : {o : Opening} {log : Log T A} {s : State T S} → Represents o log s → IsOpen s.senders s.receivers
      → some_wait s.entries ≡ false → IsAtCapacity s.capacity (length s.queue) → TakesNoneIn (channel o log)
  takes_none_in {o} {log} {s} h open_ none full = (open_at_log h open_, waiting_at_log h ∙ none, full_at_log h full)

  -- whom a send fills
  pub fills_at_log : {o : Opening} {log : Log T A} {s : State T S} → Represents o log s → (m : T)
      → round_for_fills (s.queue ++ m ∷ []) s.entries ≡ round_fills (entries o log)
  fills_at_log {o} {log} {s} h m = go s.queue ∙ sym (bare_fills s.entries) ∙ ap round_fills h.entries_are
    where
      go : (q : List T) → round_for_fills (q ++ m ∷ []) s.entries ≡ round_fills s.entries
      go [] = refl
      go (x ∷ q) = refl

  -- the flag values of a closed channel
  pub closed_as : (o : Opening) (log : Log T A) (s : State T S) → Represents o log s
      → is_closed s.senders s.receivers ≡ is_closed (senders log) (receivers log)
  closed_as o log s h = rw (h.senders_are, h.receivers_are) refl
