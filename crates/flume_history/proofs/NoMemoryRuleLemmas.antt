-- If a state says that memory may be needed, the abstract channel may answer so.
use Rattle.std.proofs.Common.{◌≡◌, ℕ, ◌+◌, ◌<◌, inl, inr, true, [], ◌∷◌, ◌++◌, length, map}
use Rattle.std.proofs.Common.{List, Option, Some, None, refl, sym, ◌∙◌, ap, subst, subst₂, arith, length-append}
use Rattle.std.specs.Option.{option_map}
use Rattle.std.proofs.lemmas.List.{length-map}
use Rattle.flume_model.specs.declared.step.Kind.{Kind}
use Rattle.flume_model.specs.declared.step.Kind.TheVariants.{Block, Plain, Stream, Arm}
use Rattle.flume_model.specs.declared.entry.Mark.{Mark}
use Rattle.flume_model.specs.declared.entry.Mark.TheVariants.{Waiting as StillWaits, Woken, Filled}
use Rattle.flume_model.specs.declared.entry.Entry.{Entry}
use Rattle.flume_model.specs.declared.step.Step.{Step}
use Rattle.flume_model.specs.declared.step.Step.TheVariants.{TrySend, Send, TryRecv, Recv, Poll, Drain}
use Rattle.flume_model.specs.declared.step.Step.TheVariants.{Withdraw}
use Rattle.flume_model.specs.declared.step.Reply.TheVariants.{NoMemory}
use Rattle.flume_model.specs.Log.{Log, Opening}
use Rattle.flume_model.specs.Line.{line, queue_len, messages}
use Rattle.flume_model.specs.Limits.{IsOpen, HasRoom, IsAtCapacity, most}
use Rattle.flume_model.specs.Entries.{entry_of}
use Rattle.flume_model.specs.Parked.{LogEntry}
use Rattle.flume_model.specs.Channel.{Channel, TakesNoneIn, channel}
use Rattle.flume_model.specs.Asking.{IsPollReplyByMark, IsPollReply, IsWithdrawReplyByMark, IsWithdrawReply}
use Rattle.flume_model.specs.Replies.{IsReply}
use Rattle.flume_state.specs.declared.notice.Notice.{Notice}
use Rattle.flume_state.specs.Effects.{with_front}
use Rattle.flume_state.specs.Messages.{Blocked}
use Rattle.flume_state.specs.Receivers.{status_by, status_of, only_leaves}
use Rattle.flume_state.specs.State.{State, bare}
use Rattle.flume_core.specs.Represents.{Represents}
use Rattle.flume_core.specs.Waiting.{FindsNoRoom}
use Rattle.flume_core.specs.NoMemoryRule.{NoMemoryIsLawful}
use Rattle.flume_core.proofs.AnsweringLemmas.{takes_in, takes_none_in, empty_line}
use Rattle.flume_core.proofs.ViewLemmas.{queue_len_is, open_at_log, room_at_state, waiting_at_log, line_messages}
use Rattle.flume_core.proofs.ViewLemmas.{entry_at_log, room_or_full}
use Rattle.flume_history.specs.HandedIn.{handed_in}

-- a queue has room or is at capacity
room_else : (capacity : Option ℕ) (n : ℕ) → (IsAtCapacity capacity n → ⊥) → HasRoom capacity n
room_else None n full = tt
room_else (Some c) n full = omega (arith, full)

module _ {T A S : Type 0} {o : Opening} {log : Log T A} {s : State T S} (h : Represents o log s) where
  -- the channel is open if the state says so
  open_at_state : IsOpen (channel o log).senders (channel o log).receivers → IsOpen s.senders s.receivers
  open_at_state is = subst₂ IsOpen (sym h.senders_are) (sym h.receivers_are) is

  -- if some message is blocked, the line goes on behind the queue
  blocked_at_log : 0 < length s.blocked → queue_len o log < length (messages (line log))
  blocked_at_log some =
      let whole : length (messages (line log)) ≡ length s.queue + length (map (λ b. b.message) s.blocked) =
      ap length (line_messages h) ∙ length-append s.queue _ in
      let same = length-map s.blocked (λ b. b.message) in
      let bound = queue_len_is h in
      omega arith

  blocked_at_state : queue_len o log < length (messages (line log)) → 0 < length s.blocked
  blocked_at_state on =
      let whole : length (messages (line log)) ≡ length s.queue + length (map (λ b. b.message) s.blocked) =
      ap length (line_messages h) ∙ length-append s.queue _ in
      let same = length-map s.blocked (λ b. b.message) in
      let bound = queue_len_is h in
      omega arith

  -- an offer finds no room in the state if it finds none in the log
  no_room_at_log : FindsNoRoom s → TakesNoneIn (channel o log)
  no_room_at_log (open_, none, full) = takes_none_in h open_ none full

  no_room_at_state : TakesNoneIn (channel o log) → FindsNoRoom s
  no_room_at_state (open_, none, full) = (
    open_at_state open_,
    sym (waiting_at_log h) ∙ none,
    subst₂ IsAtCapacity (sym h.capacity_is) (sym (queue_len_is h)) full,
  )

  -- if the line is empty, no message comes to the front
  nothing_at_state : messages (line log) ≡ [] → (with_front s).queue ≡ []
  nothing_at_state none = go s.queue s.blocked refl refl
    where
      whole : s.queue ++ map (λ b. b.message) s.blocked ≡ []
      whole = sym (line_messages h) ∙ none

      go : (q : List T) (xs : List (Blocked T)) → s.queue ≡ q → s.blocked ≡ xs → (with_front s).queue ≡ []
      go [] [] queue at = rw (queue, at) refl
      go [] (x ∷ xs) queue at = absurd (let parts = rw (queue, at) at whole in let no : ⊥ = cc in no)
      go (m ∷ q) xs queue at = absurd (let parts = rw queue at whole in let no : ⊥ = cc in no)

module _ {T : Type 0} (A : Type 0) (c : Channel T) where
  -- one that looks anew, and doesn't block, may need memory if a message is blocked
  polled_so : (kind : Kind) (mark : Mark T) → only_leaves (Some (status_by kind mark)) ≡ true
      → c.queue_len < length c.line → IsPollReplyByMark {A = A} c kind mark (NoMemory None)
  polled_so Block (Filled held) looks on = absurd (let no : ⊥ = cc in no)
  polled_so Block StillWaits looks on = absurd (let no : ⊥ = cc in no)
  polled_so Block Woken looks on = absurd (let no : ⊥ = cc in no)
  polled_so Plain (Filled held) looks on = absurd (let no : ⊥ = cc in no)
  polled_so Plain StillWaits looks on = (on, refl)
  polled_so Plain Woken looks on = (on, refl)
  polled_so Stream (Filled held) looks on = absurd (let no : ⊥ = cc in no)
  polled_so Stream StillWaits looks on = (on, refl)
  polled_so Stream Woken looks on = (on, refl)
  polled_so Arm (Filled held) looks on = absurd (let no : ⊥ = cc in no)
  polled_so Arm StillWaits looks on = (on, refl)
  polled_so Arm Woken looks on = (on, refl)

  -- and no other does
  polled_only : (kind : Kind) (mark : Mark T) (back : Option T) → IsPollReplyByMark {A = A} c kind mark (NoMemory back)
      → (only_leaves (Some (status_by kind mark)) ≡ true) × (c.queue_len < length c.line) × (back ≡ None)
  polled_only Block (Filled held) back h = absurd h
  polled_only Block StillWaits back h = absurd h
  polled_only Block Woken back h = absurd h
  polled_only Plain (Filled held) back h = absurd h
  polled_only Plain StillWaits back h = (refl, h.0, h.1)
  polled_only Plain Woken back h = (refl, h.0, h.1)
  polled_only Stream (Filled held) back h = absurd h
  polled_only Stream StillWaits back h = (refl, h.0, h.1)
  polled_only Stream Woken back h = (refl, h.0, h.1)
  polled_only Arm (Filled held) back h = absurd h
  polled_only Arm StillWaits back h = (refl, h.0, h.1)
  polled_only Arm Woken back h = (refl, h.0, h.1)

  -- one that leaves needs no memory
  gone_never : (t : ℕ) (kind : Kind) (mark : Mark T) (back : Option T) → IsWithdrawReplyByMark {A = A} c t kind mark (NoMemory back) → ⊥
  gone_never t Block (Filled held) back h = h
  gone_never t Block StillWaits back h = h
  gone_never t Block Woken back h = h
  gone_never t Plain (Filled held) back h = h
  gone_never t Plain StillWaits back h = h
  gone_never t Plain Woken back h = h
  gone_never t Stream (Filled held) back h = h
  gone_never t Stream StillWaits back h = h
  gone_never t Stream Woken back h = h
  gone_never t Arm (Filled held) back h = h
  gone_never t Arm StillWaits back h = h
  gone_never t Arm Woken back h = h

  gone_none : (t : ℕ) (found : Option (LogEntry T)) (back : Option T) → IsWithdrawReply {A = A} c t found (NoMemory back) → ⊥
  gone_none t None back h = h
  gone_none t (Some e) back h = gone_never t e.kind e.mark back h

module _ {T S : Type 0} (A : Type 0) (c : Channel T) where
  -- a poll of the entry that was found needs memory there
  found_so : (found : Option (Entry T (Notice S))) → only_leaves (option_map status_of found) ≡ true
      → c.queue_len < length c.line → IsPollReply {A = A} c (option_map bare found) (NoMemory None)
  found_so None looks on = absurd (let no : ⊥ = cc in no)
  found_so (Some e) looks on = polled_so A c e.kind e.mark looks on

  found_only : (found : Option (Entry T (Notice S))) (back : Option T) → IsPollReply {A = A} c (option_map bare found) (NoMemory back)
      → (only_leaves (option_map status_of found) ≡ true) × (c.queue_len < length c.line) × (back ≡ None)
  found_only None back h = absurd h
  found_only (Some e) back h = polled_only A c e.kind e.mark back h

module _ {T A S : Type 0} {o : Opening} {log : Log T A} {s : State T S} (h : Represents o log s) where
  -- if the state says that memory may be needed, the abstract channel may answer so
  pub want_allowed : (step : Step T) → NoMemoryIsLawful s step → IsReply {A = A} (channel o log) step (NoMemory (handed_in step))
  want_allowed (TrySend m) may =
      (takes_in h may.0 (λ none. room_else s.capacity (length s.queue) (λ full. may.1 (may.0, none, full))), refl)
  want_allowed (Send m) may = (
    open_at_log h may.0,
    λ none. subst (λ n. n < most) h.next_is (may.1 (no_room_at_state h none)),
    refl,
  )
  want_allowed TryRecv may = (blocked_at_log h may, refl)
  want_allowed (Recv kind) (inl some) = (inl (blocked_at_log h some), refl)
  want_allowed (Recv kind) (inr (nothing, left)) = (
    inr (empty_line o log s h nothing.0, open_at_log h nothing.1, subst (λ n. n < most) h.next_is left),
    refl,
  )
  want_allowed (Poll t) may =
      rw (entry_at_log h t) (found_so A (channel o log) (entry_of t s.entries) may.0 (blocked_at_log h may.1))
  want_allowed Drain may = (subst (λ n. 0 < n) (queue_len_is h) may, refl)
  want_allowed _ may = absurd may

  -- and only there, with the message that was handed in
  pub want_only : (step : Step T) (back : Option T) → IsReply {A = A} (channel o log) step (NoMemory back)
      → NoMemoryIsLawful s step × (back ≡ handed_in step)
  want_only (TrySend m) back is = (
    (
      open_at_state h is.0.0,
      λ finds. room_or_full s.capacity (length s.queue) (room_at_state h (is.0.1 (waiting_at_log h ∙ finds.1))) finds.2,
    ),
    is.1,
  )
  want_only (Send m) back is = (
    (open_at_state h is.0, λ finds. subst (λ n. n < most) (sym h.next_is) (is.1 (no_room_at_log h finds))),
    is.2,
  )
  want_only TryRecv back is = (blocked_at_state h is.0, is.1)
  want_only (Recv kind) back (inl on, none) = (inl (blocked_at_state h on), none)
  want_only (Recv kind) back (inr (empty_, open_, left), none) = (
    inr ((nothing_at_state h empty_, open_at_state h open_), subst (λ n. n < most) (sym h.next_is) left),
    none,
  )
  want_only (Poll t) back is =
      let found = found_only A (channel o log) (entry_of t s.entries) back (rw (entry_at_log h t) at is) in
      ((found.0, blocked_at_state h found.1), found.2)
  want_only (Withdraw t) back is = absurd (gone_none A (channel o log) t _ back is)
  want_only Drain back is = (subst (λ n. 0 < n) (sym (queue_len_is h)) is.0, is.1)
  want_only _ back is = absurd is
