-- A move that is refused is one that a configuration says may be.
use Rattle.std.proofs.Common.{◌≡◌, ◌<◌, ◌⊎◌, inl, inr, ℕ, ◌+◌, ◌==◌, eqb, Bool, true, false, not, ◌&&◌, ◌||◌, List, [], ◌∷◌, ◌++◌, length}
use Rattle.std.proofs.Common.{map, min, Option, Some, None, refl, sym, ◌∙◌, ap, subst, arith, eqb-true, length-append}
use Rattle.std.specs.List.{All}
use Rattle.std.specs.Option.{option_map}
use Rattle.std.proofs.lemmas.Bool.{false≢true, leb-true}
use Rattle.std.proofs.lemmas.List.{length-map}
use Rattle.std.proofs.Math.Dec.{leb}
use Rattle.flume_model.specs.declared.entry.Mark.{Mark}
use Rattle.flume_model.specs.declared.entry.Mark.TheVariants as mark
use Rattle.flume_model.specs.declared.step.Kind.{Kind}
use Rattle.flume_model.specs.declared.step.Kind.TheVariants.{Block, Plain, Stream, Arm}
use Rattle.flume_model.specs.declared.step.Step.{Step}
use Rattle.flume_model.specs.declared.step.Step.TheVariants as step
use Rattle.flume_model.specs.declared.step.Reply.{Reply}
use Rattle.flume_model.specs.declared.step.Reply.TheVariants.{NoMemory, Spent}
use Rattle.flume_model.specs.Asking.{IsPollReplyByMark, IsPollReply}
use Rattle.flume_model.specs.Channel.{channel, TakesIn}
use Rattle.flume_model.specs.Counts.{senders, receivers}
use Rattle.flume_model.specs.Entries.{entry_of, some_wait}
use Rattle.flume_model.specs.Limits.{IsOpen, HasRoom, is_closed, is_full, most}
use Rattle.flume_model.specs.Line.{line, messages, queue_len, capacity, next_ticket}
use Rattle.flume_model.specs.Log.{Log, Opening}
use Rattle.flume_model.specs.Parked.{LogEntry, entries}
use Rattle.flume_model.specs.Replies.{IsReply}
use Rattle.flume_state.specs.State.{State as Channel, bare, offers_of}
use Rattle.flume_core.specs.Represents.{Represents}
use Rattle.flume_core.proofs.BareEntryLemmas.{bare_entry}
use Rattle.flume_core.proofs.ViewLemmas.{line_messages, queue_len_is, waiting_at_log, entry_at_log}
use Rattle.judge_calls.specs.declared.call.Call.{Call}
use Rattle.judge_calls.specs.declared.event.Event.{Event}
use Rattle.judge_search.specs.declared.configuration.ParkedReceive.{ParkedReceive}
use Rattle.judge_search.specs.declared.configuration.Status.{Status}
use Rattle.judge_search.specs.declared.configuration.Status.TheVariants.{Waiting, Woken, Filled}
use Rattle.judge_search.specs.declared.step_of.Move.{Move}
use Rattle.judge_search.specs.declared.step_of.Move.TheVariants as move
use Rattle.judge_search.specs.Configurations.{State}
use Rattle.judge_search.specs.ByPlaces.{closed_now, full_now, some_waits}
use Rattle.judge_search.specs.Receives.{receive_at}
use Rattle.judge_search.specs.Mirrors.{Mirrors, mark_of, some_mark, some_entry, some_offer, entry_for, offer_for}
use Rattle.judge_search.specs.Moves.{is_refusal, step_for}
use Rattle.judge_search.specs.Refusals.{looks_at_line, is_looking, some_blocked, some_queued, may_be_refused}
use Rattle.judge_search.proofs.MirrorViewLemmas.{closed_same, length_same, full_same, waits_same}
use Rattle.judge_search.proofs.MirrorReceiveLemmas.{waiting_mark, woken_mark, filled_mark}
use Rattle.judge_search.proofs.MoveFactLemmas.{move_for, step_move}
use Rattle.judge_search.proofs.PlacingLemmas.{IsAlone, placed_entry}
use Rattle.judge_search.proofs.RefusalLemmas.{refused_may}
use Rattle.judge_search.proofs.RenamingLemmas.{some_entry_of}

-- a number that isn't 0, and one that is
some : (n : ℕ) → 0 < n → not (n == 0) ≡ true
some n more = go (eqb n 0) refl
  where
    go : (b : Bool) → eqb n 0 ≡ b → not b ≡ true
    go true is = let zero_ = eqb-true n 0 is in absurd (omega arith)
    go false is = refl

-- a queue with room isn't full
not_full : (limit : Option ℕ) (n : ℕ) → HasRoom limit n → is_full limit n ≡ false
not_full None n room = refl
not_full (Some m) n room = go (leb m n) refl
  where
    go : (b : Bool) → leb m n ≡ b → b ≡ false
    go true is = let full = leb-true m n is in absurd (omega arith)
    go false is = refl

-- two tests
both : (a b : Bool) → a ≡ true → b ≡ true → (a && b) ≡ true
both true true a_is b_is = refl
both true false a_is b_is = absurd (false≢true b_is)
both false b a_is b_is = absurd (false≢true a_is)

-- one of two
first : (a b : Bool) → a ≡ true → (a || b) ≡ true
first true b is = refl
first false b is = absurd (false≢true is)

-- the other of two
second : (a b : Bool) → b ≡ true → (a || b) ≡ true
second true b is = refl
second false b is = is

-- a receive waits, or the queue has room
room_or_waits : (waits full : Bool) → (waits ≡ false → full ≡ false) → not (not waits && full) ≡ true
room_or_waits true full h = refl
room_or_waits false true h = absurd (false≢true (sym (h refl)))
room_or_waits false false h = refl

module _ {T A : Type 0} (events : List (Event T A)) (o : Opening) (log : Log T A) (s : Channel T (Unit {0})) (c : State) (tickets : ℕ → ℕ)
    (place : ℕ) (h : Represents o log s) (corresponds : Mirrors events tickets s c) where
  -- an open channel isn't closed here
  open_here : IsOpen (senders log) (receivers log) → not (closed_now c) ≡ true
  open_here is =
      let a = h.senders_are in
      let b = h.receivers_are in
      ap not (closed_same events tickets s c corresponds) ∙ some (min s.senders s.receivers) (omega arith)

  -- as many sends are blocked
  same_blocked : length c.blocked ≡ length s.blocked
  same_blocked =
      sym (length-map c.blocked (offer_for events tickets)) ∙ ap length corresponds.blocked_are
      ∙ length-map (offers_of s.blocked) some_offer ∙ length-map s.blocked (λ b. record { message = b.message; ticket = Some b.ticket })

  -- how long the line is
  whole : length (messages (line log)) ≡ length s.queue + length s.blocked
  whole =
      ap length (line_messages h) ∙ length-append s.queue (map (λ b. b.message) s.blocked)
      ∙ ap (λ n. length s.queue + n) (length-map s.blocked (λ b. b.message))

  -- if the line goes on past the queue, a send is blocked
  blocked_here : queue_len o log < length (messages (line log)) → some_blocked c ≡ true
  blocked_here more =
      let a = whole in
      let b = same_blocked in
      let d = queue_len_is h in
      some (length c.blocked) (omega arith)

  -- if some of it is queued, a message is
  queued_here : 0 < queue_len o log → some_queued c ≡ true
  queued_here more =
      let a = length_same events tickets s c corresponds in
      let d = queue_len_is h in
      some (length c.queue) (omega arith)

  -- if there is no line, none is
  none_queued : messages (line log) ≡ [] → not (some_queued c) ≡ true
  none_queued none =
      let a : length (messages (line log)) ≡ 0 = ap length none in
      let b = whole in
      let d = length_same events tickets s c corresponds in
      let e : length c.queue ≡ 0 = omega arith in
      ap (λ n. not (not (n == 0))) e

  -- a send is taken in
  room_here : TakesIn (channel o log) → not (not (some_waits c.receives) && full_now c) ≡ true
  room_here takes = room_or_waits (some_waits c.receives) (full_now c)
      (λ none. full_same events tickets s c corresponds ∙ not_full s.capacity (length s.queue)
      (subst (λ n. HasRoom s.capacity n) (sym (queue_len_is h)) (subst (λ n. HasRoom n (queue_len o log)) (sym h.capacity_is)
      (takes.1 (waiting_at_log h ∙ sym (waits_same events tickets s c corresponds) ∙ none)))))

  -- a parked receive that is refused memory looks at the line
  refused_mark : (k : Kind) (st : Status) (m : Mark T) (back : Option T) → mark_of events st ≡ some_mark m
      → IsPollReplyByMark {A = A} (channel o log) k m (NoMemory back)
      → (looks_at_line k st ≡ true) × (queue_len o log < length (messages (line log)))
  refused_mark k (Filled p) m back is polled =
      let filled = filled_mark events p m is in
      absurd (subst (λ x. IsPollReplyByMark {A = A} (channel o log) k x (NoMemory back)) filled.1 polled)
  refused_mark Block Waiting m back is polled =
      absurd (subst (λ x. IsPollReplyByMark {A = A} (channel o log) Block x (NoMemory back)) (waiting_mark events m is) polled)
  refused_mark Block Woken m back is polled =
      absurd (subst (λ x. IsPollReplyByMark {A = A} (channel o log) Block x (NoMemory back)) (woken_mark events m is) polled)
  refused_mark Plain Waiting m back is polled =
      (refl, (subst (λ x. IsPollReplyByMark {A = A} (channel o log) Plain x (NoMemory back)) (waiting_mark events m is) polled).0)
  refused_mark Plain Woken m back is polled =
      (refl, (subst (λ x. IsPollReplyByMark {A = A} (channel o log) Plain x (NoMemory back)) (woken_mark events m is) polled).0)
  refused_mark Stream Waiting m back is polled =
      (refl, (subst (λ x. IsPollReplyByMark {A = A} (channel o log) Stream x (NoMemory back)) (waiting_mark events m is) polled).0)
  refused_mark Stream Woken m back is polled =
      (refl, (subst (λ x. IsPollReplyByMark {A = A} (channel o log) Stream x (NoMemory back)) (woken_mark events m is) polled).0)
  refused_mark Arm Waiting m back is polled =
      (refl, (subst (λ x. IsPollReplyByMark {A = A} (channel o log) Arm x (NoMemory back)) (waiting_mark events m is) polled).0)
  refused_mark Arm Woken m back is polled =
      (refl, (subst (λ x. IsPollReplyByMark {A = A} (channel o log) Arm x (NoMemory back)) (woken_mark events m is) polled).0)

  -- it looks at the line, past the queue
  abbrev Looks : Option ParkedReceive → Type 0
  Looks found = (is_looking found ≡ true) × (queue_len o log < length (messages (line log)))

  -- by its entry
  refused_entry : (found : Option ParkedReceive) (entry : Option (LogEntry T)) (back : Option T)
      → option_map (entry_for events tickets) found ≡ option_map some_entry entry
      → IsPollReply {A = A} (channel o log) entry (NoMemory back) → Looks found
  refused_entry None None back same polled = absurd polled
  refused_entry None (Some e) back same polled = absurd (let none : ⊥ = cc in none)
  refused_entry (Some r) None back same polled = absurd (let none : ⊥ = cc in none)
  refused_entry (Some r) (Some e) back same polled =
      let is : entry_for events tickets r ≡ some_entry e = cc in
      let kind : r.kind ≡ e.kind = ap (λ x. x.kind) is in
      refused_mark r.kind r.status e.mark back (ap (λ x. x.mark) is)
      (subst (λ k. IsPollReplyByMark {A = A} (channel o log) k e.mark (NoMemory back)) (sym kind) polled)

  -- one that asks doesn't want for tickets
  spent_mark : (k : Kind) (m : Mark T) (back : Option T) → IsPollReplyByMark {A = A} (channel o log) k m (Spent back) → ⊥
  spent_mark k (mark.Filled held) back polled = polled
  spent_mark Block mark.Waiting back polled = polled
  spent_mark Block mark.Woken back polled = polled
  spent_mark _ mark.Waiting back polled = polled
  spent_mark _ mark.Woken back polled = polled

  -- by its entry
  spent_entry : (entry : Option (LogEntry T)) (back : Option T) → IsPollReply {A = A} (channel o log) entry (Spent back) → ⊥
  spent_entry None back polled = polled
  spent_entry (Some e) back polled = spent_mark e.kind e.mark back polled

  -- what is known of who asks
  abbrev pub KnowsPlace : Step T → Type 0
  KnowsPlace (step.Poll t) = (t ≡ tickets place) × All (IsAlone events tickets place) c.receives
  KnowsPlace _ = Unit {0}

  -- a step that is refused is of a move that may be
  pub refused_here : (own : Step T) (r : Reply T A) → is_refusal r ≡ true → IsReply (channel o log) own r → KnowsPlace own
      → may_be_refused (move_for own) place c ≡ true
  refused_here (step.TrySend m) (NoMemory back) e lawful knows =
      both (not (closed_now c)) (not (not (some_waits c.receives) && full_now c)) (open_here lawful.0.0) (room_here lawful.0)
  refused_here (step.Send m) (NoMemory back) e lawful knows = open_here lawful.0
  refused_here (step.Send m) (Spent back) e lawful knows = open_here lawful.0.0
  refused_here step.TryRecv (NoMemory back) e lawful knows = blocked_here lawful.0
  refused_here (step.Recv kind) (NoMemory back) e lawful knows = by lawful.0
    where
      by : (queue_len o log < length (messages (line log))) ⊎ ((messages (line log) ≡ []) × IsOpen (senders log) (receivers log)
          × (next_ticket o log < most))
          → (some_blocked c || (not (some_queued c) && not (closed_now c))) ≡ true
      by (inl more) = first (some_blocked c) (not (some_queued c) && not (closed_now c)) (blocked_here more)
      by (inr parks) = second (some_blocked c) (not (some_queued c) && not (closed_now c))
          (both (not (some_queued c)) (not (closed_now c)) (none_queued parks.0) (open_here parks.1))
  refused_here (step.Recv kind) (Spent back) e lawful knows =
      second (some_blocked c) (not (some_queued c) && not (closed_now c))
      (both (not (some_queued c)) (not (closed_now c)) (none_queued lawful.0) (open_here lawful.1))
  refused_here (step.Poll t) (NoMemory back) e lawful knows =
      let found = sym (placed_entry events tickets place c.receives knows.1) ∙ ap (entry_of (tickets place)) corresponds.receives_are
      ∙ some_entry_of (tickets place) (map bare s.entries) ∙ ap (λ l. option_map some_entry (entry_of (tickets place) l)) h.entries_are in
      let k = refused_entry (receive_at place c.receives) (entry_of (tickets place) (entries o log)) back found
      (subst (λ n. IsPollReply {A = A} (channel o log) (entry_of n (entries o log)) (NoMemory back)) knows.0 lawful) in
      both (some_blocked c) (is_looking (receive_at place c.receives)) (blocked_here k.1) k.0
  refused_here (step.Poll t) (Spent back) e lawful knows = absurd (spent_entry (entry_of t (entries o log)) back lawful)
  refused_here step.Drain (NoMemory back) e lawful knows = queued_here lawful.0
  refused_here (step.Withdraw t) r e lawful knows = absurd (false≢true (refused_may A (channel o log) (step.Withdraw t) r e lawful))
  refused_here _ (NoMemory back) e lawful knows = absurd lawful
  refused_here _ (Spent back) e lawful knows = absurd lawful
  refused_here _ _ e lawful knows = absurd (let none : ⊥ = cc in none)
