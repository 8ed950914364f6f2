-- What holds of a state that represents a log.
use Rattle.std.proofs.Common.{◌≡◌, ℕ, ◌+◌, ◌<◌, ◌≤◌, Bool, true, false, not, List, [], ◌∷◌, ◌++◌, length, map, Some}
use Rattle.std.proofs.Common.{refl, sym, ◌∙◌, ap, ap₂, subst₂, arith, eq-eqb, eqb-true, take, append_assoc, take-append-drop}
use Rattle.std.specs.List.{All}
use Rattle.std.specs.FinMap.{get}
use Rattle.std.proofs.lemmas.Bool.{or_left, or_right}
use Rattle.std.proofs.lemmas.List.Elements.{All-nil, All-cons}
use Rattle.flume_model.specs.declared.entry.Entry.{Entry}
use Rattle.flume_model.specs.Log.{Log, Opening, Offer}
use Rattle.flume_model.specs.Offers.{kept, hand_outs, withdrawn, offers}
use Rattle.flume_model.specs.Counts.{senders, receivers, is_over}
use Rattle.flume_model.specs.Line.{blocked, next_ticket, is_live}
use Rattle.flume_model.specs.Limits.{IsOpen, IsClosed}
use Rattle.flume_model.specs.Entries.{some_wait, waiting_count, woken_count, entry_of}
use Rattle.flume_model.specs.Parked.{entries}
use Rattle.flume_model.specs.Channel.{has_ticket}
use Rattle.flume_state.specs.Messages.{Blocked}
use Rattle.flume_model.specs.Laws.{Rising}
use Rattle.flume_model.specs.WaitLaws.{DistinctTickets, block_woken}
use Rattle.flume_state.specs.State.{State, accepted_at, offers_of, bare}
use Rattle.flume_core.specs.Represents.{Represents}
use Rattle.flume_core.specs.StateFacts.{SendersBlockAtCapacity, ReceiversWaitWhileOpen, WokenCoverQueued}
use Rattle.flume_core.specs.StateFacts.{QueuedAndWaitingAreBounded, ReceiverTicketsDistinct, SendTicketsApart, BlockedTicketsRise}
use Rattle.flume_core.specs.StateFacts.{BlockedSendsAreLive, AcceptedBeforeBlocked, EmptyOnceOver}
use Rattle.flume_core.specs.StateFacts.{BlockingWokenByClosing, ChannelFacts, NobodyIsStuck}
use Rattle.flume_core.proofs.BareEntryLemmas.{bare_waiting, bare_entry}
use Rattle.flume_model.proofs.order.KeptLemmas.{line_is_open}
use Rattle.flume_model.proofs.TicketLemmas.{rising_filter}
use Rattle.flume_core.proofs.BlockedLiveLemmas.{blocked_are_live}
use Rattle.flume_model.proofs.order.RunLemmas.{tickets_rise}
use Rattle.flume_model.proofs.order.TicketLemmas.{accepted_below_blocked}
use Rattle.flume_model.proofs.waits.WaitingLaws.{covered, bounded, waits_while_open, woken_block_while_closed, nothing_once_over}
use Rattle.flume_model.proofs.waits.WaitingLaws.{entries_apart, sides_apart, nobody_stuck}
use Rattle.flume_core.proofs.ViewLemmas.{at_capacity, none_blocked_waiting, waiting_at_log, entry_at_log, blocked_is, nil_by, status}
use Rattle.flume_core.proofs.ViewLemmas.{line_length, none_mapped, nil_mapped, live_by, queue_len_is, line_is, queued}

module _ {T N : Type 0} where
  -- how many are woken
  bare_woken : (es : List (Entry T N)) → woken_count (map bare es) ≡ woken_count es
  bare_woken [] = refl
  bare_woken (e ∷ es) = simp (bare_woken es) refl

  -- whether one that blocks is woken
  bare_block_woken : (es : List (Entry T N)) → block_woken (map bare es) ≡ block_woken es
  bare_block_woken [] = refl
  bare_block_woken (e ∷ es) = simp (bare_block_woken es) refl

  -- tickets that are apart
  bare_apart : (n : ℕ) (es : List (Entry T N)) → DistinctTickets n (map bare es) → DistinctTickets n es
  bare_apart n [] h = tt
  bare_apart n (e ∷ es) h = (h.0, none_mapped bare (entry_of e.ticket es) (sym (bare_entry e.ticket es) ∙ h.1), bare_apart n es h.2)

module _ {T : Type 0} where
  -- the later ones of tickets that rise
  rising_behind : (n : ℕ) (xs ys : List (Offer T)) → Rising n (xs ++ ys) → Rising n ys
  rising_behind n [] ys h = h
  rising_behind n (x ∷ xs) ys h = rising_behind n xs ys h.2

  -- what holds of each ticket that one of these has holds of the ticket of each
  all_tickets : (P : ℕ → Type 0) (xs : List (Blocked T)) → ((u : ℕ) → has_ticket u (offers_of xs) ≡ true → P u)
      → All (λ b. P b.ticket) xs
  all_tickets P [] h = All-nil _
  all_tickets P (b ∷ xs) h =
      All-cons (λ b. P b.ticket) b xs (h b.ticket (or_left _ _ (eq-eqb b.ticket b.ticket refl)))
      (all_tickets P xs (λ u of. h u (or_right _ _ of)))

module _ {T A S : Type 0} where
  -- a sender is blocked only at capacity, and while no receiver waits
  pub senders_block : (o : Opening) (log : Log T A) (s : State T S) → Represents o log s → SendersBlockAtCapacity s
  senders_block o log s h some = (at_capacity h some, by_case (some_wait s.entries) refl)
    where
      by_case : (b : Bool) → some_wait s.entries ≡ b → b ≡ false
      by_case true waits = absurd (omega (arith, ap length (none_blocked_waiting h waits)))
      by_case false waits = refl

  -- a receiver waits only while the channel is open and no sender is blocked
  pub receivers_wait : (o : Opening) (log : Log T A) (s : State T S) → Represents o log s → ReceiversWaitWhileOpen s
  receivers_wait o log s h some = (
    subst₂ IsOpen (sym h.senders_are) (sym h.receivers_are) (waits_while_open o log h.run (waiting_at_log h ∙ some)).0,
    none_blocked_waiting h some,
  )

  -- while a receiver waits as many are woken as messages are queued
  woken_cover : (o : Opening) (log : Log T A) (s : State T S) → Represents o log s → WokenCoverQueued s
  woken_cover o log s h some =
      subst₂ (λ a b. a ≤ b) (sym (queue_len_is h)) (sym (ap woken_count h.entries_are) ∙ bare_woken s.entries)
      (covered o log h.run (waiting_at_log h ∙ some))

  -- queued messages and waiting receivers are bounded
  queued_bounded : (o : Opening) (log : Log T A) (s : State T S) → Represents o log s → QueuedAndWaitingAreBounded s
  queued_bounded o log s h =
      let waiting : waiting_count (entries o log) ≡ waiting_count s.entries =
      sym (ap waiting_count h.entries_are) ∙ bare_waiting s.entries in
      rw (h.greatest_is, h.peak_is, (queue_len_is h), sym waiting) (bounded o log h.run)

  -- the tickets of parked receivers are apart
  pub receivers_apart : (o : Opening) (log : Log T A) (s : State T S) → Represents o log s → ReceiverTicketsDistinct s
  receivers_apart o log s h =
      rw h.next_is (bare_apart (next_ticket o log) s.entries (rw h.entries_are (entries_apart o log h.run)))

  -- the state of a send ticket
  represents_live : (o : Opening) (log : Log T A) (s : State T S) → Represents o log s → (t : ℕ) (accepted : Bool)
      → accepted_at s t ≡ Some accepted → (is_live log t ≡ true) × (has_ticket t (blocked o log) ≡ not accepted)
  represents_live o log s h t accepted e = live_by (is_live log t) (has_ticket t (blocked o log)) accepted (sym (h.sends_are t) ∙ e)

  -- the tickets of live sends are apart from those
  pub sends_apart : (o : Opening) (log : Log T A) (s : State T S) → Represents o log s → SendTicketsApart s
  sends_apart o log s h t accepted e =
      let sides = sides_apart o log h.run t (represents_live o log s h t accepted e).0 in (
        rw h.next_is sides.0,
        none_mapped bare (entry_of t s.entries) (sym (entry_at_log h t) ∙ sides.1),
      )

  -- once both sides have disconnected, nothing is left
  pub empty_over : (o : Opening) (log : Log T A) (s : State T S) → Represents o log s → EmptyOnceOver s
  empty_over o log s h none =
      let over : is_over log ≡ true =
      eq-eqb (senders log + receivers log) 0 (ap₂ (λ a b. a + b) (sym h.senders_are) (sym h.receivers_are) ∙ none) in
      let gone = nothing_once_over o log h.run over in
      let long : length s.queue + length s.blocked ≡ 0 = sym (line_length h) ∙ ap length gone.0 in (
        nil_by s.queue (λ more. omega arith),
        nil_by s.blocked (λ more. omega arith),
        nil_mapped bare s.entries (h.entries_are ∙ gone.1),
        λ t. none_mapped (λ send. send.accepted) (get s.sends t)
            (h.sends_are t ∙ ap (λ live. status live (has_ticket t (blocked o log))) (gone.2 t)),
      )

  -- the tickets of blocked messages rise
  pub blocked_rise : (o : Opening) (log : Log T A) (s : State T S) → Represents o log s → BlockedTicketsRise s
  blocked_rise o log s h = rw h.next_is (by_case (is_over log) refl)
    where
      over_at_state : is_over log ≡ true → s.senders + s.receivers ≡ 0
      over_at_state over = ap₂ (λ a b. a + b) h.senders_are h.receivers_are ∙ eqb-true (senders log + receivers log) 0 over

      by_case : (b : Bool) → is_over log ≡ b → Rising (next_ticket o log) (offers_of s.blocked)
      by_case true over =
          let none : offers_of s.blocked ≡ [] = ap offers_of ((empty_over o log s h (over_at_state over)).1) in
          rw none tt
      by_case false open_ =
          let gone = take (hand_outs log) (kept log) in
          let all : kept log ≡ (gone ++ (queued h)) ++ offers_of s.blocked =
          sym (take-append-drop (hand_outs log) (kept log)) ∙ ap (λ l. gone ++ l) (sym (line_is_open log open_) ∙ (line_is h))
          ∙ sym (append_assoc gone (queued h) (offers_of s.blocked)) in
          let rising = rising_filter (next_ticket o log) (λ offer. not (withdrawn log offer)) (offers log) (tickets_rise o log h.run) in
          rising_behind (next_ticket o log) (gone ++ (queued h)) (offers_of s.blocked) (rw all at rising)

  -- each blocked message is of a live send that wasn't accepted
  pub blocked_live : (o : Opening) (log : Log T A) (s : State T S) → Represents o log s → BlockedSendsAreLive s
  blocked_live o log s h =
      all_tickets (λ u. accepted_at s u ≡ Some false) s.blocked (λ u of.
      let is : has_ticket u (blocked o log) ≡ true = ap (has_ticket u) (blocked_is h) ∙ of in
      h.sends_are u ∙ ap₂ status (blocked_are_live o log h.run u is) is)

  -- a live send that was accepted has a ticket below those of blocked ones
  pub accepted_before : (o : Opening) (log : Log T A) (s : State T S) → Represents o log s → AcceptedBeforeBlocked s
  accepted_before o log s h t e =
      let represents = represents_live o log s h t true e in
      all_tickets (λ u. t < u) s.blocked
      (λ u of. accepted_below_blocked o log h.run t u represents.0 represents.1 (ap (has_ticket u) (blocked_is h) ∙ of))

  -- one that blocks is woken only in a closed channel
  pub blocking_woken : (o : Opening) (log : Log T A) (s : State T S) → Represents o log s → BlockingWokenByClosing s
  blocking_woken o log s h woken =
      let law = woken_block_while_closed o log h.run (sym (ap block_woken h.entries_are) ∙ bare_block_woken s.entries ∙ woken) in (
        subst₂ IsClosed (sym h.senders_are) (sym h.receivers_are) law.0,
        nil_mapped (λ b. record { message = b.message; ticket = Some b.ticket }) s.blocked (sym (blocked_is h) ∙ law.1),
      )

  -- if nobody is woken, nobody is stuck
  pub nobody_is_stuck : (o : Opening) (log : Log T A) (s : State T S) → Represents o log s → woken_count s.entries ≡ 0
      → NobodyIsStuck s
  nobody_is_stuck o log s h none =
      let law = nobody_stuck o log h.run (ap woken_count (sym h.entries_are) ∙ bare_woken s.entries ∙ none) in
      let long = line_length h in
      let queued = queue_len_is h in
      record {
        waiting_receivers = λ some.
            let open_line = law.waiting_receivers (waiting_at_log h ∙ some) in
            let nothing : length s.queue + length s.blocked ≡ 0 = sym long ∙ ap length open_line.0 in (
              nil_by s.queue (λ more. omega arith),
              nil_by s.blocked (λ more. omega arith),
              subst₂ IsOpen (sym h.senders_are) (sym h.receivers_are) open_line.1,
            );
        blocked_senders = λ some. (at_capacity h some, sym (waiting_at_log h) ∙ (law.blocked_senders (omega arith)).1);
      }

  -- all of these
  pub channel_facts : (o : Opening) (log : Log T A) (s : State T S) → Represents o log s → ChannelFacts s
  channel_facts o log s h = record {
    senders_block_at_capacity = senders_block o log s h;
    receivers_wait_while_open = receivers_wait o log s h;
    woken_cover_queued = woken_cover o log s h;
    queued_and_waiting_are_bounded = queued_bounded o log s h;
    receiver_tickets_are_apart = receivers_apart o log s h;
    send_tickets_are_apart = sends_apart o log s h;
    blocked_tickets_rise = blocked_rise o log s h;
    blocked_sends_are_live = blocked_live o log s h;
    accepted_are_before_blocked = accepted_before o log s h;
    nothing_is_left_once_over = empty_over o log s h;
    blocking_woken_by_closing = blocking_woken o log s h;
  }
