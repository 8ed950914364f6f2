-- What the loop of a wake round keeps, and what it leaves in the end.
use Rattle.std.proofs.Common.{◌≡◌, ℕ, List, [], ◌∷◌, length, Option, Some, None, refl, sym, ap, ◌∙◌, arith, ◌⊎◌, inl, inr}
use Rattle.flume_model.specs.declared.entry.Entry.{Entry}
use Rattle.flume_model.specs.declared.entry.Mark.TheVariants.{Woken, Filled}
use Rattle.flume_model.specs.declared.step.Kind.{Kind}
use Rattle.flume_model.specs.declared.step.Kind.TheVariants.{Block, Plain, Stream, Arm}
use Rattle.flume_model.specs.Entries.{waiting_count, round, round_fills, round_for, round_for_fills}
use Rattle.flume_state.specs.Messages.{Messages}
use Rattle.flume_state.specs.layout.EntryLayout.{first_waiting, with_first_marked}
use Rattle.flume_state.specs.Receivers.{after_fill}
use Rattle.flume_state.proofs.EntryRoundLemmas.{ticket_and_kind, round_on, fills_on, round_ends, fills_end}
use Rattle.flume_state.proofs.EntryRoundLemmas.{none_wait, round_idle, fills_idle}

module _ {X : Type 0} where
  -- a list that isn't empty has a front
  front_of : (xs : List X) → (length xs ≡ 0 → ⊥) → (x : X) × (rest : List X) × (xs ≡ x ∷ rest)
  front_of [] filled = absurd (filled refl)
  front_of (x ∷ rest) filled = (x, rest, refl)

module _ {T S : Type 0} where
  -- a line with the queue that it has
  same_line : (line : Messages T S) (queue : List T) → line.queued ≡ queue → line ≡ record line { queued = queue }
  same_line line queue is = ap (λ q. record line { queued = q }) is

module _ {T S N : Type 0} where
  -- what a wake round leaves: the receivers, the ticket that it filled, and the line
  pub record Woke (tell : N → N) (initial : List (Entry T N)) (line : Messages T S) (filled : Option ℕ) (now : List (Entry T N))
      (line_now : Messages T S) : Type 0 where
    pub fills : filled ≡ round_for_fills line.queued initial
    pub woken : now ≡ round_for tell line.queued initial
    pub queue : line_now ≡ record line { queued = after_fill (round_for_fills line.queued initial) line.queued }

  -- the line stays, and has this front; a round from now on leaves what all of it leaves, and fills whom all of it fills
  pub record Wakes (tell : N → N) (initial now : List (Entry T N)) (line line_now : Messages T S) : Type 0 where
    pub front : T
    pub rest : List T
    pub queue : line.queued ≡ front ∷ rest
    pub stays : line_now ≡ line
    pub leaves : round tell front now ≡ round tell front initial
    pub fills : round_fills now ≡ round_fills initial

  -- nothing is done if nobody waits
  pub idle_by_count : (tell : N → N) (xs : List (Entry T N)) (line : Messages T S) → waiting_count xs ≡ 0 → Woke tell xs line None xs line
  idle_by_count tell xs line none = by_queue line.queued refl
    where
      by_queue : (queue : List T) → line.queued ≡ queue → Woke tell xs line None xs line
      by_queue [] is = record { fills = rw is refl; woken = rw is refl; queue = rw is refl }
      by_queue (front ∷ rest) is = record {
        fills = rw is (sym (fills_idle xs none));
        woken = rw is (sym (round_idle tell front xs none));
        queue = rw is (rw (fills_idle xs none) refl);
      }

  -- nothing is done if nothing is queued
  pub idle_by_queue : (tell : N → N) (xs : List (Entry T N)) (line : Messages T S) → length line.queued ≡ 0 → Woke tell xs line None xs line
  idle_by_queue tell xs line none = by_queue line.queued refl
    where
      by_queue : (queue : List T) → line.queued ≡ queue → Woke tell xs line None xs line
      by_queue [] is = record { fills = rw is refl; woken = rw is refl; queue = rw is refl }
      by_queue (front ∷ rest) is = absurd (let long : length (front ∷ rest) ≡ 0 = ap length (sym is) ∙ none in omega (arith, long))

  -- before the loop
  pub wakes_first : (tell : N → N) (xs : List (Entry T N)) (line : Messages T S) → (length line.queued ≡ 0 → ⊥) → Wakes tell xs xs line line
  wakes_first tell xs line filled =
      let parts = front_of line.queued filled in
      record { front = parts.0; rest = parts.1; queue = parts.2; stays = refl; leaves = refl; fills = refl }

  -- the loop goes on behind a stream
  pub wakes_stream : (tell : N → N) (initial old new : List (Entry T N)) (line line_now : Messages T S) (t : ℕ)
      → Wakes tell initial old line line_now
      → ticket_and_kind (first_waiting old) ≡ Some (t, Stream) → new ≡ with_first_marked tell Woken old
      → Wakes tell initial new line line_now
  wakes_stream tell initial old new line line_now t w next woken = record {
    front = w.front;
    rest = w.rest;
    queue = w.queue;
    stays = w.stays;
    leaves = ap (round tell w.front) woken ∙ round_on tell w.front old t next ∙ w.leaves;
    fills = ap round_fills woken ∙ fills_on tell old t next ∙ w.fills;
  }

  -- the round ended here, and filled nobody
  woke_none : (tell : N → N) (initial old now : List (Entry T N)) (line line_now : Messages T S) (w : Wakes tell initial old line line_now)
      → now ≡ round tell w.front old → round_fills old ≡ None → Woke tell initial line None now line_now
  woke_none tell initial old now line line_now w leaves fills =
      let none : None ≡ round_fills initial = sym fills ∙ w.fills in
      record {
        fills = rw w.queue none;
        woken = rw w.queue (leaves ∙ w.leaves);
        queue = rw w.queue (rw (← none) (w.stays ∙ same_line line _ w.queue));
      }

  -- the loop ends if nobody waits
  pub woke_over : (tell : N → N) (initial now : List (Entry T N)) (line line_now : Messages T S) → Wakes tell initial now line line_now
      → ticket_and_kind (first_waiting now) ≡ None → Woke tell initial line None now line_now
  woke_over tell initial now line line_now w none =
      let zero = none_wait now none in
      woke_none tell initial now now line line_now w (sym (round_idle tell w.front now zero)) (fills_idle now zero)

  -- the loop ends at one of the plain kind, and at an arm of a selector
  pub woke_plain : (tell : N → N) (initial old new : List (Entry T N)) (line line_now : Messages T S) (t : ℕ) (k : Kind)
      → Wakes tell initial old line line_now → ticket_and_kind (first_waiting old) ≡ Some (t, k) → (k ≡ Plain) ⊎ (k ≡ Arm)
      → new ≡ with_first_marked tell Woken old → Woke tell initial line None new line_now
  woke_plain tell initial old new line line_now t k w next (inl is) woken =
      woke_none tell initial old new line line_now w (woken ∙ round_ends tell w.front Woken old t k next (λ e a o. rw is refl))
      (fills_end old t k None next (λ o. rw is refl))
  woke_plain tell initial old new line line_now t k w next (inr is) woken =
      woke_none tell initial old new line line_now w (woken ∙ round_ends tell w.front Woken old t k next (λ e a o. rw is refl))
      (fills_end old t k None next (λ o. rw is refl))

  -- the loop ends at one that blocks, which is filled with the front of the queue
  pub woke_block : (tell : N → N) (initial old new : List (Entry T N)) (line line_now line_new : Messages T S) (t : ℕ) (taken : T)
      → Wakes tell initial old line line_now → ticket_and_kind (first_waiting old) ≡ Some (t, Block)
      → line_now ≡ record line_new { queued = taken ∷ line_new.queued } → new ≡ with_first_marked tell (Filled taken) old
      → Woke tell initial line (Some t) new line_new
  woke_block tell initial old new line line_now line_new t taken w next takes woken =
      let was = sym takes ∙ w.stays in
      let both : taken ∷ line_new.queued ≡ w.front ∷ w.rest = ap (λ (l : Messages T S). l.queued) was ∙ w.queue in
      let first : taken ≡ w.front = cc in
      let others : line_new.queued ≡ w.rest = cc in
      let fills : Some t ≡ round_fills initial = sym (fills_end old t Block (Some t) next (λ o. refl)) ∙ w.fills in
      let ends = round_ends tell w.front (Filled w.front) old t Block next (λ e a o. refl) in
      record {
        fills = rw w.queue fills;
        woken = rw w.queue (woken ∙ ap (λ m. with_first_marked tell (Filled m) old) first ∙ ends ∙ w.leaves);
        queue = rw w.queue (rw (← fills) (same_line line_new w.rest others ∙ ap (λ (l : Messages T S). record l { queued = w.rest }) was));
      }
