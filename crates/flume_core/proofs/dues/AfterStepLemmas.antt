-- Which tickets are due after what each step leaves.
use Rattle.std.proofs.Common.{◌≡◌, ℕ, ◌+◌, ◌≤◌, min, arith, Bool, true, false, not, ◌&&◌, eqb, eqb-true, eq-eqb, List, ◌∷◌, ◌++◌, []}
use Rattle.std.proofs.Common.{Option, Some, None, refl, sym, ◌∙◌, ap, subst, ⊎_elim, ◌⊎◌, if◌then◌else◌}
use Rattle.std.proofs.Math.Bool.{and-false}
use Rattle.std.specs.Option.{option_map}
use Rattle.std.specs.FinMap.{get, insert, remove, get-empty}
use Rattle.std.specs.Ordering.{nat_cmp}
use Rattle.flume_model.specs.declared.step.Kind.{Kind}
use Rattle.flume_model.specs.declared.step.Step.{Step}
use Rattle.flume_model.specs.declared.step.Step.TheVariants.{Poll}
use Rattle.flume_model.specs.declared.step.Reply.{Reply}
use Rattle.flume_model.specs.declared.step.Reply.TheVariants.{Waiting, Returned, NoTicket}
use Rattle.flume_model.specs.Limits.{is_closed}
use Rattle.flume_model.specs.Line.{greater}
use Rattle.flume_model.specs.Entries.{again, entry_of, passes_on, without_ticket}
use Rattle.flume_state.specs.Messages.{Blocked}
use Rattle.flume_state.specs.Notices.{due_now, with_signal}
use Rattle.flume_state.specs.Sends.{newly_blocked, with_send_notice, with_notice}
use Rattle.flume_state.specs.Receivers.{EntryList, new_receiver, with_receiver_notice, waits_on}
use Rattle.flume_state.specs.State.{State}
use Rattle.flume_state.specs.Effects.{Returns, after_end_dropped, after_withdrawal, after_wake_round}
use Rattle.flume_state.specs.Effects.{after_take, without_receiver, with_peak, after_admissions}
use Rattle.flume_state.specs.Effects.{with_capacity}
use Rattle.flume_state.specs.Due.{BecomesDue, SendDue, ReceiverDue, blocked_in, closed_between, receiver_due_in, waits_by}
use Rattle.flume_core.specs.Represents.{IsReachable, IsRefusal}
use Rattle.flume_core.proofs.dues.OneTicketLemmas.{send_kept, send_closed, receiver_kept, receiver_waits}
use Rattle.flume_core.proofs.dues.SendsDueLemmas.{accepts_due, all_due_at}
use Rattle.flume_core.proofs.dues.ReceiversDueLemmas.{entry_again, entry_noticed, noticed_idle, again_idle}
use Rattle.flume_core.proofs.dues.ReceiversDueLemmas.{without_noticed, round_for_due, all_woken_due}
use Rattle.flume_core.proofs.dues.BothSideLemmas.{SendsDue, ReceiversDue, spent_sends, new_sends, signalled_sends, gone_receivers}
use Rattle.flume_core.proofs.dues.BothSideLemmas.{new_receivers, passed_receivers}
use Rattle.flume_core.proofs.dues.MovedInLemmas.{MovesIn, moves_none, moves_queue, moves_capacity, moves_taken, moves_filled_up}
use Rattle.flume_core.proofs.dues.TicketLemmas.{tickets_of}

-- a channel that stays as it is isn't closed
pub not_closed : (c : Bool) → (not c && c) ≡ false
not_closed true = refl
not_closed false = refl

module _ {T A : Type 0} where
  -- the step lets no receiver wait on or again
  abbrev pub NoneWaits : Step T → Reply T A → Type 0
  NoneWaits step reply = (t : ℕ) → waits_by step reply t ≡ false

module _ {T S A : Type 0} where
  -- a step that doesn't close the channel, of its sends and of its receivers
  by_sides : (old mid new : State T S) (step : Step T) (reply : Reply T A) → new ≡ mid → mid.senders ≡ old.senders
      → mid.receivers ≡ old.receivers → NoneWaits step reply → SendsDue old.sends mid.sends → ReceiversDue old.entries mid.entries
      → BecomesDue old step reply new
  by_sides old mid new step reply is senders receivers idle sends entries =
      let open_ : closed_between old mid ≡ false = rw (senders, receivers) (not_closed (is_closed old.senders old.receivers)) in
      subst (λ s. BecomesDue old step reply s) (sym is) record {
        sends = λ t. subst (λ c. SendDue c (get old.sends t) (get mid.sends t)) (sym open_) (sends t);
        receivers = λ t. subst (λ w. ReceiverDue w (entry_of t old.entries) (entry_of t mid.entries)) (sym (idle t)) (entries t);
      }

  -- nothing changes
  pub unchanged : (old new : State T S) (step : Step T) (reply : Reply T A) → NoneWaits step reply → new ≡ old
      → BecomesDue old step reply new
  unchanged old new step reply idle is =
      by_sides old old new step reply is refl refl idle (λ t. send_kept (get old.sends t)) (λ t. receiver_kept (entry_of t old.entries))

  -- a send has another signal
  pub signalled : (old new : State T S) (step : Step T) (reply : Reply T A) (t : ℕ) (given : Option S) → NoneWaits step reply
      → new ≡ record old { sends = with_send_notice (with_signal given) t old.sends } → BecomesDue old step reply new
  signalled old new step reply t given idle is =
      by_sides old _ new step reply is refl refl idle (signalled_sends old.sends t given) (λ u. receiver_kept (entry_of u old.entries))

  -- a send is spent
  pub spent : (old new : State T S) (step : Step T) (reply : Reply T A) (t : ℕ) (left : List (Blocked T)) → NoneWaits step reply
      → new ≡ record old { blocked = left; sends = remove old.sends t } → BecomesDue old step reply new
  spent old new step reply t left idle is =
      by_sides old _ new step reply is refl refl idle (spent_sends old.sends t) (λ u. receiver_kept (entry_of u old.entries))

  -- its message came back, or there is none
  pub given_back : (old new : State T S) (step : Step T) (reply : Reply T A) (t : ℕ) → NoneWaits step reply
      → ((message : T) (closed : Bool) → reply ≡ Returned message closed → Returns old new t message closed)
      → (IsRefusal reply → new ≡ old) → (reply ≡ NoTicket) ⊎ ((message : T) × (closed : Bool) × (reply ≡ Returned message closed))
      → BecomesDue old step reply new
  given_back old new step reply t idle returned refused either =
      ⊎_elim (λ none. unchanged old new step reply idle (refused (rw none tt)))
      (λ back.
      let returns = returned back.0 back.1 back.2 in
      spent old new step reply t (returns.before ++ returns.later) idle returns.becomes) either

  -- a send blocks
  pub blocks : (old new : State T S) (step : Step T) (reply : Reply T A) (message : Blocked T) (signal : S) (space : ℕ)
      → NoneWaits step reply → IsReachable A old
      → new ≡ record old {
        blocked = old.blocked ++ message ∷ [];
        space = space;
        sends = insert old.sends old.next_ticket (newly_blocked signal);
        next_ticket = old.next_ticket + 1;
      }
      → BecomesDue old step reply new
  blocks old new step reply message signal space idle reachable is =
      by_sides old _ new step reply is refl refl idle (new_sends old.sends old.next_ticket signal (tickets_of old reachable).new_send)
      (λ u. receiver_kept (entry_of u old.entries))

  -- a wake round
  pub woken : (old new : State T S) (step : Step T) (reply : Reply T A) (queue : List T) (space : ℕ) → NoneWaits step reply
      → new ≡ after_wake_round (record old { queue = queue; space = space }) → BecomesDue old step reply new
  woken old new step reply queue space idle is =
      by_sides old _ new step reply is refl refl idle (λ t. send_kept (get old.sends t)) (λ u. round_for_due u queue old.entries)

  -- messages move in
  pub moved : (old mid new : State T S) (step : Step T) (reply : Reply T A) → NoneWaits step reply → MovesIn old mid → new ≡ mid
      → BecomesDue old step reply new
  moved old mid new step reply idle moves is =
      by_sides old mid new step reply is moves.senders moves.receivers idle (accepts_due old.sends mid.sends moves.sends)
      (subst (λ es. ReceiversDue old.entries es) (sym moves.entries) (λ u. receiver_kept (entry_of u old.entries)))

  -- messages move in, and a receiver leaves
  moved_left : (old mid new : State T S) (step : Step T) (reply : Reply T A) (t : ℕ) → NoneWaits step reply → MovesIn old mid
      → entry_of t (without_ticket t old.entries) ≡ None → new ≡ without_receiver t mid → BecomesDue old step reply new
  moved_left old mid new step reply t idle moves alone is =
      by_sides old (without_receiver t mid) new step reply is moves.senders moves.receivers idle
      (accepts_due old.sends mid.sends moves.sends)
      (subst (λ es. ReceiversDue old.entries (without_ticket t es)) (sym moves.entries) (gone_receivers old.entries t alone))

  -- the front is handed out
  pub took : (old new : State T S) (step : Step T) (reply : Reply T A) (rest : List T) → NoneWaits step reply → IsReachable A old
      → new ≡ after_take rest old → BecomesDue old step reply new
  took old new step reply rest idle reachable is =
      moved old _ new step reply idle (moves_taken old rest (moves_none old (tickets_of old reachable).live)) is

  -- the front is handed out to a parked receiver, which leaves
  pub took_parked : (old new : State T S) (step : Step T) (reply : Reply T A) (rest : List T) (t : ℕ) → NoneWaits step reply
      → IsReachable A old → new ≡ without_receiver t (after_take rest old) → BecomesDue old step reply new
  took_parked old new step reply rest t idle reachable is =
      let tickets = tickets_of old reachable in
      moved_left old _ new step reply t idle (moves_taken old rest (moves_none old tickets.live)) (tickets.alone t) is

  -- a parked receiver leaves
  pub left : (old new : State T S) (step : Step T) (reply : Reply T A) (t : ℕ) → NoneWaits step reply → IsReachable A old
      → new ≡ without_receiver t old → BecomesDue old step reply new
  left old new step reply t idle reachable is =
      let tickets = tickets_of old reachable in
      moved_left old old new step reply t idle (moves_none old tickets.live) (tickets.alone t) is

  -- all queued messages are handed out
  pub drained : (old new : State T S) (step : Step T) (reply : Reply T A) → NoneWaits step reply → IsReachable A old
      → new ≡ after_admissions (record old { queue = [] }) → BecomesDue old step reply new
  drained old new step reply idle reachable is =
      let emptied_ = moves_queue old old [] (moves_none old (tickets_of old reachable).live) in
      moved old _ new step reply idle (moves_filled_up old _ emptied_) is

  -- the capacity is set
  pub resized_due : (old new : State T S) (step : Step T) (reply : Reply T A) (capacity_ : ℕ) → NoneWaits step reply → IsReachable A old
      → new ≡ with_capacity capacity_ old → BecomesDue old step reply new
  resized_due old new step reply capacity_ idle reachable is =
      let set_ = moves_capacity old old (Some capacity_) (greater old.greatest (Some capacity_))
      (moves_none old (tickets_of old reachable).live) in
      moved old _ new step reply idle (moves_filled_up old _ set_) is

  -- a receiver parks
  pub parked : (old new : State T S) (step : Step T) (reply : Reply T A) (kind : Kind) (signal : S) → NoneWaits step reply
      → IsReachable A old
      → new ≡ with_peak (old.entries ++ new_receiver old.next_ticket kind signal ∷ []) (record old { next_ticket = old.next_ticket + 1 })
      → BecomesDue old step reply new
  parked old new step reply kind signal idle reachable is =
      by_sides old _ new step reply is refl refl idle (λ t. send_kept (get old.sends t))
      (new_receivers old.entries old.next_ticket kind signal (tickets_of old reachable).new_receiver)

  -- a parked receiver waits on, or again
  pub waits : (old new : State T S) (t : ℕ) (given : Option S) → IsReachable A old
      → new ≡ with_peak (again t (with_receiver_notice (waits_on given) t old.entries)) old → BecomesDue {A = A} old (Poll t) Waiting new
  waits old new t given reachable is = subst (λ s. BecomesDue {A = A} old (Poll t) Waiting s) (sym is) record {
    sends = λ u.
        subst (λ c. SendDue c (get old.sends u) (get old.sends u)) (sym (not_closed (is_closed old.senders old.receivers)))
        (send_kept (get old.sends u));
    receivers = λ u. by_case u (eqb t u) refl;
  }
    where
      asked : EntryList T S
      asked = with_receiver_notice (waits_on given) t old.entries

      by_case : (u : ℕ) (b : Bool) → eqb t u ≡ b → ReceiverDue (eqb t u) (entry_of u old.entries) (entry_of u (again t asked))
      by_case u true e =
          let alone = ap (entry_of t) (without_noticed (waits_on given) t old.entries) ∙ (tickets_of old reachable).alone t in
          let idle = again_idle t asked alone (noticed_idle (waits_on given) (λ n. refl) t old.entries) in
          subst (λ w. ReceiverDue w (entry_of u old.entries) (entry_of u (again t asked))) (sym e)
          (receiver_waits (entry_of u old.entries) (entry_of u (again t asked))
          (subst (λ k. receiver_due_in (entry_of k (again t asked)) ≡ false) (eqb-true t u e) idle))
      by_case u false e =
          let same = entry_again u t asked e ∙ entry_noticed (waits_on given) u t old.entries e in
          subst (λ w. ReceiverDue w (entry_of u old.entries) (entry_of u (again t asked))) (sym e)
          (subst (λ y. ReceiverDue false (entry_of u old.entries) y) (sym same) (receiver_kept (entry_of u old.entries)))

-- a channel that was closed is, with one end more of a kind that wasn't dropped
still_closed : (n m k l : ℕ) → (is_closed k l ≡ true → is_closed n m ≡ true) → (not (is_closed n m) && is_closed k l) ≡ false
still_closed n m k l closed = by_case (is_closed k l) refl
  where
    by_case : (b : Bool) → is_closed k l ≡ b → (not (is_closed n m) && is_closed k l) ≡ false
    by_case true e = rw (e, closed e) refl
    by_case false e = rw e (and-false (not (is_closed n m)))

module _ {T S A : Type 0} where
  -- one end more
  pub counted : (old new : State T S) (step : Step T) (reply : Reply T A) (n m : ℕ) → NoneWaits step reply → old.senders ≤ n
      → old.receivers ≤ m → new ≡ record old { senders = n; receivers = m } → BecomesDue old step reply new
  counted old new step reply n m idle senders receivers is =
      let closed : is_closed n m ≡ true → is_closed old.senders old.receivers ≡ true =
      λ e. (let none = eqb-true (min n m) 0 e in eq-eqb (min old.senders old.receivers) 0 (omega (arith, none, senders, receivers))) in
      subst (λ s. BecomesDue old step reply s) (sym is) record {
        sends = λ t. subst (λ c. SendDue c (get old.sends t) (get old.sends t))
            (sym (still_closed old.senders old.receivers n m closed)) (send_kept (get old.sends t));
        receivers = λ t. subst (λ w. ReceiverDue w (entry_of t old.entries) (entry_of t old.entries)) (sym (idle t))
            (receiver_kept (entry_of t old.entries));
      }

  -- one end less
  pub leaves : (old new : State T S) (step : Step T) (reply : Reply T A) (n m : ℕ) → NoneWaits step reply → IsReachable A old
      → new ≡ after_end_dropped (not (is_closed old.senders old.receivers)) (record old { senders = n; receivers = m })
      → BecomesDue old step reply new
  leaves old new step reply n m idle reachable is =
      go (eqb (n + m) 0) (not (is_closed old.senders old.receivers) && is_closed n m) refl refl
    where
      Claim : State T S → Type 0
      Claim s = BecomesDue old step reply s

      receiver_at : (es : EntryList T S) → ReceiversDue old.entries es
          → (t : ℕ) → ReceiverDue (waits_by step reply t) (entry_of t old.entries) (entry_of t es)
      receiver_at es due t = subst (λ w. ReceiverDue w (entry_of t old.entries) (entry_of t es)) (sym (idle t)) (due t)

      go : (over closed : Bool) → eqb (n + m) 0 ≡ over → (not (is_closed old.senders old.receivers) && is_closed n m) ≡ closed → Claim new
      go true closed is_over is_closed_ =
          let gone = rw is_over at is in
          subst Claim (sym gone) record {
            sends = λ t. subst (λ y. SendDue (not (is_closed old.senders old.receivers) && is_closed n m) (get old.sends t) y)
                (sym (get-empty nat_cmp t)) refl;
            receivers = λ t. refl;
          }
      go false true is_over is_closed_ =
          let marked = rw (is_over, is_closed_) at is in
          let tickets = tickets_of old reachable in
          subst Claim (sym marked) record {
            sends = λ t.
                let now = all_due_at old.blocked old.sends t
                ∙ ap (λ b. if b then option_map (with_notice due_now) (get old.sends t) else get old.sends t) (sym (tickets.listed t)) in
                subst (λ y. SendDue (not (is_closed old.senders old.receivers) && is_closed n m) (get old.sends t) y) (sym now)
                (subst (λ c. SendDue c (get old.sends t)
                (if blocked_in (get old.sends t) then option_map (with_notice due_now) (get old.sends t) else get old.sends t))
                (sym is_closed_) (send_closed (get old.sends t)));
            receivers = receiver_at _ (λ t. all_woken_due t old.entries);
          }
      go false false is_over is_closed_ =
          let kept = rw (is_over, is_closed_) at is in
          subst Claim (sym kept) record {
            sends = λ t. subst (λ c. SendDue c (get old.sends t) (get old.sends t)) (sym is_closed_) (send_kept (get old.sends t));
            receivers = receiver_at old.entries (λ t. receiver_kept (entry_of t old.entries));
          }

  -- a parked receiver leaves, and passes its wake on if it was woken
  pub passed : (old new : State T S) (step : Step T) (reply : Reply T A) (t : ℕ) → NoneWaits step reply → IsReachable A old
      → new ≡ after_withdrawal t old → BecomesDue old step reply new
  passed old new step reply t idle reachable is = go (passes_on (entry_of t old.entries)) refl
    where
      go : (b : Bool) → passes_on (entry_of t old.entries) ≡ b → BecomesDue old step reply new
      go true e =
          let alone = (tickets_of old reachable).alone t in
          by_sides old (after_wake_round (without_receiver t old)) new step reply (rw e at is) refl refl idle
          (λ u. send_kept (get old.sends u))
          (passed_receivers old.queue old.entries t alone)
      go false e = left old new step reply t idle reachable (rw e at is)
