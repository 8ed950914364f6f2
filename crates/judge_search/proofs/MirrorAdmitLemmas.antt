-- Blocked sends that join the queue by their places do so by their tickets.
use Rattle.std.proofs.Common.{◌≡◌, ℕ, Bool, true, false, if◌then◌else◌, List, [], ◌∷◌, ◌++◌, length, map, Some, refl, sym, ◌∙◌, ap, ap₂}
use Rattle.std.proofs.Common.{subst}
use Rattle.std.specs.List.{All}
use Rattle.std.proofs.lemmas.List.{map_push}
use Rattle.std.proofs.lemmas.List.Elements.{All-tail}
use Rattle.flume_model.specs.Limits.{is_full}
use Rattle.flume_state.specs.Messages.{Blocked}
use Rattle.flume_state.specs.Sends.{with_send_changed, accepted_now}
use Rattle.flume_state.specs.State.{State as Channel, offers_of}
use Rattle.flume_state.specs.Effects.{after_admissions, after_admissions_of}
use Rattle.judge_calls.specs.declared.event.Event.{Event}
use Rattle.judge_search.specs.Configurations.{State, message_at}
use Rattle.judge_search.specs.ByPlaces.{admit_all, admit_all_of, full_now}
use Rattle.judge_search.specs.Mirrors.{Mirrors, offer_for, some_offer}
use Rattle.judge_search.proofs.MirrorViewLemmas.{full_same}

-- the configuration whose first blocked send, this one, has joined the queue
abbrev joined : ℕ → List ℕ → State → State
joined p later c = record c { queue = c.queue ++ p ∷ []; blocked = later }

-- who is still blocked was blocked
pub blocked_kept : (P : ℕ → Type 0) (ps : List ℕ) (c : State) → c.blocked ≡ ps → All P ps → All P (admit_all_of ps c).blocked
blocked_kept P [] c at all = subst (All P) (sym at) all
blocked_kept P (p ∷ later) c at all =
    by_full (full_now c) (blocked_kept P later (joined p later c) refl (All-tail P p later all))
  where
    by_full : (b : Bool) → All P (admit_all_of later (joined p later c)).blocked
        → All P (if b then c else admit_all_of later (joined p later c)).blocked
    by_full true rest = subst (All P) (sym at) all
    by_full false rest = rest

-- the parked receives stay
pub receives_kept : (ps : List ℕ) (c : State) → (admit_all_of ps c).receives ≡ c.receives
receives_kept [] c = refl
receives_kept (p ∷ later) c = by_full (full_now c) (receives_kept later (joined p later c))
  where
    by_full : (b : Bool) → (admit_all_of later (joined p later c)).receives ≡ c.receives
        → (if b then c else admit_all_of later (joined p later c)).receives ≡ c.receives
    by_full true rest = refl
    by_full false rest = rest

module _ {T A : Type 0} (events : List (Event T A)) (tickets : ℕ → ℕ) where
  -- the state whose first blocked message, this one, has joined the queue
  abbrev joined_state : Blocked T → List (Blocked T) → Channel T (Unit {0}) → Channel T (Unit {0})
  joined_state b later s = record s {
    queue = s.queue ++ b.message ∷ [];
    blocked = later;
    sends = with_send_changed s.sends b.ticket accepted_now;
  }

  -- one joins the queue, the first of those that are blocked
  pub first_joins : (p : ℕ) (ps : List ℕ) (b : Blocked T) (bs : List (Blocked T)) (s : Channel T (Unit {0})) (c : State)
      → c.blocked ≡ p ∷ ps → s.blocked ≡ b ∷ bs → Mirrors events tickets s c
      → Mirrors events tickets (joined_state b bs s) (joined p ps c)
  first_joins p ps b bs s c at there h =
      let both : offer_for events tickets p ∷ map (offer_for events tickets) ps
      ≡ some_offer (record { message = b.message; ticket = Some b.ticket }) ∷ map some_offer (offers_of bs) =
      sym (ap (map (offer_for events tickets)) at) ∙ h.blocked_are ∙ ap (λ l. map some_offer (offers_of l)) there in
      let offers : offer_for events tickets p ≡ some_offer (record { message = b.message; ticket = Some b.ticket }) = cc in
      let others : map (offer_for events tickets) ps ≡ map some_offer (offers_of bs) = cc in
      record {
        capacity_is = h.capacity_is;
        senders_are = h.senders_are;
        receivers_are = h.receivers_are;
        queue_is = map_push (message_at events) c.queue p
            ∙ ap₂ (λ l m. l ++ m ∷ []) h.queue_is (ap (λ offer. offer.message) offers)
            ∙ sym (map_push (λ m. Some m) s.queue b.message);
        blocked_are = others;
        receives_are = h.receives_are;
      }

  -- of these blocked ones, the first ones join while the queue has room
  pub admits_all_of : (ps : List ℕ) (bs : List (Blocked T)) (s : Channel T (Unit {0})) (c : State) → c.blocked ≡ ps → s.blocked ≡ bs
      → Mirrors events tickets s c → Mirrors events tickets (after_admissions_of bs s) (admit_all_of ps c)
  admits_all_of [] [] s c at there h = h
  admits_all_of [] (b ∷ bs) s c at there h =
      let both : [] ≡ some_offer (record { message = b.message; ticket = Some b.ticket }) ∷ map some_offer (offers_of bs) =
      sym (ap (map (offer_for events tickets)) at) ∙ h.blocked_are ∙ ap (λ l. map some_offer (offers_of l)) there in
      absurd (let none : ⊥ = cc in none)
  admits_all_of (p ∷ ps) [] s c at there h =
      let both : offer_for events tickets p ∷ map (offer_for events tickets) ps ≡ [] =
      sym (ap (map (offer_for events tickets)) at) ∙ h.blocked_are ∙ ap (λ l. map some_offer (offers_of l)) there in
      absurd (let none : ⊥ = cc in none)
  admits_all_of (p ∷ ps) (b ∷ bs) s c at there h =
      by_full (full_now c) (is_full s.capacity (length s.queue)) (full_same events tickets s c h)
      (admits_all_of ps bs (joined_state b bs s) (joined p ps c) refl refl (first_joins p ps b bs s c at there h))
    where
      by_full : (f g : Bool) → f ≡ g
          → Mirrors events tickets (after_admissions_of bs (joined_state b bs s)) (admit_all_of ps (joined p ps c))
          → Mirrors events tickets (if g then s else after_admissions_of bs (joined_state b bs s))
          (if f then c else admit_all_of ps (joined p ps c))
      by_full true true same rest = h
      by_full false false same rest = rest
      by_full true false same rest = absurd (let none : ⊥ = cc in none)
      by_full false true same rest = absurd (let none : ⊥ = cc in none)

  -- blocked ones join while the queue has room
  pub admits_all : (s : Channel T (Unit {0})) (c : State) → Mirrors events tickets s c
      → Mirrors events tickets (after_admissions s) (admit_all c)
  admits_all s c h = admits_all_of c.blocked s.blocked s c refl refl h
