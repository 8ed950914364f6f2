-- Who is parked after a step, with which tickets.
use Rattle.std.proofs.Common.{◌≡◌, ◌≢◌, ◌⊎◌, inl, inr, ℕ, ◌<◌, ◌≤◌, Bool, true, false, eqb, if◌then◌else◌, List, Option, Some, refl, sym}
use Rattle.std.proofs.Common.{◌∙◌, ap, subst, eqb-true, ne_eqb, eq-eqb, arith}
use Rattle.std.specs.List.{All}
use Rattle.std.proofs.lemmas.List.Elements.{All-weaker}
use Rattle.judge_calls.specs.declared.event.Event.{Event}
use Rattle.judge_search.specs.declared.configuration.OpenCall.{OpenCall}
use Rattle.judge_search.specs.declared.configuration.ParkedReceive.{ParkedReceive}
use Rattle.judge_search.specs.declared.configuration.Progress.{Progress}
use Rattle.judge_search.specs.Configurations.{State, calls_with_progress, is_parked, call_by}
use Rattle.judge_search.proofs.MoveAnswers.{with_ticket}
use Rattle.judge_search.specs.Agreement.{AreParked, parked_at, is_send_at}
use Rattle.judge_search.proofs.CallListLemmas.{differ, parked_other, parked_none, parked_now, parked_there}

-- a place is that of a call that was parked, or of the one that moved, which is parked now
abbrev pub IsLeftParked : List OpenCall → ℕ → Progress → ℕ → Type 0
IsLeftParked calls place q p = ((p ≢ place) × (parked_at calls p ≡ true)) ⊎ ((p ≡ place) × (is_parked q ≡ true))

-- the tickets by places, if the call at a place parks or not
abbrev pub tickets_if : Bool → ℕ → ℕ → (ℕ → ℕ) → ℕ → ℕ
tickets_if parks place next tickets = if parks then with_ticket place next tickets else tickets

-- the ticket of another place
pub ticket_kept : (parks : Bool) (place next : ℕ) (tickets : ℕ → ℕ) (p : ℕ) → p ≢ place → tickets_if parks place next tickets p ≡ tickets p
ticket_kept false place next tickets p other = refl
ticket_kept true place next tickets p other = ap (λ b. if b then next else tickets p) (ne_eqb p place other)

module _ {T A : Type 0} (events : List (Event T A)) (c new : State) (t : ℕ) (one : OpenCall) (q : Progress)
    (is_own : call_by events t c.calls ≡ Some one) (calls : new.calls ≡ calls_with_progress one.place q c.calls) where
  -- who is parked now was parked, or is the call that moved
  was_parked : (p : ℕ) → parked_at new.calls p ≡ true → IsLeftParked c.calls one.place q p
  was_parked p e = by_case (eqb p one.place) refl (is_parked q) refl
    where
      there : parked_at (calls_with_progress one.place q c.calls) p ≡ true
      there = ap (λ (l : List OpenCall). parked_at l p) (sym calls) ∙ e

      by_case : (b : Bool) → eqb p one.place ≡ b → (k : Bool) → is_parked q ≡ k → IsLeftParked c.calls one.place q p
      by_case true is true parked_ = inr (eqb-true p one.place is, parked_)
      by_case true is false off =
          let at : parked_at (calls_with_progress one.place q c.calls) one.place ≡ true =
          subst (λ (n : ℕ). parked_at (calls_with_progress one.place q c.calls) n ≡ true) (eqb-true p one.place is) there in
          let none : parked_at (calls_with_progress one.place q c.calls) one.place ≡ false = parked_none one.place q c.calls off in
          absurd (let no : ⊥ = cc in no)
      by_case false is k e = inl (differ p one.place is, sym (parked_other one.place q p c.calls (differ p one.place is)) ∙ there)

  -- who is left parked is parked now
  is_parked_now : (p : ℕ) → IsLeftParked c.calls one.place q p → parked_at new.calls p ≡ true
  is_parked_now p (inl h) = ap (λ (l : List OpenCall). parked_at l p) calls ∙ parked_other one.place q p c.calls h.0 ∙ h.1
  is_parked_now p (inr h) =
      ap (λ (l : List OpenCall). parked_at l p) calls
      ∙ subst (λ (n : ℕ). parked_at (calls_with_progress one.place q c.calls) n ≡ true) (sym h.0)
      (parked_now events t q c.calls one is_own h.1)

  module _ (tickets : ℕ → ℕ) (next later : ℕ) (h : AreParked events tickets next c) (more : next ≤ later) where
    -- who is blocked sends, and who has an entry doesn't
    abbrev AreSends : Type 0
    AreSends = All (λ p. is_send_at events p ≡ true) new.blocked

    abbrev AreOthers : Type 0
    AreOthers = All (λ r. is_send_at events r.place ≡ false) new.receives

    blocked_now : All (IsLeftParked c.calls one.place q) new.blocked → All (λ p. parked_at new.calls p ≡ true) new.blocked
    blocked_now left = All-weaker (IsLeftParked c.calls one.place q) (λ p. parked_at new.calls p ≡ true) is_parked_now new.blocked left

    receives_now : All (λ r. IsLeftParked c.calls one.place q r.place) new.receives
        → All (λ r. parked_at new.calls r.place ≡ true) new.receives
    receives_now left =
        All-weaker (λ (r : ParkedReceive). IsLeftParked c.calls one.place q r.place) (λ r. parked_at new.calls r.place ≡ true)
        (λ r k. is_parked_now r.place k) new.receives left

    -- a step by which no call parks
    stay_parked : (is_parked q ≡ true → is_parked one.progress ≡ true) → All (IsLeftParked c.calls one.place q) new.blocked
        → All (λ r. IsLeftParked c.calls one.place q r.place) new.receives → AreSends → AreOthers → AreParked events tickets later new
    stay_parked as_before blocks left sends others =
        record {
          tickets_apart = λ p r a b e. h.tickets_apart p r (before p a) (before r b) e;
          tickets_below = λ p a. let below = h.tickets_below p (before p a) in omega arith;
          blocked_parked = blocked_now blocks;
          receives_parked = receives_now left;
          blocked_send = sends;
          receives_apart = others;
        }
      where
        by_case : (p : ℕ) → IsLeftParked c.calls one.place q p → parked_at c.calls p ≡ true
        by_case p (inl k) = k.1
        by_case p (inr k) =
            subst (λ (n : ℕ). parked_at c.calls n ≡ true) (sym k.0) (parked_there events t c.calls one is_own (as_before k.1))

        before : (p : ℕ) → parked_at new.calls p ≡ true → parked_at c.calls p ≡ true
        before p e = by_case p (was_parked p e)

    -- a step by which the call parks
    now_parked : next < later → All (IsLeftParked c.calls one.place q) new.blocked
        → All (λ r. IsLeftParked c.calls one.place q r.place) new.receives → AreSends → AreOthers
        → AreParked events (with_ticket one.place next tickets) later new
    now_parked less blocks left sends others =
        record {
          tickets_apart = λ p r a b e. apart p r (was_parked p a) (was_parked r b) e;
          tickets_below = λ p a. below p (was_parked p a);
          blocked_parked = blocked_now blocks;
          receives_parked = receives_now left;
          blocked_send = sends;
          receives_apart = others;
        }
      where
        own_ticket : (p : ℕ) → p ≡ one.place → with_ticket one.place next tickets p ≡ next
        own_ticket p e = ap (λ b. if b then next else tickets p) (eq-eqb p one.place e)

        other_ticket : (p : ℕ) → p ≢ one.place → with_ticket one.place next tickets p ≡ tickets p
        other_ticket p e = ticket_kept true one.place next tickets p e

        new_one : (p r : ℕ) → p ≡ one.place → r ≢ one.place → parked_at c.calls r ≡ true
            → with_ticket one.place next tickets p ≡ with_ticket one.place next tickets r → ⊥
        new_one p r a b was e =
            let same : next ≡ tickets r = sym (own_ticket p a) ∙ e ∙ other_ticket r b in
            let under = h.tickets_below r was in omega arith

        apart : (p r : ℕ) → IsLeftParked c.calls one.place q p → IsLeftParked c.calls one.place q r
            → with_ticket one.place next tickets p ≡ with_ticket one.place next tickets r → p ≡ r
        apart p r (inl a) (inl b) e = h.tickets_apart p r a.1 b.1 (sym (other_ticket p a.0) ∙ e ∙ other_ticket r b.0)
        apart p r (inr a) (inr b) e = a.0 ∙ sym b.0
        apart p r (inr a) (inl b) e = absurd (new_one p r a.0 b.0 b.1 e)
        apart p r (inl a) (inr b) e = absurd (new_one r p b.0 a.0 a.1 (sym e))

        below : (p : ℕ) → IsLeftParked c.calls one.place q p → with_ticket one.place next tickets p < later
        below p (inl a) = let is = other_ticket p a.0 in let under = h.tickets_below p a.1 in omega arith
        below p (inr a) = let is = own_ticket p a.0 in omega arith

    -- either
    pub parked_if : (parks : Bool) → (parks ≡ true → next < later) → (parks ≡ false → is_parked q ≡ true → is_parked one.progress ≡ true)
        → All (IsLeftParked c.calls one.place q) new.blocked → All (λ r. IsLeftParked c.calls one.place q r.place) new.receives
        → AreSends → AreOthers → AreParked events (tickets_if parks one.place next tickets) later new
    parked_if true less as_before blocks left sends others = now_parked (less refl) blocks left sends others
    parked_if false less as_before blocks left sends others = stay_parked (as_before refl) blocks left sends others
