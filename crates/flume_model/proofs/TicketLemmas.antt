-- Offers whose tickets rise: at most one of them has a given ticket, and to filter by it cuts that one out.
use Rattle.flume_model.proofs.Common.{◌≡◌, ℕ, ◌≤◌, Bool, true, false, not, ◌||◌, List, [], ◌∷◌, ◌++◌, Option, Some, None, refl, sym, ◌∙◌}
use Rattle.flume_model.proofs.Common.{◌⊎◌, inl, inr, ap, arith, ne_eqb, eq-eqb, eqb-true, or_parts, or_from, or_cases, All-head, All-tail}
use Rattle.flume_model.proofs.Common.{All-weaker, All-nil, All-push, All-filter, filter-append, list_any-append, list_any_none, All, filter}
use Rattle.flume_model.proofs.Common.{has_ticket, IsBelow, IsEarlier, Rising, Offer, is_ticket, common_steps}

-- a filter by two tests is two filters
pub filter_two : {X : Type 0} (a b : X → Bool) (xs : List X)
    → filter (λ x. not (a x || b x)) xs ≡ filter (λ x. not (a x)) (filter (λ x. not (b x)) xs)
filter_two a b [] = refl
filter_two a b (x ∷ xs) = grind (arith, common_steps, filter_two a b xs)
  where
    by_cases : (u v : Bool) → a x ≡ u → b x ≡ v → filter (λ y. not (a y || b y)) xs ≡ filter (λ y. not (a y)) (filter (λ y. not (b y)) xs)
        → filter (λ y. not (a y || b y)) (x ∷ xs) ≡ filter (λ y. not (a y)) (filter (λ y. not (b y)) (x ∷ xs))
    by_cases true true e f rest = simp (e, f) rest
    by_cases true false e f rest = simp (e, f) rest
    by_cases false true e f rest = simp (e, f) rest
    by_cases false false e f rest = simp (e, f) (ap (λ ys. x ∷ ys) rest)

-- what holds of each element holds of the one at the seam
pub All-at_seam : {X : Type 0} (P : X → Type 0) (xs : List X) (x : X) (ys : List X) → All P (xs ++ x ∷ ys) → P x
All-at_seam P [] x ys h = All-head P x ys h
All-at_seam P (y ∷ xs) x ys h = All-at_seam P xs x ys (All-tail P y (xs ++ x ∷ ys) h)

-- an earlier ticket is another
earlier_not : (t : ℕ) (o : Option ℕ) → IsEarlier o (Some t) → is_ticket t o ≡ false
earlier_not t o h = grind (arith, common_steps, ne_eqb)

-- a later ticket is another
later_not : (t : ℕ) (o : Option ℕ) → IsEarlier (Some t) o → is_ticket t o ≡ false
later_not t o h = grind (arith, common_steps, ne_eqb)

-- a ticket below the bound is earlier than one at or past it
pub below_earlier : (n t : ℕ) (o : Option ℕ) → n ≤ t → IsBelow n o → IsEarlier o (Some t)
below_earlier n t o le h = grind (arith, common_steps)

-- each ticket is earlier than none
pub earlier_none : (o : Option ℕ) → IsEarlier o None
earlier_none o = grind (arith, common_steps)

-- a bound holds of what a lesser one holds of
below_more : (n k : ℕ) (o : Option ℕ) → n ≤ k → IsBelow n o → IsBelow k o
below_more n k o le h = grind (arith, common_steps)

module _ {T : Type 0} where
  -- a ticket among two lists
  pub has_ticket-append : (t : ℕ) (xs ys : List (Offer T)) → has_ticket t (xs ++ ys) ≡ (has_ticket t xs || has_ticket t ys)
  has_ticket-append t xs ys = list_any-append _ xs ys

  -- a ticket that isn't in two lists together is in neither
  pub none_apart : (t : ℕ) (xs ys : List (Offer T)) → has_ticket t (xs ++ ys) ≡ false
      → (has_ticket t xs ≡ false) × (has_ticket t ys ≡ false)
  none_apart t xs ys h = or_parts _ _ (sym (has_ticket-append t xs ys) ∙ h)

  -- the offer with a ticket of the list
  pub ticket_place : (t : ℕ) (xs : List (Offer T)) → has_ticket t xs ≡ true
      → (m : T) × (before : List (Offer T)) × (later : List (Offer T)) × (xs ≡ before ++ record { message = m; ticket = Some t } ∷ later)
  ticket_place t [] h = absurd (let none : ⊥ = cc in none)
  ticket_place t (x ∷ xs) h = by_cases (or_cases (is_ticket t x.ticket) (has_ticket t xs) h) (ticket_place t xs)
    where
      Place : List (Offer T) → Type 0
      Place ys =
          (m : T) × (before : List (Offer T)) × (later : List (Offer T)) × (ys ≡ before ++ record { message = m; ticket = Some t } ∷ later)

      here : (o : Option ℕ) → x.ticket ≡ o → is_ticket t o ≡ true → Place (x ∷ xs)
      here None e f = absurd (let none : ⊥ = cc in none)
      here (Some u) e f =
          let same : x.ticket ≡ Some t = e ∙ ap (λ v. Some v) (eqb-true u t f) in
          (x.message, [], xs, ap (λ o. record { message = x.message; ticket = o } ∷ xs) same)

      by_cases : (is_ticket t x.ticket ≡ true) ⊎ (has_ticket t xs ≡ true) → (has_ticket t xs ≡ true → Place xs) → Place (x ∷ xs)
      by_cases (inl e) rest = here x.ticket refl e
      by_cases (inr e) rest = let q = rest e in (q.0, x ∷ q.1, q.2, ap (λ ys. x ∷ ys) q.3)

  -- tickets that rise are apart
  pub apart : (n : ℕ) (xs ys : List (Offer T)) (t : ℕ) (m : T) → Rising n (xs ++ record { message = m; ticket = Some t } ∷ ys)
      → (has_ticket t xs ≡ false) × (has_ticket t ys ≡ false)
  apart n [] ys t m h = (
    refl,
    list_any_none _ ys
        (All-weaker (λ later. IsEarlier (Some t) later.ticket) (λ later. is_ticket t later.ticket ≡ false)
        (λ x. later_not t x.ticket) ys h.1),
  )
  apart n (x ∷ xs) ys t m h =
      let rest = apart n xs ys t m h.2 in
      (or_from _ _ (earlier_not t x.ticket (All-at_seam (λ later. IsEarlier x.ticket later.ticket) xs _ ys h.1)) rest.0, rest.1)

  -- the ticket of an offer among them is below the bound
  pub rising_below : (n : ℕ) (xs ys : List (Offer T)) (x : Offer T) → Rising n (xs ++ x ∷ ys) → IsBelow n x.ticket
  rising_below n [] ys x h = h.0
  rising_below n (y ∷ xs) ys x h = rising_below n xs ys x h.2

  -- a filter by a ticket that no offer has keeps all
  pub filter_none : (t : ℕ) (xs : List (Offer T)) → has_ticket t xs ≡ false → filter (λ x. not (is_ticket t x.ticket)) xs ≡ xs
  filter_none t [] h = refl
  filter_none t (x ∷ xs) h = grind (arith, common_steps, filter_none t xs)

  -- a filter by the ticket of one offer cuts that one out
  pub filter_one : (t : ℕ) (m : T) (xs ys : List (Offer T)) → has_ticket t xs ≡ false → has_ticket t ys ≡ false
      → filter (λ x. not (is_ticket t x.ticket)) (xs ++ record { message = m; ticket = Some t } ∷ ys) ≡ xs ++ ys
  filter_one t m xs ys no_xs no_ys =
      let same = eq-eqb t t refl in
      rw (filter-append, filter_none t xs no_xs, same, filter_none t ys no_ys)

  -- a filter keeps the order of tickets
  pub rising_filter : (n : ℕ) (p : Offer T → Bool) (xs : List (Offer T)) → Rising n xs → Rising n (filter p xs)
  rising_filter n p [] h = tt
  rising_filter n p (x ∷ xs) h = by_case (p x) refl (rising_filter n p xs h.2)
    where
      by_case : (b : Bool) → p x ≡ b → Rising n (filter p xs) → Rising n (filter p (x ∷ xs))
      by_case true e rest = simp e (h.0, All-filter p (λ later. IsEarlier x.ticket later.ticket) xs h.1, rest)
      by_case false e rest = simp e rest

  -- one more offer, whose ticket is past all others
  pub rising_push : (n k : ℕ) (x : Offer T) (xs : List (Offer T)) → n ≤ k → IsBelow k x.ticket
      → ((o : Option ℕ) → IsBelow n o → IsEarlier o x.ticket) → Rising n xs → Rising k (xs ++ x ∷ [])
  rising_push n k x [] le below past h = (below, All-nil _, tt)
  rising_push n k x (y ∷ ys) le below past h = (
    below_more n k y.ticket le h.0,
    All-push (λ later. IsEarlier y.ticket later.ticket) ys x h.1 (past y.ticket h.0),
    rising_push n k x ys le below past h.2,
  )

  -- a greater bound
  pub rising_more : (n k : ℕ) (xs : List (Offer T)) → n ≤ k → Rising n xs → Rising k xs
  rising_more n k [] le h = tt
  rising_more n k (x ∷ xs) le h = (below_more n k x.ticket le h.0, h.1, rising_more n k xs le h.2)
