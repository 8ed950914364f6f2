-- What wake rounds, a leave and one more entry do to the tickets of entries and to their marks.
use Rattle.flume_model.proofs.Common.{◌≡◌, ℕ, Bool, true, false, if◌then◌else◌, eqb, List, [], ◌∷◌, ◌++◌, Option, Some, None, refl, eq-eqb}
use Rattle.flume_model.proofs.Common.{is_woken, round, round_fills, round_for, round_for_fills, all_woken}
use Rattle.flume_model.proofs.Common.{entry_of, without_ticket, again_as}
use Rattle.flume_model.proofs.Common.{again, passes_on, after_leave, leave_fills, is_ticket, Entry, Waiting, arith, common_steps}

module _ {T N : Type 0} where
  -- the tickets of entries, in order
  abbrev pub tickets : List (Entry T N) → List ℕ
  tickets [] = []
  tickets (e ∷ es) = e.ticket ∷ tickets es

  -- no entry of a list with a first one has the ticket: neither the first one nor another
  pub none_parts : (t : ℕ) (x : Entry T N) (es : List (Entry T N)) → entry_of t (x ∷ es) ≡ None
      → (eqb x.ticket t ≡ false) × (entry_of t es ≡ None)
  none_parts t x es h = grind (arith, common_steps)

  -- the other way round
  pub none_more : (t : ℕ) (x : Entry T N) (es : List (Entry T N)) → eqb x.ticket t ≡ false → entry_of t es ≡ None
      → entry_of t (x ∷ es) ≡ None
  none_more t x es e h = simp e h

  -- the entry found by a ticket has it
  pub ticket_of : (t : ℕ) (e : Entry T N) (es : List (Entry T N)) → entry_of t es ≡ Some e → e.ticket ≡ t
  ticket_of t e [] h = absurd (let none : ⊥ = cc in none)
  ticket_of t e (x ∷ es) h = grind (arith, common_steps, ticket_of t e es)

  -- a round changes no ticket
  pub tickets_round : (notify : N → N) (front : T) (es : List (Entry T N)) → tickets (round notify front es) ≡ tickets es
  tickets_round notify front [] = refl
  tickets_round notify front (x ∷ es) = grind (arith, common_steps, tickets_round notify front es)

  -- a wake of all changes no ticket
  pub tickets_woken : (notify : N → N) (es : List (Entry T N)) → tickets (all_woken notify es) ≡ tickets es
  tickets_woken notify [] = refl
  tickets_woken notify (x ∷ es) = grind (arith, common_steps, tickets_woken notify es)

  -- a round fills none that isn't there
  pub fills_none_else : (t : ℕ) (es : List (Entry T N)) → entry_of t es ≡ None → is_ticket t (round_fills es) ≡ false
  fills_none_else t [] h = refl
  fills_none_else t (x ∷ es) h = grind (arith, common_steps, fills_none_else t es)

  -- what has no ticket of a list has none of the list without an entry
  pub none_without : (t u : ℕ) (es : List (Entry T N)) → entry_of t es ≡ None → entry_of t (without_ticket u es) ≡ None
  none_without t u [] h = refl
  none_without t u (x ∷ es) h = grind (arith, common_steps, none_without t u es)

  -- what has no ticket of a list has none of the list with one more of another ticket
  pub none_push : (t : ℕ) (es : List (Entry T N)) (x : Entry T N) → entry_of t es ≡ None → eqb x.ticket t ≡ false
      → entry_of t (es ++ x ∷ []) ≡ None
  none_push t [] x h e = none_more t x [] e refl
  none_push t (y ∷ es) x h e = grind (arith, common_steps, none_push t es x)

  -- if none had its ticket, the one more is found by it
  pub entry_last : (es : List (Entry T N)) (x : Entry T N) → entry_of x.ticket es ≡ None → entry_of x.ticket (es ++ x ∷ []) ≡ Some x
  entry_last [] x h = let same = eq-eqb x.ticket x.ticket refl in simp same
  entry_last (y ∷ es) x h = grind (arith, common_steps, entry_last es x)

module _ {T N M : Type 0} where
  -- lists of the same tickets have the same tickets missing
  pub none_same : (t : ℕ) (es : List (Entry T N)) (fs : List (Entry T M)) → tickets es ≡ tickets fs → entry_of t es ≡ None
      → entry_of t fs ≡ None
  none_same t [] [] e h = refl
  none_same t [] (y ∷ fs) e h = absurd (let none : ⊥ = cc in none)
  none_same t (x ∷ es) [] e h = absurd (let none : ⊥ = cc in none)
  none_same t (x ∷ es) (y ∷ fs) e h = grind (arith, common_steps, none_same t es fs)

module _ {T N : Type 0} where
  -- what holds if a queue is empty and if a round comes, holds of what a round for the queue leaves
  pub round_for_cases : (P : List (Entry T N) → Option ℕ → Type 0) (notify : N → N) (queue_ : List T) (es : List (Entry T N))
      → (queue_ ≡ [] → P es None)
      → ((front : T) (rest : List T) → queue_ ≡ front ∷ rest → P (round notify front es) (round_fills es))
      → P (round_for notify queue_ es) (round_for_fills queue_ es)
  round_for_cases P notify [] es none some = none refl
  round_for_cases P notify (front ∷ rest) es none some = some front rest refl

  -- with one more message there is a round
  pub round_for_push : (P : List (Entry T N) → Type 0) (notify : N → N) (queue_ : List T) (m : T) (es : List (Entry T N))
      → ((front : T) → P (round notify front es)) → P (round_for notify (queue_ ++ m ∷ []) es)
  round_for_push P notify [] m es some = some m
  round_for_push P notify (front ∷ rest) m es some = some front

  -- a receiver that asks keeps its place, or was woken and goes behind all others
  pub again_cases : (P : List (Entry T N) → Type 0) (t : ℕ) (es : List (Entry T N)) → P es
      → ((e : Entry T N) → entry_of t es ≡ Some e → is_woken e.mark ≡ true → P (without_ticket t es ++ record e { mark = Waiting } ∷ []))
      → P (again t es)
  again_cases P t es stays goes = by_found (entry_of t es) refl
    where
      by_found : (found : Option (Entry T N)) → entry_of t es ≡ found → P (again_as t found es)
      by_found None e = stays
      by_found (Some x) e = by_case (is_woken x.mark) refl
        where
          by_case : (b : Bool) → is_woken x.mark ≡ b
              → P (if b then without_ticket t es ++ record x { mark = Waiting } ∷ [] else es)
          by_case true woken = goes x e woken
          by_case false waits = stays

  -- a receiver that leaves leaves the others as they are, or passes a round on
  pub leave_cases : (P : List (Entry T N) → Option ℕ → Type 0) (notify : N → N) (t : ℕ) (queue_ : List T) (es : List (Entry T N))
      → ((passes_on (entry_of t es) ≡ true → queue_ ≡ []) → P (without_ticket t es) None)
      → (passes_on (entry_of t es) ≡ true → (front : T) (rest : List T) → queue_ ≡ front ∷ rest
      → P (round notify front (without_ticket t es)) (round_fills (without_ticket t es)))
      → P (after_leave notify t queue_ es) (leave_fills t queue_ es)
  leave_cases P notify t queue_ es stays passes = by_case (passes_on (entry_of t es)) refl
    where
      by_case : (b : Bool) → passes_on (entry_of t es) ≡ b
          → P (if b then round_for notify queue_ (without_ticket t es) else without_ticket t es)
          (if b then round_for_fills queue_ (without_ticket t es) else None)
      by_case true e = round_for_cases P notify queue_ (without_ticket t es) (λ none. stays (λ same. none)) (passes e)
      by_case false e = stays (λ same. absurd (let none : ⊥ = cc in none))
