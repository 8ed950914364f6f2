-- Which entries are filled after a wake round, a leave and one more entry, and that their tickets stay apart.
use Rattle.flume_model.proofs.Common.{◌≡◌, ℕ, ◌<◌, ◌≤◌, Bool, false, ◌||◌, eqb, List, [], ◌∷◌, ◌++◌, Some, None, refl, arith, eq-eqb}
use Rattle.flume_model.proofs.Common.{or_left, is_filled, round, round_fills, all_woken, entry_of}
use Rattle.flume_model.proofs.Common.{without_ticket, is_ticket, LogEntry, DistinctTickets}
use Rattle.flume_model.proofs.Common.{Entry, Mark, Waiting, Woken, Filled, Kind, Block, Plain, Stream, Arm, common_steps}
use Rattle.flume_model.proofs.EntryListLemmas.{tickets, fills_none_else, none_without, none_push, none_same}

module _ {T N : Type 0} where
  -- each entry is filled exactly if this test says so of its ticket
  abbrev pub FilledBy : (ℕ → Bool) → List (Entry T N) → Type 0
  FilledBy was [] = Unit {0}
  FilledBy was (e ∷ es) = (was e.ticket ≡ is_filled e.mark) × FilledBy was es

  -- of an entry that is found
  pub filled_found : (was : ℕ → Bool) (t : ℕ) (e : Entry T N) (es : List (Entry T N)) → FilledBy was es → entry_of t es ≡ Some e
      → was t ≡ is_filled e.mark
  filled_found was t e [] all h = absurd (let none : ⊥ = cc in none)
  filled_found was t e (x ∷ es) all h = grind (arith, common_steps, filled_found was t e es)

  -- if one ticket more counts as filled, which no entry has, nothing changes
  pub filled_more : (was : ℕ → Bool) (t : ℕ) (es : List (Entry T N)) → entry_of t es ≡ None → FilledBy was es
      → FilledBy (λ u. eqb t u || was u) es
  filled_more was t [] h all = tt
  filled_more was t (x ∷ es) h all = grind (arith, common_steps, filled_more was t es)

  -- of all entries but one
  pub filled_without : (was : ℕ → Bool) (t : ℕ) (es : List (Entry T N)) → FilledBy was es → FilledBy was (without_ticket t es)
  filled_without was t [] all = tt
  filled_without was t (x ∷ es) all = grind (arith, common_steps, filled_without was t es)

  -- of one more entry
  pub filled_push : (was : ℕ → Bool) (es : List (Entry T N)) (x : Entry T N) → FilledBy was es → was x.ticket ≡ is_filled x.mark
      → FilledBy was (es ++ x ∷ [])
  filled_push was [] x all h = (h, tt)
  filled_push was (y ∷ es) x all h = (all.0, filled_push was es x all.1 h)

  -- if all that wait are woken
  pub filled_woken : (notify : N → N) (was : ℕ → Bool) (es : List (Entry T N)) → FilledBy was es → FilledBy was (all_woken notify es)
  filled_woken notify was [] all = tt
  filled_woken notify was (x ∷ es) all = grind (arith, common_steps, filled_woken notify was es)

module _ {T : Type 0} where
  -- a greater bound
  pub apart_above : (n k : ℕ) (es : List (LogEntry T)) → n ≤ k → DistinctTickets n es → DistinctTickets k es
  apart_above n k [] le h = tt
  apart_above n k (x ∷ es) le h = (let below = h.0 in omega arith, h.1, apart_above n k es le h.2)

  -- no entry has a ticket at or past the bound
  pub none_past : (n t : ℕ) (es : List (LogEntry T)) → n ≤ t → DistinctTickets n es → entry_of t es ≡ None
  none_past n t [] le h = refl
  none_past n t (x ∷ es) le h = grind (arith, common_steps, none_past n t es)

  -- the ticket of an entry that is found is below the bound
  pub found_below : (n t : ℕ) (e : LogEntry T) (es : List (LogEntry T)) → entry_of t es ≡ Some e → DistinctTickets n es → t < n
  found_below n t e [] f h = absurd (let none : ⊥ = cc in none)
  found_below n t e (x ∷ es) f h = grind (arith, common_steps, found_below n t e es)

  -- lists of the same tickets are apart alike
  pub apart_same : (n : ℕ) (es fs : List (LogEntry T)) → tickets es ≡ tickets fs → DistinctTickets n es → DistinctTickets n fs
  apart_same n [] [] e h = tt
  apart_same n [] (y ∷ fs) e h = absurd (let none : ⊥ = cc in none)
  apart_same n (x ∷ es) [] e h = absurd (let none : ⊥ = cc in none)
  apart_same n (x ∷ es) (y ∷ fs) e h = grind (arith, common_steps, apart_same n es fs, none_same)

  -- all entries but one are apart
  pub apart_without : (n t : ℕ) (es : List (LogEntry T)) → DistinctTickets n es → DistinctTickets n (without_ticket t es)
  apart_without n t [] h = tt
  apart_without n t (x ∷ es) h = grind (arith, common_steps, apart_without n t es, none_without)

  -- none of the others has the ticket of the one that left
  pub left_out : (n t : ℕ) (es : List (LogEntry T)) → DistinctTickets n es → entry_of t (without_ticket t es) ≡ None
  left_out n t [] h = refl
  left_out n t (x ∷ es) h = grind (arith, common_steps, left_out n t es)

  -- one more entry, whose ticket none has
  pub apart_push : (n : ℕ) (es : List (LogEntry T)) (x : LogEntry T) → DistinctTickets n es → entry_of x.ticket es ≡ None → x.ticket < n
      → DistinctTickets n (es ++ x ∷ [])
  apart_push n [] x h none below = (below, refl, tt)
  apart_push n (y ∷ es) x h none below = grind (arith, common_steps, apart_push n es x, none_push)

  -- after a round, the entry that it fills is filled too
  pub filled_round : (notify : Unit {0} → Unit {0}) (front : T) (n : ℕ) (was : ℕ → Bool) (es : List (LogEntry T)) → DistinctTickets n es
      → FilledBy was es → FilledBy (λ t. is_ticket t (round_fills es) || was t) (round notify front es)
  filled_round notify front n was [] apart all = tt
  filled_round notify front n was (x ∷ es) apart all =
      by_mark x.kind x.mark all.0 (filled_round notify front n was es apart.2 all.1)
    where
      none : is_ticket x.ticket (round_fills es) ≡ false
      none = fills_none_else x.ticket es apart.1

      by_mark : (k : Kind) (m : Mark T) → was x.ticket ≡ is_filled m
          → FilledBy (λ t. is_ticket t (round_fills es) || was t) (round notify front es)
          → FilledBy (λ t. is_ticket t (round_fills (record x { kind = k; mark = m } ∷ es)) || was t)
          (round notify front (record x { kind = k; mark = m } ∷ es))
      by_mark Block Waiting h rest = (or_left _ _ (eq-eqb x.ticket x.ticket refl), filled_more was x.ticket es apart.1 all.1)
      by_mark Plain Waiting h rest = (h, all.1)
      by_mark Stream Waiting h rest = (rw none h, rest)
      by_mark Arm Waiting h rest = (h, all.1)
      by_mark k Woken h rest = (rw none h, rest)
      by_mark k (Filled held) h rest = (rw none h, rest)
