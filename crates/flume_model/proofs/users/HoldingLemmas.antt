-- What wake rounds, leaves and one more entry do to the weight of the messages that entries hold.
use Rattle.flume_model.proofs.Common.{◌≡◌, ℕ, ◌+◌, List, [], ◌∷◌, ◌++◌, Option, Some, None, refl, arith, drop, sum_by, sum_by-cons}
use Rattle.flume_model.proofs.Common.{messages_in, held_messages, round, round_fills, round_for, all_woken, entry_of, without_ticket}
use Rattle.flume_model.proofs.Common.{fill_count, Entry, Mark}
use Rattle.flume_model.proofs.Common.{Filled, common_steps}

-- what fills a receiver weighs so much, if one is filled
abbrev fill_weighs : Option ℕ → ℕ → ℕ
fill_weighs None n = 0
fill_weighs (Some t) n = n

module _ {T : Type 0} where
  -- what a mark holds weighs so much
  abbrev pub mark_weighs : (T → ℕ) → Mark T → ℕ
  mark_weighs weight (Filled m) = weight m
  mark_weighs weight _ = 0

  -- the weight of what a mark and others hold
  held_mark : (weight : T → ℕ) (m : Mark T) (more : List T)
      → sum_by weight (messages_in m ++ more) ≡ mark_weighs weight m + sum_by weight more
  held_mark weight m more = grind (arith, common_steps, sum_by-cons)

module _ {T N : Type 0} where
  -- the weight of what entries hold, by the first one and the others
  pub held_cons : (weight : T → ℕ) (x : Entry T N) (es : List (Entry T N))
      → sum_by weight (held_messages (x ∷ es)) ≡ mark_weighs weight x.mark + sum_by weight (held_messages es)
  held_cons weight x es = held_mark weight x.mark (held_messages es)

  -- a round adds what it fills with
  held_round : (weight : T → ℕ) (notify : N → N) (front : T) (es : List (Entry T N))
      → sum_by weight (held_messages (round notify front es)) ≡ fill_weighs (round_fills es) (weight front) + sum_by weight
      (held_messages es)
  held_round weight notify front [] = omega arith
  held_round weight notify front (x ∷ es) = grind (arith, common_steps, held_round weight notify front es, sum_by-cons)

  -- an entry that leaves takes along what it holds
  pub held_without : (weight : T → ℕ) (t : ℕ) (e : Entry T N) (es : List (Entry T N)) → entry_of t es ≡ Some e
      → sum_by weight (held_messages es) ≡ mark_weighs weight e.mark + sum_by weight (held_messages (without_ticket t es))
  held_without weight t e [] h = absurd (let none : ⊥ = cc in none)
  held_without weight t e (x ∷ es) h = grind (arith, common_steps, held_without weight t e es, held_cons)

  -- one more entry adds what it holds
  pub held_push : (weight : T → ℕ) (es : List (Entry T N)) (x : Entry T N)
      → sum_by weight (held_messages (es ++ x ∷ [])) ≡ mark_weighs weight x.mark + sum_by weight (held_messages es)
  held_push weight [] x = held_cons weight x []
  held_push weight (y ∷ es) x =
      let more = held_push weight es x in
      let before = held_cons weight y es in
      let after = held_cons weight y (es ++ x ∷ []) in
      omega arith

  -- a wake of all leaves what they hold
  pub held_woken : (notify : N → N) (es : List (Entry T N)) → held_messages (all_woken notify es) ≡ held_messages es
  held_woken notify [] = refl
  held_woken notify (x ∷ es) = grind (arith, common_steps, held_woken notify es)

  -- what a round fills with leaves the front of the messages
  pub round_front : (weight : T → ℕ) (notify : N → N) (front : T) (rest : List T) (es : List (Entry T N))
      → sum_by weight (drop (fill_count (round_fills es)) (front ∷ rest)) + sum_by weight (held_messages (round notify front es))
      ≡ sum_by weight (front ∷ rest) + sum_by weight (held_messages es)
  round_front weight notify front rest es = grind (arith, common_steps, held_round weight notify front es, sum_by-cons)

  -- what a round hands to a receiver, if one more message was queued, it takes from the queue
  pub queued_weighs : (weight : T → ℕ) (notify : N → N) (queue_ : List T) (m : T) (es : List (Entry T N))
      → sum_by weight (drop (fill_count (round_fills es)) (queue_ ++ m ∷ [])) + sum_by weight
      (held_messages (round_for notify (queue_ ++ m ∷ []) es))
      ≡ sum_by weight (queue_ ++ m ∷ []) + sum_by weight (held_messages es)
  queued_weighs weight notify [] m es = round_front weight notify m [] es
  queued_weighs weight notify (front ∷ rest) m es = round_front weight notify front (rest ++ m ∷ []) es
