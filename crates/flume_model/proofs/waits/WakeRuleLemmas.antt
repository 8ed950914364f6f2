-- A wake round follows its rule, and nothing else does.
use Rattle.flume_model.proofs.Common.{◌≡◌, ◌≢◌, inl, inr, ℕ, true, if◌then◌else◌, List, [], ◌∷◌, ◌++◌, Option, Some, None, refl, sym, ◌∙◌}
use Rattle.flume_model.proofs.Common.{ap, append-nil, All-nil, All-cons, All-head, All-tail, All, is_waiting, marked, round, round_fills}
use Rattle.flume_model.proofs.Common.{all_woken, is_block, IsPassed, IsWakeRound, Entry, Mark, Waiting, Woken, Filled, Kind, Block, Plain}
use Rattle.flume_model.proofs.Common.{Stream, Arm, arith, common_steps}

module _ {T N : Type 0} where
  -- the entry with this kind and mark
  abbrev stands_as : Entry T N → Kind → Mark T → Entry T N
  stands_as e k mark = record e { kind = k; mark = mark }

  -- a round that goes past an entry follows its rule, if the round over those behind it does
  goes_past : (notify : N → N) (front : T) (e : Entry T N) (old new : List (Entry T N)) (filled : Option ℕ)
      → IsPassed e → IsWakeRound notify front old new filled
      → IsWakeRound notify front (e ∷ old) ((if is_waiting e.mark then marked notify Woken e else e) ∷ new) filled
  goes_past notify front e old new filled stream (inl one) = inl (record {
    before = e ∷ one.before;
    first = one.first;
    later = one.later;
    old_are = ap (λ l. e ∷ l) one.old_are;
    passed = All-cons IsPassed e one.before stream one.passed;
    waits = one.waits;
    no_stream = one.no_stream;
    new_are = ap (λ l. (if is_waiting e.mark then marked notify Woken e else e) ∷ l) one.new_are;
    fills = one.fills;
  })
  goes_past notify front e old new filled stream (inr none) = inr (record {
    passed = All-cons IsPassed e old stream none.passed;
    new_are = ap (λ l. (if is_waiting e.mark then marked notify Woken e else e) ∷ l) none.new_are;
    fills = none.fills;
  })

  -- a round that ends at its first entry follows its rule
  ends : (notify : N → N) (front : T) (e : Entry T N) (es : List (Entry T N)) → is_waiting e.mark ≡ true → e.kind ≢ Stream
      → IsWakeRound notify front (e ∷ es) (marked notify (if is_block e.kind then Filled front else Woken) e ∷ es)
      (if is_block e.kind then Some e.ticket else None)
  ends notify front e es waits other = inl (record {
    before = [];
    first = e;
    later = es;
    old_are = refl;
    passed = All-nil IsPassed;
    waits = waits;
    no_stream = other;
    new_are = refl;
    fills = refl;
  })

  -- a wake round follows its rule
  pub is_wake_round : (notify : N → N) (front : T) (es : List (Entry T N))
      → IsWakeRound notify front es (round notify front es) (round_fills es)
  is_wake_round notify front [] = inr (record { passed = All-nil IsPassed; new_are = refl; fills = refl })
  is_wake_round notify front (e ∷ es) = by_mark e.kind e.mark (is_wake_round notify front es)
    where
      by_mark : (k : Kind) (mark : Mark T) → IsWakeRound notify front es (round notify front es) (round_fills es)
          → IsWakeRound notify front (stands_as e k mark ∷ es) (round notify front (stands_as e k mark ∷ es))
          (round_fills (stands_as e k mark ∷ es))
      by_mark Block Waiting rest = ends notify front (stands_as e Block Waiting) es refl (λ is. (let none : ⊥ = cc in none))
      by_mark Plain Waiting rest = ends notify front (stands_as e Plain Waiting) es refl (λ is. (let none : ⊥ = cc in none))
      by_mark Stream Waiting rest = goes_past notify front (stands_as e Stream Waiting) es _ _ (λ is. refl) rest
      by_mark Arm Waiting rest = ends notify front (stands_as e Arm Waiting) es refl (λ is. (let none : ⊥ = cc in none))
      by_mark k Woken rest =
          goes_past notify front (stands_as e k Woken) es _ _ (λ is. absurd (let none : ⊥ = cc in none)) rest
      by_mark k (Filled held) rest =
          goes_past notify front (stands_as e k (Filled held)) es _ _ (λ is. absurd (let none : ⊥ = cc in none)) rest

  -- a round wakes those of these that wait, all streams, and goes on behind them
  round_past : (notify : N → N) (front : T) (before rest : List (Entry T N)) → All IsPassed before
      → (round notify front (before ++ rest) ≡ all_woken notify before ++ round notify front rest)
      × (round_fills (before ++ rest) ≡ round_fills rest)
  round_past notify front [] rest passed = (refl, refl)
  round_past notify front (e ∷ before) rest passed = by_mark e.kind e.mark (All-head IsPassed e before passed)
      (round_past notify front before rest (All-tail IsPassed e before passed))
    where
      Passes : List (Entry T N) → Type 0
      Passes es =
          (round notify front (es ++ rest) ≡ all_woken notify es ++ round notify front rest) × (round_fills (es ++ rest) ≡ round_fills rest)

      by_mark : (k : Kind) (mark : Mark T) → (is_waiting mark ≡ true → k ≡ Stream) → Passes before → Passes (stands_as e k mark ∷ before)
      by_mark Stream Waiting stream on = (ap (λ l. marked notify Woken (stands_as e Stream Waiting) ∷ l) on.0, on.1)
      by_mark Block Waiting stream on = (let is = stream refl in absurd (let none : ⊥ = cc in none))
      by_mark Plain Waiting stream on = (let is = stream refl in absurd (let none : ⊥ = cc in none))
      by_mark Arm Waiting stream on = (let is = stream refl in absurd (let none : ⊥ = cc in none))
      by_mark k Woken stream on = (ap (λ l. stands_as e k Woken ∷ l) on.0, on.1)
      by_mark k (Filled held) stream on = (ap (λ l. stands_as e k (Filled held) ∷ l) on.0, on.1)

  -- a round ends at a first entry that waits and is no stream
  at_first : (notify : N → N) (front : T) (e : Entry T N) (later : List (Entry T N)) → is_waiting e.mark ≡ true → e.kind ≢ Stream
      → (round notify front (e ∷ later) ≡ marked notify (if is_block e.kind then Filled front else Woken) e ∷ later)
      × (round_fills (e ∷ later) ≡ (if is_block e.kind then Some e.ticket else None))
  at_first notify front e later waits other = grind (arith, common_steps)

  -- what follows the rule is the wake round
  pub only_wake_round : (notify : N → N) (front : T) (old new : List (Entry T N)) (filled : Option ℕ)
      → IsWakeRound notify front old new filled → (new ≡ round notify front old) × (filled ≡ round_fills old)
  only_wake_round notify front old new filled (inl one) =
      let past = round_past notify front one.before (one.first ∷ one.later) one.passed in
      let here = at_first notify front one.first one.later one.waits one.no_stream in (
        one.new_are ∙ sym (ap (round notify front) one.old_are ∙ past.0 ∙ ap (λ l. all_woken notify one.before ++ l) here.0),
        one.fills ∙ sym (ap round_fills one.old_are ∙ past.1 ∙ here.1),
      )
  only_wake_round notify front old new filled (inr none) =
      let past = round_past notify front old [] none.passed in
      let all = append-nil old in (
        none.new_are ∙ sym (ap (round notify front) (sym all) ∙ past.0 ∙ append-nil (all_woken notify old)),
        none.fills ∙ sym (ap round_fills (sym all) ∙ past.1),
      )
