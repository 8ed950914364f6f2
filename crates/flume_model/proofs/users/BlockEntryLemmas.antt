-- Lists of entries that all block: what changes leave of them, and what wake rounds do to them.
use Rattle.flume_model.proofs.Common.{◌≡◌, ℕ, Bool, true, false, if◌then◌else◌, List, [], ◌∷◌, ◌++◌, Some, refl, arith, some_wait}
use Rattle.flume_model.proofs.Common.{woken_count, round, round_for, round_fills, all_woken, entry_of, without_ticket, fill_count, Change}
use Rattle.flume_model.proofs.Common.{Queues}
use Rattle.flume_model.proofs.Common.{Takes, Parks, Asks, Collects, Leaves, SenderLeaves, ReceiverLeaves, LogEntry, same_notice, new_entry}
use Rattle.flume_model.proofs.Common.{entries_after, is_block, block_woken, Entry, common_steps}
use Rattle.flume_model.proofs.EntryListLemmas.{again_cases, leave_cases}

module _ {T N : Type 0} where
  -- all of these entries block
  abbrev pub AllBlock : List (Entry T N) → Type 0
  AllBlock [] = Unit {0}
  AllBlock (e ∷ es) = (is_block e.kind ≡ true) × AllBlock es

  -- all entries block after a wake round, if they did before
  block_round : (notify : N → N) (front : T) (es : List (Entry T N)) → AllBlock es → AllBlock (round notify front es)
  block_round notify front [] h = tt
  block_round notify front (x ∷ es) h = grind (arith, common_steps, block_round notify front es)

  -- after a round for a queue
  block_round_for : (notify : N → N) (queue_ : List T) (es : List (Entry T N)) → AllBlock es → AllBlock (round_for notify queue_ es)
  block_round_for notify queue_ es h = grind (arith, common_steps, block_round notify)

  -- after one left
  block_without : (t : ℕ) (es : List (Entry T N)) → AllBlock es → AllBlock (without_ticket t es)
  block_without t [] h = tt
  block_without t (x ∷ es) h = grind (arith, common_steps, block_without t es)

  -- with one more that blocks
  block_push : (es : List (Entry T N)) (x : Entry T N) → AllBlock es → is_block x.kind ≡ true → AllBlock (es ++ x ∷ [])
  block_push [] x h e = (e, tt)
  block_push (y ∷ es) x h e = (h.0, block_push es x h.1 e)

  -- once all are woken
  block_all_woken : (notify : N → N) (es : List (Entry T N)) → AllBlock es → AllBlock (all_woken notify es)
  block_all_woken notify [] h = tt
  block_all_woken notify (x ∷ es) h = grind (arith, common_steps, block_all_woken notify es)

  -- the one with a ticket blocks
  block_found : (t : ℕ) (e : Entry T N) (es : List (Entry T N)) → AllBlock es → entry_of t es ≡ Some e → is_block e.kind ≡ true
  block_found t e [] h found = absurd (let none : ⊥ = cc in none)
  block_found t e (x ∷ es) h found = grind (arith, common_steps, block_found t e es)

  -- if one of them waits, a round fills one
  pub round_fills_one : (es : List (Entry T N)) → AllBlock es → some_wait es ≡ true → fill_count (round_fills es) ≡ 1
  round_fills_one [] h some = absurd (let none : ⊥ = cc in none)
  round_fills_one (x ∷ es) h some = grind (arith, common_steps, round_fills_one es)

  -- if none that blocks is woken, none does
  pub none_woken : (es : List (Entry T N)) → AllBlock es → block_woken es ≡ false → woken_count es ≡ 0
  none_woken [] h none = refl
  none_woken (x ∷ es) h none = grind (arith, common_steps, none_woken es)

module _ {T : Type 0} where
  -- whether a receiver that parks by a change blocks
  abbrev pub parks_block : Change T → Bool
  parks_block (Parks t kind) = is_block kind
  parks_block _ = true

  -- if an end leaves
  block_closes : (closes : Bool) (es : List (LogEntry T)) → AllBlock es → AllBlock (if closes then all_woken same_notice es else es)
  block_closes closes es h = grind (arith, common_steps, block_all_woken same_notice es)

  -- after a change that parks none of another kind all block, if all did
  pub block_after : (queue_ : List T) (closes : Bool) (es : List (LogEntry T)) (done : Change T) → AllBlock es → parks_block done ≡ true
      → AllBlock (entries_after queue_ closes es done)
  block_after queue_ closes es (Queues m filled) h e = block_round_for same_notice (queue_ ++ m ∷ []) es h
  block_after queue_ closes es (Takes m (Some t)) h e = block_without t es h
  block_after queue_ closes es (Parks t kind) h e = block_push es (new_entry t kind) h e
  block_after queue_ closes es (Asks t) h e =
      again_cases AllBlock t es h (λ x found woken. block_push (without_ticket t es) _ (block_without t es h) (block_found t x es h found))
  block_after queue_ closes es (Collects t) h e = block_without t es h
  block_after queue_ closes es (Leaves t filled) h e =
      leave_cases (λ after f. AllBlock after) same_notice t queue_ es (λ none. block_without t es h)
      (λ passes front rest same. block_round same_notice front (without_ticket t es) (block_without t es h))
  block_after queue_ closes es SenderLeaves h e = block_closes closes es h
  block_after queue_ closes es ReceiverLeaves h e = block_closes closes es h
  block_after queue_ closes es _ h e = h
