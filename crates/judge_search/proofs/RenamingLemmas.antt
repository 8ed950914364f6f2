-- What is done to parked receives by their places is done to entries by their tickets: a wake round, one
-- that leaves, one that asks again. And what is done to entries is done to entries whose messages may be
-- there.
use Rattle.std.proofs.Common.{◌≡◌, ℕ, Bool, true, false, if◌then◌else◌, eqb, List, [], ◌∷◌, ◌++◌, map, Option, Some, None, refl, sym, ◌∙◌}
use Rattle.std.proofs.Common.{ap}
use Rattle.std.specs.Option.{option_map}
use Rattle.std.proofs.lemmas.List.{map_push}
use Rattle.flume_model.specs.declared.step.Kind.{Kind}
use Rattle.flume_model.specs.declared.step.Kind.TheVariants.{Block, Plain, Stream, Arm}
use Rattle.flume_model.specs.declared.entry.Entry.{Entry}
use Rattle.flume_model.specs.declared.entry.Mark.{Mark}
use Rattle.flume_model.specs.declared.entry.Mark.TheVariants.{Waiting, Woken, Filled}
use Rattle.flume_model.specs.Entries.{is_waiting, is_woken, round, round_fills, round_for, round_for_fills, all_woken, entry_of}
use Rattle.flume_model.specs.Entries.{without_ticket, again_as, again, passes_on, after_leave, leave_fills, some_wait}
use Rattle.flume_model.specs.Parked.{LogEntry, same_notice}
use Rattle.judge_search.specs.Mirrors.{some_mark, some_entry}

module _ {T : Type 0} where
  -- what a log has of a receive
  abbrev entry : ℕ → Kind → Mark T → LogEntry T
  entry t k m = record { ticket = t; kind = k; mark = m; notice = tt }

  some_waits : (m : Mark T) → is_waiting (some_mark m) ≡ is_waiting m
  some_waits Waiting = refl
  some_waits Woken = refl
  some_waits (Filled x) = refl

  some_woken : (m : Mark T) → is_woken (some_mark m) ≡ is_woken m
  some_woken Waiting = refl
  some_woken Woken = refl
  some_woken (Filled x) = refl

  -- a wake round
  pub some_round : (x : T) (es : List (LogEntry T)) → map some_entry (round same_notice x es) ≡ round same_notice (Some x)
      (map some_entry es)
  some_round x [] = refl
  some_round x (e ∷ es) = step e.mark e.kind e.ticket (some_round x es)
    where
      step : (m : Mark T) (k : Kind) (t : ℕ) → map some_entry (round same_notice x es) ≡ round same_notice (Some x) (map some_entry es)
          → map some_entry (round same_notice x (entry t k m ∷ es)) ≡ round same_notice (Some x) (map some_entry (entry t k m ∷ es))
      step Waiting Stream t rest = ap (λ l. some_entry (entry t Stream Woken) ∷ l) rest
      step Waiting Block t rest = refl
      step Waiting Plain t rest = refl
      step Waiting Arm t rest = refl
      step Woken k t rest = ap (λ l. some_entry (entry t k Woken) ∷ l) rest
      step (Filled y) k t rest = ap (λ l. some_entry (entry t k (Filled y)) ∷ l) rest

  -- the ticket that it fills
  pub some_fills : (es : List (LogEntry T)) → round_fills (map some_entry es) ≡ round_fills es
  some_fills [] = refl
  some_fills (e ∷ es) = simp (some_waits e.mark, some_fills es) refl

  pub some_round_for : (queue : List T) (es : List (LogEntry T))
      → map some_entry (round_for same_notice queue es) ≡ round_for same_notice (map Some queue) (map some_entry es)
  some_round_for [] es = refl
  some_round_for (x ∷ queue) es = some_round x es

  pub some_round_for_fills : (queue : List T) (es : List (LogEntry T))
      → round_for_fills (map Some queue) (map some_entry es) ≡ round_for_fills queue es
  some_round_for_fills [] es = refl
  some_round_for_fills (x ∷ queue) es = some_fills es

  -- whether any waits
  pub some_some_wait : (es : List (LogEntry T)) → some_wait (map some_entry es) ≡ some_wait es
  some_some_wait [] = refl
  some_some_wait (e ∷ es) = simp (some_waits e.mark, some_some_wait es) refl

  -- all who wait are woken
  pub some_all_woken : (es : List (LogEntry T)) → map some_entry (all_woken same_notice es) ≡ all_woken same_notice (map some_entry es)
  some_all_woken [] = refl
  some_all_woken (e ∷ es) = step e.mark e.kind e.ticket (some_all_woken es)
    where
      step : (m : Mark T) (k : Kind) (t : ℕ) → map some_entry (all_woken same_notice es) ≡ all_woken same_notice (map some_entry es)
          → map some_entry (all_woken same_notice (entry t k m ∷ es)) ≡ all_woken same_notice (map some_entry (entry t k m ∷ es))
      step Waiting k t rest = ap (λ l. some_entry (entry t k Woken) ∷ l) rest
      step Woken k t rest = ap (λ l. some_entry (entry t k Woken) ∷ l) rest
      step (Filled y) k t rest = ap (λ l. some_entry (entry t k (Filled y)) ∷ l) rest

  -- the entry with a ticket
  pub some_entry_of : (t : ℕ) (es : List (LogEntry T)) → entry_of t (map some_entry es) ≡ option_map some_entry (entry_of t es)
  some_entry_of t [] = refl
  some_entry_of t (e ∷ es) = by_case (eqb e.ticket t) refl (some_entry_of t es)
    where
      by_case : (b : Bool) → eqb e.ticket t ≡ b → entry_of t (map some_entry es) ≡ option_map some_entry (entry_of t es)
          → entry_of t (map some_entry (e ∷ es)) ≡ option_map some_entry (entry_of t (e ∷ es))
      by_case true same rest = simp same refl
      by_case false other rest = simp other rest

  -- the others
  pub some_without : (t : ℕ) (es : List (LogEntry T)) → map some_entry (without_ticket t es) ≡ without_ticket t (map some_entry es)
  some_without t [] = refl
  some_without t (e ∷ es) = by_case (eqb e.ticket t) refl (some_without t es)
    where
      by_case : (b : Bool) → eqb e.ticket t ≡ b → map some_entry (without_ticket t es) ≡ without_ticket t (map some_entry es)
          → map some_entry (without_ticket t (e ∷ es)) ≡ without_ticket t (map some_entry (e ∷ es))
      by_case true same rest = simp same refl
      by_case false other rest = simp other (ap (λ l. some_entry e ∷ l) rest)

  -- one waits again
  pub some_again : (t : ℕ) (es : List (LogEntry T)) → map some_entry (again t es) ≡ again t (map some_entry es)
  some_again t es = go (entry_of t es) ∙ ap (λ found. again_as t found (map some_entry es)) (sym (some_entry_of t es))
    where
      go : (found : Option (LogEntry T)) → map some_entry (again_as t found es) ≡ again_as t (option_map some_entry found)
          (map some_entry es)
      go None = refl
      go (Some e) = step e.mark e.kind e.ticket
        where
          step : (m : Mark T) (k : Kind) (u : ℕ) → map some_entry (again_as t (Some (entry u k m)) es)
              ≡ again_as t (Some (some_entry (entry u k m))) (map some_entry es)
          step Waiting k u = refl
          step Woken k u =
              map_push some_entry (without_ticket t es) (entry u k Waiting)
              ∙ ap (λ l. l ++ some_entry (entry u k Waiting) ∷ []) (some_without t es)
          step (Filled y) k u = refl

  -- whether a wake is passed on
  pub some_passes : (t : ℕ) (es : List (LogEntry T)) → passes_on (entry_of t (map some_entry es)) ≡ passes_on (entry_of t es)
  some_passes t es = ap passes_on (some_entry_of t es) ∙ go (entry_of t es)
    where
      go : (found : Option (LogEntry T)) → passes_on (option_map some_entry found) ≡ passes_on found
      go None = refl
      go (Some e) = some_woken e.mark

  -- one leaves
  pub some_after_leave : (t : ℕ) (queue : List T) (es : List (LogEntry T))
      → map some_entry (after_leave same_notice t queue es) ≡ after_leave same_notice t (map Some queue) (map some_entry es)
  some_after_leave t queue es = go (passes_on (entry_of t es)) refl
    where
      go : (b : Bool) → passes_on (entry_of t es) ≡ b
          → map some_entry (after_leave same_notice t queue es) ≡ after_leave same_notice t (map Some queue) (map some_entry es)
      go true e =
          rw (some_passes t es, e)
          (some_round_for queue (without_ticket t es) ∙ ap (round_for same_notice (map Some queue)) (some_without t es))
      go false e = rw (some_passes t es, e) (some_without t es)

  pub some_leave_fills : (t : ℕ) (queue : List T) (es : List (LogEntry T))
      → leave_fills t (map Some queue) (map some_entry es) ≡ leave_fills t queue es
  some_leave_fills t queue es = go (passes_on (entry_of t es)) refl
    where
      go : (b : Bool) → passes_on (entry_of t es) ≡ b → leave_fills t (map Some queue) (map some_entry es) ≡ leave_fills t queue es
      go true e =
          rw (some_passes t es, e)
          (ap (round_for_fills (map Some queue)) (sym (some_without t es)) ∙ some_round_for_fills queue (without_ticket t es))
      go false e = rw (some_passes t es, e) refl
