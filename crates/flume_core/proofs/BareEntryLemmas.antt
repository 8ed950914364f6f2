-- The entries of a state as a log knows them: what is done to the ones is done to the others.
use Rattle.std.proofs.Common.{◌≡◌, ℕ, Bool, true, false, eqb, List, [], ◌∷◌, ◌++◌, map, Option, Some, None, refl, sym, ◌∙◌, ap, ap₂}
use Rattle.std.specs.Option.{option_map}
use Rattle.std.proofs.lemmas.List.{map_push}
use Rattle.flume_model.specs.declared.step.Kind.{Kind}
use Rattle.flume_model.specs.declared.step.Kind.TheVariants.{Block, Plain, Stream, Arm}
use Rattle.flume_model.specs.declared.entry.Entry.{Entry}
use Rattle.flume_model.specs.declared.entry.Mark.TheVariants.{Waiting}
use Rattle.flume_state.specs.declared.notice.Notice.{Notice}
use Rattle.flume_model.specs.Entries.{is_waiting, is_woken, some_wait, waiting_count, round, round_fills, round_for, round_for_fills}
use Rattle.flume_model.specs.Entries.{all_woken, entry_of, without_ticket, again_as, again, passes_on, after_leave, leave_fills}
use Rattle.flume_model.specs.Parked.{same_notice}
use Rattle.flume_state.specs.Receivers.{with_receiver_notice}
use Rattle.flume_state.specs.State.{bare}

module _ {T N : Type 0} where
  -- the receivers that wait
  pub bare_some_wait : (es : List (Entry T N)) → some_wait (map bare es) ≡ some_wait es
  bare_some_wait [] = refl
  bare_some_wait (e ∷ es) = simp (bare_some_wait es) refl

  -- how many wait
  pub bare_waiting : (es : List (Entry T N)) → waiting_count (map bare es) ≡ waiting_count es
  bare_waiting [] = refl
  bare_waiting (e ∷ es) = simp (bare_waiting es) refl

  -- the entry with a ticket
  pub bare_entry : (t : ℕ) (es : List (Entry T N)) → entry_of t (map bare es) ≡ option_map bare (entry_of t es)
  bare_entry t [] = refl
  bare_entry t (e ∷ es) = by_case (eqb e.ticket t) refl (bare_entry t es)
    where
      by_case : (b : Bool) → eqb e.ticket t ≡ b → entry_of t (map bare es) ≡ option_map bare (entry_of t es)
          → entry_of t (map bare (e ∷ es)) ≡ option_map bare (entry_of t (e ∷ es))
      by_case true same rest = simp same refl
      by_case false other rest = simp other rest

  -- the others
  pub bare_without : (t : ℕ) (es : List (Entry T N)) → map bare (without_ticket t es) ≡ without_ticket t (map bare es)
  bare_without t [] = refl
  bare_without t (e ∷ es) = by_case (eqb e.ticket t) refl (bare_without t es)
    where
      by_case : (b : Bool) → eqb e.ticket t ≡ b → map bare (without_ticket t es) ≡ without_ticket t (map bare es)
          → map bare (without_ticket t (e ∷ es)) ≡ without_ticket t (map bare (e ∷ es))
      by_case true same rest = simp same refl
      by_case false other rest = simp other (ap (λ l. bare e ∷ l) rest)

  -- a wake round
  pub bare_round : (tell : N → N) (m : T) (es : List (Entry T N)) → map bare (round tell m es) ≡ round same_notice m (map bare es)
  bare_round tell m [] = refl
  bare_round tell m (e ∷ es) = by_case (is_waiting e.mark) refl e.kind refl (bare_round tell m es)
    where
      by_case : (b : Bool) → is_waiting e.mark ≡ b → (k : Kind) → e.kind ≡ k
          → map bare (round tell m es) ≡ round same_notice m (map bare es)
          → map bare (round tell m (e ∷ es)) ≡ round same_notice m (map bare (e ∷ es))
      by_case true waits Stream k rest = simp (waits, k) (ap₂ (λ a l. a ∷ l) refl rest)
      by_case true waits Plain k rest = simp (waits, k) refl
      by_case true waits Arm k rest = simp (waits, k) refl
      by_case true waits Block k rest = simp (waits, k) refl
      by_case false waits k kind rest = simp waits (ap (λ l. bare e ∷ l) rest)

  -- the ticket that it fills
  pub bare_fills : (es : List (Entry T N)) → round_fills (map bare es) ≡ round_fills es
  bare_fills [] = refl
  bare_fills (e ∷ es) = simp (bare_fills es) refl

  -- a round if there is a queue
  pub bare_round_for : (tell : N → N) (queue : List T) (es : List (Entry T N))
      → map bare (round_for tell queue es) ≡ round_for same_notice queue (map bare es)
  bare_round_for tell [] es = refl
  bare_round_for tell (m ∷ queue) es = bare_round tell m es

  pub bare_round_for_fills : (queue : List T) (es : List (Entry T N)) → round_for_fills queue (map bare es) ≡ round_for_fills queue es
  bare_round_for_fills [] es = refl
  bare_round_for_fills (m ∷ queue) es = bare_fills es

  -- all waiting receivers are woken
  pub bare_all_woken : (tell : N → N) (es : List (Entry T N)) → map bare (all_woken tell es) ≡ all_woken same_notice (map bare es)
  bare_all_woken tell [] = refl
  bare_all_woken tell (e ∷ es) = by_case (is_waiting e.mark) refl (bare_all_woken tell es)
    where
      by_case : (b : Bool) → is_waiting e.mark ≡ b → map bare (all_woken tell es) ≡ all_woken same_notice (map bare es)
          → map bare (all_woken tell (e ∷ es)) ≡ all_woken same_notice (map bare (e ∷ es))
      by_case true waits rest = simp waits (ap₂ (λ a l. a ∷ l) refl rest)
      by_case false waits rest = simp waits (ap (λ l. bare e ∷ l) rest)

  -- one waits again
  pub bare_again : (t : ℕ) (es : List (Entry T N)) → map bare (again t es) ≡ again t (map bare es)
  bare_again t es = go (entry_of t es) ∙ ap (λ found. again_as t found (map bare es)) (sym (bare_entry t es))
    where
      go : (found : Option (Entry T N)) → map bare (again_as t found es) ≡ again_as t (option_map bare found) (map bare es)
      go None = refl
      go (Some e) = by_case (is_woken e.mark) refl
        where
          by_case : (b : Bool) → is_woken e.mark ≡ b → map bare (again_as t (Some e) es) ≡ again_as t (Some (bare e)) (map bare es)
          by_case true woken =
              simp woken (map_push bare (without_ticket t es) (record e { mark = Waiting })
              ∙ ap (λ l. l ++ bare (record e { mark = Waiting }) ∷ []) (bare_without t es))
          by_case false woken = simp woken refl

  -- whether a wake is passed on
  pub bare_passes : (t : ℕ) (es : List (Entry T N)) → passes_on (entry_of t (map bare es)) ≡ passes_on (entry_of t es)
  bare_passes t es = ap passes_on (bare_entry t es) ∙ go (entry_of t es)
    where
      go : (found : Option (Entry T N)) → passes_on (option_map bare found) ≡ passes_on found
      go None = refl
      go (Some e) = refl

  -- one leaves
  pub bare_after_leave : (tell : N → N) (t : ℕ) (queue : List T) (es : List (Entry T N))
      → map bare (after_leave tell t queue es) ≡ after_leave same_notice t queue (map bare es)
  bare_after_leave tell t queue es = go (passes_on (entry_of t es)) refl
    where
      go : (b : Bool) → passes_on (entry_of t es) ≡ b → map bare (after_leave tell t queue es) ≡ after_leave same_notice t queue
          (map bare es)
      go true e =
          rw (bare_passes t es, e) (bare_round_for tell queue (without_ticket t es) ∙ ap (round_for same_notice queue) (bare_without t es))
      go false e = rw (bare_passes t es, e) (bare_without t es)

  pub bare_leave_fills : (t : ℕ) (queue : List T) (es : List (Entry T N)) → leave_fills t queue (map bare es) ≡ leave_fills t queue es
  bare_leave_fills t queue es = go (passes_on (entry_of t es)) refl
    where
      go : (b : Bool) → passes_on (entry_of t es) ≡ b → leave_fills t queue (map bare es) ≡ leave_fills t queue es
      go true e =
          rw (bare_passes t es, e) (ap (round_for_fills queue) (sym (bare_without t es)) ∙ bare_round_for_fills queue (without_ticket t es))
      go false e = rw (bare_passes t es, e) refl

module _ {T S : Type 0} where
  -- another notice
  pub bare_noticed : (f : Notice S → Notice S) (t : ℕ) (es : List (Entry T (Notice S)))
      → map bare (with_receiver_notice f t es) ≡ map bare es
  bare_noticed f t [] = refl
  bare_noticed f t (e ∷ es) = by_case (eqb e.ticket t) refl (bare_noticed f t es)
    where
      by_case : (b : Bool) → eqb e.ticket t ≡ b → map bare (with_receiver_notice f t es) ≡ map bare es
          → map bare (with_receiver_notice f t (e ∷ es)) ≡ map bare (e ∷ es)
      by_case true same rest = simp same refl
      by_case false other rest = simp other (ap (λ l. bare e ∷ l) rest)
