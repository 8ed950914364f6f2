-- Which tickets are due of the parked receivers: wake rounds, closing, and what becomes of one of
-- them.
use Rattle.std.proofs.Common.{◌≡◌, ℕ, Bool, true, false, eqb, eqb-true, List, [], ◌∷◌, ◌++◌, cond, Some, None, refl, sym, ◌∙◌, ap}
use Rattle.flume_model.specs.declared.step.Kind.{Kind}
use Rattle.flume_model.specs.declared.step.Kind.TheVariants.{Block, Plain, Stream, Arm}
use Rattle.flume_model.specs.declared.entry.Entry.{Entry}
use Rattle.flume_model.specs.declared.entry.Mark.{Mark}
use Rattle.flume_model.specs.declared.entry.Mark.TheVariants.{Waiting, Woken, Filled}
use Rattle.flume_model.specs.Entries.{all_woken, entry_of, round, round_for, without_ticket, again}
use Rattle.flume_state.specs.declared.notice.Notice.{Notice}
use Rattle.flume_state.specs.Notices.{due_now}
use Rattle.flume_state.specs.Receivers.{EntryList, with_receiver_notice}
use Rattle.flume_state.specs.Due.{ReceiverDue, receiver_due_in}
use Rattle.flume_model.proofs.EntryListLemmas.{again_cases, entry_last, ticket_of}
use Rattle.flume_core.proofs.dues.OneTicketLemmas.{receiver_kept, receiver_woken}

module _ {T N : Type 0} where
  -- another receiver that leaves
  pub entry_without : (t u : ℕ) (es : List (Entry T N)) → eqb u t ≡ false → entry_of t (without_ticket u es) ≡ entry_of t es
  entry_without t u [] other = refl
  entry_without t u (e ∷ es) other = by_case (eqb e.ticket u) refl (entry_without t u es other)
    where
      by_case : (b : Bool) → eqb e.ticket u ≡ b → entry_of t (without_ticket u es) ≡ entry_of t es
          → entry_of t (without_ticket u (e ∷ es)) ≡ entry_of t (e ∷ es)
      by_case true same rest =
          let not_it : eqb e.ticket t ≡ false = rw (eqb-true e.ticket u same) other in
          simp (same, not_it) refl
      by_case false differ rest = simp differ (ap (cond (eqb e.ticket t) (Some e)) rest)

  -- another receiver that is behind all others
  pub entry_push : (t : ℕ) (x : Entry T N) (es : List (Entry T N)) → eqb x.ticket t ≡ false → entry_of t (es ++ x ∷ []) ≡ entry_of t es
  entry_push t x [] other = simp other refl
  entry_push t x (e ∷ es) other = ap (cond (eqb e.ticket t) (Some e)) (entry_push t x es other)

  -- another receiver that waits again
  pub entry_again : (t u : ℕ) (es : List (Entry T N)) → eqb u t ≡ false → entry_of t (again u es) ≡ entry_of t es
  entry_again t u es other =
      again_cases (λ l. entry_of t l ≡ entry_of t es) u es refl
      (λ e found woken.
      let not_it : eqb e.ticket t ≡ false = rw (ticket_of u e es found) other in
      entry_push t (record e { mark = Waiting }) (without_ticket u es) not_it ∙ entry_without t u es other)

module _ {T S : Type 0} where
  -- another receiver's notice is changed
  pub entry_noticed : (f : Notice S → Notice S) (t u : ℕ) (es : EntryList T S) → eqb u t ≡ false
      → entry_of t (with_receiver_notice f u es) ≡ entry_of t es
  entry_noticed f t u [] other = refl
  entry_noticed f t u (e ∷ es) other = by_case (eqb e.ticket u) refl (entry_noticed f t u es other)
    where
      by_case : (b : Bool) → eqb e.ticket u ≡ b → entry_of t (with_receiver_notice f u es) ≡ entry_of t es
          → entry_of t (with_receiver_notice f u (e ∷ es)) ≡ entry_of t (e ∷ es)
      by_case true same rest =
          let not_it : eqb e.ticket t ≡ false = rw (eqb-true e.ticket u same) other in
          simp (same, not_it) refl
      by_case false differ rest = simp differ (ap (cond (eqb e.ticket t) (Some e)) rest)

  -- leaving a receiver out also leaves out how its notice was changed
  pub without_noticed : (f : Notice S → Notice S) (t : ℕ) (es : EntryList T S)
      → without_ticket t (with_receiver_notice f t es) ≡ without_ticket t es
  without_noticed f t [] = refl
  without_noticed f t (e ∷ es) = by_case (eqb e.ticket t) refl (without_noticed f t es)
    where
      by_case : (b : Bool) → eqb e.ticket t ≡ b → without_ticket t (with_receiver_notice f t es) ≡ without_ticket t es
          → without_ticket t (with_receiver_notice f t (e ∷ es)) ≡ without_ticket t (e ∷ es)
      by_case true same rest = simp same refl
      by_case false differ rest = simp differ (ap (λ l. e ∷ l) rest)

  -- one whose notice was named isn't due
  pub noticed_idle : (f : Notice S → Notice S) → ((n : Notice S) → (f n).due ≡ false) → (t : ℕ) (es : EntryList T S)
      → receiver_due_in (entry_of t (with_receiver_notice f t es)) ≡ false
  noticed_idle f not_due t [] = refl
  noticed_idle f not_due t (e ∷ es) = by_case (eqb e.ticket t) refl (noticed_idle f not_due t es)
    where
      by_case : (b : Bool) → eqb e.ticket t ≡ b → receiver_due_in (entry_of t (with_receiver_notice f t es)) ≡ false
          → receiver_due_in (entry_of t (with_receiver_notice f t (e ∷ es))) ≡ false
      by_case true same rest = simp same (not_due e.notice)
      by_case false differ rest = simp differ rest

  -- one that isn't due isn't due either if it waits again
  pub again_idle : (t : ℕ) (es : EntryList T S) → entry_of t (without_ticket t es) ≡ None → receiver_due_in (entry_of t es) ≡ false
      → receiver_due_in (entry_of t (again t es)) ≡ false
  again_idle t es alone idle =
      again_cases (λ l. receiver_due_in (entry_of t l) ≡ false) t es idle
      (λ e found woken.
      let same : e.ticket ≡ t = ticket_of t e es found in
      let x = record e { mark = Waiting } in
      let last : entry_of t (without_ticket t es ++ x ∷ []) ≡ Some x =
      ap (λ k. entry_of k (without_ticket t es ++ x ∷ [])) (sym same)
      ∙ entry_last (without_ticket t es) x (ap (λ k. entry_of k (without_ticket t es)) same ∙ alone) in
      ap receiver_due_in last ∙ sym (ap receiver_due_in found) ∙ idle)

  -- which tickets are due after a wake round
  pub round_due : (t : ℕ) (front : T) (es : EntryList T S) → ReceiverDue false (entry_of t es) (entry_of t (round due_now front es))
  round_due t front [] = refl
  round_due t front (e ∷ es) = by_mark e.kind e.mark (eqb e.ticket t) refl (round_due t front es)
    where
      by_mark : (k : Kind) (m : Mark T) (b : Bool) → eqb e.ticket t ≡ b
          → ReceiverDue false (entry_of t es) (entry_of t (round due_now front es))
          → (let x = record e { kind = k; mark = m } in
          ReceiverDue false (entry_of t (x ∷ es)) (entry_of t (round due_now front (x ∷ es))))
      by_mark Block Waiting true same rest = simp same (receiver_woken (record e { mark = Waiting }) (Filled front) refl refl)
      by_mark Plain Waiting true same rest = simp same (receiver_woken (record e { mark = Waiting }) Woken refl refl)
      by_mark Stream Waiting true same rest = simp same (receiver_woken (record e { mark = Waiting }) Woken refl refl)
      by_mark Arm Waiting true same rest = simp same (receiver_woken (record e { mark = Waiting }) Woken refl refl)
      by_mark Block Waiting false other rest = simp other (receiver_kept (entry_of t es))
      by_mark Plain Waiting false other rest = simp other (receiver_kept (entry_of t es))
      by_mark Stream Waiting false other rest = simp other rest
      by_mark Arm Waiting false other rest = simp other (receiver_kept (entry_of t es))
      by_mark k Woken true same rest = simp same (receiver_kept (Some (record e { mark = Woken })))
      by_mark k (Filled m) true same rest = simp same (receiver_kept (Some (record e { mark = Filled m })))
      by_mark k Woken false other rest = simp other rest
      by_mark k (Filled m) false other rest = simp other rest

  -- which tickets are due after a wake round that comes only if something is queued
  pub round_for_due : (t : ℕ) (queue : List T) (es : EntryList T S)
      → ReceiverDue false (entry_of t es) (entry_of t (round_for due_now queue es))
  round_for_due t [] es = receiver_kept (entry_of t es)
  round_for_due t (front ∷ queue) es = round_due t front es

  -- which tickets are due if all that wait are woken
  pub all_woken_due : (t : ℕ) (es : EntryList T S) → ReceiverDue false (entry_of t es) (entry_of t (all_woken due_now es))
  all_woken_due t [] = refl
  all_woken_due t (e ∷ es) = by_mark e.mark (eqb e.ticket t) refl (all_woken_due t es)
    where
      by_mark : (m : Mark T) (b : Bool) → eqb e.ticket t ≡ b → ReceiverDue false (entry_of t es) (entry_of t (all_woken due_now es))
          → (let x = record e { mark = m } in ReceiverDue false (entry_of t (x ∷ es)) (entry_of t (all_woken due_now (x ∷ es))))
      by_mark Waiting true same rest = simp same (receiver_woken (record e { mark = Waiting }) Woken refl refl)
      by_mark Woken true same rest = simp same (receiver_kept (Some (record e { mark = Woken })))
      by_mark (Filled m) true same rest = simp same (receiver_kept (Some (record e { mark = Filled m })))
      by_mark Waiting false other rest = simp other rest
      by_mark Woken false other rest = simp other rest
      by_mark (Filled m) false other rest = simp other rest
