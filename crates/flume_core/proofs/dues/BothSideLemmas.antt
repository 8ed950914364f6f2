-- Which tickets are due of the sends and of the receivers after what a step leaves of them, if the
-- channel isn't closed.
use Rattle.std.proofs.Common.{◌≡◌, ℕ, false, ne_eqb, List, ◌∷◌, ◌++◌, [], Option, Some, None, refl, sym, ◌∙◌, ap, subst, ⊎_elim}
use Rattle.std.proofs.lemmas.Bool.{cases_eq}
use Rattle.std.specs.Option.{option_map}
use Rattle.std.specs.FinMap.{get, insert, remove}
use Rattle.flume_model.specs.declared.step.Kind.{Kind}
use Rattle.flume_model.specs.Entries.{entry_of, round_for, without_ticket}
use Rattle.flume_model.proofs.EntryListLemmas.{entry_last, none_same, tickets_round}
use Rattle.flume_state.specs.Notices.{due_now, with_signal}
use Rattle.flume_state.specs.Sends.{SendMap, newly_blocked, with_send_notice, with_notice}
use Rattle.flume_state.specs.Receivers.{EntryList, new_receiver}
use Rattle.flume_state.specs.Due.{SendDue, ReceiverDue}
use Rattle.flume_state.proofs.SendMapLemmas.{get-insert_same, get-insert_other, get-remove_same, get-remove_other}
use Rattle.flume_state.proofs.SendMapLemmas.{get-changed_same, get-changed_other}
use Rattle.flume_core.proofs.dues.OneTicketLemmas.{send_kept, send_signalled, send_new, receiver_kept}
use Rattle.flume_core.proofs.dues.ReceiversDueLemmas.{entry_without, entry_push, round_for_due}

module _ {S : Type 0} where
  -- which tickets are due of these sends, if the channel isn't closed
  abbrev pub SendsDue : SendMap S → SendMap S → Type 0
  SendsDue old new = (t : ℕ) → SendDue false (get old t) (get new t)

  -- one that is spent
  pub spent_sends : (m : SendMap S) (k : ℕ) → SendsDue m (remove m k)
  spent_sends m k t =
      ⊎_elim (λ e. subst (λ y. SendDue false (get m t) y) (sym (ap (get (remove m k)) e ∙ get-remove_same m k)) refl)
      (λ ne. subst (λ y. SendDue false (get m t) y) (sym (get-remove_other m k t ne)) (send_kept (get m t))) (cases_eq t k)

  -- one that is new
  pub new_sends : (m : SendMap S) (k : ℕ) (signal : S) → get m k ≡ None → SendsDue m (insert m k (newly_blocked signal))
  new_sends m k signal none t =
      ⊎_elim (λ e.
      subst (λ y. SendDue false (get m t) y) (sym (ap (get (insert m k (newly_blocked signal))) e
      ∙ get-insert_same m k (newly_blocked signal)))
      (send_new false signal (get m t) (ap (get m) e ∙ none)))
      (λ ne. subst (λ y. SendDue false (get m t) y) (sym (get-insert_other m k (newly_blocked signal) t ne)) (send_kept (get m t)))
      (cases_eq t k)

  -- one with another signal
  pub signalled_sends : (m : SendMap S) (k : ℕ) (given : Option S) → SendsDue m (with_send_notice (with_signal given) k m)
  signalled_sends m k given t =
      let f = with_notice (with_signal given) in
      ⊎_elim (λ e.
      subst (λ y. SendDue false (get m t) y)
      (sym (ap (get (with_send_notice (with_signal given) k m)) e ∙ get-changed_same m k f ∙ ap (λ u. option_map f (get m u)) (sym e)))
      (send_signalled given (get m t)))
      (λ ne. subst (λ y. SendDue false (get m t) y) (sym (get-changed_other m k f t ne)) (send_kept (get m t))) (cases_eq t k)

module _ {T S : Type 0} where
  -- which tickets are due of these receivers, if none of them waits on or again
  abbrev pub ReceiversDue : EntryList T S → EntryList T S → Type 0
  ReceiversDue old new = (t : ℕ) → ReceiverDue false (entry_of t old) (entry_of t new)

  -- one that leaves
  pub gone_receivers : (es : EntryList T S) (k : ℕ) → entry_of k (without_ticket k es) ≡ None → ReceiversDue es (without_ticket k es)
  gone_receivers es k alone t =
      ⊎_elim (λ e.
      subst (λ y. ReceiverDue false (entry_of t es) y) (sym (ap (λ u. entry_of u (without_ticket k es)) e ∙ alone)) refl)
      (λ ne. subst (λ y. ReceiverDue false (entry_of t es) y) (sym (entry_without t k es (ne_eqb k t (λ e. ne (sym e)))))
      (receiver_kept (entry_of t es))) (cases_eq t k)

  -- one that parks
  pub new_receivers : (es : EntryList T S) (k : ℕ) (kind : Kind) (signal : S) → entry_of k es ≡ None
      → ReceiversDue es (es ++ new_receiver k kind signal ∷ [])
  new_receivers es k kind signal none t =
      let x = new_receiver k kind signal in
      ⊎_elim (λ e.
      subst (λ y. ReceiverDue false (entry_of t es) y) (sym (ap (λ u. entry_of u (es ++ x ∷ [])) e ∙ entry_last es x none))
      (subst (λ y. ReceiverDue false y (Some x)) (sym (ap (λ u. entry_of u es) e ∙ none)) refl))
      (λ ne. subst (λ y. ReceiverDue false (entry_of t es) y) (sym (entry_push t x es (ne_eqb k t (λ e. ne (sym e)))))
      (receiver_kept (entry_of t es))) (cases_eq t k)

  -- a wake round gives no receiver a ticket that none had
  none_round_for : (t : ℕ) (queue : List T) (es : EntryList T S) → entry_of t es ≡ None → entry_of t (round_for due_now queue es) ≡ None
  none_round_for t [] es none = none
  none_round_for t (front ∷ queue) es none = none_same t es _ (sym (tickets_round due_now front es)) none

  -- one that leaves and passes its wake on
  pub passed_receivers : (queue : List T) (es : EntryList T S) (k : ℕ) → entry_of k (without_ticket k es) ≡ None
      → ReceiversDue es (round_for due_now queue (without_ticket k es))
  passed_receivers queue es k alone t =
      ⊎_elim (λ e.
      subst (λ y. ReceiverDue false (entry_of t es) y)
      (sym (ap (λ u. entry_of u (round_for due_now queue (without_ticket k es))) e ∙ none_round_for k queue (without_ticket k es) alone))
      refl)
      (λ ne. subst (λ x. ReceiverDue false x (entry_of t (round_for due_now queue (without_ticket k es))))
      (entry_without t k es (ne_eqb k t (λ e. ne (sym e)))) (round_for_due t queue (without_ticket k es))) (cases_eq t k)
