-- Signals, and what is due, are no matter of the log: it holds if they change.
use Rattle.std.proofs.Common.{◌≡◌, ℕ, Bool, true, false, List, [], ◌∷◌, map, Option, Some, None, IfSome, IfNone, refl, sym, ◌∙◌, ap, subst}
use Rattle.std.proofs.Common.{eqb, eqb-true}
use Rattle.std.proofs.lemmas.Bool.{eqb-false}
use Rattle.std.proofs.lemmas.List.{map-append}
use Rattle.std.specs.Option.{option_map}
use Rattle.std.specs.FinMap.{get}
use Rattle.flume_state.specs.declared.notice.Notice.{Notice}
use Rattle.flume_state.specs.declared.sends.LiveSend.{LiveSend}
use Rattle.flume_model.specs.Log.{Log, Opening}
use Rattle.flume_state.specs.Messages.{Blocked}
use Rattle.flume_state.specs.Notices.{no_longer_due, due_now}
use Rattle.flume_state.specs.Sends.{SendMap, with_send_changed, with_send_notice, with_notice}
use Rattle.flume_state.specs.State.{State, bare}
use Rattle.flume_core.specs.Represents.{Represents}
use Rattle.flume_state.specs.Receivers.{EntryList, NamesReceiver}
use Rattle.flume_state.specs.Effects.{with_all_due}
use Rattle.flume_core.proofs.ViewLemmas.{mark, SameMarks}
use Rattle.flume_state.proofs.SendMapLemmas.{get-changed_same, get-changed_other}

module _ {S : Type 0} where
  -- a change of a send that keeps its mark
  mark_kept : (f : LiveSend S → LiveSend S) → ((x : LiveSend S) → (f x).accepted ≡ x.accepted)
      → (found : Option (LiveSend S))
      → option_map (λ x. x.accepted) (option_map f found) ≡ option_map (λ x. x.accepted) found
  mark_kept f keeps None = refl
  mark_kept f keeps (Some x) = ap (λ (b : Bool). Some b) (keeps x)

  -- keeps all marks
  pub same_marks_changed : (m : SendMap S) (k : ℕ) (f : LiveSend S → LiveSend S) → ((x : LiveSend S) → (f x).accepted ≡ x.accepted)
      → SameMarks (with_send_changed m k f) m
  same_marks_changed m k f keeps t = go (eqb t k) refl
    where
      go : (b : Bool) → eqb t k ≡ b → mark (with_send_changed m k f) t ≡ mark m t
      go true e =
          let same : t ≡ k = eqb-true t k e in
          rw (same, get-changed_same m k f) (mark_kept f keeps (get m k))
      go false e = rw (get-changed_other m k f t (eqb-false t k e)) refl

  -- a changed notice keeps all marks
  pub same_marks_noticed : (f : Notice S → Notice S) (m : SendMap S) (k : ℕ) → SameMarks (with_send_notice f k m) m
  same_marks_noticed f m k t = same_marks_changed m k (with_notice f) (λ x. refl) t

  -- naming what is due keeps all marks
  pub same_marks_named : (m n : SendMap S) (named : Option ℕ) → IfSome named (λ t. n ≡ with_send_notice no_longer_due t m)
      → IfNone named (n ≡ m)
      → SameMarks n m
  same_marks_named m n None some none t = rw none refl
  same_marks_named m n (Some k) some none t = rw some (same_marks_noticed no_longer_due m k t)

module _ {T S : Type 0} where
  -- marking blocked sends due keeps all marks of whether they were accepted
  pub same_marks_due : (some : List (Blocked T)) (m : SendMap S) → SameMarks (with_all_due some m) m
  same_marks_due [] m t = refl
  same_marks_due (b ∷ some) m t =
      same_marks_due some (with_send_notice due_now b.ticket m) t ∙ same_marks_noticed due_now m b.ticket t

module _ {T S : Type 0} where
  -- naming one receiver changes nothing that a log knows
  pub named_bare : (old new : EntryList T S) (named : Option ℕ) → IfSome named (λ t. NamesReceiver old new t) → IfNone named (new ≡ old)
      → map bare new ≡ map bare old
  named_bare old new None some none = ap (map bare) none
  named_bare old new (Some t) some none =
      ap (map bare) some.named ∙ map-append bare some.before _ ∙ sym (ap (map bare) some.found ∙ map-append bare some.before _)

module _ {T A S : Type 0} where
  -- what a log knows of a state doesn't change if no mark does
  pub represents_if_same_marks : (o : Opening) (log : Log T A) (old new : State T S) (m : SendMap S) (es : EntryList T S)
      → Represents o log old
      → new ≡ record old { sends = m; entries = es } → SameMarks m old.sends → map bare es ≡ map bare old.entries → Represents o log new
  represents_if_same_marks o log old new m es h e marks same =
      let P : State T S → Type 0 = λ s. Represents o log s in
      subst P (sym e) record {
        run = h.run;
        capacity_is = h.capacity_is;
        greatest_is = h.greatest_is;
        queue_is = h.queue_is;
        blocked_are = h.blocked_are;
        sends_are = λ t. marks t ∙ h.sends_are t;
        entries_are = same ∙ h.entries_are;
        peak_is = h.peak_is;
        next_is = h.next_is;
        senders_are = h.senders_are;
        receivers_are = h.receivers_are;
      }
