-- The state of each ticket once a send has blocked, was accepted or is spent.
use Rattle.std.proofs.Common.{◌≡◌, ◌≢◌, ℕ, Bool, true, false, not, ◌&&◌, ◌||◌, ⊎_elim, eqb, List, [], ◌∷◌, ◌++◌, Option, Some, None, refl}
use Rattle.std.proofs.Common.{sym, ◌∙◌, ap, eq-eqb, ne_eqb}
use Rattle.std.specs.Option.{option_map}
use Rattle.std.specs.FinMap.{get, insert, remove}
use Rattle.std.proofs.Math.Bool.{and-true, or-true, or-false}
use Rattle.std.proofs.lemmas.Bool.{cases_eq}
use Rattle.std.proofs.lemmas.List.{map-append, map_push}
use Rattle.flume_state.specs.declared.sends.LiveSend.{LiveSend}
use Rattle.flume_model.specs.Log.{Log, Opening}
use Rattle.flume_model.specs.Line.{line, is_live}
use Rattle.flume_model.specs.Channel.{has_ticket}
use Rattle.flume_state.specs.Messages.{Blocked}
use Rattle.flume_state.specs.Sends.{SendMap, newly_blocked as blocked_send, with_send_changed, accepted_now}
use Rattle.flume_state.specs.State.{State, offers_of}
use Rattle.flume_core.specs.Represents.{Represents}
use Rattle.flume_model.proofs.TicketLemmas.{has_ticket-append}
use Rattle.flume_model.proofs.order.LineStepLemmas.{apart_in_line}
use Rattle.flume_state.proofs.SendMapLemmas.{get-insert_same, get-insert_other, get-remove_same, get-remove_other, get-changed_same}
use Rattle.flume_state.proofs.SendMapLemmas.{get-changed_other}
use Rattle.flume_core.proofs.ViewLemmas.{mark, status, status_is, line_is, queued}
use Rattle.flume_core.proofs.RepresentsLemmas.{still_live, not_live_now}

-- a ticket just issued waits
issued_waits : (i live waits : Bool) → i ≡ true → waits ≡ true → Some false ≡ status (i || (live && not false)) waits
issued_waits true live true a b = refl
issued_waits true live false a b = absurd (let no : ⊥ = cc in no)
issued_waits false live waits a b = absurd (let no : ⊥ = cc in no)

-- a send that was live is live and accepted
accepted_mark : {S : Type 0} (x : Option (LiveSend S)) (live waits now : Bool)
    → option_map (λ x. x.accepted) x ≡ status live waits → now ≡ false
    → option_map (λ x. x.accepted) (option_map accepted_now x) ≡ status (live && true) now
accepted_mark None true waits now e f = absurd (let none : ⊥ = cc in none)
accepted_mark None false waits now e f = refl
accepted_mark (Some x) true waits now e f = ap (λ b. Some (not b)) (sym f)
accepted_mark (Some x) false waits now e f = absurd (let none : ⊥ = cc in none)

module _ {T : Type 0} where
  -- whether one of these and one more has the ticket
  has_push : (t : ℕ) (xs : List (Blocked T)) (b : Blocked T)
      → has_ticket t (offers_of (xs ++ b ∷ [])) ≡ (has_ticket t (offers_of xs) || (eqb b.ticket t || false))
  has_push t xs b = ap (has_ticket t) (map_push _ xs b) ∙ has_ticket-append t (offers_of xs) _

  -- one with another ticket is taken out from among them
  pub has_without : (t u : ℕ) (m : T) (before later : List (Blocked T)) → eqb u t ≡ false
      → has_ticket t (offers_of (before ++ later)) ≡ has_ticket t (offers_of (before ++ record { ticket = u; message = m } ∷ later))
  has_without t u m before later e =
      ap (has_ticket t) (map-append _ before later) ∙ has_ticket-append t (offers_of before) (offers_of later)
      ∙ sym (ap (has_ticket t) (map-append _ before _) ∙ has_ticket-append t (offers_of before) _
      ∙ ap (λ b. has_ticket t (offers_of before) || (b || has_ticket t (offers_of later))) e)

module _ {T S : Type 0} where
  -- the marks of these sends once the first of the blocked messages has moved in
  pub marks_moved_in : (sends : SendMap S) (live : ℕ → Bool) (b : Blocked T) (later : List (Blocked T))
      → ((q : ℕ) → mark sends q ≡ status (live q) (has_ticket q (offers_of (b ∷ later))))
      → has_ticket b.ticket (offers_of later) ≡ false
      → (q : ℕ) → mark (with_send_changed sends b.ticket accepted_now) q ≡ status (live q) (has_ticket q (offers_of later))
  marks_moved_in sends live b later marks gone q = ⊎_elim here there (cases_eq q b.ticket)
    where
      Claim : Type 0
      Claim = mark (with_send_changed sends b.ticket accepted_now) q ≡ status (live q) (has_ticket q (offers_of later))

      here : q ≡ b.ticket → Claim
      here e =
          ap (mark (with_send_changed sends b.ticket accepted_now)) e
          ∙ ap (option_map (λ x. x.accepted)) (get-changed_same sends b.ticket accepted_now)
          ∙ accepted_mark (get sends b.ticket) (live b.ticket) _ (has_ticket b.ticket (offers_of later)) (marks b.ticket) gone
          ∙ ap (λ c. status c (has_ticket b.ticket (offers_of later))) (and-true (live b.ticket))
          ∙ sym (ap (λ k. status (live k) (has_ticket k (offers_of later))) e)

      there : q ≢ b.ticket → Claim
      there ne =
          let other : eqb b.ticket q ≡ false = ne_eqb b.ticket q (λ e. ne (sym e)) in
          ap (option_map (λ x. x.accepted)) (get-changed_other sends b.ticket accepted_now q ne) ∙ marks q
          ∙ ap (λ c. status (live q) (c || has_ticket q (offers_of later))) other

module _ {T A S : Type 0} where
  -- the marks once a send's ticket is spent
  pub marks_removed : {o : Opening} {past : Log T A} {old : State T S} → Represents o past old → (t q : ℕ) (waits : Bool)
      → (eqb t q ≡ false → waits ≡ has_ticket q (offers_of old.blocked))
      → mark (remove old.sends t) q ≡ status (false || (is_live past q && not (eqb t q))) waits
  marks_removed {o} {past} {old} h t q waits same = ⊎_elim here there (cases_eq q t)
    where
      Claim : Type 0
      Claim = mark (remove old.sends t) q ≡ status (false || (is_live past q && not (eqb t q))) waits

      here : q ≡ t → Claim
      here e =
          ap (mark (remove old.sends t)) e ∙ ap (option_map (λ x. x.accepted)) (get-remove_same old.sends t)
          ∙ sym (ap (λ b. status b waits) (not_live_now false (is_live past q) (eqb t q) refl (eq-eqb t q (sym e))))

      there : q ≢ t → Claim
      there ne =
          let other : eqb t q ≡ false = ne_eqb t q (λ e. ne (sym e)) in
          ap (option_map (λ x. x.accepted)) (get-remove_other old.sends t q ne) ∙ status_is h q
          ∙ sym (ap (λ b. status b waits) (still_live false (is_live past q) (eqb t q) refl other)
          ∙ ap (status (is_live past q)) (same other))

  -- the marks once a send has blocked under the next ticket
  pub marks_inserted : {o : Opening} {past : Log T A} {old : State T S} → Represents o past old → (m : T) (signal : S) (q : ℕ)
      → mark (insert old.sends old.next_ticket (blocked_send signal)) q
      ≡ status (eqb old.next_ticket q || (is_live past q && not false))
      (has_ticket q (offers_of (old.blocked ++ record { ticket = old.next_ticket; message = m } ∷ [])))
  marks_inserted {o} {past} {old} h m signal q = ⊎_elim here there (cases_eq q old.next_ticket)
    where
      waits : Bool
      waits = has_ticket q (offers_of (old.blocked ++ record { ticket = old.next_ticket; message = m } ∷ []))

      Claim : Type 0
      Claim = mark (insert old.sends old.next_ticket (blocked_send signal)) q ≡ status
          (eqb old.next_ticket q || (is_live past q && not false)) waits

      here : q ≡ old.next_ticket → Claim
      here e =
          let same : eqb old.next_ticket q ≡ true = eq-eqb old.next_ticket q (sym e) in
          ap (mark (insert old.sends old.next_ticket (blocked_send signal))) e
          ∙ ap (option_map (λ x. x.accepted)) (get-insert_same old.sends old.next_ticket (blocked_send signal))
          ∙ issued_waits (eqb old.next_ticket q) (is_live past q) waits same
          (has_push q old.blocked _ ∙ ap (λ b. has_ticket q (offers_of old.blocked) || (b || false)) same ∙ or-true _)

      there : q ≢ old.next_ticket → Claim
      there ne =
          let other : eqb old.next_ticket q ≡ false = ne_eqb old.next_ticket q (λ e. ne (sym e)) in
          ap (option_map (λ x. x.accepted)) (get-insert_other old.sends old.next_ticket (blocked_send signal) q ne) ∙ status_is h q
          ∙ sym (ap (λ b. status b waits) (still_live (eqb old.next_ticket q) (is_live past q) false other refl)
          ∙ ap (status (is_live past q))
          (has_push q old.blocked _ ∙ ap (λ b. has_ticket q (offers_of old.blocked) || (b || false)) other ∙ or-false _))

  -- the marks once the first blocked message has moved in
  pub marks_admitted : (o : Opening) (past : Log T A) (old : State T S) (b : Blocked T) (later : List (Blocked T)) → Represents o past old
      → old.blocked ≡ b ∷ later → (q : ℕ)
      → mark (with_send_changed old.sends b.ticket accepted_now) q ≡ status (is_live past q && true) (has_ticket q (offers_of later))
  marks_admitted o past old b later h at q =
      let place : line past ≡ (queued h) ++ ([] ++ record { message = b.message; ticket = Some b.ticket } ∷ offers_of later) =
      line_is h ∙ ap (λ l. (queued h) ++ offers_of l) at in
      let gone = (apart_in_line o past h.run (queued h) [] (offers_of later) b.ticket b.message place).1 in
      marks_moved_in old.sends (is_live past) b later
      (λ k. status_is h k ∙ ap (λ l. status (is_live past k) (has_ticket k (offers_of l))) at) gone q
      ∙ sym (ap (λ c. status c (has_ticket q (offers_of later))) (and-true (is_live past q)))
