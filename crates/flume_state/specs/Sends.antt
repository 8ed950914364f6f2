-- For every contract: the live sends, as a finite map from their tickets.
use Rattle.std.specs.Prelude.{◌≡◌, ℕ, Bool, true, false, Option, Some, None, refl}
use Rattle.std.specs.Coded.{Coded, code_by, coded×, coded_bool, coded_ℕ}
use Rattle.std.specs.Option.{option_map_or}
use Rattle.std.specs.Ordering.{nat_cmp}
use Rattle.std.specs.FinMap.{FinMap, get, insert, code}
use Rattle.flume_state.specs.declared.notice.Notice.{Notice}
use Rattle.flume_state.specs.declared.sends.LiveSend.{LiveSend}
use Rattle.flume_state.specs.Notices.{new_notice, due_now}

-- the live sends, by ticket
abbrev pub SendMap : Type 0 → Type 0
SendMap S = FinMap nat_cmp (LiveSend S)

-- a live send is stored as its two fields, the second as a pair
abbrev pub live_send_code : {S : Type 0} → Coded S → Coded (LiveSend S)
live_send_code {S} c =
    code_by (Bool × (S × Bool)) (coded× coded_bool (coded× c coded_bool))
    (λ s. (s.accepted, (s.notice.signal, s.notice.due)))
    (λ p. record { accepted = p.0; notice = record { signal = p.1.0; due = p.1.1 } }) (λ _. refl)

-- the map of live sends is stored as a list of pairs of a ticket and a live send
abbrev pub send_map_code : {S : Type 0} → Coded S → Coded (SendMap S)
send_map_code c = code coded_ℕ (live_send_code c)

-- a send that has just blocked
abbrev pub newly_blocked : {S : Type 0} → S → LiveSend S
newly_blocked signal = record { accepted = false; notice = new_notice signal }

-- a send whose message was accepted, which is due
abbrev pub accepted_now : {S : Type 0} → LiveSend S → LiveSend S
accepted_now s = record { accepted = true; notice = due_now s.notice }

-- a send with its notice changed
abbrev pub with_notice : {S : Type 0} → (Notice S → Notice S) → LiveSend S → LiveSend S
with_notice f s = record s { notice = f s.notice }

-- the map with f of its value at k, and as it was if it has none there
unfoldable pub with_send_changed : {X : Type 0} → FinMap nat_cmp X → ℕ → (X → X) → FinMap nat_cmp X
with_send_changed m k f = option_map_or (λ x. insert m k (f x)) (get m k) m

-- the live sends with the notice of a ticket changed
abbrev pub with_send_notice : {S : Type 0} → (Notice S → Notice S) → ℕ → SendMap S → SendMap S
with_send_notice f t sends = with_send_changed sends t (with_notice f)

-- the live send that may be there is due
abbrev pub send_due_in : {S : Type 0} → Option (LiveSend S) → Bool
send_due_in None = false
send_due_in (Some s) = s.notice.due

-- the ticket is one of a live send, which is due
abbrev pub is_due_send : {S : Type 0} → SendMap S → ℕ → Bool
is_due_send m t = send_due_in (get m t)

-- no live send is due
abbrev pub NoDueSend : {S : Type 0} → SendMap S → Type 0
NoDueSend m = (t : ℕ) → is_due_send m t ≡ false
