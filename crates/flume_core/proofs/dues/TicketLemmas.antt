-- What a state that some run led to says of its tickets, as far as which tickets are due depends on
-- it.
use Rattle.std.proofs.Common.{◌≡◌, ℕ, Bool, true, false, not, Option, Some, None, refl, sym, ◌∙◌, ap, arith}
use Rattle.std.specs.List.{All}
use Rattle.std.specs.Option.{option_map}
use Rattle.std.specs.FinMap.{get}
use Rattle.flume_model.specs.Log.{Log, Opening}
use Rattle.flume_model.specs.Line.{is_live, next_ticket}
use Rattle.flume_model.specs.Channel.{has_ticket}
use Rattle.flume_model.specs.Entries.{entry_of, without_ticket}
use Rattle.flume_model.specs.Parked.{entries}
use Rattle.flume_model.proofs.EntryMarkLemmas.{left_out, none_past}
use Rattle.flume_state.specs.declared.sends.LiveSend.{LiveSend}
use Rattle.flume_state.specs.State.{State, offers_of, bare}
use Rattle.flume_state.specs.Due.{blocked_in}
use Rattle.flume_core.specs.Represents.{Represents, IsReachable}
use Rattle.flume_model.proofs.EntryShapeLemmas.{entries_apart}
use Rattle.flume_core.proofs.BareEntryLemmas.{bare_entry, bare_without}
use Rattle.flume_core.proofs.BlockedLiveLemmas.{blocked_are_live}
use Rattle.flume_core.proofs.StateFactLemmas.{blocked_live, sends_apart}
use Rattle.flume_core.proofs.ViewLemmas.{blocked_is, none_mapped, status, status_is}
use Rattle.flume_core.proofs.dues.SendsDueLemmas.{IsBlocked}

-- a send is blocked exactly if its message is
blocked_bits : {S : Type 0} (x : Option (LiveSend S)) (live waits : Bool) → option_map (λ send. send.accepted) x ≡ status live waits
    → (waits ≡ true → live ≡ true) → blocked_in x ≡ waits
blocked_bits None true waits e lives = absurd (let none : ⊥ = cc in none)
blocked_bits None false true e lives = absurd (let same = lives refl in let none : ⊥ = cc in none)
blocked_bits None false false e lives = refl
blocked_bits (Some send) false waits e lives = absurd (let none : ⊥ = cc in none)
blocked_bits (Some send) true true e lives = ap not (let not_accepted : send.accepted ≡ false = cc in not_accepted)
blocked_bits (Some send) true false e lives = ap not (let accepted : send.accepted ≡ true = cc in accepted)

module _ {T S : Type 0} where
  -- the next ticket is new, no two receivers have the same, and the blocked sends are those of the blocked messages
  pub record Tickets (s : State T S) : Type 0 where
    pub new_send : get s.sends s.next_ticket ≡ None
    pub new_receiver : entry_of s.next_ticket s.entries ≡ None
    pub alone : (t : ℕ) → entry_of t (without_ticket t s.entries) ≡ None
    pub listed : (t : ℕ) → blocked_in (get s.sends t) ≡ has_ticket t (offers_of s.blocked)
    pub live : All (λ b. IsBlocked s.sends b.ticket) s.blocked

module _ {T A S : Type 0} where
  -- that is so
  pub tickets_of : (s : State T S) → IsReachable A s → Tickets s
  tickets_of s reachable = record {
    new_send = new_send_at (get s.sends s.next_ticket) refl;
    new_receiver = none_mapped bare _ (sym (bare_entry s.next_ticket s.entries) ∙ ap (entry_of s.next_ticket) h.entries_are
        ∙ none_past (next_ticket o log) s.next_ticket (entries o log) (omega (arith, h.next_is)) (entries_apart o log h.run));
    alone = λ t. none_mapped bare _ (sym (bare_entry t (without_ticket t s.entries))
        ∙ ap (entry_of t) (bare_without t s.entries ∙ ap (without_ticket t) h.entries_are)
        ∙ left_out (next_ticket o log) t (entries o log) (entries_apart o log h.run));
    listed = λ t. blocked_bits (get s.sends t) (is_live log t) (has_ticket t (offers_of s.blocked)) (status_is h t)
        (λ of. blocked_are_live o log h.run t (ap (has_ticket t) (blocked_is h) ∙ of));
    live = blocked_live o log s h;
  }
    where
      o : Opening
      o = reachable.0

      log : Log T A
      log = reachable.1

      h : Represents o log s
      h = reachable.2

      new_send_at : (x : Option (LiveSend S)) → get s.sends s.next_ticket ≡ x → x ≡ None
      new_send_at None e = refl
      new_send_at (Some send) e =
          let below = (sends_apart o log s h s.next_ticket send.accepted (ap (option_map (λ x. x.accepted)) e)).0 in
          absurd (omega (arith, below))
