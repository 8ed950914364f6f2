-- Under a ticket one message is blocked after a run, and no other.
use Rattle.std.proofs.Common.{◌≡◌, ℕ, Bool, true, false, if◌then◌else◌, List, [], ◌∷◌, ◌++◌, Some}
use Rattle.std.proofs.Common.{zero, suc, not, drop, refl, sym, ◌∙◌, ap, subst, eq-eqb}
use Rattle.std.proofs.lemmas.Bool.{or_parts}
use Rattle.std.proofs.lemmas.List.Elements.{All-nil, All-cons, All-append}
use Rattle.std.specs.List.{All}
use Rattle.flume_model.specs.Log.{Log, Opening, Offer, is_ticket}
use Rattle.flume_model.specs.Counts.{is_over}
use Rattle.flume_model.specs.Offers.{offers, withdrawn, kept, hand_outs}
use Rattle.flume_model.specs.Line.{line, queue_len, blocked, next_ticket}
use Rattle.flume_model.specs.Channel.{channel, has_ticket, IsBlocked}
use Rattle.flume_model.specs.Replies.{IsRun}
use Rattle.flume_model.specs.Laws.{Rising}
use Rattle.flume_model.proofs.TicketLemmas.{apart, All-at_seam, rising_filter}
use Rattle.flume_model.proofs.order.RunLemmas.{tickets_rise}

module _ {T : Type 0} where
  -- an offer with this ticket is of this message
  abbrev IsOfTicket : ℕ → T → Offer T → Type 0
  IsOfTicket t m x = x.ticket ≡ Some t → x.message ≡ m

  -- if none of some offers has the ticket
  none_of : (t : ℕ) (m : T) (xs : List (Offer T)) → has_ticket t xs ≡ false
      → All (IsOfTicket t m) xs
  none_of t m [] h = All-nil _
  none_of t m (x ∷ xs) h =
      let parts = or_parts (is_ticket t x.ticket) (has_ticket t xs) h in
      All-cons (IsOfTicket t m) x xs
      (λ e. let same : is_ticket t (Some t) ≡ true = eq-eqb t t refl in
      let other : is_ticket t (Some t) ≡ false = sym (ap (is_ticket t) e) ∙ parts.0 in
      absurd (let none : ⊥ = cc in none)) (none_of t m xs parts.1)

  -- of offers whose tickets rise, those with this ticket are of the message of one that has it
  one_of : (n t : ℕ) (m : T) (xs ys : List (Offer T))
      → Rising n (xs ++ record { message = m; ticket = Some t } ∷ ys)
      → All (IsOfTicket t m) (xs ++ record { message = m; ticket = Some t } ∷ ys)
  one_of n t m xs ys h =
      let none = apart n xs ys t m h in
      All-append (IsOfTicket t m) xs _ (none_of t m xs none.0)
      (All-cons (IsOfTicket t m) _ ys (λ e. refl) (none_of t m ys none.1))

  -- the tickets of the later offers rise
  rising_drop : (n k : ℕ) (xs : List (Offer T)) → Rising n xs → Rising n (drop k xs)
  rising_drop n zero xs h = h
  rising_drop n (suc k) [] h = h
  rising_drop n (suc k) (x ∷ xs) h = rising_drop n k xs h.2

  -- and if none is left
  rising_or_none : (n : ℕ) (b : Bool) (xs : List (Offer T)) → Rising n xs
      → Rising n (if b then [] else xs)
  rising_or_none n true xs h = tt
  rising_or_none n false xs h = h

module _ {T A : Type 0} (o : Opening) (log : Log T A) (run : IsRun o log) where
  -- the tickets of the blocked offers rise
  rising : Rising (next_ticket o log) (blocked o log)
  rising =
      let n = next_ticket o log in
      let of_kept : Rising n (kept log) =
      rising_filter n (λ offer. not (withdrawn log offer)) (offers log) (tickets_rise o log run) in
      rising_drop n (queue_len o log) (line log)
      (rising_or_none n (is_over log) _ (rising_drop n (hand_outs log) (kept log) of_kept))

  -- two messages that are blocked under a ticket are the same
  pub one_blocked : (t : ℕ) (m back : T) → IsBlocked (channel o log) t m
      → IsBlocked (channel o log) t back → m ≡ back
  one_blocked t m back h k =
      let n = next_ticket o log in
      let all : All (IsOfTicket t m) (blocked o log) =
      subst (All (IsOfTicket t m)) (sym h.3) (one_of n t m h.1 h.2 (subst (Rising n) h.3 rising)) in
      sym (All-at_seam (IsOfTicket t m) k.1 _ k.2 (subst (All (IsOfTicket t m)) k.3 all) refl)
