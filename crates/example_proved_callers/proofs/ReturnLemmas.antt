-- That what comes back under a ticket is what blocked under it.
use Rattle.std.proofs.Common.{◌≡◌, ℕ, Bool, true, false, not, if◌then◌else◌, [], ◌∷◌, ◌++◌, List, Some, refl, sym, ap, subst, ◌∙◌, eq-eqb}
use Rattle.std.proofs.lemmas.Bool.{or_parts}
use Rattle.std.proofs.lemmas.List.{append_assoc, append-nil}
use Rattle.std.proofs.lemmas.List.Elements.{All-nil, All-cons, All-append, All-drop, All-filter}
use Rattle.std.specs.List.{All}
use Rattle.flume_model.specs.declared.step.Step.TheVariants.{Send}
use Rattle.flume_model.specs.declared.step.Reply.TheVariants.{Pending}
use Rattle.flume_model.specs.Log.{Log, Opening, Offer, is_ticket, change}
use Rattle.flume_model.specs.Counts.{is_over}
use Rattle.flume_model.specs.Offers.{offers, offers_made, kept, withdrawn, hand_outs}
use Rattle.flume_model.specs.Line.{line, queue_len, blocked, next_ticket}
use Rattle.flume_model.specs.Channel.{channel, has_ticket, IsBlocked}
use Rattle.flume_model.specs.Replies.{IsRun}
use Rattle.flume_model.specs.Laws.{Rising}
use Rattle.flume_model.proofs.TicketLemmas.{apart, All-at_seam}
use Rattle.flume_model.proofs.order.RunLemmas.{tickets_rise}

module _ {T A : Type 0} where
  -- the offers of a log that others made longer begin as they did
  offers_more : (later past : Log T A) → (more : List (Offer T)) × (offers (later ++ past) ≡ offers past ++ more)
  offers_more [] past = ([], sym (append-nil (offers past)))
  offers_more (p ∷ later) past =
      let rest = offers_more later past in
      let done = change (later ++ past) p.0 p.1 in
      (rest.0 ++ offers_made done, ap (λ l. l ++ offers_made done) rest.1 ∙ append_assoc (offers past) rest.0 (offers_made done))

-- what holds of each element holds of each if none is left, too
all_or_none : {X : Type 0} (P : X → Type 0) (b : Bool) (xs : List X) → All P xs → All P (if b then [] else xs)
all_or_none P true xs h = All-nil P
all_or_none P false xs h = h

module _ {T : Type 0} where
  -- an offer with this ticket is of this message
  abbrev IsOfTicket : ℕ → T → Offer T → Type 0
  IsOfTicket t m x = x.ticket ≡ Some t → x.message ≡ m

  -- if none of some offers has the ticket
  none_of : (t : ℕ) (m : T) (xs : List (Offer T)) → has_ticket t xs ≡ false → All (IsOfTicket t m) xs
  none_of t m [] h = All-nil _
  none_of t m (x ∷ xs) h =
      let parts = or_parts (is_ticket t x.ticket) (has_ticket t xs) h in
      All-cons (IsOfTicket t m) x xs
      (λ e. let same : is_ticket t (Some t) ≡ true = eq-eqb t t refl in
      let other : is_ticket t (Some t) ≡ false = sym (ap (is_ticket t) e) ∙ parts.0 in
      absurd (let none : ⊥ = cc in none)) (none_of t m xs parts.1)

  -- of offers whose tickets rise, those with this ticket are of the message of one that has it
  one_of : (n t : ℕ) (m : T) (xs ys : List (Offer T)) → Rising n (xs ++ record { message = m; ticket = Some t } ∷ ys)
      → All (IsOfTicket t m) (xs ++ record { message = m; ticket = Some t } ∷ ys)
  one_of n t m xs ys h =
      let none = apart n xs ys t m h in
      All-append (IsOfTicket t m) xs _ (none_of t m xs none.0)
      (All-cons (IsOfTicket t m) _ ys (λ e. refl) (none_of t m ys none.1))

module _ {T A : Type 0} where
  -- what is blocked under a ticket in a run is what blocked under it
  pub blocked_is : (o : Opening) (later past : Log T A) (t : ℕ) (m back : T)
      → IsRun o (later ++ (Send m, Pending t) ∷ past)
      → IsBlocked (channel o (later ++ (Send m, Pending t) ∷ past)) t back → back ≡ m
  blocked_is o later past t m back run h =
      let log : Log T A = later ++ (Send m, Pending t) ∷ past in
      let x : Offer T = record { message = m; ticket = Some t } in
      let more = offers_more later ((Send m, Pending t) ∷ past) in
      let all : offers log ≡ offers past ++ x ∷ more.0 = more.1 ∙ append_assoc (offers past) (x ∷ []) more.0 in
      let rising : Rising (next_ticket o log) (offers log) = tickets_rise o log run in
      let of_offers : All (IsOfTicket t m) (offers log) =
      subst (All (IsOfTicket t m)) (sym all) (one_of (next_ticket o log) t m (offers past) more.0 (rw all at rising)) in
      let of_kept : All (IsOfTicket t m) (kept log) =
      All-filter (λ offer. not (withdrawn log offer)) (IsOfTicket t m) (offers log) of_offers in
      let of_line : All (IsOfTicket t m) (line log) =
      all_or_none (IsOfTicket t m) (is_over log) _ (All-drop (IsOfTicket t m) (hand_outs log) (kept log) of_kept) in
      let of_blocked : All (IsOfTicket t m) (blocked o log) = All-drop (IsOfTicket t m) (queue_len o log) (line log) of_line in
      All-at_seam (IsOfTicket t m) h.1 _ h.2 (subst (All (IsOfTicket t m)) h.3 of_blocked) refl
