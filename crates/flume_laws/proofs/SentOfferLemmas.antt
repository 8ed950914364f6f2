-- What an action of a run offers, and how often a ticket of a send is issued and ended.
use Rattle.std.proofs.Common.{◌≡◌, ℕ, ◌+◌, ◌≤◌, ◌==◌, Bool, true, false, ◌||◌, List, [], ◌∷◌, ◌++◌}
use Rattle.std.proofs.Common.{Some, refl, ap, sym, ◌∙◌, arith, ◌⊎◌, inl, inr, eqb-true}
use Rattle.std.proofs.Common.{if◌then◌else◌}
use Rattle.std.proofs.lemmas.List.{map-append}
use Rattle.std.proofs.lemmas.List.Elements.{filter-append}
use Rattle.std.proofs.lemmas.Grind.{common_steps}
use Rattle.std.specs.Prelude.{reverse}
use Rattle.std.specs.List.{flat_map, filter}
use Rattle.flume_model.specs.declared.step.Step.{Step}
use Rattle.flume_model.specs.declared.step.Step.TheVariants.{Send, PollSend, WithdrawSend}
use Rattle.flume_model.specs.declared.step.Step.TheVariants.{Poll, Withdraw}
use Rattle.flume_model.specs.declared.step.Reply.{Reply}
use Rattle.flume_model.specs.declared.step.Reply.TheVariants.{Pending, Accepted, Returned}
use Rattle.flume_model.specs.declared.step.Reply.TheVariants.{NoTicket, Got}
use Rattle.flume_model.specs.Log.{Log, Opening, Offer, Blocks, Collects, Takes, change}
use Rattle.flume_model.specs.Log.{was_filled}
use Rattle.flume_model.specs.Offers.{offers_made, withdraws, offers, withdrawn}
use Rattle.flume_model.specs.Line.{messages, next_ticket, tickets_issued}
use Rattle.flume_model.specs.Channel.{channel}
use Rattle.flume_model.specs.Replies.{IsReply, IsRun}
use Rattle.flume_actions.specs.Actions.{Action}
use Rattle.flume_laws.proofs.MergeLemmas.{bit, tally, flat_reverse}
use Rattle.flume_laws.proofs.TurnLemmas.{offered}

-- a change withdraws the offer, or an earlier one has
some_or : (b w : Bool) (n k : ℕ) → bit b ≡ n → 1 ≤ n + k → (1 ≤ k → w ≡ true)
    → (b || w) ≡ true
some_or true w n k is some rest = refl
some_or false w n k is some rest = rest (omega arith)

none_or : (b w : Bool) (n k : ℕ) → bit b ≡ n → n + k ≡ 0 → (k ≡ 0 → w ≡ false)
    → (b || w) ≡ false
none_or true w n k is none rest = absurd (omega arith)
none_or false w n k is none rest = rest (omega arith)

-- a ticket that isn't issued yet, and how often each is
record Issued (next count t : ℕ) : Type 0 where
  pub later : next ≤ t → count ≡ 0
  pub once : count ≤ 1

issued_more : (next count t k n : ℕ) → Issued next count t
    → (n ≡ 0) ⊎ ((n ≡ 1) × (t ≡ next) × (k ≡ 1)) → Issued (next + k) (n + count) t
issued_more next count t k n before (inl none) = record {
  later = λ le. omega (arith, none, before.later (omega (arith, le)));
  once = omega (arith, before.once);
}
issued_more next count t k n before (inr one) = record {
  later = λ le. absurd (omega (arith, one.1, one.2));
  once = omega (arith, before.later (omega arith), one.0);
}

module _ {T : Type 0} where
  -- a parked receiver that gets a message makes no offer
  none_offered : (b : Bool) (t : ℕ) (m : T)
      → offers_made (if b then Collects t else Takes m (Some t)) ≡ []
  none_offered true t m = refl
  none_offered false t m = refl

  none_withdrawn : (b : Bool) (t : ℕ) (m : T) (offer : Offer T)
      → withdraws (if b then Collects t else Takes m (Some t)) offer ≡ false
  none_withdrawn true t m offer = refl
  none_withdrawn false t m offer = refl

module _ {T A : Type 0} where
  -- the messages of those that are kept
  abbrev pub sent_of : (Offer T → Bool) → Action T A → List T
  sent_of keeps action = messages (filter keeps (offered action.0 action.1))

  -- one if the action issues this ticket to a send
  abbrev pub issues_by : ℕ → Step T → Reply T A → ℕ
  issues_by t (Send m) (Pending u) = bit (t == u)
  issues_by t _ _ = 0

  -- one if a blocked send that is answered so ends with its message back, and its ticket is this
  abbrev pub returned_to : ℕ → ℕ → Reply T A → ℕ
  returned_to t u (Returned m closed) = bit (t == u)
  returned_to t u _ = 0

  -- one if it ends, and its message has gone
  abbrev pub passed_to : ℕ → ℕ → Reply T A → ℕ
  passed_to t u Accepted = bit (t == u)
  passed_to t u NoTicket = bit (t == u)
  passed_to t u _ = 0

  -- one if the send with this ticket ends by the action with its message back
  abbrev pub returns_by : ℕ → Step T → Reply T A → ℕ
  returns_by t (PollSend u) reply = returned_to t u reply
  returns_by t (WithdrawSend u) reply = returned_to t u reply
  returns_by t _ _ = 0

  -- one if it ends, and its message has gone
  abbrev pub passes_by : ℕ → Step T → Reply T A → ℕ
  passes_by t (PollSend u) reply = passed_to t u reply
  passes_by t (WithdrawSend u) reply = passed_to t u reply
  passes_by t _ _ = 0

  -- the same of an action
  abbrev pub issues : ℕ → Action T A → ℕ
  issues t action = issues_by t action.0 action.1

  abbrev pub returns : ℕ → Action T A → ℕ
  returns t action = returns_by t action.0 action.1

  abbrev pub passes : ℕ → Action T A → ℕ
  passes t action = passes_by t action.0 action.1

  -- what a change offers is told by the action
  offers_of : (past : Log T A) (step : Step T) (reply : Reply T A)
      → offers_made (change past step reply) ≡ offered step reply
  offers_of past (Poll t) (Got m) = none_offered (was_filled past t) t m
  offers_of past (Withdraw t) (Got m) = none_offered (was_filled past t) t m
  offers_of past step reply = grind (arith, common_steps)

  -- which ticket it withdraws is told by the action
  withdraws_of : (past : Log T A) (step : Step T) (reply : Reply T A) (m : T) (t : ℕ)
      → bit (withdraws (change past step reply) (record { message = m; ticket = Some t }))
      ≡ returns_by t step reply
  withdraws_of past (Poll u) (Got k) m t = ap bit (none_withdrawn (was_filled past u) u k _)
  withdraws_of past (Withdraw u) (Got k) m t = ap bit (none_withdrawn (was_filled past u) u k _)
  withdraws_of past step reply m t = grind (arith, common_steps)

  -- the messages of some offers of a log are those of the actions
  pub messages_of : (keeps : Offer T → Bool) (log : Log T A)
      → messages (filter keeps (offers log)) ≡ flat_map (sent_of keeps) (reverse log)
  messages_of keeps [] = refl
  messages_of keeps (p ∷ past) =
      let done = offers_made (change past p.0 p.1) in
      ap messages (filter-append keeps (offers past) done)
      ∙ (map-append (λ (offer : Offer T). offer.message) (filter keeps (offers past))
      (filter keeps done)
      ∙ (ap (λ before. before ++ messages (filter keeps done)) (messages_of keeps past)
      ∙ (ap (λ made. flat_map (sent_of keeps) (reverse past) ++ messages (filter keeps made))
      (offers_of past p.0 p.1) ∙ sym (flat_reverse (sent_of keeps) p past))))

  -- an offer whose message went back is withdrawn
  pub returned : (log : Log T A) (m : T) (t : ℕ) → 1 ≤ tally (returns t) log
      → withdrawn log (record { message = m; ticket = Some t }) ≡ true
  returned [] m t some = absurd (omega arith)
  returned (p ∷ past) m t some =
      some_or _ _ (returns t p) (tally (returns t) past) (withdraws_of past p.0 p.1 m t) some
      (returned past m t)

  -- no other is
  pub not_returned : (log : Log T A) (m : T) (t : ℕ) → tally (returns t) log ≡ 0
      → withdrawn log (record { message = m; ticket = Some t }) ≡ false
  not_returned [] m t none = refl
  not_returned (p ∷ past) m t none =
      none_or _ _ (returns t p) (tally (returns t) past) (withdraws_of past p.0 p.1 m t) none
      (not_returned past m t)

  -- an action of a run issues no ticket but the next
  issues_next : (o : Opening) (past : Log T A) (step : Step T) (reply : Reply T A) (t : ℕ)
      → IsReply (channel o past) step reply
      → (issues_by t step reply ≡ 0)
      ⊎ ((issues_by t step reply ≡ 1) × (t ≡ next_ticket o past)
      × (tickets_issued (change past step reply) ≡ 1))
  issues_next o past (Send m) (Pending u) t h = by_case (t == u) refl
    where
      by_case : (b : Bool) → (t == u) ≡ b
          → (bit (t == u) ≡ 0) ⊎ ((bit (t == u) ≡ 1) × (t ≡ next_ticket o past)
          × (tickets_issued {T = T} (Blocks m u) ≡ 1))
      by_case true is = inr (ap bit is, eqb-true t u is ∙ h.2, refl)
      by_case false is = inl (ap bit is)
  issues_next o past _ _ t h = inl refl

  issued : (o : Opening) (log : Log T A) → IsRun o log → (t : ℕ)
      → Issued (next_ticket o log) (tally (issues t) log) t
  issued o [] run t = record { later = λ le. refl; once = omega arith }
  issued o (p ∷ past) run t =
      issued_more (next_ticket o past) (tally (issues t) past) t
      (tickets_issued (change past p.0 p.1)) (issues t p) (issued o past run.1 t)
      (issues_next o past p.0 p.1 t run.0)

  -- no ticket is issued twice
  pub issued_once : (o : Opening) (log : Log T A) → IsRun o log → (t : ℕ)
      → tally (issues t) log ≤ 1
  issued_once o log run t = (issued o log run t).once
