-- What a course sends is what its actions offer, without what went back; and it ends each ticket of
-- a send as often as it issues it.
use Rattle.std.proofs.Common.{◌≡◌, ℕ, ◌+◌, ◌≤◌, ◌==◌, Bool, true, false, List, [], ◌∷◌, ◌++◌}
use Rattle.std.proofs.Common.{Some, None, refl, ap, sym, ◌∙◌, arith, eq-eqb}
use Rattle.std.proofs.lemmas.List.{append-nil, append_assoc}
use Rattle.std.specs.List.{flat_map, filter}
use Rattle.flume_model.specs.declared.step.Step.{Step}
use Rattle.flume_model.specs.declared.step.Step.TheVariants.{TrySend, Send, PollSend, WithdrawSend}
use Rattle.flume_model.specs.declared.step.Reply.{Reply}
use Rattle.flume_model.specs.declared.step.Reply.TheVariants.{Sent, Pending, Accepted, Returned}
use Rattle.flume_model.specs.declared.step.Reply.TheVariants.{NoTicket}
use Rattle.flume_model.specs.Log.{Offer}
use Rattle.flume_model.specs.Line.{messages}
use Rattle.flume_actions.specs.Actions.{Action}
use Rattle.flume_laws.proofs.MergeLemmas.{bit, tally}
use Rattle.flume_laws.proofs.TurnLemmas.{Stand, AsSender, offered, is_unblocked, has_ended}
use Rattle.flume_laws.proofs.TurnLemmas.{gone_by, Turn, Acts, Parks, Asks, Ends, Leaves, Blocks}
use Rattle.flume_laws.proofs.TurnLemmas.{Waits, Hears, Withdraws, Course}
use Rattle.flume_laws.proofs.SentOfferLemmas.{sent_of, issues_by, returns_by, passes_by}
use Rattle.flume_laws.proofs.SentOfferLemmas.{issues, returns, passes, returned_to, passed_to}

module _ {T : Type 0} where
  -- one if the party is blocked under the ticket
  abbrev pub blocked_under : ℕ → Stand T → ℕ
  blocked_under t (AsSender m u) = bit (t == u)
  blocked_under t _ = 0

  -- the offer of a blocked send
  abbrev pub blocked_offer : T → ℕ → Offer T
  blocked_offer m t = record { message = m; ticket = Some t }

  -- the message with which the party is blocked, if its offer is kept
  abbrev pub kept_of : (Offer T → Bool) → Stand T → List T
  kept_of keeps (AsSender m t) = messages (filter keeps (blocked_offer m t ∷ []))
  kept_of keeps _ = []

  -- an offer that is kept
  kept_one : (keeps : Offer T → Bool) (offer : Offer T) → keeps offer ≡ true
      → messages (filter keeps (offer ∷ [])) ≡ offer.message ∷ []
  kept_one keeps offer is = rw is refl

  kept_none : (keeps : Offer T → Bool) (offer : Offer T) → keeps offer ≡ false
      → messages (filter keeps (offer ∷ [])) ≡ []
  kept_none keeps offer is = rw is refl

module _ {T A : Type 0} where
  -- an action of which none is blocked before or after it issues no ticket and ends none
  pub unblocked_counts : (t : ℕ) (step : Step T) (reply : Reply T A)
      → is_unblocked step reply ≡ true
      → (issues_by t step reply ≡ 0) × (returns_by t step reply ≡ 0) × (passes_by t step reply ≡ 0)
  unblocked_counts t (Send m) (Pending u) is = absurd cc
  unblocked_counts t (PollSend u) reply is = absurd cc
  unblocked_counts t (WithdrawSend u) reply is = absurd cc
  unblocked_counts t _ reply is = (refl, refl, refl)

  -- a blocked send ends its ticket once
  ended_counts : (t u : ℕ) (reply : Reply T A) → has_ended reply ≡ true
      → returned_to t u reply + passed_to t u reply ≡ bit (t == u)
  ended_counts t u Accepted is = omega arith
  ended_counts t u NoTicket is = omega arith
  ended_counts t u (Returned back closed) is = omega arith
  ended_counts t u _ is = absurd cc

  turn_counts : (t : ℕ) (before after : Stand T) (step : Step T) (reply : Reply T A)
      (sent got : List T) → Turn before step reply after sent got
      → issues_by t step reply + blocked_under t before
      ≡ returns_by t step reply + passes_by t step reply + blocked_under t after
  turn_counts t _ _ step reply _ _ (Acts parked is sent got) =
      let none = unblocked_counts t step reply is in omega arith
  turn_counts t _ _ _ _ _ _ Parks = refl
  turn_counts t _ _ _ _ _ _ (Asks is) = refl
  turn_counts t _ _ _ _ _ _ (Ends is got) = refl
  turn_counts t _ _ _ _ _ _ (Leaves is got) = refl
  turn_counts t _ _ _ _ _ _ Blocks = omega arith
  turn_counts t _ _ _ _ _ _ Waits = refl
  turn_counts t _ _ _ reply _ _ (Hears {ticket = u} is gone) =
      let one = ended_counts t u reply is in omega arith
  turn_counts t _ _ _ reply _ _ (Withdraws {ticket = u} is gone) =
      let one = ended_counts t u reply is in omega arith

  -- a course ends each ticket as often as it issues it, and once more if it begins with it
  pub course_counts : (t : ℕ) (made : List (Action T A)) (stand : Stand T) (sent got : List T)
      → Course made stand sent got
      → tally (issues t) made + blocked_under t stand
      ≡ tally (returns t) made + tally (passes t) made
  course_counts t [] stand sent got c = omega (arith, ap (blocked_under t) c.0)
  course_counts t (p ∷ later) stand sent got c = omega (
    arith,
    turn_counts t stand c.after p.0 p.1 c.sent_now c.got_now c.turn,
    course_counts t later c.after c.sent_later c.got_later c.rest,
  )

  -- an offer is kept unless the actions say that its message went back
  pub record Judges (keeps : Offer T → Bool) (made : List (Action T A)) : Type 0 where
    pub at_once : (m : T) → keeps (record { message = m; ticket = None }) ≡ true
    pub gone : (m : T) (t : ℕ) → 1 ≤ tally (returns t) made → keeps (blocked_offer m t) ≡ false
    pub stays : (m : T) (t : ℕ) → 1 ≤ tally (passes t) made → keeps (blocked_offer m t) ≡ true

  module _ (keeps : Offer T → Bool) where
    -- of fewer actions
    pub judges_fewer : (made some : List (Action T A)) → Judges keeps made
        → ((t : ℕ) → tally (returns t) some ≤ tally (returns t) made)
        → ((t : ℕ) → tally (passes t) some ≤ tally (passes t) made) → Judges keeps some
    judges_fewer made some judges fewer_gone fewer_stay = record {
      at_once = judges.at_once;
      gone = λ m t one. judges.gone m t (omega (arith, one, fewer_gone t));
      stays = λ m t one. judges.stays m t (omega (arith, one, fewer_stay t));
    }

    -- an offer at once is kept
    unblocked_sent : (at_once : (m : T) → keeps (record { message = m; ticket = None }) ≡ true)
        (step : Step T) (reply : Reply T A) → is_unblocked step reply ≡ true
        → sent_of keeps (step, reply) ≡ messages (offered step reply)
    unblocked_sent at_once (TrySend m) (Sent filled) is = kept_one keeps _ (at_once m)
    unblocked_sent at_once (Send m) (Sent filled) is = kept_one keeps _ (at_once m)
    unblocked_sent at_once (Send m) (Pending t) is = absurd cc
    unblocked_sent at_once _ reply is = refl

    -- one of a blocked send is kept if its message has gone
    ended_sent : (m : T) (t : ℕ) (reply : Reply T A) (sent : List T) → has_ended reply ≡ true
        → gone_by m reply ≡ sent
        → (1 ≤ returned_to t t reply → keeps (blocked_offer m t) ≡ false)
        → (1 ≤ passed_to t t reply → keeps (blocked_offer m t) ≡ true)
        → kept_of keeps (AsSender m t) ++ [] ≡ sent ++ []
    ended_sent m t Accepted sent is sends gone stays =
        let kept = stays (omega (arith, ap bit (eq-eqb t t refl))) in
        ap (λ list. list ++ []) (kept_one keeps _ kept ∙ sends)
    ended_sent m t NoTicket sent is sends gone stays =
        let kept = stays (omega (arith, ap bit (eq-eqb t t refl))) in
        ap (λ list. list ++ []) (kept_one keeps _ kept ∙ sends)
    ended_sent m t (Returned back closed) sent is sends gone stays =
        let none = gone (omega (arith, ap bit (eq-eqb t t refl))) in
        ap (λ list. list ++ []) (kept_none keeps _ none ∙ sends)
    ended_sent m t _ sent is sends gone stays = absurd cc

    turn_sent : (before after : Stand T) (step : Step T) (reply : Reply T A) (sent got : List T)
        → Turn before step reply after sent got → Judges keeps ((step, reply) ∷ [])
        → kept_of keeps before ++ sent_of keeps (step, reply) ≡ sent ++ kept_of keeps after
    turn_sent _ _ step reply _ _ (Acts parked is sent got) judges =
        unblocked_sent judges.at_once step reply is ∙ (sent ∙ sym (append-nil _))
    turn_sent _ _ _ _ _ _ Parks judges = refl
    turn_sent _ _ _ _ _ _ (Asks is) judges = refl
    turn_sent _ _ _ _ _ _ (Ends is got) judges = refl
    turn_sent _ _ _ _ _ _ (Leaves is got) judges = refl
    turn_sent _ _ _ _ _ _ Blocks judges = refl
    turn_sent _ _ _ _ _ _ Waits judges = append-nil _
    turn_sent _ _ _ reply _ _ (Hears {message = m} {ticket = t} {sent = sent} is gone) judges =
        ended_sent m t reply sent is gone (λ some. judges.gone m t (omega (arith, some)))
        (λ some. judges.stays m t (omega (arith, some)))
    turn_sent _ _ _ reply _ _ (Withdraws {message = m} {ticket = t} {sent = sent} is gone) judges =
        ended_sent m t reply sent is gone (λ some. judges.gone m t (omega (arith, some)))
        (λ some. judges.stays m t (omega (arith, some)))

    -- a course sends what its actions offer and keep, and what it begins with, if that is kept
    pub course_sent : (made : List (Action T A)) (stand : Stand T) (sent got : List T)
        → Course made stand sent got → Judges keeps made
        → kept_of keeps stand ++ flat_map (sent_of keeps) made ≡ sent
    course_sent [] stand sent got c judges =
        append-nil _ ∙ (ap (kept_of keeps) c.0 ∙ sym c.1)
    course_sent (p ∷ later) stand sent got c judges =
        let rest = flat_map (sent_of keeps) later in
        let first = turn_sent stand c.after p.0 p.1 c.sent_now c.got_now c.turn
        (judges_fewer (p ∷ later) (p ∷ []) judges (λ t. omega arith) (λ t. omega arith)) in
        let more = course_sent later c.after c.sent_later c.got_later c.rest
        (judges_fewer (p ∷ later) later judges (λ t. omega arith) (λ t. omega arith)) in
        sym (append_assoc (kept_of keeps stand) (sent_of keeps p) rest)
        ∙ (ap (λ front. front ++ rest) first
        ∙ (append_assoc c.sent_now (kept_of keeps c.after) rest
        ∙ (ap (λ list. c.sent_now ++ list) more ∙ sym c.sent_is)))
