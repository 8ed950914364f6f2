-- The message that comes back from a call that sends is the one that it offered.
use Rattle.std.proofs.Common.{◌≡◌, ℕ, Bool, true, false, if◌then◌else◌, List, [], ◌∷◌, ◌++◌, drop}
use Rattle.std.proofs.Common.{Option, Some, refl, ap, sym, subst, ◌⊎◌, inl, inr, arith, eqb-true, eq-eqb}
use Rattle.std.proofs.lemmas.Grind.{common_steps}
use Rattle.std.proofs.lemmas.List.Elements.{All-nil, All-cons, All-head, All-tail, All-weaker, All-same}
use Rattle.std.proofs.lemmas.List.Elements.{All-filter, All-drop, All-contains, All-contains_itself}
use Rattle.std.proofs.lemmas.List.Elements.{Contains-push, Contains-push_cases, Contains-append_left}
use Rattle.std.proofs.lemmas.List.Elements.{Contains-append_cases}
use Rattle.std.proofs.lemmas.List.Sorted.{All-permutation, IsPermutation-reverse, IsPermutation-sym}
use Rattle.std.specs.Prelude.{Err, reverse}
use Rattle.std.specs.List.{All, Contains}
use Rattle.flume_model.specs.declared.step.Step.{Step}
use Rattle.flume_model.specs.declared.step.Step.TheVariants.{TrySend, Send, PollSend, WithdrawSend}
use Rattle.flume_model.specs.declared.step.Reply.{Reply}
use Rattle.flume_model.specs.declared.step.Reply.TheVariants.{Full, Closed, NoMemory, Spent, Pending}
use Rattle.flume_model.specs.declared.step.Reply.TheVariants.{Returned}
use Rattle.flume_model.specs.Log.{Log, Opening, Offer, opens, is_ticket, change}
use Rattle.flume_model.specs.Offers.{offers, offers_made, kept, hand_outs}
use Rattle.flume_model.specs.Counts.{is_over}
use Rattle.flume_model.specs.Line.{line, queue_len, next_ticket}
use Rattle.flume_model.specs.Channel.{channel, IsBlocked}
use Rattle.flume_model.specs.Laws.{IsEarlier, Rising}
use Rattle.flume_model.specs.Replies.{IsReply, IsRun}
use Rattle.flume_model.proofs.TicketLemmas.{All-at_seam}
use Rattle.flume_model.proofs.order.RunLemmas.{tickets_rise}
use Rattle.flume_error.specs.Messages.{send_timeout_message}
use Rattle.flume_core.specs.declared.error.SendTimeoutError.{SendTimeoutError}
use Rattle.flume_actions.specs.Actions.{Action, IsWhole, is_of_party}
use Rattle.flume_actions.specs.SendCalls.{IsSend, Tried, Unable, NotBlocked, Blocked, IsBlockedPolls, Answered}
use Rattle.flume_actions.specs.SendCalls.{Left, Pending as Waits, IsPolledSend, AtOnce, Polled}
use Rattle.flume_laws.proofs.CallLemmas.{blocked_polls}
use Rattle.flume_laws.proofs.SentCourseLemmas.{blocked_offer}

-- an earlier ticket is another, and a later one
earlier : (t : ℕ) (o : Option ℕ) → IsEarlier o (Some t) → is_ticket t o ≡ true → ⊥
earlier t o less is = grind (arith, common_steps, eqb-true)

later : (t : ℕ) (o : Option ℕ) → IsEarlier (Some t) o → is_ticket t o ≡ true → ⊥
later t o less is = grind (arith, common_steps, eqb-true)

module _ {T : Type 0} where
  -- an offer with the ticket is of the message
  abbrev IsOf : ℕ → T → Offer T → Type 0
  IsOf t m offer = is_ticket t offer.ticket ≡ true → offer.message ≡ m

  -- if tickets rise, one offer has the ticket
  one_offer : (n t : ℕ) (m : T) (xs : List (Offer T)) → Rising n xs
      → Contains xs (blocked_offer m t) → All (IsOf t m) xs
  one_offer n t m [] rising there = All-nil (IsOf t m)
  one_offer n t m (x ∷ xs) rising there =
      by_either (one_offer n t m xs rising.2) (Contains-append_cases (x ∷ []) xs (blocked_offer m t) there)
    where
      first : Contains [] (blocked_offer m t) ⊎ (x ≡ blocked_offer m t) → x ≡ blocked_offer m t
      first (inl none) = absurd (let less = none.1 in omega arith)
      first (inr is) = is

      by_either : (Contains xs (blocked_offer m t) → All (IsOf t m) xs)
          → Contains (x ∷ []) (blocked_offer m t) ⊎ Contains xs (blocked_offer m t)
          → All (IsOf t m) (x ∷ xs)
      by_either deeper (inl here) =
          let is = first (Contains-push_cases [] x (blocked_offer m t) here) in
          All-cons (IsOf t m) x xs (λ same. ap (λ offer. offer.message) is)
          (All-weaker (λ y. IsEarlier x.ticket y.ticket) (IsOf t m)
          (λ y less same. absurd (later t y.ticket
          (subst (λ offer. IsEarlier offer.ticket y.ticket) is less) same)) xs rising.1)
      by_either deeper (inr there) =
          All-cons (IsOf t m) x xs
          (λ same. absurd (earlier t x.ticket
          (All-contains (λ y. IsEarlier x.ticket y.ticket) xs (blocked_offer m t) rising.1 there) same))
          (deeper there)

  pub same_message : (n t : ℕ) (m back : T) (xs : List (Offer T)) → Rising n xs
      → Contains xs (blocked_offer m t) → Contains xs (blocked_offer back t) → back ≡ m
  same_message n t m back xs rising there again =
      All-contains (IsOf t m) xs (blocked_offer back t) (one_offer n t m xs rising there) again
      (eq-eqb t t refl)

module _ {T A : Type 0} where
  -- what is known of an action of a run with these offers
  abbrev Known : List (Offer T) → Step T → Reply T A → Type 0
  Known some (TrySend m) (Full back) = back ≡ m
  Known some (TrySend m) (Closed back) = back ≡ m
  Known some (TrySend m) (NoMemory back) = back ≡ Some m
  Known some (Send m) (Pending t) = Contains some (blocked_offer m t)
  Known some (Send m) (Closed back) = back ≡ m
  Known some (Send m) (NoMemory back) = back ≡ Some m
  Known some (Send m) (Spent back) = back ≡ Some m
  Known some (PollSend t) (Returned m closed) = Contains some (blocked_offer m t)
  Known some (WithdrawSend t) (Returned m closed) = Contains some (blocked_offer m t)
  Known some _ _ = Unit {0}

  -- of an action with its reply
  abbrev IsKnown : List (Offer T) → Action T A → Type 0
  IsKnown some action = Known some action.0 action.1

  -- a blocked message was offered
  blocked_known : (o : Opening) (past : Log T A) (t : ℕ) (m : T) → IsBlocked (channel o past) t m
      → Contains (offers past) (blocked_offer m t)
  blocked_known o past t m is =
      let P : Offer T → Type 0 = Contains (offers past) in
      All-at_seam P is.1 (blocked_offer m t) is.2 (All-same P _ _ (sym is.3)
      (All-drop P (queue_len o past) (line past) (in_line (is_over past))))
    where
      in_line : (b : Bool) → All (Contains (offers past)) (if b then [] else drop (hand_outs past) (kept past))
      in_line true = All-nil (Contains (offers past))
      in_line false = All-drop (Contains (offers past)) (hand_outs past) (kept past)
          (All-filter _ (Contains (offers past)) (offers past) (All-contains_itself (offers past)))

  -- after its step
  known_now : (o : Opening) (past : Log T A) (step : Step T) (reply : Reply T A)
      → IsReply (channel o past) step reply → Known (offers past ++ offers_made (change past step reply)) step reply
  known_now o past (TrySend m) (Full back) is = is.1
  known_now o past (TrySend m) (Closed back) is = is.1
  known_now o past (TrySend m) (NoMemory back) is = is.1
  known_now o past (Send m) (Pending t) is = Contains-push (offers past) (blocked_offer m t)
  known_now o past (Send m) (Closed back) is = is.1
  known_now o past (Send m) (NoMemory back) is = is.2
  known_now o past (Send m) (Spent back) is = is.2
  known_now o past (PollSend t) (Returned m closed) is =
      Contains-append_left (offers past) _ (blocked_offer m t) (blocked_known o past t m is.0)
  known_now o past (WithdrawSend t) (Returned m closed) is =
      Contains-append_left (offers past) _ (blocked_offer m t) (blocked_known o past t m is.0)
  known_now o past _ _ is = tt

  -- and later
  known_later : (some more : List (Offer T)) (step : Step T) (reply : Reply T A) → Known some step reply
      → Known (some ++ more) step reply
  known_later some more (Send m) (Pending t) known = Contains-append_left some more _ known
  known_later some more (PollSend t) (Returned m closed) known = Contains-append_left some more _ known
  known_later some more (WithdrawSend t) (Returned m closed) known = Contains-append_left some more _ known
  known_later some more _ _ known = known

  -- of all actions
  all_known : (o : Opening) (log : Log T A) → IsRun o log → All (IsKnown (offers log)) log
  all_known o [] run = All-nil (IsKnown [])
  all_known o (p ∷ past) run =
      let P : Action T A → Type 0 = IsKnown (offers (p ∷ past)) in
      All-cons P p past (known_now o past p.0 p.1 run.0)
      (All-weaker (IsKnown (offers past)) P (λ q. known_later (offers past) _ q.0 q.1) past (all_known o past run.1))

  -- what is known of the actions of a call, and of the offers of its run
  pub record Run (made : List (Action T A)) : Type 0 where
    pub some : List (Offer T)
    pub same : (t : ℕ) (m back : T) → Contains some (blocked_offer m t)
        → Contains some (blocked_offer back t) → back ≡ m
    pub known : All (IsKnown some) made

  pub run_of : (capacity : Option ℕ) (left : Option ℕ) (all made : List (Action T A))
      → IsWhole capacity all left → All (Contains all) made → Run made
  run_of capacity left all made whole there =
      let o = opens capacity 1 in
      let log : Log T A = reverse whole.history in
      let P : Action T A → Type 0 = IsKnown (offers log) in
      let order = IsPermutation-sym whole.history log (IsPermutation-reverse whole.history) in
      let known = All-same P all _ whole.all
      (All-filter is_of_party P whole.history (All-permutation P log whole.history order (all_known o log whole.run))) in
      record {
        some = offers log;
        same = λ t m back. same_message (next_ticket o log) t m back (offers log) (tickets_rise o log whole.run);
        known = All-weaker (Contains all) P (λ p is. All-contains P all p known is) made there;
      }

  -- of the actions after the first
  abbrev run_later : (p : Action T A) (made : List (Action T A)) → Run (p ∷ made) → Run made
  run_later p made run =
      record { some = run.some; same = run.same; known = All-tail (IsKnown run.some) p made run.known }

  -- and of the first
  run_now : (step : Step T) (reply : Reply T A) (made : List (Action T A))
      (run : Run ((step, reply) ∷ made)) → Known run.some step reply
  run_now step reply made run = All-head (IsKnown run.some) (step, reply) made run.known

  -- a blocked send
  polls_back : (m : T) (t : ℕ) (made : List (Action T A)) (error : SendTimeoutError T) (run : Run made)
      → Contains run.some (blocked_offer m t) → IsBlockedPolls t made (Err error)
      → send_timeout_message error ≡ m
  polls_back m t _ error run there (Answered {reply = reply} is) =
      let now = run_now (PollSend t) reply [] run in
      let same = λ (back : T). run.same t m back there in
      grind (arith, common_steps, same)
  polls_back m t _ error run there (Left {reply = reply} is) =
      let now = run_now (WithdrawSend t) reply [] run in
      let same = λ (back : T). run.same t m back there in
      grind (arith, common_steps, same)
  polls_back m t _ error run there (Waits {reply = reply} {later = more} is rest) =
      polls_back m t more error (run_later (PollSend t, reply) more run) there rest

  -- one that is polled
  pub polled_back : (m : T) (made : List (Action T A)) (error : SendTimeoutError T) → Run made
      → IsPolledSend m made (Err error) → send_timeout_message error ≡ m
  polled_back m _ error run (AtOnce {reply = reply} is) =
      let now = run_now (Send m) reply [] run in grind (arith, common_steps)
  polled_back m _ error run (Polled {reply = reply} {ticket = t} {later = more} is rest) =
      let pending : reply ≡ Pending t = grind (arith, common_steps) in
      polls_back m t more error (run_later (Send m, reply) more run)
      (subst (λ r. Known run.some (Send m) r) pending (run_now (Send m) reply more run)) rest

  -- one that blocks
  pub send_back : (m : T) (made : List (Action T A)) (error : SendTimeoutError T) → Run made
      → IsSend m made (Err error) → send_timeout_message error ≡ m
  send_back m _ error run (Tried {reply = reply} is) =
      let now = run_now (TrySend m) reply [] run in grind (arith, common_steps)
  send_back m _ _ run (Unable is) = refl
  send_back m _ error run (NotBlocked {full = full} {reply = reply} is done) =
      polled_back m _ error (run_later (TrySend m, full) ((Send m, reply) ∷ []) run) (AtOnce done)
  send_back m _ error run (Blocked {full = full} {reply = reply} {ticket = t} {later = more} is at rest) =
      polled_back m _ error (run_later (TrySend m, full) ((Send m, reply) ∷ more) run)
      (Polled at (blocked_polls t more (Err error) rest))
