-- What one party got is, in its order, among what was handed out, whatever others did.
use Rattle.std.proofs.Common.{◌≡◌, ℕ, ◌≤◌, ◌||◌, ◌==◌, Bool, true, false, List, [], ◌∷◌, ◌++◌, Option}
use Rattle.std.proofs.Common.{Some, None, refl, ap, sym, subst, ◌∙◌, arith, if◌then◌else◌, eqb-true}
use Rattle.std.proofs.lemmas.Bool.Decides.{nat_tests}
use Rattle.std.proofs.lemmas.List.{append_assoc}
use Rattle.std.proofs.lemmas.Grind.{common_steps}
use Rattle.std.specs.List.{flat_map}
use mathlib.Core.List.{reverse_aux}
use Rattle.flume_model.specs.declared.step.Step.{Step}
use Rattle.flume_model.specs.declared.step.Reply.{Reply}
use Rattle.flume_model.specs.Log.{Log, Opening, Change, is_ticket, change, was_filled, filled_by}
use Rattle.flume_model.specs.Offers.{hands_out, fill}
use Rattle.flume_model.specs.Fills.{shows_to, shown}
use Rattle.flume_model.specs.Entries.{entry_of}
use Rattle.flume_model.specs.Asking.{IsPollReply, IsWithdrawReply}
use Rattle.flume_model.specs.Channel.{Channel, channel}
use Rattle.flume_model.specs.Parked.{LogEntry, entries}
use Rattle.flume_model.specs.Replies.{IsReply, IsRun}
use Rattle.flume_party.specs.Interleavings.{Interleaving, End, Left, Right}
use Rattle.flume_actions.specs.Actions.{Action}
use Rattle.flume_laws.specs.Offered.{IsSublist}
use Rattle.flume_laws.proofs.SublistLemmas.{none_of, front_of, all_of, some_of_some, some_of_both}
use Rattle.flume_laws.proofs.TurnLemmas.{Stand, AsReceiver, parked_of, Turn, Asks}
use Rattle.flume_laws.proofs.TurnLemmas.{Ends, Leaves, answered, Course}
use Rattle.flume_laws.proofs.GotMemberLemmas.{here}
use Rattle.flume_laws.proofs.GotEntryLemmas.{stands}
use Rattle.flume_laws.proofs.GotEffectLemmas.{as_list, final, in_hand, takes, hands_by, named_is_filled}
use Rattle.flume_laws.proofs.GotParkedLemmas.{effect}
use Rattle.flume_laws.proofs.GotShownLemmas.{run_before, shown_now}
use Rattle.flume_laws.proofs.GotRunLemmas.{to_come}

module _ {T : Type 0} where
  -- what a receiver was handed before, now that one may be filled, is what it was handed before that,
  -- or the fill
  hand_by : (seen : ℕ → Option T) (t : ℕ) (filled : Option ℕ) (was : Bool)
      → IsSublist (if is_ticket t filled || was then as_list (seen t) else [])
      ((if was then as_list (seen t) else []) ++ flat_map (final seen) (fill filled))
  hand_by seen t None true = front_of (as_list (seen t)) []
  hand_by seen t None false = none_of []
  hand_by seen t (Some u) was = by_case (u == t) refl was
    where
      by_case : (same : Bool) → (u == t) ≡ same → (was : Bool)
          → IsSublist (if same || was then as_list (seen t) else [])
          ((if was then as_list (seen t) else []) ++ (as_list (seen u) ++ []))
      by_case true is true = front_of (as_list (seen t)) (as_list (seen u) ++ [])
      by_case true is false = subst (λ v. IsSublist (as_list (seen v)) (as_list (seen u) ++ []))
          (eqb-true u t is) (front_of (as_list (seen u)) [])
      by_case false is true = front_of (as_list (seen t)) (as_list (seen u) ++ [])
      by_case false is false = none_of (as_list (seen u) ++ [])

  hand_before : (seen : ℕ → Option T) (was : ℕ → Bool) (filled parked : Option ℕ)
      → IsSublist (in_hand seen (λ t. is_ticket t filled || was t) parked)
      (in_hand seen was parked ++ flat_map (final seen) (fill filled))
  hand_before seen was filled None = none_of (flat_map (final seen) (fill filled))
  hand_before seen was filled (Some t) = hand_by seen t filled (was t)

  -- one whose ticket nobody has is answered with no message
  poll_unknown : (A : Type 0) (c : Channel T) (reply : Reply T A) → IsPollReply c None reply
      → answered reply ≡ []
  poll_unknown A c reply h = grind (arith, common_steps)

  withdraw_unknown : (A : Type 0) (c : Channel T) (t : ℕ) (reply : Reply T A)
      → IsWithdrawReply c t None reply → answered reply ≡ []
  withdraw_unknown A c t reply h = grind (arith, common_steps)

  -- the ticket of an entry stands
  found_stands : (t u : ℕ) (e : LogEntry T) (es : List (LogEntry T)) → entry_of u es ≡ Some e
      → here t (Some u) ≤ stands t es
  found_stands t u e es found = grind (arith, common_steps, nat_tests, found)

module _ {T A : Type 0} where
  -- what a party that is parked so gets from a moment on is in its hand or to come
  abbrev IsDue : (seen : ℕ → Option T) → Log T A → (parked : Option ℕ) → List (Action T A)
      → (got : List T) → Type 0
  IsDue seen past parked rest got =
      IsSublist got (in_hand seen (was_filled past) parked ++ to_come seen past rest)

  -- an action that hands out something to whoever makes it: what a party, parked before and after it
  -- so, gets now is of that, or was handed to it before
  abbrev Gives : (seen : ℕ → Option T) → Log T A → Action T A → (parked after : Option ℕ)
      → (now : List T) → Type 0
  Gives seen past p parked after now =
      (own : List T)
      × IsSublist (now ++ in_hand seen (was_filled past) after)
      (in_hand seen (was_filled past) parked ++ own)
      × (flat_map (final seen) (hands_out (change past p.0 p.1))
      ≡ own ++ flat_map (final seen) (fill (filled_by p.1)))

  -- what is due before the action
  due_before : (seen : ℕ → Option T) (past : Log T A) (p : Action T A) (rest : List (Action T A))
      (parked after : Option ℕ) (now later : List T) → Gives seen past p parked after now
      → IsDue seen (p ∷ past) after rest later → IsDue seen past parked (p ∷ rest) (now ++ later)
  due_before seen past p rest parked after now later gives due =
      let held : Option ℕ → List T = in_hand seen (was_filled past) in
      let filled : List T = flat_map (final seen) (fill (filled_by p.1)) in
      let line : List T = to_come seen (p ∷ past) rest in
      let hand = hand_before seen (was_filled past) (filled_by p.1) after in
      let own = some_of_both gives.1 (all_of (filled ++ line)) in
      let all : IsSublist (now ++ later) ((now ++ held after) ++ (filled ++ line)) =
      subst (IsSublist (now ++ later))
      (ap (λ list. now ++ list) (append_assoc (held after) filled line)
      ∙ sym (append_assoc now (held after) (filled ++ line)))
      (some_of_both (all_of now) (some_of_some due (some_of_both hand (all_of line)))) in
      subst (IsSublist (now ++ later))
      (append_assoc (held parked) gives.0 (filled ++ line)
      ∙ ap (λ list. held parked ++ list) (sym (append_assoc gives.0 filled line)
      ∙ ap (λ list. list ++ line) (sym gives.2)))
      (some_of_some all own)

  -- another's action
  other_gives : (o : Opening) (seen : ℕ → Option T) (past : Log T A) (p : Action T A)
      (parked : Option ℕ) → IsReply (channel o past) p.0 p.1 → Gives seen past p parked parked []
  other_gives o seen past p parked reply =
      let done : Change T = change past p.0 p.1 in (
        takes done,
        front_of (in_hand seen (was_filled past) parked) (takes done),
        hands_by seen done ∙ ap (λ f. takes done ++ flat_map (final seen) (fill f))
            (sym (named_is_filled o past p.0 p.1 reply)),
      )

  -- one by which a party is parked no more, and gets nothing
  last_gives : (o : Opening) (seen : ℕ → Option T) (past : Log T A) (p : Action T A)
      (parked : Option ℕ) (got : List T) → IsReply (channel o past) p.0 p.1 → [] ≡ got
      → Gives seen past p parked None got
  last_gives o seen past p parked got reply nothing =
      let other = other_gives o seen past p parked reply in
      let all : List T = in_hand seen (was_filled past) parked ++ other.0 in
      (other.0, subst (λ list. IsSublist (list ++ []) all) nothing (none_of all), other.2)

  -- the party's own, if an entry has its ticket
  known_gives : (o : Opening) (seen : ℕ → Option T) (past : Log T A) (step : Step T)
      (reply : Reply T A) (before after : Stand T) (sent got : List T)
      → Turn before step reply after sent got → IsRun o ((step, reply) ∷ past)
      → ((t : ℕ) (m : T) → shows_to t step reply ≡ Some m → seen t ≡ Some m)
      → ((t : ℕ) → here t (parked_of before) ≤ stands t (entries o past))
      → Gives seen past (step, reply) (parked_of before) (parked_of after) got
  known_gives o seen past step reply before after sent got turn run shows stood =
      let e = effect o past seen step reply before after sent got turn run stood shows in
      let now : List T = got ++ in_hand seen (was_filled past) (parked_of after) in
      (e.own, subst (IsSublist now) e.shows (all_of now), e.hands)

  -- and if none has it, since another asked or left under it
  unknown_gives : (o : Opening) (seen : ℕ → Option T) (past : Log T A) (step : Step T)
      (reply : Reply T A) (t : ℕ) (after : Stand T) (sent got : List T)
      → Turn (AsReceiver t) step reply after sent got → IsReply (channel o past) step reply
      → entry_of t (entries o past) ≡ None
      → Gives seen past (step, reply) (Some t) (parked_of after) got
  unknown_gives o seen past step reply t _ _ _ (Asks is) run none =
      other_gives o seen past (step, reply) (Some t) run
  unknown_gives o seen past step reply t _ _ got (Ends is same) run none =
      last_gives o seen past (step, reply) (Some t) got run
      (sym (poll_unknown A (channel o past) reply
      (subst (λ f. IsPollReply (channel o past) f reply) none run)) ∙ same)
  unknown_gives o seen past step reply t _ _ got (Leaves is same) run none =
      last_gives o seen past (step, reply) (Some t) got run
      (sym (withdraw_unknown A (channel o past) t reply
      (subst (λ f. IsWithdrawReply (channel o past) t f reply) none run)) ∙ same)

  own_gives : (o : Opening) (seen : ℕ → Option T) (past : Log T A) (step : Step T)
      (reply : Reply T A) (before after : Stand T) (sent got : List T)
      → Turn before step reply after sent got → IsRun o ((step, reply) ∷ past)
      → ((t : ℕ) (m : T) → shows_to t step reply ≡ Some m → seen t ≡ Some m)
      → Gives seen past (step, reply) (parked_of before) (parked_of after) got
  own_gives o seen past step reply (AsReceiver t) after sent got turn run shows =
      by_found (entry_of t (entries o past)) refl
    where
      by_found : (found : Option (LogEntry T)) → entry_of t (entries o past) ≡ found
          → Gives seen past (step, reply) (Some t) (parked_of after) got
      by_found (Some e) is = known_gives o seen past step reply (AsReceiver t) after sent got turn run
          shows (λ u. found_stands u t e (entries o past) is)
      by_found None is = unknown_gives o seen past step reply t after sent got turn run.0 is
  own_gives o seen past step reply before after sent got turn run shows =
      known_gives o seen past step reply before after sent got turn run shows (λ t. omega arith)

  -- from each moment of a run on
  pub due : (o : Opening) (seen : ℕ → Option T) {actions others rest : List (Action T A)}
      (past : Log T A) (stand : Stand T) (sent got : List T) → Interleaving actions others rest
      → Course actions stand sent got → IsRun o (reverse_aux rest past)
      → ((t : ℕ) → seen t ≡ shown (reverse_aux rest past) t)
      → IsDue seen past (parked_of stand) rest got
  due o seen past stand sent got End course run same =
      subst (IsDue seen past (parked_of stand) []) (sym course.2) (none_of _)
  due o seen past stand sent got (Left {x = p} {zs = rest} merged) course run same =
      let gives = own_gives o seen past p.0 p.1 stand course.after course.sent_now course.got_now
      course.turn (run_before o rest (p ∷ past) run)
      (λ t m is. same t ∙ shown_now o rest past p t m run is) in
      subst (IsDue seen past (parked_of stand) (p ∷ rest)) (sym course.got_is)
      (due_before seen past p rest (parked_of stand) (parked_of course.after) course.got_now
      course.got_later gives
      (due o seen (p ∷ past) course.after course.sent_later course.got_later merged course.rest run
      same))
  due o seen past stand sent got (Right {y = p} {zs = rest} merged) course run same =
      due_before seen past p rest (parked_of stand) (parked_of stand) [] got
      (other_gives o seen past p (parked_of stand) (run_before o rest (p ∷ past) run).0)
      (due o seen (p ∷ past) stand sent got merged course run same)
