-- What one action of a party hands out: what the party gets by it now, and what fills another.
use Rattle.std.proofs.Common.{◌≡◌, ℕ, ◌+◌, Bool, true, false, List, [], ◌∷◌, ◌++◌, map, Option}
use Rattle.std.proofs.Common.{Some}
use Rattle.std.proofs.Common.{None, refl, ap, sym, ◌∙◌, arith, if◌then◌else◌}
use Rattle.std.proofs.lemmas.List.{append-nil}
use Rattle.std.proofs.lemmas.Grind.{common_steps}
use Rattle.std.specs.List.{flat_map}
use Rattle.flume_model.specs.declared.step.Step.{Step}
use Rattle.flume_model.specs.declared.step.Step.TheVariants.{Poll, Withdraw}
use Rattle.flume_model.specs.declared.step.Reply.{Reply}
use Rattle.flume_model.specs.Log.{Log, Opening, HandOut, Shown, FilledIn, Change, Takes, Drains}
use Rattle.flume_model.specs.Log.{Collects, change, was_filled, filled_by}
use Rattle.flume_model.specs.Offers.{hands_out, fill}
use Rattle.flume_model.specs.Channel.{channel}
use Rattle.flume_model.specs.Replies.{IsReply}
use Rattle.flume_model.proofs.AskingCaseLemmas.{polled_cases, gone_cases}
use Rattle.flume_model.proofs.EntryChangeLemmas.{fills}
use Rattle.flume_laws.proofs.TurnLemmas.{gets}
use Rattle.flume_laws.proofs.TurnLemmas.{is_unparked}
use Rattle.flume_laws.proofs.GotMemberLemmas.{here}
use Rattle.flume_laws.proofs.GotEntryLemmas.{leaver, parker}

module _ {T : Type 0} where
  -- the message, if there is one
  abbrev pub as_list : Option T → List T
  as_list None = []
  as_list (Some message) = message ∷ []

  -- the message of a hand-out; `shown` says what each filled receiver is shown in the end
  abbrev pub final : (ℕ → Option T) → HandOut T → List T
  final shown (Shown message) = message ∷ []
  final shown (FilledIn ticket) = as_list (shown ticket)

  -- what was handed to a party parked under the ticket, if it was filled
  abbrev pub in_hand : (ℕ → Option T) → (ℕ → Bool) → Option ℕ → List T
  in_hand shown was None = []
  in_hand shown was (Some ticket) = if was ticket then as_list (shown ticket) else []

  -- what a change hands out to whoever makes it
  abbrev pub takes : Change T → List T
  takes (Takes message receiver) = message ∷ []
  takes (Drains list) = list
  takes _ = []

  -- an action of a party, parked before and after it so, which gets this now
  pub record Effect (shown : ℕ → Option T) (was : ℕ → Bool) (done : Change T) (filled : Option ℕ)
      (parked after : Option ℕ) (now : List T) : Type 0 where
    -- what is handed to it by this action
    pub own : List T
    pub moves : (t : ℕ) → here t parked + here t (parker done) ≡ here t after + here t (leaver done)
    pub shows : now ++ in_hand shown was after ≡ in_hand shown was parked ++ own
    pub hands : flat_map (final shown) (hands_out done)
        ≡ own ++ flat_map (final shown) (fill filled)

  drained : (shown : ℕ → Option T) (list : List T)
      → flat_map (final shown) (map (λ m. Shown m) list) ≡ list ++ []
  drained shown [] = refl
  drained shown (m ∷ list) = ap (λ more. m ∷ more) (drained shown list)

  -- a change hands out to whoever makes it, and to the one that it fills
  pub hands_by : (shown : ℕ → Option T) (done : Change T) → flat_map (final shown) (hands_out done)
      ≡ takes done ++ flat_map (final shown) (fill (fills done))
  hands_by shown (Drains list) = drained shown list
  hands_by shown _ = refl

  got_fills_none : (was : Bool) (t : ℕ) (m : T)
      → None ≡ fills (if was then Collects t else Takes m (Some t))
  got_fills_none true t m = refl
  got_fills_none false t m = refl

module _ {T A : Type 0} where
  -- a lawful reply names as filled what its change fills
  pub named_is_filled : (o : Opening) (past : Log T A) (step : Step T) (reply : Reply T A)
      → IsReply (channel o past) step reply → filled_by reply ≡ fills (change past step reply)
  named_is_filled o past (Poll t) reply h =
      polled_cases (channel o past) t (λ r. filled_by r ≡ fills (change past (Poll t) r)) reply h
      (record {
        unknown = refl;
        collects = λ e held found is. got_fills_none (was_filled past t) t held;
        takes = λ u m front. got_fills_none (was_filled past t) t m;
        waits_on = λ u woken. refl;
        ends = λ u empty. refl;
        refused = λ back. refl;
      })
  named_is_filled o past (Withdraw t) reply h =
      gone_cases (channel o past) t (λ r. filled_by r ≡ fills (change past (Withdraw t) r)) reply h
      (record {
        unknown = refl;
        collects = λ e held found is. got_fills_none (was_filled past t) t held;
        takes = λ u m front. got_fills_none (was_filled past t) t m;
        fills_none = λ u closed empty. refl;
        passes_on = λ u closed. refl;
      })
  named_is_filled o past step reply h = grind (arith, common_steps)

  -- an action while it isn't parked, by which it doesn't park
  unparked_leaves : (past : Log T A) (step : Step T) (reply : Reply T A)
      → is_unparked step reply ≡ true → leaver (change past step reply) ≡ None
  unparked_leaves past step reply is = grind (arith, common_steps)

  unparked_parks : (past : Log T A) (step : Step T) (reply : Reply T A)
      → is_unparked step reply ≡ true → parker (change past step reply) ≡ None
  unparked_parks past step reply is = grind (arith, common_steps)

  unparked_takes : (past : Log T A) (step : Step T) (reply : Reply T A)
      → is_unparked step reply ≡ true → takes (change past step reply) ≡ gets step reply
  unparked_takes past step reply is = grind (arith, common_steps)

  pub unparked : (o : Opening) (past : Log T A) (shown : ℕ → Option T) (step : Step T)
      (reply : Reply T A) → IsReply (channel o past) step reply → is_unparked step reply ≡ true
      → Effect shown (was_filled past) (change past step reply) (filled_by reply) None None
      (gets step reply)
  unparked o past shown step reply h is =
      let done : Change T = change past step reply in
      let leaves = unparked_leaves past step reply is in
      let parks = unparked_parks past step reply is in
      record {
        own = gets step reply;
        moves = λ t. omega (arith, ap (here t) leaves, ap (here t) parks);
        shows = append-nil (gets step reply);
        hands = hands_by shown done
            ∙ (ap (λ list. list ++ flat_map (final shown) (fill (fills done)))
            (unparked_takes past step reply is)
            ∙ ap (λ f. gets step reply ++ flat_map (final shown) (fill f))
            (sym (named_is_filled o past step reply h)));
      }
