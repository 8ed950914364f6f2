-- What a receive of many of a party did, as its actions, and what it got by them.
use Rattle.std.proofs.Common.{◌≡◌, ℕ, ◌<◌, suc, zero, Bool, true, false, List, [], ◌∷◌, ◌++◌, Result, Ok, Err, Vec, length}
use Rattle.std.proofs.Common.{refl, sym, ap, ◌∙◌, subst, append_assoc, arith}
use Rattle.std.proofs.lemmas.List.{append-nil}
use Rattle.flume_model.specs.declared.step.Step.TheVariants.{TryRecv}
use Rattle.flume_model.specs.declared.step.Reply.TheVariants.{Got}
use Rattle.flume_core.specs.declared.error.RecvTimeoutError.{RecvTimeoutError}
use Rattle.flume_core.specs.declared.error.RecvTimeoutError.TheVariants.{NoMemory}
use Rattle.flume_calls.specs.declared.calls.receive.RecvNext.{RecvNext}
use Rattle.flume_calls.specs.declared.calls.receive.RecvNext.TheVariants.{Done, NeedSignal, Park, Refused}
use Rattle.flume_calls.specs.ReceiveTurns.{after_try_recv, GivesNone, IsParkedAnswer}
use Rattle.flume_calls.specs.ReceiveGates as gate
use Rattle.flume_calls.specs.ManyReceives.{each_got, given_by, with_more, IsAtMost, FirstManyTable, Some, None, NoRoom}
use Rattle.flume_party.specs.Parties.{PartyState, party_of, and_made}
use Rattle.flume_actions.specs.Actions.{Action}
use Rattle.flume_actions.specs.Calls.{HasCalled, HasStepped, TriesToReceive, got_by_try}
use Rattle.flume_actions.specs.ReceiveCalls.{Tried}
use Rattle.flume_actions.specs.Callers.{HasMadeCalls}
use Rattle.flume_actions.proofs.CallerLemmas.{no_call, and_call}
use Rattle.flume_keeper.specs.Keeps.{Did}
use Rattle.flume.specs.PartySteps.{Same, AgainReceiveOf}
use Rattle.flume.specs.ManyReceiveSteps.{LacksRoom}
use Rattle.flume.specs.ManyReceiveGates.{ManyState, many_state, SameState, FirstManyOf, TurnAndMoreOf, AgainManyOf, ReceivesManyOf}
use Rattle.flume.specs.ManyReceiveActions.{HasGot, HasReceivedAs, HasReceivedAndMore, HasReceivedMany}
use Rattle.flume.specs.ManyReceiveActions as many
use Rattle.flume.proofs.ManyReceiveLemmas.{first_none, more_parks}
use Rattle.flume.specs.TracedSends.{has_added}
use Rattle.flume.proofs.TracedLemmas.{has_received}
use Rattle.flume.proofs.TracedCallLemmas.{received_called}

module _ {T : Type 0} where
  -- a call that ended had a first turn that ended it
  ended : (n : ℕ) (first : RecvNext T) (result : Result ℕ RecvTimeoutError) → Done result ≡ with_more n first
      → (r : Result T RecvTimeoutError) × (first ≡ Done r)
  ended n (Done r) result is = (r, refl)
  ended n NeedSignal result is = absurd (let none : ⊥ = cc in none)
  ended n (Park t) result is = absurd (let none : ⊥ = cc in none)
  ended n (Refused t) result is = absurd (let none : ⊥ = cc in none)

  -- it answers as one without those behind it
  answers_alone : (t n : ℕ) (last : Bool) (r : Result T RecvTimeoutError) {result : Result ℕ RecvTimeoutError}
      → Done result ≡ with_more n (Done r) → IsParkedAnswer t last (Done result) → IsParkedAnswer {T = T} t last (Done r)
  answers_alone t n last r is answers = grind arith

  -- what a try got is what its turn gave
  given : (first : RecvNext T) → got_by_try first ≡ given_by first
  given first = grind arith

  -- a turn that gave none gave no message
  gave_none : (first : RecvNext T) → GivesNone first → given_by first ≡ []
  gave_none first is = grind arith

-- a party, by its actions
abbrev P : Type 0 → Type 0 → Type 0
P T A = PartyState (Action T A)

module _ {T A : Type 0} where
  -- no more actions
  none_made : (party : P T A) → and_made party [] ≡ party
  none_made party = λ i. party_of party.parts (append-nil party.actions i)

  -- actions, and then others
  both_made : (old : P T A) (some more : List (Action T A)) → and_made old (some ++ more) ≡ and_made (and_made old some) more
  both_made old some more = λ i. party_of old.parts (sym (append_assoc old.actions some more) i)

  -- what a turn of no message did
  alone : {receives : P T A → RecvNext T → P T A → Type 0} {most : ℕ} {old new : P T A} {before after : List T} {next : RecvNext ℕ}
      (first : RecvNext T) → receives old first new → given_by first ≡ [] → after ≡ before → next ≡ with_more 0 first
      → HasReceivedAndMore receives most old before new after next
  alone {new = new} {before = before} first did none same is = record {
    between = new;
    first = first;
    taken = [];
    receive = did;
    made = sym (none_made new);
    gives = grind (arith, append-nil);
  }

  -- what a turn and those behind it did
  more_received : {makes : List (Action T A) → RecvNext T → Type 0} {old new : ManyState (P T A) T A} {next : RecvNext ℕ}
      → TurnAndMoreOf has_added makes old new next
      → HasReceivedAndMore (λ old first new. Did has_added makes old first new) old.most old.party old.list.items new.party new.list.items next
  more_received {old = old} more =
      let all = more.turn.answered in
      record {
        between = and_made old.party all.first_made;
        first = all.first;
        taken = all.taken;
        receive = record { steps = all.first_made; answered = all.answered; made = refl };
        made = more.turn.made ∙ (ap (λ made. and_made old.party made) all.steps ∙ both_made old.party all.first_made (each_got all.taken));
        gives = all.gives;
      }

  -- the same of a call that this turn ended, from where it began
  and_ended : {receives receives' : P T A → RecvNext T → P T A → Type 0} {most most' : ℕ} {old old' new : P T A}
      {before before' after : List T} {result : Result ℕ RecvTimeoutError} → most ≡ most' → before ≡ before'
      → ((r : Result T RecvTimeoutError) (n : ℕ) (between : P T A) → Done result ≡ with_more n (Done r) → receives old (Done r) between
      → receives' old' (Done r) between)
      → HasReceivedAndMore receives most old before new after (Done result)
      → HasReceivedAndMore receives' most' old' before' new after (Done result)
  and_ended {receives} {old = old} {result = result} same list ends more =
      let n = length more.taken in
      let first = ended n more.first result more.gives.next_is in
      let is = subst (λ next. Done result ≡ with_more n next) first.1 more.gives.next_is in
      record {
        between = more.between;
        first = Done first.0;
        taken = more.taken;
        receive = ends first.0 n more.between is (subst (λ next. receives old next more.between) first.1 more.receive);
        made = more.made;
        gives = grind (arith, more.gives);
      }

  -- what the first turn did
  first_received : {old new : ManyState (P T A) T A} {next : RecvNext ℕ} → 0 < old.most → FirstManyOf has_added old new next
      → HasReceivedMany (HasStepped TryRecv after_try_recv) old.most old.party old.list new.party new.list next
  first_received {old} {new} {next} some first = go first.turn.steps first.turn.made first.turn.answered
    where
      took : (taken : List T) (count : ℕ) → new.party ≡ and_made old.party (each_got taken) → new.list.items ≡ old.list.items ++ taken
          → length taken ≡ count → next ≡ Done (Ok count) → IsAtMost old.most (Done (Ok count))
          → HasReceivedMany (HasStepped TryRecv after_try_recv) old.most old.party old.list new.party new.list next
      took [] count made items number is within = absurd (let none = within.1 (sym number) in omega arith)
      took (m ∷ taken) count made items number is within = many.Receives (record {
        between = and_made old.party ((TryRecv, Got m) ∷ []);
        first = Done (Ok m);
        taken = taken;
        receive = record { reply = Got m; answered = refl; made = refl };
        made = made ∙ both_made old.party ((TryRecv, Got m) ∷ []) (each_got taken);
        gives = grind arith;
      })

      go : (made : List (Action T A)) → new.party ≡ and_made old.party made
          → FirstManyTable old.list.items made new.list.items next
          → HasReceivedMany (HasStepped TryRecv after_try_recv) old.most old.party old.list new.party new.list next
      go made did (Some count takes is) =
          took takes.taken count (did ∙ ap (λ made. and_made old.party made) takes.steps) takes.items takes.number is
          (subst (λ n. IsAtMost old.most n) is first.at_most)
      go made did (None reply answer one answered none same is) = many.Receives
          (alone answer (record { reply = reply; answered = answered; made = did ∙ ap (λ made. and_made old.party made) one })
          (gave_none answer none) same is)
      go made did (NoRoom none same is) =
          many.HasNoRoom (subst (λ n. LacksRoom old.list old.most n) is first.room)
          (did ∙ (ap (λ made. and_made old.party made) none ∙ none_made old.party)) same is

  -- the parked call, as a receive of the message that ended it
  abbrev ParkedEnds : ℕ → P T A → RecvNext T → P T A → Type 0
  ParkedEnds ticket old (Done r) new = gate.ParkedReceive (AgainReceiveOf has_added) (Same has_added) old ticket new r
  ParkedEnds ticket old _ new = ⊥

  -- what the parked call did
  parked_received : {old new : ManyState (P T A) T A} {ticket : ℕ} {result : Result ℕ RecvTimeoutError}
      → gate.ParkedReceive (AgainManyOf has_added) SameState old ticket new result
      → HasReceivedAndMore (ParkedEnds ticket) old.most old.party old.list.items new.party new.list.items (Done result)
  parked_received {ticket = ticket} (gate.Asked a) = and_ended refl refl
      (λ r n between is did. gate.Asked (record { answers = answers_alone ticket n false r is a.answers; turn = did }))
      (more_received a.turn)
  parked_received (gate.Withdrawn a b e) = absurd a.had_memory
  parked_received (gate.Expired {same = same} a w b) =
      let parks = more_parks a.turn in
      and_ended (w.most ∙ a.turn.most) (w.items ∙ parks.1)
      (λ r n between is did. gate.Expired (record { answers = a.answers; turn = parks.0 }) w.party
      (record { answers = answers_alone same n true r is b.answers; turn = did }))
      (more_received b.turn)
  parked_received (gate.Waited a w rest) =
      let parks = more_parks a.turn in
      and_ended (w.most ∙ a.turn.most) (w.items ∙ parks.1)
      (λ r n between is later. gate.Waited (record { answers = a.answers; turn = parks.0 }) w.party later)
      (parked_received rest)

  -- what a whole call did
  whole_received : {most : ℕ} {old new : P T A} {before after : Vec T A} {result : Result ℕ RecvTimeoutError} → 0 < most
      → ReceivesManyOf has_added most old before new after result → HasReceivedMany HasReceivedAs most old before new after (Done result)
  whole_received {most} {old} {new} {before} {after} {result} some (end, gate.AtFirst f) = go (first_received some f)
    where
      go : HasReceivedMany (HasStepped TryRecv after_try_recv) most old before new after (Done result)
          → HasReceivedMany HasReceivedAs most old before new after (Done result)
      go (many.Receives more) = many.Receives
          (and_ended refl refl (λ r n between is did. record { actions = _; receive = Tried did.answered; made = did.made }) more)
      go (many.HasNoRoom lacks did same is) = many.HasNoRoom lacks did same is
      go (many.NoneAsked none did same is) = many.NoneAsked none did same is
  whole_received some (end, gate.NoWaiter f a e) =
      let finds = first_none f in
      many.Receives (alone (Done (Err NoMemory)) (has_received (gate.NoWaiter finds.0 a.party refl)) refl (a.items ∙ finds.1)
      (ap (λ r. Done r) e))
  whole_received some (end, gate.AtPark f a p) =
      let finds = first_none f in
      many.Receives (and_ended (a.most ∙ f.most) (a.items ∙ finds.1)
      (λ r n between is did. has_received (gate.AtPark finds.0 a.party did)) (more_received p.turn))
  whole_received some (end, gate.Parked f a p rest) =
      let finds = first_none f in
      let parks = more_parks p.turn in
      many.Receives (and_ended (p.turn.most ∙ (a.most ∙ f.most)) (parks.1 ∙ (a.items ∙ finds.1))
      (λ r n between is later. has_received (gate.Parked finds.0 a.party parks.0 later)) (parked_received rest))

  -- what a receive of many at once did
  pub tried_many : {old new : P T A} {before after : Vec T A} {next : RecvNext ℕ} (most : ℕ)
      → (most ≡ 0 → (new ≡ old) × (after ≡ before)) → (most ≡ 0 → next ≡ Done (Ok 0))
      → (0 < most → FirstManyOf has_added (many_state old most before) (many_state new most after) next)
      → HasReceivedMany (HasStepped TryRecv after_try_recv) most old before new after next
  tried_many zero nothing none some = many.NoneAsked refl (nothing refl).0 (nothing refl).1 (none refl)
  tried_many (suc n) nothing none some = first_received (omega arith) (some (omega arith))

  -- what a receive of many that may wait did
  pub received_many : {old new : P T A} {before after : Vec T A} {result : Result ℕ RecvTimeoutError} (most : ℕ)
      → (most ≡ 0 → (new ≡ old) × (after ≡ before)) → (most ≡ 0 → result ≡ Ok 0)
      → (0 < most → ReceivesManyOf has_added most old before new after result)
      → HasReceivedMany HasReceivedAs most old before new after (Done result)
  received_many zero nothing none some = many.NoneAsked refl (nothing refl).0 (nothing refl).1 (ap (λ r. Done r) (none refl))
  received_many (suc n) nothing none some = whole_received (omega arith) (some (omega arith))

  -- messages that were taken each by a `try_recv` are calls
  and_got : {old new : P T A} (taken : List T) {between : P T A} {got : List T} → HasMadeCalls old between [] got
      → new ≡ and_made between (each_got taken) → HasMadeCalls old new [] (got ++ taken)
  and_got {old} {new} [] {between} {got} calls made =
      subst (λ party. HasMadeCalls old party [] (got ++ [])) (sym (made ∙ none_made between))
      (subst (λ got. HasMadeCalls old between [] got) (sym (append-nil got)) calls)
  and_got {old} {new} (m ∷ taken) {between} {got} calls made =
      subst (λ got. HasMadeCalls old new [] got) (append_assoc got (m ∷ []) taken)
      (and_got taken (and_call calls (record { actions = _; call = TriesToReceive (Done (Ok m)) refl; made = refl }) refl refl)
      (made ∙ both_made between ((TryRecv, Got m) ∷ []) (each_got taken)))

  -- a party that did nothing got nothing
  got_none : {old new : P T A} {before after : List T} → new ≡ old → after ≡ before → HasGot old new before after
  got_none {old} {before = before} did same = record {
    got = [];
    items = same ∙ sym (append-nil before);
    calls = subst (λ party. HasMadeCalls old party [] []) (sym did) (no_call old);
  }

  -- what a receive of many got
  has_got : {receives : P T A → RecvNext T → P T A → Type 0} {most : ℕ} {old new : P T A} {before after : Vec T A} {next : RecvNext ℕ}
      → ((first : RecvNext T) (between : P T A) → receives old first between → HasCalled old between [] (got_by_try first))
      → HasReceivedMany receives most old before new after next → HasGot old new before.items after.items
  has_got {old = old} call (many.Receives more) = record {
    got = given_by more.first ++ more.taken;
    items = more.gives.items;
    calls = and_got more.taken
        (and_call (no_call old) (call more.first more.between more.receive) refl (sym (given more.first))) more.made;
  }
  has_got call (many.HasNoRoom lacks did same is) = got_none did same
  has_got call (many.NoneAsked none did same is) = got_none did (ap (λ list. list.items) same)

  -- what a receive of many at once got
  pub tried_got : {most : ℕ} {old new : P T A} {before after : Vec T A} {next : RecvNext ℕ}
      → HasReceivedMany (HasStepped TryRecv after_try_recv) most old before new after next → HasGot old new before.items after.items
  tried_got did = has_got
      (λ first between tries. record { actions = _; call = TriesToReceive first tries.answered; made = tries.made }) did

  -- what a receive as a call got
  received_as : {old : P T A} (first : RecvNext T) (between : P T A) → HasReceivedAs old first between
      → HasCalled old between [] (got_by_try first)
  received_as (Done r) between did = received_called r did
  received_as NeedSignal between did = absurd did
  received_as (Park t) between did = absurd did
  received_as (Refused t) between did = absurd did

  -- what a receive of many that may wait got
  pub received_got : {most : ℕ} {old new : P T A} {before after : Vec T A} {next : RecvNext ℕ}
      → HasReceivedMany HasReceivedAs most old before new after next → HasGot old new before.items after.items
  received_got did = has_got received_as did
