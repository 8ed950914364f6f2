-- What callers cite: a party that goes on after it took in others, so that they sent before it.
use Rattle.std.proofs.Common.{◌≡◌, ℕ, ◌+◌, List, [], ◌∷◌, ◌++◌, Option, Some, refl, ap, sym, subst}
use Rattle.std.proofs.Common.{◌∙◌, arith}
use Rattle.flume_party.specs.Interleavings.{Interleaving}
use Rattle.flume_party.specs.Parties.{PartyState, party_of, Merged}
use Rattle.flume_party.proofs.InterleavingLemmas.{interleaved_alone, interleaved_swap}
use Rattle.flume_actions.specs.Actions.{Action, IsWhole}
use Rattle.flume_actions.specs.Callers.{HasMadeCalls}
use Rattle.flume_laws.specs.Together.{Interleaved, AreExchangedInPhases, NoParty, AndParty}
use Rattle.flume_laws.proofs.MergeLemmas.{leave_out}
use Rattle.flume_laws.proofs.JoinLemmas.{only_right, right_first, joined, parted}
use Rattle.flume_laws.proofs.PhaseLemmas.{in_phases}
use Rattle.flume_laws.proofs.TakeInLemmas.{HasTakenIn, take_in, take_in_receiver}
use Rattle.flume_laws.proofs.TakeInLemmas.{one_in_order, two_in_order}

module _ {T A : Type 0} where
  -- A party that took in others, then made calls of its own, and then took in further ones: what
  -- the first ones sent, what it sent then, what the further ones sent, and what all of them got.
  -- Who sent or got nothing may be left out.
  pub record HasGoneOn (party : PartyState (Action T A)) (early late others gots : List (List T))
      : Type 0 where
    pub before : PartyState (Action T A)
    pub after : PartyState (Action T A)
    pub further : PartyState (Action T A)
    pub gots_before : List (List T)
    pub gots_after : List (List T)
    pub gots_further : List (List T)
    pub took : HasTakenIn before early gots_before
    pub went : HasTakenIn after late gots_after
    pub rest : HasTakenIn further others gots_further
    pub merged : Interleaving (before.actions ++ after.actions) further.actions party.actions
    pub gots_are : gots ≡ gots_further ++ (gots_after ++ gots_before)

  -- the calls that the party makes after it took in others
  own_calls : {party party' : PartyState (Action T A)} {sent got : List T}
      (did : HasMadeCalls party party' sent got)
      → HasTakenIn (party_of 0 did.actions) (sent ∷ []) (got ∷ [])
  own_calls {sent = sent} {got = got} did = record {
    parties = did.actions ∷ [];
    all_sents = sent ∷ [];
    all_gots = got ∷ [];
    merged = ([], refl, interleaved_swap [] did.actions did.actions (only_right did.actions));
    calls = AndParty did.calls NoParty;
    sent = λ line all. all;
    got = λ line all. all;
    few = omega arith;
  }

  -- nobody else yet
  nobody_else : HasTakenIn {T = T} {A = A} (party_of 0 []) [] []
  nobody_else = record {
    parties = [];
    all_sents = [];
    all_gots = [];
    merged = refl;
    calls = NoParty;
    sent = λ line all. all;
    got = λ line all. all;
    few = omega arith;
  }

  -- before and after
  went_on : {party party' : PartyState (Action T A)} {sent got : List T}
      (did : HasMadeCalls party party' sent got)
      → Interleaving (party.actions ++ did.actions) [] party'.actions
  went_on {party = party} did =
      let all = party.actions ++ did.actions in
      subst (Interleaving all []) (sym (ap (λ p. p.actions) did.made))
      (interleaved_swap [] all all (only_right all))

  -- the party makes calls after it took in others
  pub go_on : {party party' : PartyState (Action T A)} {sent got : List T}
      {sents gots : List (List T)} → HasTakenIn party sents gots
      → HasMadeCalls party party' sent got → HasGoneOn party' sents (sent ∷ []) [] (got ∷ gots)
  go_on {party = party} {got = got} {gots = gots} before did = record {
    before = party;
    after = party_of 0 did.actions;
    further = party_of 0 [];
    gots_before = gots;
    gots_after = got ∷ [];
    gots_further = [];
    took = before;
    went = own_calls did;
    rest = nobody_else;
    merged = went_on did;
    gots_are = refl;
  }

  -- it only sends
  pub go_on_sender : {party party' : PartyState (Action T A)} {sent : List T}
      {sents gots : List (List T)} → HasTakenIn party sents gots
      → HasMadeCalls party party' sent [] → HasGoneOn party' sents (sent ∷ []) [] gots
  unfolding own_calls
  go_on_sender {party = party} {gots = gots} before did =
      let own = own_calls did in
      record {
        before = party;
        after = party_of 0 did.actions;
        further = party_of 0 [];
        gots_before = gots;
        gots_after = [];
        gots_further = [];
        took = before;
        went = record {
          parties = own.parties;
          all_sents = own.all_sents;
          all_gots = own.all_gots;
          merged = own.merged;
          calls = own.calls;
          sent = own.sent;
          got = λ line list. leave_out [] line (own.got line list);
          few = omega arith;
        };
        rest = nobody_else;
        merged = went_on did;
        gots_are = refl;
      }

  -- a further one is taken in, which began before or after that
  pub take_in_further : {party new other both : PartyState (Action T A)} {parts : ℕ}
      {sent got : List T} {early late others gots : List (List T)}
      → HasGoneOn party early late others gots → new ≡ party_of parts []
      → HasMadeCalls new other sent got → Merged party other both
      → HasGoneOn both early late (sent ∷ others) (got ∷ gots)
  take_in_further {other = other} {got = got} before fresh did merge =
      let more = right_first _ _ _ _ _ before.merged merge.actions in
      let parts = before.further.parts + other.parts in
      record {
        before = before.before;
        after = before.after;
        further = party_of parts more.0;
        gots_before = before.gots_before;
        gots_after = before.gots_after;
        gots_further = got ∷ before.gots_further;
        took = before.took;
        went = before.went;
        rest = take_in before.rest fresh did (record { parts = refl; actions = more.1 });
        merged = more.2;
        gots_are = ap (λ lists. got ∷ lists) before.gots_are;
      }

  -- one that only received
  pub take_in_further_receiver : {party new other both : PartyState (Action T A)} {parts : ℕ}
      {got : List T} {early late others gots : List (List T)}
      → HasGoneOn party early late others gots → new ≡ party_of parts []
      → HasMadeCalls new other [] got → Merged party other both
      → HasGoneOn both early late others (got ∷ gots)
  take_in_further_receiver {other = other} {got = got} before fresh did merge =
      let more = right_first _ _ _ _ _ before.merged merge.actions in
      let parts = before.further.parts + other.parts in
      record {
        before = before.before;
        after = before.after;
        further = party_of parts more.0;
        gots_before = before.gots_before;
        gots_after = before.gots_after;
        gots_further = got ∷ before.gots_further;
        took = before.took;
        went = before.went;
        rest = take_in_receiver before.rest fresh did (record { parts = refl; actions = more.1 });
        merged = more.2;
        gots_are = ap (λ lists. got ∷ lists) before.gots_are;
      }

  -- if its actions are all there were, and the channel was emptied, what was sent early comes first
  pub exchanged_in_phases : {party : PartyState (Action T A)}
      {early late others gots : List (List T)} {capacity : Option ℕ} {n : ℕ}
      → HasGoneOn party early late others gots → IsWhole capacity party.actions (Some n) → n ≡ 0
      → AreExchangedInPhases early late others gots
  exchanged_in_phases {party = party} {capacity = capacity} all whole none =
      let both = in_phases _ _ all.took.merged all.took.calls all.went.merged all.went.calls
      all.rest.merged all.rest.calls all.merged
      (subst (λ n. IsWhole capacity party.actions (Some n)) none whole) in
      let first = parted _ _ both.8 in
      let later = parted _ _ first.3 in (
        both.0,
        both.1,
        both.2,
        both.3,
        all.took.sent both.0 both.4,
        all.went.sent both.1 both.5,
        all.rest.sent both.2 both.6,
        both.7,
        subst (λ lists. Interleaved lists both.3) (sym all.gots_are)
            (joined _ _ (all.rest.got first.0 first.2)
            (joined _ _ (all.went.got later.0 later.2) (all.took.got later.1 later.3) later.4) first.4),
      )

module _ {T : Type 0} where
  -- if one party sent late, and one received, it got what was sent early, and then the rest
  pub one_behind_all : (early : List (List T)) {sent got : List T}
      → AreExchangedInPhases early (sent ∷ []) [] (got ∷ [])
      → (first : List T) × Interleaved early first × (got ≡ first ++ sent)
  one_behind_all early all =
      let front = all.0 in
      let line = interleaved_alone (front ++ all.1) all.3
      (subst (λ none. Interleaving (front ++ all.1) none all.3) all.6 all.7) in (
        front,
        all.4,
        sym (one_in_order all.8) ∙ (line ∙ ap (λ last. front ++ last) (one_in_order all.5)),
      )

module _ {T A : Type 0} where
  -- and if two sent early
  pub one_behind_two : {party : PartyState (Action T A)} {one other third got : List T}
      {capacity : Option ℕ} {n : ℕ}
      → HasGoneOn party (other ∷ one ∷ []) (third ∷ []) [] (got ∷ [])
      → IsWhole capacity party.actions (Some n) → n ≡ 0
      → (early : List T) × Interleaving one other early × (got ≡ early ++ third)
  one_behind_two {one = one} {other = other} all whole none =
      let items = one_behind_all (other ∷ one ∷ []) (exchanged_in_phases all whole none) in
      (items.0, two_in_order items.1, items.2)
