-- What callers cite: parties that become one again, and what they sent and got.
use Rattle.std.proofs.Common.{◌≡◌, ℕ, ◌+◌, ◌≤◌, List, [], ◌∷◌, ◌++◌, length, Option, Some, refl, ap}
use Rattle.std.proofs.Common.{sym}
use Rattle.std.proofs.Common.{subst, ◌∙◌, arith}
use Rattle.flume_model.specs.WaitLaws.{IsWithinCapacity}
use Rattle.flume_party.specs.Interleavings.{Interleaving}
use Rattle.flume_party.specs.Parties.{PartyState, party_of, Merged}
use Rattle.flume_party.proofs.InterleavingLemmas.{interleaved_alone, interleaved_swap}
use Rattle.flume_actions.specs.Actions.{Action, IsWhole}
use Rattle.flume_actions.specs.Callers.{HasMadeCalls}
use Rattle.flume_laws.specs.Together.{Interleaved, AreExchanged, IsExchangedSoFar, sum_over_all}
use Rattle.flume_laws.specs.Together.{EachAreCalls, NoParty, AndParty, AreRouted}
use Rattle.flume_laws.proofs.JoinLemmas.{only_right}
use Rattle.flume_laws.proofs.RouteLemmas.{routed}
use Rattle.flume_laws.proofs.MergeLemmas.{leave_out}
use Rattle.flume_laws.proofs.ExchangeLemmas.{exchange, exchange_so_far}
use Rattle.flume_laws.proofs.LeftLemmas.{within_more}
use Rattle.flume_laws.proofs.SumLemmas.{same_sum}

module _ {X : Type 0} where
  -- one list alone is in order
  pub one_in_order : {xs line : List X} → Interleaved (xs ∷ []) line → line ≡ xs
  one_in_order {xs = xs} {line = line} merged =
      interleaved_alone xs line (subst (λ none. Interleaving xs none line) merged.1 merged.2)

  -- two lists, the last first, are merged
  pub two_in_order : {xs ys line : List X} → Interleaved (ys ∷ xs ∷ []) line
      → Interleaving xs ys line
  two_in_order {xs = xs} {ys = ys} {line = line} merged =
      interleaved_swap ys xs line (subst (λ other. Interleaving ys other line)
      (one_in_order merged.1) merged.2)

  -- and back, the first one first
  pub first_two : {xs ys line : List X} → Interleaving xs ys line
      → Interleaved (xs ∷ ys ∷ []) line
  first_two {ys = ys} merged = (ys, ([], refl, interleaved_swap [] ys ys (only_right ys)), merged)

module _ {T A : Type 0} where
  -- A party that took in others: what those sent and got by whole calls, the last first. Who sent
  -- nothing is left out of the first lists, and who got nothing of the second.
  pub record HasTakenIn (party : PartyState (Action T A)) (sents gots : List (List T)) : Type 0 where
    pub parties : List (List (Action T A))
    pub all_sents : List (List T)
    pub all_gots : List (List T)
    pub merged : Interleaved parties party.actions
    pub calls : EachAreCalls parties all_sents all_gots
    pub sent : (line : List T) → Interleaved all_sents line → Interleaved sents line
    pub got : (line : List T) → Interleaved all_gots line → Interleaved gots line
    -- each of these parties is in the first lists or in the second
    pub few : length parties ≤ length sents + length gots

  -- a party of which another was split off, before it did anything
  pub split_off : {party rest : PartyState (Action T A)} {n m : ℕ} → party ≡ party_of n []
      → rest ≡ party_of m party.actions → rest ≡ party_of m []
  split_off {m = m} new rest = rest ∙ ap (λ p. party_of m p.actions) new

  -- a party that did nothing
  pub none_taken_in : {party : PartyState (Action T A)} {n : ℕ} → party ≡ party_of n []
      → HasTakenIn party [] []
  none_taken_in new = record {
    parties = [];
    all_sents = [];
    all_gots = [];
    merged = ap (λ p. p.actions) new;
    calls = NoParty;
    sent = λ line all. all;
    got = λ line all. all;
    few = omega arith;
  }

  -- a party that only received, and took in none
  pub only_received : {new party : PartyState (Action T A)} {n : ℕ} {got : List T}
      → new ≡ party_of n [] → HasMadeCalls new party [] got → HasTakenIn party [] (got ∷ [])
  only_received fresh did =
      let actions = ap (λ p. p.actions) did.made ∙ ap (λ p. p.actions ++ did.actions) fresh in
      record {
        parties = did.actions ∷ [];
        all_sents = [] ∷ [];
        all_gots = _ ∷ [];
        merged = (
          [],
          refl,
          subst (Interleaving did.actions []) (sym actions)
              (interleaved_swap [] _ _ (only_right did.actions)),
        );
        calls = AndParty did.calls NoParty;
        sent = λ line list. leave_out [] line list;
        got = λ line all. all;
        few = omega arith;
      }

  -- one that was new is taken in after its calls
  pub take_in : {party new other both : PartyState (Action T A)} {parts : ℕ} {sent got : List T}
      {sents gots : List (List T)} → HasTakenIn party sents gots → new ≡ party_of parts []
      → HasMadeCalls new other sent got → Merged party other both
      → HasTakenIn both (sent ∷ sents) (got ∷ gots)
  take_in {party = party} {both = both} before fresh did merge =
      let actions = ap (λ p. p.actions) did.made ∙ ap (λ p. p.actions ++ did.actions) fresh in
      record {
        parties = did.actions ∷ before.parties;
        all_sents = _ ∷ before.all_sents;
        all_gots = _ ∷ before.all_gots;
        merged = (
          party.actions,
          before.merged,
          subst (λ list. Interleaving list party.actions both.actions) actions
              (interleaved_swap _ _ _ merge.actions),
        );
        calls = AndParty did.calls before.calls;
        sent = λ line all. (all.0, before.sent all.0 all.1, all.2);
        got = λ line all. (all.0, before.got all.0 all.1, all.2);
        few = omega (arith, before.few);
      }

  -- one that only sent
  pub take_in_sender : {party new other both : PartyState (Action T A)} {parts : ℕ} {sent : List T}
      {sents gots : List (List T)} → HasTakenIn party sents gots → new ≡ party_of parts []
      → HasMadeCalls new other sent [] → Merged party other both
      → HasTakenIn both (sent ∷ sents) gots
  unfolding take_in
  take_in_sender {gots = gots} before fresh did merge =
      let all = take_in before fresh did merge in
      record {
        parties = all.parties;
        all_sents = all.all_sents;
        all_gots = all.all_gots;
        merged = all.merged;
        calls = all.calls;
        sent = all.sent;
        got = λ line list. leave_out gots line (all.got line list);
        few = omega (arith, before.few);
      }

  -- one that only received
  pub take_in_receiver : {party new other both : PartyState (Action T A)} {parts : ℕ} {got : List T}
      {sents gots : List (List T)} → HasTakenIn party sents gots → new ≡ party_of parts []
      → HasMadeCalls new other [] got → Merged party other both
      → HasTakenIn both sents (got ∷ gots)
  unfolding take_in
  take_in_receiver {sents = sents} before fresh did merge =
      let all = take_in before fresh did merge in
      record {
        parties = all.parties;
        all_sents = all.all_sents;
        all_gots = all.all_gots;
        merged = all.merged;
        calls = all.calls;
        sent = λ line list. leave_out sents line (all.sent line list);
        got = all.got;
        few = omega (arith, before.few);
      }

  -- if its actions are all there were, and nothing is left, what was sent is what was got
  pub exchanged : {party : PartyState (Action T A)} {sents gots : List (List T)}
      {capacity : Option ℕ} {n : ℕ} → HasTakenIn party sents gots
      → IsWhole capacity party.actions (Some n) → n ≡ 0 → AreExchanged sents gots
  exchanged {party = party} {capacity = capacity} all whole none =
      let both = exchange all.merged all.calls
      (subst (λ n. IsWhole capacity party.actions (Some n)) none whole) in
      (both.0, all.sent both.0 both.1, all.got both.0 both.2)

  -- if its actions are all there were, and so many messages are left, what was sent is what was
  -- got, and then what is left
  pub exchanged_so_far : {party : PartyState (Action T A)} {sents gots : List (List T)}
      {capacity : Option ℕ} {n : ℕ} → HasTakenIn party sents gots
      → IsWhole capacity party.actions (Some n)
      → IsExchangedSoFar capacity (length sents + length gots) sents gots n
  exchanged_so_far {capacity = capacity} {n = n} all whole =
      let both = exchange_so_far all.merged all.calls whole in
      record {
        line = both.line;
        left = both.left;
        sent = all.sent (both.line ++ both.left) both.sent;
        got = all.got both.line both.got;
        count = both.count;
        within = within_more capacity _ _ n n all.few (omega arith) both.within;
      }

  -- so each sum over what was sent is the sum over what was got
  pub sums_kept : {party : PartyState (Action T A)} {sents gots : List (List T)}
      {capacity : Option ℕ} {n : ℕ} → HasTakenIn party sents gots
      → IsWhole capacity party.actions (Some n) → n ≡ 0 → (weight : T → ℕ)
      → sum_over_all weight sents ≡ sum_over_all weight gots
  sums_kept all whole none weight = same_sum weight _ _ (exchanged all whole none)

module _ {T : Type 0} where
  -- one sender and one receiver
  pub same_in_order : {sent got : List T} → AreExchanged (sent ∷ []) (got ∷ []) → sent ≡ got
  same_in_order all =
      sym (one_in_order all.1) ∙ one_in_order all.2

  -- if some messages are left
  pub left_in_order : {sent got : List T} {capacity : Option ℕ} {parties n : ℕ}
      (all : IsExchangedSoFar capacity parties (sent ∷ []) (got ∷ []) n) → sent ≡ got ++ all.left
  left_in_order all =
      sym (one_in_order all.sent) ∙ ap (λ line. line ++ all.left) (one_in_order all.got)

  -- and in a channel whose capacity isn't less than the number of parties
  pub left_within : {sent got : List T} {capacity : Option ℕ} {bound parties n : ℕ}
      → IsExchangedSoFar capacity parties (sent ∷ []) (got ∷ []) n → capacity ≡ Some bound
      → parties ≤ bound → (left : List T) × (sent ≡ got ++ left) × (length left ≤ bound)
  left_within {parties = parties} {n = n} all is enough =
      let within = subst (λ limit. IsWithinCapacity limit parties n) is all.within in
      (all.left, left_in_order all, omega (arith, within, all.count, enough))

  -- two senders and two receivers: who got what from whom
  pub two_routed : {first second left right : List T}
      → AreExchanged (second ∷ first ∷ []) (right ∷ left ∷ [])
      → AreRouted (first ∷ second ∷ []) (left ∷ right ∷ [])
  two_routed {first = first} {second = second} {left = left} {right = right} all =
      routed (first ∷ second ∷ []) (left ∷ right ∷ [])
      (all.0, first_two (two_in_order all.1), first_two (two_in_order all.2))

module _ {T A : Type 0} where
  -- One party received, and took in another one that sent. These are all there were, and nothing is
  -- left: what was got is what was sent.
  pub one_to_one : {receiver received_by sender sent_by all : PartyState (Action T A)} {n m k : ℕ}
      {sent got : List T} {capacity : Option ℕ} → receiver ≡ party_of n []
      → HasMadeCalls receiver received_by [] got → sender ≡ party_of m []
      → HasMadeCalls sender sent_by sent [] → Merged received_by sent_by all
      → IsWhole capacity all.actions (Some k) → k ≡ 0 → got ≡ sent
  one_to_one receiver received sender sent merged whole none =
      let all = take_in_sender (only_received receiver received) sender sent merged in
      sym (same_in_order (exchanged all whole none))
