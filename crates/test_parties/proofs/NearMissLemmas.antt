-- What is exchanged or routed between one sender and one receiver, what of a list is in its order,
-- and runs.
use Rattle.std.proofs.Common.{rules, ◌≡◌, ◌==◌, ℕ, Bool, true, false, ◌&&◌, ◌||◌, List, [], ◌∷◌, Ok}
use Rattle.std.proofs.Common.{◌++◌, Err, Some, None, refl, sym, subst, ◌∙◌, arith, eq-eqb}
use Rattle.flume_core.specs.declared.error.RecvTimeoutError.TheVariants.{Timeout}
use Rattle.flume_core.specs.declared.error.SendTimeoutError.TheVariants as send_error
use Rattle.flume_calls.specs.declared.calls.receive.RecvNext.TheVariants as receive
use Rattle.flume_calls.specs.declared.calls.send.SendNext.TheVariants.{Done}
use Rattle.flume_model.specs.declared.step.Kind.TheVariants.{Plain}
use Rattle.flume_model.specs.declared.step.Step.TheVariants.{Recv, Withdraw}
use Rattle.flume_model.specs.declared.step.Reply.TheVariants.{Parked, Gone}
use Rattle.flume_party.specs.Interleavings.{Interleaving, End, Left, Right}
use Rattle.flume_party.proofs.InterleavingLemmas.{interleaved_alone}
use Rattle.flume_actions.specs.Actions.{IsPart, IsWhole}
use Rattle.flume_actions.specs.SendCalls.{IsPolledSend}
use Rattle.flume_actions.specs.SendCalls as send_calls
use Rattle.flume_actions.specs.ReceiveCalls.{Polled, Left as LeftBy}
use Rattle.flume_actions.specs.Calls.{AreCalls, AndCall, NoCalls, TriesToSend, TriesToReceive}
use Rattle.flume_actions.specs.Calls.{PollsToReceive}
use Rattle.flume_laws.specs.Together.{Interleaved, AreEmpty, EachMerged, NoList, AndLists}
use Rattle.flume_laws.specs.Together.{EachAreCalls, AndParty, NoParty, AreExchanged}
use Rattle.flume_laws.specs.Together.{AreExchangedInPhases}
use Rattle.flume_laws.proofs.TakeInLemmas.{one_in_order, two_in_order}
use Rattle.test_parties.specs.NearMisses.{one_sent, one_got, waited_for, sends, both_got}
use Rattle.test_parties.specs.NearMisses.{two_exchanged, comes_back}

-- an interleaving begins as one of its lists
pub begins_so : {xs ys zs : List ℕ} → Interleaving xs ys zs → xs ≡ 1 ∷ 2 ∷ [] → ys ≡ 3 ∷ []
    → zs ≡ 2 ∷ 3 ∷ 1 ∷ [] → ⊥
begins_so End first second all = cc
begins_so (Left rest) first second all = cc
begins_so (Right rest) first second all = cc

module _ {X : Type 0} where
  pub routed_alone : {firsts others gots : List (List X)} {sent got : List X}
      → EachMerged firsts others gots → gots ≡ got ∷ [] → Interleaved firsts sent
      → AreEmpty others → got ≡ sent
  routed_alone NoList is first none = absurd (cc is)
  routed_alone {sent = sent} {got = got} (AndLists {xs = xs} {ys = ys} {zs = zs} merged NoList) is first
      none =
      let whole : got ≡ zs = cc in
      whole ∙ (interleaved_alone xs zs (subst (λ list. Interleaving xs list zs) none.0 merged)
      ∙ sym (one_in_order first))
  routed_alone (AndLists merged (AndLists more rest)) is first none = absurd (cc is)

-- it is the run of one call, which sent a message
pub one_is_whole : IsWhole None one_sent (Some 1)
one_is_whole = record {
  history = one_sent;
  all = refl;
  run = search rules;
  counted = λ n is. (cc is, refl);
  uncounted = λ none. absurd cc;
}

pub one_call : EachAreCalls (one_sent ∷ []) ((1 ∷ []) ∷ []) ([] ∷ [])
one_call = AndParty (AndCall NoCalls (TriesToSend (Done (Ok tt)) (search rules))) NoParty

-- and one of two calls, of which one waited, and the other sent a message
pub waited_is_whole : IsWhole (Some 0) waited_for (Some 1)
waited_is_whole = record {
  history = waited_for;
  all = refl;
  run = search rules;
  counted = λ n is. (cc is, refl);
  uncounted = λ none. absurd cc;
}

pub two_calls : EachAreCalls
    (((Recv Plain, Parked 1) ∷ (Withdraw 1, Gone false None) ∷ []) ∷ one_sent ∷ [])
    ([] ∷ (1 ∷ []) ∷ []) ([] ∷ [] ∷ [])
two_calls = AndParty (AndCall NoCalls (PollsToReceive {result = Err Timeout}
    (Polled (search rules) (LeftBy (search rules))))) one_call

-- whether the first list has some elements of the second one, in its order
abbrev pub is_sublist : List ℕ → List ℕ → Bool
is_sublist [] ys = true
is_sublist (x ∷ xs) [] = false
is_sublist (x ∷ xs) (y ∷ ys) = ((x == y) && is_sublist xs ys) || is_sublist (x ∷ xs) ys

skip_one : (y : ℕ) (xs ys : List ℕ) → is_sublist xs ys ≡ true → is_sublist xs (y ∷ ys) ≡ true
skip_one y [] ys is = refl
skip_one y (x ∷ xs) ys is = grind (arith, is)

-- if it has
pub sublist_is_found : {xs rest ys : List ℕ} → Interleaving xs rest ys → is_sublist xs ys ≡ true
sublist_is_found End = refl
sublist_is_found (Left {x = x} {xs = xs} {zs = ys} more) =
    grind (arith, sublist_is_found more, eq-eqb x x refl)
sublist_is_found (Right {y = y} {xs = xs} {zs = ys} more) =
    skip_one y xs ys (sublist_is_found more)

-- the call of a party that got a message, and the run in which it did
pub one_receives : AreCalls one_got [] (1 ∷ [])
one_receives = AndCall NoCalls (TriesToReceive (receive.Done (Ok 1)) (search rules))

pub got_of_another : (part : IsPart None one_got) × (part.others ≡ one_sent)
got_of_another = (
  record {
    history = one_sent ++ one_got;
    others = one_sent;
    among = Right (Left End);
    run = (([], refl), search rules);
  },
  refl,
)

-- the run in which two messages were sent and got, and its parties
pub two_are_whole : IsWhole None two_exchanged (Some 0)
two_are_whole = record {
  history = two_exchanged;
  all = refl;
  run = search rules;
  counted = λ n is. (cc is, refl);
  uncounted = λ none. absurd cc;
}

pub one_sends : (message : ℕ) → AreCalls (sends message) (message ∷ []) []
one_sends message = AndCall NoCalls (TriesToSend (Done (Ok tt)) (search rules))

pub both_receives : AreCalls both_got [] (1 ∷ 2 ∷ [])
both_receives = AndCall (AndCall NoCalls (TriesToReceive (receive.Done (Ok 1)) (search rules)))
    (TriesToReceive (receive.Done (Ok 2)) (search rules))

pub three_calls : EachAreCalls (sends 1 ∷ sends 2 ∷ both_got ∷ []) ((1 ∷ []) ∷ (2 ∷ []) ∷ [] ∷ [])
    ([] ∷ [] ∷ (1 ∷ 2 ∷ []) ∷ [])
three_calls = AndParty (one_sends 1) (AndParty (one_sends 2) (AndParty both_receives NoParty))

pub three_merged : Interleaved (sends 1 ∷ sends 2 ∷ both_got ∷ []) two_exchanged
three_merged = (
  sends 2 ++ both_got,
  (both_got, ([], refl, Left (Left End)), Left (Right (Right End))),
  Left (Right (Right (Right End))),
)

-- if 2 comes before 1, a receiver that got both didn't get 1 first
pub second_first : AreExchangedInPhases {X = ℕ} ((2 ∷ []) ∷ []) ((1 ∷ []) ∷ []) ([] ∷ [])
    ((1 ∷ 2 ∷ []) ∷ [] ∷ [] ∷ []) → ⊥
second_first all =
    let none : all.8.0 ≡ [] = interleaved_alone [] all.8.0 (two_in_order all.8.1) in
    let line : all.3 ≡ 1 ∷ 2 ∷ [] = interleaved_alone (1 ∷ 2 ∷ []) all.3
    (subst (λ others. Interleaving (1 ∷ 2 ∷ []) others all.3) none all.8.2) in
    let first : all.0 ≡ 2 ∷ [] = one_in_order all.4 in
    let second : all.1 ≡ 1 ∷ [] = one_in_order all.5 in
    let found : is_sublist (all.0 ++ all.1) all.3 ≡ true = sublist_is_found all.7 in
    let turned : false ≡ true =
    subst (λ (t : List ℕ × List ℕ × List ℕ). is_sublist (t.0 ++ t.1) t.2 ≡ true)
    (λ i. (first i, second i, line i)) found in
    cc

-- one asked 1 and 2, another 3, and the server got 1, 3 and 2
pub three_asked : AreExchanged {X = ℕ} ((1 ∷ 2 ∷ []) ∷ (3 ∷ []) ∷ []) ((1 ∷ 3 ∷ 2 ∷ []) ∷ [])
three_asked = (
  1 ∷ 3 ∷ 2 ∷ [],
  (3 ∷ [], ([], refl, Left End), Left (Right (Left End))),
  ([], refl, Left (Left (Left End))),
)

-- the run in which a blocked message came back, and the call that got a message back
pub blocked_is_whole : IsWhole (Some 0) (comes_back 1) (Some 0)
blocked_is_whole = record {
  history = comes_back 1;
  all = refl;
  run = (((refl, [], [], refl), search rules), search rules);
  counted = λ n is. (cc is, refl);
  uncounted = λ none. absurd cc;
}

pub came_back : (message : ℕ) → IsPolledSend 1 (comes_back message) (Err (send_error.Timeout message))
came_back message = send_calls.Polled refl (send_calls.Left refl)
