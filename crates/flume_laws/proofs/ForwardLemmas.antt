-- What callers cite: a thread that sends what it makes of what it gets, and what comes out of it.
use Rattle.std.proofs.Common.{◌≡◌, List, [], ◌∷◌, ◌++◌, map, refl, ap, sym, subst, ◌∙◌}
use Rattle.std.proofs.lemmas.List.{append-nil, map-append}
use Rattle.std.proofs.lemmas.List.Sorted.{IsPermutation-map, IsPermutation-trans, IsPermutation-sym}
use Rattle.std.specs.List.Sorted.{IsPermutation}
use Rattle.flume_party.specs.Parties.{PartyState}
use Rattle.flume_party.proofs.InterleavingLemmas.{interleaved_permutes}
use Rattle.flume_actions.specs.Actions.{Action}
use Rattle.flume_actions.specs.Calls.{HasCalled}
use Rattle.flume_actions.proofs.CallerLemmas.{no_call, and_call}
use Rattle.flume_laws.specs.Together.{AreExchanged}
use Rattle.flume_laws.specs.Forwards.{HasForwarded}
use Rattle.flume_laws.proofs.TakeInLemmas.{one_in_order, two_in_order}

module _ {X Y A : Type 0} where
  -- no message yet
  pub no_message : {f : X → Y} (reader : PartyState (Action X A)) (writer : PartyState (Action Y A))
      → HasForwarded f reader reader writer writer
  no_message reader writer = record { messages = []; got = no_call reader; sent = no_call writer }

  -- a message more
  pub and_message : {f : X → Y} {reader reader' reader'' : PartyState (Action X A)}
      {writer writer' writer'' : PartyState (Action Y A)} {x : X}
      → HasForwarded f reader reader' writer writer' → HasCalled reader' reader'' [] (x ∷ [])
      → HasCalled writer' writer'' (f x ∷ []) [] → HasForwarded f reader reader'' writer writer''
  and_message {f = f} {x = x} before got sent = record {
    messages = before.messages ++ x ∷ [];
    got = and_call before.got got refl refl;
    sent = and_call before.sent sent (map-append f before.messages (x ∷ [])) refl;
  }

  -- a call more, which got none
  pub and_no_message : {f : X → Y} {reader reader' reader'' : PartyState (Action X A)}
      {writer writer' : PartyState (Action Y A)} → HasForwarded f reader reader' writer writer'
      → HasCalled reader' reader'' [] [] → HasForwarded f reader reader'' writer writer'
  and_no_message before got = record {
    messages = before.messages;
    got = and_call before.got got refl (sym (append-nil before.messages));
    sent = before.sent;
  }

-- before the loop of such a thread, after one more message, and at the end
pub ruleset forward_steps = (no_message, and_message, and_no_message)

module _ {X Y : Type 0} where
  -- two such threads side by side, between two channels: what comes out of the second, in any order
  pub pooled : (f : X → Y) {sent first second : List X} {results : List Y}
      → AreExchanged (sent ∷ []) (second ∷ first ∷ [])
      → AreExchanged (map f second ∷ map f first ∷ []) (results ∷ [])
      → IsPermutation (map f sent) results
  pooled f {sent = sent} {first = first} {second = second} {results = results} jobs done =
      let taken : IsPermutation (first ++ second) sent =
      subst (IsPermutation (first ++ second)) (one_in_order jobs.1)
      (interleaved_permutes first second jobs.0 (two_in_order jobs.2)) in
      let given : IsPermutation (map f first ++ map f second) results =
      subst (IsPermutation (map f first ++ map f second)) (one_in_order done.2)
      (interleaved_permutes (map f first) (map f second) done.0 (two_in_order done.1)) in
      IsPermutation-trans (map f sent) (map f (first ++ second)) results
      (IsPermutation-sym (map f (first ++ second)) (map f sent)
      (IsPermutation-map f (first ++ second) sent taken))
      (subst (λ list. IsPermutation list results) (sym (map-append f first second)) given)
