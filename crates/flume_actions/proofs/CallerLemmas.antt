-- What callers cite: calls one after the other.
use Rattle.std.proofs.Common.{◌≡◌, List, [], ◌++◌, ap, sym, subst, ◌∙◌, append_assoc}
use Rattle.std.proofs.lemmas.List.{append-nil}
use Rattle.flume_party.specs.Parties.{PartyState, party_of, and_made}
use Rattle.flume_actions.specs.Actions.{Action}
use Rattle.flume_actions.specs.Calls.{AreCalls, NoCalls, AndCall, HasCalled}
use Rattle.flume_actions.specs.Callers.{HasMadeCalls}

module _ {T A : Type 0} where
  -- no call yet
  pub no_call : (party : PartyState (Action T A)) → HasMadeCalls party party [] []
  no_call party = record {
    actions = [];
    calls = NoCalls;
    made = λ i. party_of party.parts (sym (append-nil party.actions) i);
  }

  -- a call more
  pub and_call : {old new new' : PartyState (Action T A)} {sent sent' all_sent : List T}
      {got got' all_got : List T} → HasMadeCalls old new sent got → HasCalled new new' sent' got'
      → all_sent ≡ sent ++ sent' → all_got ≡ got ++ got' → HasMadeCalls old new' all_sent all_got
  and_call {old = old} before call sents gots = record {
    actions = before.actions ++ call.actions;
    calls = subst (λ (both : List T × List T). AreCalls (before.actions ++ call.actions) both.0 both.1)
        (λ i. (sym sents i, sym gots i)) (AndCall before.calls call.call);
    made = call.made ∙ (ap (λ party. and_made party call.actions) before.made
        ∙ (λ i. party_of old.parts (append_assoc old.actions before.actions call.actions i)));
  }

  same_calls : {some some' : List (Action T A)} {sent sent' got got' : List T} → some ≡ some'
      → sent ≡ sent' → got ≡ got' → AreCalls some sent got → AreCalls some' sent' got'
  same_calls some sent got calls =
      subst (λ (all : List (Action T A) × List T × List T). AreCalls all.0 all.1 all.2)
      (λ i. (some i, sent i, got i)) calls

  both_calls : {some more : List (Action T A)} {sent sent' got got' : List T}
      → AreCalls some sent got → AreCalls more sent' got'
      → AreCalls (some ++ more) (sent ++ sent') (got ++ got')
  both_calls {some = some} {sent = sent} {got = got} first NoCalls =
      same_calls (sym (append-nil some)) (sym (append-nil sent)) (sym (append-nil got)) first
  both_calls {some = some} {sent = sent} {got = got} first
      (AndCall {before = before} {call = call} {sent = s} {sent' = s'} {got = g} {got' = g'} rest last) =
      same_calls (append_assoc some before call) (append_assoc sent s s') (append_assoc got g g')
      (AndCall (both_calls first rest) last)

  -- several calls more
  pub and_calls : {old new new' : PartyState (Action T A)} {sent sent' all_sent : List T}
      {got got' all_got : List T} → HasMadeCalls old new sent got
      → HasMadeCalls new new' sent' got' → all_sent ≡ sent ++ sent' → all_got ≡ got ++ got'
      → HasMadeCalls old new' all_sent all_got
  and_calls {old = old} before after sents gots = record {
    actions = before.actions ++ after.actions;
    calls = same_calls (λ i. before.actions ++ after.actions) (sym sents) (sym gots)
        (both_calls before.calls after.calls);
    made = after.made ∙ (ap (λ party. and_made party after.actions) before.made
        ∙ (λ i. party_of old.parts (append_assoc old.actions before.actions after.actions i)));
  }
