-- What callers cite by `using`: a loop in which a party makes a call after the other.
use Rattle.std.proofs.Common.{List, [], ◌++◌, refl, sym}
use Rattle.std.proofs.lemmas.List.{append-nil}
use Rattle.std.proofs.lemmas.Grind.{common_steps}
use Rattle.flume_party.specs.Parties.{PartyState}
use Rattle.flume_actions.specs.Actions.{Action}
use Rattle.flume_actions.specs.Calls.{HasCalled}
use Rattle.flume_actions.specs.Callers.{HasMadeCalls}
use Rattle.flume_actions.proofs.CallerLemmas.{no_call, and_call}

module _ {T A : Type 0} where
  -- one call alone
  pub one_call : {old new : PartyState (Action T A)} {sent got : List T}
      → HasCalled old new sent got → HasMadeCalls old new sent got
  one_call {old = old} call = and_call (no_call old) call refl refl

  -- a call more, which only sent
  pub and_sent : {old new new' : PartyState (Action T A)} {sent more got : List T}
      → HasMadeCalls old new sent got → HasCalled new new' more []
      → HasMadeCalls old new' (sent ++ more) got
  and_sent {got = got} before call = and_call before call refl (sym (append-nil got))

  -- a call more, which only received
  pub and_got : {old new new' : PartyState (Action T A)} {sent got more : List T}
      → HasMadeCalls old new sent got → HasCalled new new' [] more
      → HasMadeCalls old new' sent (got ++ more)
  and_got {sent = sent} before call = and_call before call (sym (append-nil sent)) refl

  -- a call more, which did neither
  pub and_nothing : {old new new' : PartyState (Action T A)} {sent got : List T}
      → HasMadeCalls old new sent got → HasCalled new new' [] [] → HasMadeCalls old new' sent got
  and_nothing {sent = sent} {got = got} before call =
      and_call before call (sym (append-nil sent)) (sym (append-nil got))

-- before the loop, and after one more call
pub ruleset call_steps = (common_steps, no_call, and_sent, and_got, and_nothing)

-- a function that makes one call, or none
pub ruleset one_call_steps = (common_steps, no_call, one_call)
