-- What callers cite: a party that made calls, and then confirmed.
use Rattle.std.proofs.Common.{ℕ, List, Option, ap, subst}
use Rattle.flume_model.specs.Log.{opens}
use Rattle.flume_party.specs.Interleavings.{Interleaving}
use Rattle.flume_party.specs.Parties.{PartyState}
use Rattle.flume_party.proofs.InterleavingLemmas.{interleaved_swap}
use Rattle.flume_actions.specs.Actions.{Action, IsPart}
use Rattle.flume_actions.specs.Callers.{HasMadeCalls}
use Rattle.flume_laws.specs.Offered.{WereOffered}
use Rattle.flume_laws.proofs.JoinLemmas.{one_behind, right_first}
use Rattle.flume_laws.proofs.SublistLemmas.{some_of_some}
use Rattle.flume_laws.proofs.GotOfferedLemmas.{offered, got_kept}

-- what it got by its last calls was offered, whatever it did before them
pub confirmed : {T A : Type 0} {start party : PartyState (Action T A)} {sent got : List T}
    {capacity : Option ℕ} → HasMadeCalls start party sent got → IsPart capacity party.actions
    → WereOffered capacity party.actions got
confirmed {start = start} {capacity = capacity} did part =
    let among = subst (λ list. Interleaving list part.others part.history)
    (ap (λ p. p.actions) did.made) part.among in
    let last = right_first did.actions start.actions _ part.others part.history
    (interleaved_swap start.actions did.actions _ (one_behind start.actions did.actions)) among in
    let kept = got_kept (opens capacity 1) did.calls last.2 part.run in
    record { part = part; offered = some_of_some kept (offered part.history); kept = kept }
