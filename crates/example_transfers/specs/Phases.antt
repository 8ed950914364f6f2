-- What threads sent before another one sent.
use Rattle.std.specs.Prelude.{ℕ, List, []}
use Rattle.flume.specs.Parties.{PartyState, Merged}
use Rattle.flume.specs.Actions.{Action}
use Rattle.flume.specs.Callers.{HasMadeCalls}

-- Two parties sent a list each. Then a third one took in both, and sent the last list.
pub record HasSentInPhases {A : Type 0} (party party' : PartyState (Action ℕ A))
    (parties : PartyState (Action ℕ A) × PartyState (Action ℕ A)) (first second third : List ℕ)
    : Type 0 where
  pub one : PartyState (Action ℕ A)
  pub other : PartyState (Action ℕ A)
  pub with_one : PartyState (Action ℕ A)
  pub with_both : PartyState (Action ℕ A)
  pub one_sent : HasMadeCalls parties.0 one first []
  pub other_sent : HasMadeCalls parties.1 other second []
  pub one_merged : Merged party one with_one
  pub other_merged : Merged with_one other with_both
  pub sent : HasMadeCalls with_both party' third []
