-- What is seen of the gate: its deadline, its reference and its party. It begins after the first turn.
use Rattle.std.proofs.Common.{◌≡◌, refl, ap, subst, rules}
use Rattle.flume_calls.proofs.GateLemmas.{seen_send, same_send}
use Rattle.flume.specs.PartySteps.{SendsToFullOf}
use Rattle.flume.proofs.FirstTurnLemmas.{after_first, seen_found}
use Rattle.flume.proofs.sender.Sender.send_to_full_until.Goals as goal

pub returns-clause-made : goal.returns-clause-made
returns-clause-made g c = (
  _,
  after_first (record { same = c.new-gate.ensures.deadline; answers = refl; made = c.requires.full })
      (seen_send (λ gate. gate.deadline) (λ _ _ _ _ _ turn. turn.0) (λ _ _ _ turn. turn.0) (seen_found (λ gate. gate.deadline))
      (λ _ _ _ turn. turn.0) (λ _ _ _ _ turn. turn.0) (c.waiting_send.ensures.run c.new-gate.result (refl, refl))),
)

pub returns-clause-did : goal.returns-clause-did
returns-clause-did g c =
    let run = c.waiting_send.ensures.run c.new-gate.result (refl, refl) in
    let same : c.waiting_send.new.gate.me.ghost_name ≡ c.new-gate.result.me.ghost_name =
    same_send (seen_send (λ gate. gate.me.ghost_name) (λ _ _ _ _ _ turn. turn.1) (λ _ _ _ turn. turn.1)
    (λ _ _ _ _ found. ap (λ gate. gate.me.ghost_name) found.0) (λ _ _ _ turn. turn.1) (λ _ _ _ _ turn. turn.1) run) in
    let sends : SendsToFullOf g.K.Keeper.did c.args.me.now c.args.message c.waiting_send.new.gate.me.now c.waiting_send.result =
    after_first (c.new-gate.ensures.party, refl)
    (seen_send (λ gate. gate.me.now) (λ _ _ _ _ _ turn. turn.2) (λ _ _ _ turn. turn.2) (seen_found (λ gate. gate.me.now))
    (λ _ _ _ turn. turn.2) (λ _ _ _ _ turn. turn.2) run) in
    subst (λ new. SendsToFullOf g.K.Keeper.did c.args.me.now c.args.message new c.waiting_send.result) (search rules) sends
