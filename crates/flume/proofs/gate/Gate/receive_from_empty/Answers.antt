-- What is seen of the gate, from the turn on that found no room or no message.
use Rattle.std.proofs.Common.{refl}
use Rattle.flume_calls.proofs.GateLemmas.{seen_receive, same_receive}
use Rattle.flume.proofs.gate.Gate.receive_from_empty.Goals as goal

pub returns-clause-made : goal.returns-clause-made
returns-clause-made g c = (
  _,
  seen_receive (λ gate. gate.deadline) (λ _ _ _ _ _ turn. turn.0) (λ _ _ _ turn. turn.0)
      (λ _ _ _ turn. turn.0) (λ _ _ _ turn. turn.0) (λ _ _ _ turn. turn.0)
      (c.waiting_receive.ensures.run (record c.args.self.now { me = record c.args.self.now.me { now = c.requires.tried.0 } }) (record { same = refl; answers = tt; not_refused = tt; made = c.requires.none }, refl, c.requires.tried.1)),
)

pub returns-clause-did : goal.returns-clause-did
returns-clause-did g c = λ start found. seen_receive (λ gate. gate.me.now) (λ _ _ _ _ _ turn. turn.2) (λ _ _ _ turn. turn.2)
    (λ _ _ _ turn. turn.2) (λ _ _ _ turn. turn.2) (λ _ _ _ turn. turn.2)
    (c.waiting_receive.ensures.run (record c.args.self.now { me = record c.args.self.now.me { now = start } }) (record { same = refl; answers = tt; not_refused = tt; made = c.requires.none }, refl, found))

pub returns-clause-same_reference : goal.returns-clause-same_reference
returns-clause-same_reference g c = same_receive (seen_receive (λ gate. gate.me.ghost_name) (λ _ _ _ _ _ turn. turn.1) (λ _ _ _ turn. turn.1)
    (λ _ _ _ turn. turn.1) (λ _ _ _ turn. turn.1) (λ _ _ _ turn. turn.1)
    (c.waiting_receive.ensures.run (record c.args.self.now { me = record c.args.self.now.me { now = c.requires.tried.0 } }) (record { same = refl; answers = tt; not_refused = tt; made = c.requires.none }, refl, c.requires.tried.1)))
