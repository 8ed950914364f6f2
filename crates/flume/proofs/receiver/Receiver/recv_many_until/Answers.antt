-- What is seen of the gate: its deadline, its references and what the call has.
use Rattle.std.proofs.Common.{◌<◌, arith, rules}
use Rattle.flume_calls.proofs.GateLemmas.{seen_receive, same_receive}
use Rattle.flume.specs.ManyReceiveGates.{many_state}
use Rattle.flume.proofs.InTimeLemmas.{never_late}
use Rattle.flume.proofs.ManyReceiveLemmas.{many_leaves, at_return}
use Rattle.flume.proofs.receiver.Receiver.recv_many_until.Goals as goal

pub returns-clause-did : goal.returns-clause-did
returns-clause-did g c some =
    let me = same_receive (seen_receive (λ gate. gate.me.ghost_name) (λ _ _ _ _ _ turn. turn.1) (λ _ _ _ turn. turn.1)
    (λ _ _ _ turn. turn.1) (λ _ _ _ turn. turn.1) (λ _ _ _ turn. turn.1) c.recv_over.ensures.run) in
    let list = same_receive (seen_receive (λ gate. gate.buffer.ghost_name) (λ _ _ _ _ _ turn. turn.2) (λ _ _ _ turn. turn.2)
    (λ _ _ _ turn. turn.2) (λ _ _ _ turn. turn.2) (λ _ _ _ turn. turn.2) c.recv_over.ensures.run) in
    at_return (search (rules, me)) (search (rules, list)) (
      _,
      seen_receive (λ gate. many_state gate.me.now gate.most gate.buffer.now)
          (λ _ _ _ _ _ turn. turn.3) (λ _ _ _ turn. turn.3) (λ _ _ _ turn. turn.3) (λ _ _ _ turn. turn.3) (λ _ _ _ turn. turn.3)
          c.recv_over.ensures.run,
    )

pub returns-clause-in_time : goal.returns-clause-in_time
returns-clause-in_time g c never = never_late (seen_receive (λ gate. gate.deadline)
    (λ _ _ _ _ _ turn. (turn.0, turn.3.answers, turn.3.had_memory)) (λ _ _ _ turn. turn.0) (λ _ _ _ turn. (turn.0, turn.3.answers))
    (λ _ _ _ turn. turn.0) (λ _ _ _ turn. (turn.0, turn.3.answers)) c.recv_over.ensures.run) never

pub returns-clause-appended : goal.returns-clause-appended
returns-clause-appended g c =
    let some : 0 < c.args.most = omega arith in
    (many_leaves c.recv_over.result some (returns-clause-did g c some)).0

pub returns-clause-unchanged : goal.returns-clause-unchanged
returns-clause-unchanged g c =
    let some : 0 < c.args.most = omega arith in
    (many_leaves c.recv_over.result some (returns-clause-did g c some)).1
