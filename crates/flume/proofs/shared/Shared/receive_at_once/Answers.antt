-- The turn took what is there.
use Rattle.std.proofs.Common.{refl, subst}
use Rattle.flume.specs.ManyReceiveGates.{many_state, FirstManyOf}
use Rattle.flume.proofs.ManyReceiveStepLemmas.{lacks_room}
use Rattle.flume.proofs.shared.Shared.receive_at_once.Goals as goal

pub returns : goal.returns
returns g c =
    let turn = c.call_many-list in
    let did = turn.ensures.did in
    record {
      did = subst (λ list. FirstManyOf g.K.Keeper.did (many_state c.args.me.now c.args.most list)
          (many_state turn.new.me c.args.most turn.result.buffer) turn.result.next) c.replace-list.ensures.value (record {
            answers = turn.ensures.answers.0;
            most = refl;
            at_most = turn.ensures.answers.1;
            room = lacks_room _ c.args.most _ _ turn.result.next turn.ensures.made.turn.1;
            turn = record { steps = did.steps; answered = did.answered; made = did.made };
          });
    }
