-- The turn was made, and took what is there behind its message.
use Rattle.std.proofs.Common.{◌<◌, length, refl, sym, ◌∙◌, subst, vec_len, vec_capacity}
use Rattle.flume.specs.ManyReceiveCalls.{IsntDone}
use Rattle.flume.specs.ManyReceiveGates.{many_state, TurnAndMoreOf}
use Rattle.flume.proofs.ManyReceiveLemmas.{none_given}
use Rattle.flume.proofs.shared.Shared.receive_and_more.Goals as goal

pub returns-clause-answers : goal.returns-clause-answers
returns-clause-answers g c =
    let came = c.call_many-list.ensures.answers in
    record { first = came.first; more = length came.taken; answered = came.answered; next_is = came.gives.next_is }

pub returns-clause-did : goal.returns-clause-did
returns-clause-did g c =
    let turn = c.call_many-list in
    let did = turn.ensures.did in
    subst (λ list. TurnAndMoreOf g.K.Keeper.did (g.C.Turn.makes c.args.turn) (many_state c.args.me.now c.args.most list)
    (many_state turn.new.me c.args.most turn.result.buffer) turn.result.next) c.replace-list.ensures.value (record {
      most = refl;
      turn = record { steps = did.steps; answered = did.answered; made = did.made };
    })

pub returns-clause-room : goal.returns-clause-room
returns-clause-room g c waits =
    let came = c.call_many-list.ensures.answers in
    let none = none_given (length came.taken) came.first (subst IsntDone came.gives.next_is waits) in
    let same = came.none_given none ∙ c.replace-list.ensures.value in
    subst (λ list. vec_len list < vec_capacity list) (sym same) c.requires.room
