-- Each receiver so far has a state.
use Rattle.std.proofs.Common.{ap, map, ◌∙◌}
use Rattle.std.proofs.lemmas.List.{take_all}
use Rattle.flume.specs.declared.select.receive.ReceiveState.TheVariants.{Unstarted}
use Rattle.flume.proofs.select.receive_list.ReceiveList.new.Goals as goal

pub returns-clause-unstarted : goal.returns-clause-unstarted
returns-clause-unstarted g c =
    c.loop-receiver.invariant.unstarted ∙ ap (λ list. map (λ end. Unstarted) list)
    (take_all c.loop-receiver._receiver-index c.args.receivers.now c.loop-receiver-test.false)
