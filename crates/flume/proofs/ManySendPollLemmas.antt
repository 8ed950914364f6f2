-- The polls that send many messages: those of a list go on after an `Ok`.
use Rattle.std.proofs.Common.{◌≡◌, Option, Some, None, Result, Ok, List, refl, subst, sym}
use Rattle.flume_state.specs.State.{State}
use Rattle.flume_core.specs.Represents.{IsReachable}
use Rattle.flume_core.specs.declared.error.SendError.{SendError}
use Rattle.flume_calls.specs.declared.polled.send.PolledSend.{PolledSend}
use Rattle.flume_calls.specs.declared.polled.send.PolledSend.TheVariants.{Finished}
use Rattle.flume_calls.specs.PolledSends.{AlreadyFinished}
use Rattle.flume.specs.declared.signal.Signal.{Signal}
use Rattle.flume.specs.ManySendPolls.{PollsSends, SendIsPolled, AllTakenIn, IsClosed, IsRefused, FirstIsPolled}
use Rattle.flume.proofs.SendPollLemmas.{finished_is_ok, poll_finishes}

module _ {T A : Type 0} where
  -- a send that has ended answers `Ok`, and the messages behind it are left
  pub none_polled : {messages : List T} (s : State T (Signal A)) → IsReachable A s
      → PollsSends A Finished messages messages Finished (Some (Ok tt))
  none_polled s reachable = SendIsPolled (record {
    signal = None;
    before = s;
    after = s;
    reachable = reachable;
    polled = AlreadyFinished refl refl refl refl;
  })

  -- polls of the same, by what is left and the send then
  pub polls_to : {send new : PolledSend T} {messages left behind : List T} {answer : Option (Result (Unit {0}) (SendError T))}
      → PollsSends A send messages left Finished answer → behind ≡ left → new ≡ Finished → PollsSends A send messages behind new answer
  polls_to {send} {messages = messages} {behind = behind} {answer = answer} made same over =
      subst (λ new. PollsSends A send messages behind new answer) (sym over)
      (subst (λ left. PollsSends A send messages left Finished answer) (sym same) made)

  -- after an `Ok` the polls go on with what is left
  then_polls : {send : PolledSend T} {messages left behind : List T} {new : PolledSend T} {answer : Option (Result (Unit {0}) (SendError T))}
      → PollsSends A send messages left Finished (Some (Ok tt)) → PollsSends A Finished left behind new answer
      → PollsSends A send messages behind new answer
  then_polls {send} {messages} {left} sent (SendIsPolled polled) =
      let ok = finished_is_ok polled.polled refl in
      let over = poll_finishes polled.polled (Ok tt) ok in
      polls_to (subst (λ answer. PollsSends A send messages left Finished answer) (sym ok) sent) refl over
  then_polls sent (AllTakenIn before batch) = AllTakenIn (then_polls sent before) batch
  then_polls sent (IsClosed before batch) = IsClosed (then_polls sent before) batch
  then_polls sent (IsRefused before batch) = IsRefused (then_polls sent before) batch
  then_polls sent (FirstIsPolled before batch polled) = FirstIsPolled (then_polls sent before) batch polled

  -- the same, by what the polls so far answered last
  pub polls_go_on : {send between new : PolledSend T} {messages left behind : List T} {last answer : Option (Result (Unit {0}) (SendError T))}
      → PollsSends A send messages left between last → last ≡ Some (Ok tt) → between ≡ Finished
      → PollsSends A Finished left behind new answer → PollsSends A send messages behind new answer
  polls_go_on {send} {between} {messages = messages} {left = left} sent ok over more =
      then_polls (subst (λ between. PollsSends A send messages left between (Some (Ok tt))) over
      (subst (λ last. PollsSends A send messages left between last) ok sent)) more
