-- The actions of whole calls are a course, which sends and gets what the calls did.
use Rattle.std.proofs.Common.{ℕ, List, [], ◌∷◌, refl, subst, arith}
use Rattle.std.proofs.lemmas.Grind.{common_steps}
use Rattle.std.specs.Prelude.{Result}
use Rattle.flume_model.specs.declared.step.Kind.{Kind}
use Rattle.flume_model.specs.declared.step.Kind.TheVariants.{Block}
use Rattle.flume_model.specs.declared.step.Step.TheVariants.{Send, PollSend}
use Rattle.flume_model.specs.declared.step.Step.TheVariants.{Recv, Withdraw}
use Rattle.flume_model.specs.declared.step.Reply.{Reply}
use Rattle.flume_core.specs.declared.error.SendTimeoutError.{SendTimeoutError}
use Rattle.flume_core.specs.declared.error.RecvTimeoutError.{RecvTimeoutError}
use Rattle.flume_calls.specs.declared.calls.receive.RecvNext.TheVariants as receive
use Rattle.flume_calls.specs.ReceiveTurns.{after_recv}
use Rattle.flume_calls.specs.ReceiveGates.{got_or_no_memory}
use Rattle.flume_actions.specs.Actions.{Action}
use Rattle.flume_actions.specs.SendCalls as sends
use Rattle.flume_actions.specs.SendCalls.{IsSend, IsBlockedSend, IsBlockedPolls, IsPolledSend}
use Rattle.flume_actions.specs.ReceiveCalls as receives
use Rattle.flume_actions.specs.ReceiveCalls.{IsReceive, IsParkedReceive, IsParkedPolls}
use Rattle.flume_actions.specs.ReceiveCalls.{IsPolledReceive}
use Rattle.flume_actions.specs.Calls.{IsCall, Sends, TriesToSend, PollsToSend, Receives}
use Rattle.flume_actions.specs.Calls.{TriesToReceive, PollsToReceive, Drains, DrainsNone}
use Rattle.flume_actions.specs.Calls.{AreCalls, NoCalls, AndCall, sent_by, got_by}
use Rattle.flume_laws.proofs.TurnLemmas.{Free, AsReceiver, AsSender}
use Rattle.flume_laws.proofs.TurnLemmas.{Turn, Acts, Parks, Asks, Ends, Leaves, Blocks}
use Rattle.flume_laws.proofs.TurnLemmas.{Waits, Hears, Withdraws, Course, course_append}
use Rattle.flume_laws.proofs.TurnLemmas.{course_from, course_of}

-- the result of a send
abbrev Sent : Type 0 → Type 0
Sent T = Result (Unit {0}) (SendTimeoutError T)

module _ {T A : Type 0} where
  -- a blocked send is one that is polled
  pub blocked_polls : (t : ℕ) (made : List (Action T A)) (result : Sent T)
      → IsBlockedSend t made result → IsBlockedPolls t made result
  blocked_polls t _ _ (sends.Ended is) = sends.Answered is
  blocked_polls t _ _ (sends.Late is done) = sends.Pending is (sends.Left done)
  blocked_polls t _ _ (sends.Waited {later = later} {result = result} is more) =
      sends.Pending is (blocked_polls t later result more)

  -- what it did
  blocked_course : (m : T) (t : ℕ) (made : List (Action T A)) (result : Sent T)
      → IsBlockedPolls t made result → Course made (AsSender m t) (sent_by m result) []
  blocked_course m t _ result (sends.Answered is) =
      course_of (Hears (grind (arith, common_steps)) (grind (arith, common_steps)))
  blocked_course m t _ result (sends.Left is) =
      course_of (Withdraws (grind (arith, common_steps)) (grind (arith, common_steps)))
  blocked_course m t _ result (sends.Pending {later = later} is more) =
      course_from later (sent_by m result) []
      (subst (λ r. Turn (AsSender m t) (PollSend t) r (AsSender m t) [] []) (grind (arith, common_steps)) Waits)
      (blocked_course m t later result more)

  polled_send_course : (m : T) (made : List (Action T A)) (result : Sent T)
      → IsPolledSend m made result → Course made Free (sent_by m result) []
  polled_send_course m _ result (sends.AtOnce is) =
      course_of (Acts refl (grind (arith, common_steps)) (grind (arith, common_steps)) refl)
  polled_send_course m _ result (sends.Polled {reply = reply} {ticket = t} {later = later} is more) =
      course_from later (sent_by m result) []
      (subst (λ r. Turn Free (Send m) r (AsSender m t) [] []) (grind (arith, common_steps)) Blocks)
      (blocked_course m t later result more)

  -- a send tries, and then may be as one that is polled
  send_course : (m : T) (made : List (Action T A)) (result : Sent T) → IsSend m made result
      → Course made Free (sent_by m result) []
  send_course m _ result (sends.Tried is) =
      course_of (Acts refl refl (grind (arith, common_steps)) refl)
  send_course m _ _ (sends.Unable is) =
      course_of (Acts refl refl (grind (arith, common_steps)) refl)
  send_course m _ result (sends.NotBlocked {reply = reply} is done) =
      course_from {sent_now = []} ((Send m, reply) ∷ []) (sent_by m result) []
      (Acts refl refl (grind (arith, common_steps)) refl)
      (polled_send_course m _ result (sends.AtOnce done))
  send_course m _ result
      (sends.Blocked {reply = reply} {ticket = t} {later = later} is at more) =
      course_from {sent_now = []} ((Send m, reply) ∷ later) (sent_by m result) []
      (Acts refl refl (grind (arith, common_steps)) refl)
      (polled_send_course m _ result (sends.Polled at (blocked_polls t later result more)))

  -- a parked receive that is polled
  parked_course : (t : ℕ) (made : List (Action T A)) (result : Result T RecvTimeoutError)
      → IsParkedPolls t made result → Course made (AsReceiver t) [] (got_by result)
  parked_course t _ result (receives.Answered is) =
      course_of (Ends (grind (arith, common_steps)) (grind (arith, common_steps)))
  parked_course t _ result (receives.Left is) =
      course_of (Leaves (grind (arith, common_steps)) (grind (arith, common_steps)))
  parked_course t _ result (receives.Pending {later = later} is more) =
      course_from later [] (got_by result) (Asks (grind (arith, common_steps)))
      (parked_course t later result more)
  parked_course t _ result (receives.OutOfMemory {later = later} is more) =
      course_from later [] (got_by result) (Asks (grind (arith, common_steps)))
      (parked_course t later result more)

  park_turn : (kind : Kind) (reply : Reply T A) (t : ℕ) → after_recv reply (receive.Park t)
      → Turn Free (Recv kind) reply (AsReceiver t) [] []
  park_turn kind reply t is =
      subst (λ r. Turn Free (Recv kind) r (AsReceiver t) [] []) (grind (arith, common_steps)) Parks

  polled_receive_course : (kind : Kind) (made : List (Action T A))
      (result : Result T RecvTimeoutError) → IsPolledReceive kind made result
      → Course made Free [] (got_by result)
  polled_receive_course kind _ result (receives.AtOnce is) =
      course_of (Acts (grind (arith, common_steps)) refl refl (grind (arith, common_steps)))
  polled_receive_course kind _ result
      (receives.Polled {reply = reply} {ticket = t} {later = later} is more) =
      course_from later [] (got_by result) (park_turn kind reply t is)
      (parked_course t later result more)

  -- one that blocks
  waiting_course : (t : ℕ) (made : List (Action T A)) (result : Result T RecvTimeoutError)
      → IsParkedReceive t made result → Course made (AsReceiver t) [] (got_by result)
  waiting_course t _ result (receives.Ended is) =
      parked_course t _ result (receives.Answered is)
  waiting_course t _ _ (receives.Refused {last = last} answer is done) =
      course_from ((Withdraw t, last) ∷ []) [] (got_by (got_or_no_memory answer))
      (Asks (grind (arith, common_steps))) (course_of (Leaves (grind (arith, common_steps)) (grind (arith, common_steps))))
  waiting_course t _ result (receives.Late is done) =
      parked_course t _ result (receives.Pending is (receives.Left done))
  waiting_course t _ result (receives.Waited {later = later} is more) =
      course_from later [] (got_by result) (Asks (grind (arith, common_steps)))
      (waiting_course t later result more)

  -- a receive tries, and then may park
  receive_course : (made : List (Action T A)) (result : Result T RecvTimeoutError)
      → IsReceive made result → Course made Free [] (got_by result)
  receive_course _ result (receives.Tried is) =
      course_of (Acts refl refl refl (grind (arith, common_steps)))
  receive_course _ _ (receives.Unable is) =
      course_of (Acts refl refl refl (grind (arith, common_steps)))
  receive_course _ result (receives.NotParked {reply = reply} is done) =
      course_from {got_now = []} ((Recv Block, reply) ∷ []) [] (got_by result)
      (Acts refl refl refl (grind (arith, common_steps)))
      (polled_receive_course Block _ result (receives.AtOnce done))
  receive_course _ result (receives.Parked {reply = reply} {ticket = t} {later = later} is at more) =
      course_from {got_now = []} ((Recv Block, reply) ∷ later) [] (got_by result)
      (Acts refl refl refl (grind (arith, common_steps)))
      (course_from later [] (got_by result) (park_turn Block reply t at)
      (waiting_course t later result more))

  -- a whole call
  call_course : (made : List (Action T A)) (sent got : List T) → IsCall made sent got
      → Course made Free sent got
  call_course made _ _ (Sends {message = m} {result = result} is) = send_course m made result is
  call_course _ _ _ (TriesToSend next is) =
      course_of (Acts refl refl (grind (arith, common_steps)) refl)
  call_course made _ _ (PollsToSend {message = m} {result = result} is) =
      polled_send_course m made result is
  call_course made _ _ (Receives {result = result} is) = receive_course made result is
  call_course _ _ _ (TriesToReceive next is) =
      course_of (Acts refl refl refl (grind (arith, common_steps)))
  call_course made _ _ (PollsToReceive {kind = kind} {result = result} is) =
      polled_receive_course kind made result is
  call_course _ _ _ Drains = course_of (Acts refl refl refl refl)
  call_course _ _ _ DrainsNone = course_of (Acts refl refl refl refl)

  -- whole calls, one after the other
  pub calls_course : (made : List (Action T A)) (sent got : List T) → AreCalls made sent got
      → Course made Free sent got
  calls_course _ _ _ NoCalls = (refl, refl, refl)
  calls_course _ _ _
      (AndCall {before = before} {call = call} {sent = sent} {sent' = sent'} {got = got}
      {got' = got'} some one) =
      course_append before call Free sent sent' got got' (calls_course before sent got some)
      (call_course call sent' got' one)
