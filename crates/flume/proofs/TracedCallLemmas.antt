-- What a call of a party sent and got.
use Rattle.std.proofs.Common.{◌≡◌, List, [], ◌∷◌, Result, Ok, Err, refl, sym, subst}
use Rattle.flume_model.specs.declared.step.Step.TheVariants.{TrySend, TryRecv, Drain}
use Rattle.flume_model.specs.declared.step.Reply.{Reply}
use Rattle.flume_model.specs.declared.step.Reply.TheVariants as reply
use Rattle.flume_core.specs.declared.error.NoMemory.{NoMemory}
use Rattle.flume_core.specs.declared.error.TrySendError.{TrySendError}
use Rattle.flume_core.specs.declared.error.TrySendError.TheVariants as try_send
use Rattle.flume_core.specs.declared.error.SendError.{SendError}
use Rattle.flume_core.specs.declared.error.SendError.TheVariants as send
use Rattle.flume_core.specs.declared.error.TryRecvError.{TryRecvError}
use Rattle.flume_core.specs.declared.error.TryRecvError.TheVariants as try_recv
use Rattle.flume_core.specs.declared.error.RecvError.{RecvError}
use Rattle.flume_core.specs.declared.error.RecvError.TheVariants as recv
use Rattle.flume_core.specs.declared.error.SendTimeoutError.{SendTimeoutError}
use Rattle.flume_core.specs.declared.error.RecvTimeoutError.{RecvTimeoutError}
use Rattle.flume_calls.specs.SendTurns.{after_try_send}
use Rattle.flume_calls.specs.ReceiveTurns.{after_try_recv}
use Rattle.flume_party.specs.Parties.{PartyState, and_made}
use Rattle.flume_actions.specs.Actions.{Action}
use Rattle.flume_actions.specs.Calls.{HasCalled, HasSent, HasReceived, HasStepped, sent_by, got_by, sent_by_try, got_by_try, drained_by}
use Rattle.flume_actions.specs.Calls.{Sends, TriesToSend, Receives, TriesToReceive, Drains, DrainsNone}
use Rattle.flume.specs.Iterators.{after_drain}
use Rattle.flume.specs.CallSteps.{try_send_as_turn, try_receive_as_turn, send_as_timed, receive_as_timed}

module _ {T : Type 0} where
  try_sent : (m : T) (result : Result (Unit {0}) (TrySendError T)) → sent_by_try m (try_send_as_turn result) ≡ sent_by m result
  try_sent m (Ok sent) = refl
  try_sent m (Err (try_send.Full back)) = refl
  try_sent m (Err (try_send.Disconnected back)) = refl
  try_sent m (Err (try_send.NoMemory back)) = refl

  timed_sent : (m : T) (result : Result (Unit {0}) (SendError T)) → sent_by m (send_as_timed result) ≡ sent_by m result
  timed_sent m (Ok sent) = refl
  timed_sent m (Err (send.Disconnected back)) = refl
  timed_sent m (Err (send.NoMemory back)) = refl

  try_got : (result : Result T TryRecvError) → got_by_try (try_receive_as_turn result) ≡ got_by result
  try_got (Ok message) = refl
  try_got (Err try_recv.Empty) = refl
  try_got (Err try_recv.Disconnected) = refl
  try_got (Err try_recv.NoMemory) = refl

  timed_got : (result : Result T RecvError) → got_by (receive_as_timed result) ≡ got_by result
  timed_got (Ok message) = refl
  timed_got (Err recv.Disconnected) = refl
  timed_got (Err recv.NoMemory) = refl

module _ {T A : Type 0} {old new : PartyState (Action T A)} where
  -- a send
  pub sent_called : (m : T) (result : Result (Unit {0}) (SendTimeoutError T)) → HasSent old m new result
      → HasCalled old new (sent_by m result) []
  sent_called m result sent = record { actions = sent.actions; call = Sends sent.send; made = sent.made }

  -- a send without a deadline
  pub untimed_sent_called : (m : T) (result : Result (Unit {0}) (SendError T)) → HasSent old m new (send_as_timed result)
      → HasCalled old new (sent_by m result) []
  untimed_sent_called m result sent =
      subst (λ sent. HasCalled old new sent []) (timed_sent m result) (sent_called m (send_as_timed result) sent)

  -- a try to send
  pub try_sent_called : (m : T) (result : Result (Unit {0}) (TrySendError T))
      → HasStepped (TrySend m) after_try_send old (try_send_as_turn result) new → HasCalled old new (sent_by m result) []
  try_sent_called m result made =
      subst (λ sent. HasCalled old new sent []) (try_sent m result)
      (record { actions = _; call = TriesToSend _ made.answered; made = made.made })

  -- a receive
  pub received_called : (result : Result T RecvTimeoutError) → HasReceived old new result → HasCalled old new [] (got_by result)
  received_called result received = record { actions = received.actions; call = Receives received.receive; made = received.made }

  -- a receive without a deadline
  pub untimed_received_called : (result : Result T RecvError) → HasReceived old new (receive_as_timed result)
      → HasCalled old new [] (got_by result)
  untimed_received_called result received =
      subst (λ got. HasCalled old new [] got) (timed_got result) (received_called (receive_as_timed result) received)

  -- a try to receive
  pub try_received_called : (result : Result T TryRecvError)
      → HasStepped TryRecv after_try_recv old (try_receive_as_turn result) new → HasCalled old new [] (got_by result)
  try_received_called result made =
      subst (λ got. HasCalled old new [] got) (try_got result)
      (record { actions = _; call = TriesToReceive _ made.answered; made = made.made })

  drained_reply : (reply : Reply T A) (result : Result (List T) NoMemory) → after_drain reply result
      → new ≡ and_made old ((Drain, reply) ∷ []) → HasCalled old new [] (drained_by result)
  drained_reply (reply.Drained list) result is made =
      subst (λ result. HasCalled old new [] (drained_by result)) (sym is)
      (record { actions = _; call = Drains; made = made })
  drained_reply (reply.NoMemory back) result is made =
      subst (λ result. HasCalled old new [] (drained_by result)) (sym is)
      (record { actions = _; call = DrainsNone; made = made })
  drained_reply _ result none made = absurd none

  -- a drain
  pub drained_called : (result : Result (List T) NoMemory) → HasStepped Drain after_drain old result new
      → HasCalled old new [] (drained_by result)
  drained_called result made = drained_reply made.reply result made.answered made.made
