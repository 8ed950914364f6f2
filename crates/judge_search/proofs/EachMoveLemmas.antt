-- Each move answers as the step does that it is.
use Rattle.std.proofs.Common.{List}
use Rattle.judge_calls.specs.declared.event.Event.{Event}
use Rattle.judge_search.specs.declared.step_of.Move.{Move}
use Rattle.judge_search.specs.declared.step_of.Move.TheVariants as move
use Rattle.judge_search.proofs.MoveAnswerLemmas.{MoveAnswers}
use Rattle.judge_search.proofs.SendMoveLemmas.{answers_try_send, answers_send}
use Rattle.judge_search.proofs.SendAskLemmas.{answers_poll_send, answers_withdraw_send}
use Rattle.judge_search.proofs.ReceiveMoveLemmas.{answers_try_recv, answers_recv}
use Rattle.judge_search.proofs.PollMoveLemmas.{answers_poll}
use Rattle.judge_search.proofs.WithdrawMoveLemmas.{answers_withdraw}
use Rattle.judge_search.proofs.AdmitMoveLemmas.{drain_answers, set_capacity_answers}
use Rattle.judge_search.proofs.EndMoveLemmas.{clone_sender_answers, clone_receiver_answers, drop_sender_answers, drop_receiver_answers}
use Rattle.judge_search.proofs.QueryMoveLemmas.{len_answers, is_empty_answers, is_full_answers, capacity_answers}
use Rattle.judge_search.proofs.QueryMoveLemmas.{sender_count_answers, receiver_count_answers, is_disconnected_answers}

module _ {T A : Type 0} (events : List (Event T A)) where
  pub answers : (m : Move) → MoveAnswers events m
  answers move.TrySend = answers_try_send events
  answers move.Send = answers_send events
  answers move.PollSend = answers_poll_send events
  answers move.WithdrawSend = answers_withdraw_send events
  answers move.TryRecv = answers_try_recv events
  answers (move.Recv kind) = answers_recv events kind
  answers move.Poll = answers_poll events
  answers move.Withdraw = answers_withdraw events
  answers move.Drain = drain_answers events
  answers move.CloneSender = clone_sender_answers events
  answers move.CloneReceiver = clone_receiver_answers events
  answers move.DropSender = drop_sender_answers events
  answers move.DropReceiver = drop_receiver_answers events
  answers (move.SetCapacity n) = set_capacity_answers events n
  answers move.Len = len_answers events
  answers move.IsEmpty = is_empty_answers events
  answers move.IsFull = is_full_answers events
  answers move.Capacity = capacity_answers events
  answers move.SenderCount = sender_count_answers events
  answers move.ReceiverCount = receiver_count_answers events
  answers move.IsDisconnected = is_disconnected_answers events
