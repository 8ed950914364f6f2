-- The queries answer as their steps do, and change nothing.
use Rattle.std.proofs.Common.{◌≡◌, ◌==◌, ap, ap₂, refl, subst, List, length}
use Rattle.flume_model.specs.declared.step.Step.TheVariants as step
use Rattle.flume_model.specs.declared.step.Reply.TheVariants.{Number, Flag, Capacity}
use Rattle.flume_model.specs.Limits.{is_closed, is_full}
use Rattle.judge_calls.specs.declared.event.Event.{Event}
use Rattle.flume_core.proofs.ViewLemmas.{queue_len_is}
use Rattle.judge_search.specs.declared.step_of.Move.TheVariants as move
use Rattle.judge_search.specs.declared.place_reply.PlaceReply.TheVariants as reply
use Rattle.judge_search.specs.ByPlaces.{full_now, closed_now}
use Rattle.judge_search.proofs.MoveAnswers.{Answers}
use Rattle.judge_search.proofs.MoveAnswerLemmas.{MoveAnswers}
use Rattle.judge_search.proofs.MoveCaseLemmas.{changes_nothing}
use Rattle.judge_search.proofs.MirrorViewLemmas.{length_same, full_same, closed_same}

module _ {T A : Type 0} (events : List (Event T A)) where
  pub len_answers : MoveAnswers events move.Len
  len_answers o log s c tickets place call made_step given h m at is new lawful unrefused =
      let same : step.Len ≡ made_step = cc in
      subst (λ done. Answers events o log tickets s c place done (reply.Number (length c.queue)) c) same
      (changes_nothing events o log s c tickets place step.Len (reply.Number (length c.queue)) (Number (length s.queue)) h m new
      (queue_len_is h) refl refl (length_same events tickets s c m))

  pub is_empty_answers : MoveAnswers events move.IsEmpty
  is_empty_answers o log s c tickets place call made_step given h m at is new lawful unrefused =
      let same : step.IsEmpty ≡ made_step = cc in
      subst (λ done. Answers events o log tickets s c place done (reply.Flag (length c.queue == 0)) c) same
      (changes_nothing events o log s c tickets place step.IsEmpty (reply.Flag (length c.queue == 0)) (Flag (length s.queue == 0)) h m
      new (ap (λ n. n == 0) (queue_len_is h)) refl refl (ap (λ n. n == 0) (length_same events tickets s c m)))

  pub is_full_answers : MoveAnswers events move.IsFull
  is_full_answers o log s c tickets place call made_step given h m at is new lawful unrefused =
      let same : step.IsFull ≡ made_step = cc in
      subst (λ done. Answers events o log tickets s c place done (reply.Flag (full_now c)) c) same
      (changes_nothing events o log s c tickets place step.IsFull (reply.Flag (full_now c))
      (Flag (is_full s.capacity (length s.queue))) h m new
      (ap₂ is_full h.capacity_is (queue_len_is h)) refl refl (full_same events tickets s c m))

  pub capacity_answers : MoveAnswers events move.Capacity
  capacity_answers o log s c tickets place call made_step given h m at is new lawful unrefused =
      let same : step.Capacity ≡ made_step = cc in
      subst (λ done. Answers events o log tickets s c place done (reply.Capacity c.capacity) c) same
      (changes_nothing events o log s c tickets place step.Capacity (reply.Capacity c.capacity) (Capacity s.capacity) h m new
      h.capacity_is refl refl m.capacity_is)

  pub sender_count_answers : MoveAnswers events move.SenderCount
  sender_count_answers o log s c tickets place call made_step given h m at is new lawful unrefused =
      let same : step.SenderCount ≡ made_step = cc in
      subst (λ done. Answers events o log tickets s c place done (reply.Number c.senders) c) same
      (changes_nothing events o log s c tickets place step.SenderCount (reply.Number c.senders) (Number s.senders) h m new
      h.senders_are refl refl m.senders_are)

  pub receiver_count_answers : MoveAnswers events move.ReceiverCount
  receiver_count_answers o log s c tickets place call made_step given h m at is new lawful unrefused =
      let same : step.ReceiverCount ≡ made_step = cc in
      subst (λ done. Answers events o log tickets s c place done (reply.Number c.receivers) c) same
      (changes_nothing events o log s c tickets place step.ReceiverCount (reply.Number c.receivers) (Number s.receivers) h m new
      h.receivers_are refl refl m.receivers_are)

  pub is_disconnected_answers : MoveAnswers events move.IsDisconnected
  is_disconnected_answers o log s c tickets place call made_step given h m at is new lawful unrefused =
      let same : step.IsDisconnected ≡ made_step = cc in
      subst (λ done. Answers events o log tickets s c place done (reply.Flag (closed_now c)) c) same
      (changes_nothing events o log s c tickets place step.IsDisconnected (reply.Flag (closed_now c))
      (Flag (is_closed s.senders s.receivers)) h m new
      (ap₂ is_closed h.senders_are h.receivers_are) refl refl (closed_same events tickets s c m))
