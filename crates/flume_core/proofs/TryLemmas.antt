-- A call that may wait and doesn't is answered as one that doesn't wait.
use Rattle.std.proofs.Common.{inl, ◌≡◌, ◌≢◌, ◌∷◌, Option, refl}
use Rattle.flume_model.specs.declared.step.Step.{Step}
use Rattle.flume_model.specs.declared.step.Step.TheVariants.{TrySend, Send, TryRecv, Recv}
use Rattle.flume_model.specs.declared.step.Reply.{Reply}
use Rattle.flume_model.specs.declared.step.Reply.TheVariants.{Sent, Full, Closed, NoMemory, Spent, Got, Empty, Ended}
use Rattle.flume_model.specs.declared.step.Kind.{Kind}
use Rattle.flume_model.specs.Log.{Log, Opening, change}
use Rattle.flume_model.specs.Line.{capacity, queue_len}
use Rattle.flume_model.specs.Channel.{channel}
use Rattle.flume_model.specs.Replies.{IsReply}
use Rattle.flume_state.specs.State.{State}
use Rattle.flume_core.specs.Represents.{Represents}
use Rattle.flume_core.specs.PossibleReply.{PossibleReply}
use Rattle.flume_core.proofs.ViewLemmas.{room_or_full}

module _ {T A S : Type 0} where
  -- if two steps with their replies make the same change, they leave the same state
  represents_by : (o : Opening) (log : Log T A) (p q : Step T × Reply T A) (s : State T S) → change log q.0 q.1 ≡ change log p.0 p.1
      → IsReply (channel o log) q.0 q.1 → Represents o (p ∷ log) s → Represents o (q ∷ log) s
  represents_by o log p q s e reply h = record {
    run = (reply, h.run.1);
    capacity_is = rw e h.capacity_is;
    greatest_is = rw e h.greatest_is;
    queue_is = rw e h.queue_is;
    blocked_are = rw e h.blocked_are;
    sends_are = rw e h.sends_are;
    entries_are = rw e h.entries_are;
    peak_is = rw e h.peak_is;
    next_is = rw e h.next_is;
    senders_are = rw e h.senders_are;
    receivers_are = rw e h.receivers_are;
  }

  -- a send that doesn't find the queue full is answered as a send that doesn't wait
  pub send_as_try : (o : Opening) (log : Log T A) (m : T) (r : Reply T A) (s : State T S) → Represents o ((TrySend m, r) ∷ log) s
      → ((x : T) → r ≢ Full x) → Represents o ((Send m, r) ∷ log) s
  send_as_try o log m (Sent filled) s h differs = represents_by o log _ _ s refl h.run.0 h
  send_as_try o log m (Closed back) s h differs = represents_by o log _ _ s refl h.run.0 h
  send_as_try o log m (NoMemory back) s h differs =
      represents_by o log _ _ s refl
      (h.run.0.0.0, (λ none_in. absurd (room_or_full (capacity o log) (queue_len o log) (h.run.0.0.1 none_in.1) none_in.2)), h.run.0.1) h
  send_as_try o log m (Full back) s h differs = absurd (differs back refl)
  send_as_try o log m _ s h differs = absurd h.run.0

  -- a receive that finds the line not empty, or the channel closed, is answered as one that doesn't wait
  pub recv_as_try : (o : Opening) (log : Log T A) (kind : Kind) (r : Reply T A) (s : State T S) → Represents o ((TryRecv, r) ∷ log) s
      → r ≢ Empty → Represents o ((Recv kind, r) ∷ log) s
  recv_as_try o log kind (Got m) s h differs = represents_by o log _ _ s refl h.run.0 h
  recv_as_try o log kind Ended s h differs = represents_by o log _ _ s refl h.run.0 h
  recv_as_try o log kind (NoMemory back) s h differs = represents_by o log _ _ s refl (inl h.run.0.0, h.run.0.1) h
  recv_as_try o log kind Empty s h differs = absurd (differs refl)
  recv_as_try o log kind _ s h differs = absurd h.run.0

module _ {T A : Type 0} where
  -- a send that doesn't find the queue full has a reply that a send has
  pub send_comes : (m : T) (r : Reply T A) → PossibleReply (TrySend m) r → ((x : T) → r ≢ Full x) → PossibleReply (Send m) r
  send_comes m (Sent filled) possible_reply differs = possible_reply
  send_comes m (Closed back) possible_reply differs = possible_reply
  send_comes m (NoMemory back) possible_reply differs = possible_reply
  send_comes m (Full back) possible_reply differs = absurd (differs back refl)
  send_comes m _ possible_reply differs = absurd possible_reply

  -- a receive that finds the line not empty, or the channel closed, has a reply that a receive has
  pub recv_comes : (kind : Kind) (r : Reply T A) → PossibleReply TryRecv r → r ≢ Empty → PossibleReply (Recv kind) r
  recv_comes kind (Got m) possible_reply differs = possible_reply
  recv_comes kind Ended possible_reply differs = possible_reply
  recv_comes kind Empty possible_reply differs = absurd (differs refl)
  recv_comes kind _ possible_reply differs = absurd possible_reply

  -- a send that doesn't wait never finds the tickets spent
  pub try_never_spent : (m : T) (r : Reply T A) → PossibleReply (TrySend m) r → (back : Option T) → r ≢ Spent back
  try_never_spent m r possible_reply back is = absurd (rw is at possible_reply)
