-- What is left of a list after some of its messages were sent.
use Rattle.std.proofs.Common.{◌≡◌, ◌≢◌, List, [], ◌∷◌, ◌++◌, Option, Some, None, Result, Ok, Err, refl, sym}
use Rattle.std.proofs.Common.{◌∙◌, ap, subst, inl, inr, append_assoc}
use Rattle.std.proofs.lemmas.List.{append-nil}
use Rattle.flume_core.specs.declared.error.SendError.{SendError}
use Rattle.flume_core.specs.declared.error.SendError.TheVariants.{Disconnected, NoMemory}
use Rattle.flume_core.specs.declared.error.SendTimeoutError.{SendTimeoutError}
use Rattle.flume_core.specs.declared.error.SendTimeoutError.TheVariants as timed
use Rattle.flume_calls.specs.ManySends.{IsRest}
use Rattle.flume_calls.specs.declared.polled.send.PolledSend.{PolledSend}
use Rattle.flume_calls.specs.declared.polled.send.PolledSend.TheVariants.{Unsent, Parked, Finished}
use Rattle.flume.specs.ManySendCalls.{IsRestAfterWait, IsEndOf, LeavesList, PollLeaves}
use Rattle.flume.specs.ManySendSteps.{error_list}
use Rattle.flume.proofs.SendPollLemmas.{Answer, back_of}

module _ {T : Type 0} where
  -- the last ones of the last ones are the last ones of all
  append_sent : (all sent now : List T) (last : IsEndOf all now) (more : List T) → now ≡ sent ++ more → all ≡ (last.0 ++ sent) ++ more
  append_sent all sent now last more is = last.1 ∙ ap (λ list. last.0 ++ list) is ∙ sym (append_assoc last.0 sent more)

  -- what is left of the last ones is left of all
  pub rest_of_all : (all now left : List T) → IsEndOf all now → IsRest now left → IsRest all left
  rest_of_all all now left last rest = record {
    sent = last.0 ++ rest.sent;
    first = rest.first;
    behind = rest.behind;
    left_is = rest.left_is;
    messages_are = append_sent all rest.sent now last left rest.messages_are;
  }

  -- what was sent before the last ones
  last_of_rest : (all left : List T) → IsRest all left → IsEndOf all left
  last_of_rest all left rest = (rest.sent, rest.messages_are)

  -- behind the first of the last ones
  behind_first : (all now behind : List T) (first : T) → IsEndOf all now → now ≡ first ∷ behind → IsEndOf all behind
  behind_first all now behind first last is = (last.0 ++ first ∷ [], append_sent all (first ∷ []) now last behind is)

  -- what is left if no message waited
  pub without_wait : (all left : List T) → IsRest all left → IsRestAfterWait all left
  without_wait all left rest = record {
    sent = rest.sent;
    first = rest.first;
    back = rest.first;
    behind = rest.behind;
    left_is = rest.left_is;
    messages_are = rest.messages_are ∙ ap (λ list. rest.sent ++ list) rest.left_is;
  }

  -- a batch of the last ones left some, and the first of those was sent by itself: those behind it are the last ones
  pub behind_sent : (all now left behind : List T) (first : T) → IsEndOf all now → IsRest now left → left ≡ first ∷ behind
      → IsEndOf all behind
  behind_sent all now left behind first last rest is =
      behind_first all left behind first (last_of_rest all left (rest_of_all all now left last rest)) is

  -- what an error of its send leaves
  abbrev LeftBy : List T → SendTimeoutError (List T) → Type 0
  LeftBy all (timed.Timeout left) = IsRestAfterWait all left
  LeftBy all (timed.Disconnected left) = IsRestAfterWait all left
  LeftBy all (timed.NoMemory left) = IsRest all left

  -- what came back, and those behind it
  pub left_by_first : (all now left behind : List T) (first : T) (ended : SendTimeoutError T) (error : SendTimeoutError (List T))
      → IsEndOf all now → IsRest now left → left ≡ first ∷ behind → ((back : T) → ended ≡ timed.NoMemory back → back ≡ first)
      → error ≡ error_list (λ back. back ∷ behind) ended → LeftBy all error
  left_by_first all now left behind first ended error last rest is came same = subst (LeftBy all) (sym same) (go ended came)
    where
      sent : List T
      sent = last.0 ++ rest.sent

      messages_are : all ≡ sent ++ first ∷ behind
      messages_are = append_sent all rest.sent now last (first ∷ behind) (rest.messages_are ∙ ap (λ list. rest.sent ++ list) is)

      go : (ended : SendTimeoutError T) → ((back : T) → ended ≡ timed.NoMemory back → back ≡ first)
          → LeftBy all (error_list (λ back. back ∷ behind) ended)
      go (timed.Timeout back) came =
          record { sent = sent; first = first; back = back; behind = behind; left_is = refl; messages_are = messages_are }
      go (timed.Disconnected back) came =
          record { sent = sent; first = first; back = back; behind = behind; left_is = refl; messages_are = messages_are }
      go (timed.NoMemory back) came = subst (λ m. IsRest all (m ∷ behind)) (sym (came back refl))
          (record { sent = sent; first = first; behind = behind; left_is = refl; messages_are = messages_are })

  -- its send was too late, if the error says so
  pub late_first : (left behind : List T) (ended : SendTimeoutError T) → timed.Timeout left ≡ error_list (λ back. back ∷ behind) ended
      → (back : T) × (ended ≡ timed.Timeout back)
  late_first left behind (timed.Timeout back) is = (back, refl)
  late_first left behind (timed.Disconnected back) is = absurd (let none : ⊥ = cc in none)
  late_first left behind (timed.NoMemory back) is = absurd (let none : ⊥ = cc in none)

  -- what a poll of the first of some messages leaves: if an error comes back, it has that message
  pub first_poll_leaves : (messages rest behind : List T) (first : T) (answer : Option (Result (Unit {0}) (SendError T)))
      → IsRest messages rest
      → rest ≡ first ∷ behind → ((error : SendError T) → answer ≡ Some (Err error) → back_of error ≡ first)
      → LeavesList messages behind answer
  first_poll_leaves messages rest behind first answer left is came = go answer came
    where
      last : IsEndOf messages (first ∷ behind)
      last = (left.sent, left.messages_are ∙ ap (λ list. left.sent ++ list) is)

      go : (answer : Option (Result (Unit {0}) (SendError T))) → ((error : SendError T) → answer ≡ Some (Err error) → back_of error ≡ first)
          → LeavesList messages behind answer
      go None came = (first, last)
      go (Some (Ok sent)) came = inr (first, last)
      go (Some (Err (Disconnected back))) came = subst (λ m. IsEndOf messages (m ∷ behind)) (sym (came (Disconnected back) refl)) last
      go (Some (Err (NoMemory back))) came = subst (λ m. IsEndOf messages (m ∷ behind)) (sym (came (NoMemory back) refl)) last

  -- the last of the last are the last of all
  last_of_last : (all now left : List T) → IsEndOf all now → IsEndOf now left → IsEndOf all left
  last_of_last all now left last more = (last.0 ++ more.0, append_sent all more.0 now last left more.1)

  -- of a list that a poll was sending the last are left
  pub list_end : (messages left : List T) (answer : Answer T) → LeavesList messages left answer → IsEndOf messages left
  list_end messages left None leaves = behind_first messages (leaves.0 ∷ left) left leaves.0 leaves.1 refl
  list_end messages left (Some (Ok sent)) (inl none) =
      subst (λ left. IsEndOf messages left) (sym none) (messages, sym (append-nil messages))
  list_end messages left (Some (Ok sent)) (inr one) = behind_first messages (one.0 ∷ left) left one.0 one.1 refl
  list_end messages left (Some (Err (Disconnected back))) last = behind_first messages (back ∷ left) left back last refl
  list_end messages left (Some (Err (NoMemory back))) last = behind_first messages (back ∷ left) left back last refl

  -- what a poll leaves of what an earlier one left
  pub next_leaves : (all now left : List T) (answer : Answer T) → IsEndOf all now → LeavesList now left answer → LeavesList all left answer
  next_leaves all now left None last leaves = (leaves.0, last_of_last all now (leaves.0 ∷ left) last leaves.1)
  next_leaves all now left (Some (Ok sent)) last (inl none) = inl none
  next_leaves all now left (Some (Ok sent)) last (inr one) = inr (one.0, last_of_last all now (one.0 ∷ left) last one.1)
  next_leaves all now left (Some (Err (Disconnected back))) last more = last_of_last all now (back ∷ left) last more
  next_leaves all now left (Some (Err (NoMemory back))) last more = last_of_last all now (back ∷ left) last more

  -- what is behind a message of a list that begins with another is the end of the others
  behind_message : (message : T) (messages left : List T) (one : T) → IsEndOf (message ∷ messages) (one ∷ left) → IsEndOf messages left
  behind_message message messages left one ([], is) = ([], let same : messages ≡ left = cc in same)
  behind_message message messages left one (first ∷ sent, is) =
      behind_first messages (one ∷ left) left one (sent, let same : messages ≡ sent ++ one ∷ left = cc in same) refl

  -- of a list that begins with a message of its own and that a poll was sending, the last of the others are left
  message_end : (message : T) (messages left : List T) (answer : Answer T) → LeavesList (message ∷ messages) left answer
      → IsEndOf messages left
  message_end message messages left None leaves = behind_message message messages left leaves.0 leaves.1
  message_end message messages left (Some (Ok sent)) (inl none) =
      subst (λ left. IsEndOf messages left) (sym none) (messages, sym (append-nil messages))
  message_end message messages left (Some (Ok sent)) (inr one) = behind_message message messages left one.0 one.1
  message_end message messages left (Some (Err (Disconnected back))) last = behind_message message messages left back last
  message_end message messages left (Some (Err (NoMemory back))) last = behind_message message messages left back last

  -- the same of a poll that first polls a send
  pub poll_end : (send : PolledSend T) (messages left : List T) (answer : Answer T) → PollLeaves send messages left answer
      → IsEndOf messages left
  poll_end (Unsent message) messages left answer leaves = message_end message messages left answer leaves
  poll_end (Parked ticket) messages left answer (inl same) = ([], sym same.0)
  poll_end (Parked ticket) messages left answer (inr leaves) = list_end messages left answer leaves
  poll_end Finished messages left answer leaves = list_end messages left answer leaves

  -- if the send had ended, the poll sent of the list
  pub finished_poll_leaves : (send : PolledSend T) (messages left : List T) (answer : Answer T) → send ≡ Finished
      → PollLeaves send messages left answer
      → LeavesList messages left answer
  finished_poll_leaves send messages left answer over leaves = subst (λ send. PollLeaves send messages left answer) over leaves

  -- if the send ended well, the poll went on to the list
  pub sent_poll_leaves : (send : PolledSend T) (messages left : List T) (answer : Answer T) → LeavesList messages left answer
      → PollLeaves send messages left answer
  sent_poll_leaves (Unsent message) messages left answer leaves = next_leaves (message ∷ messages) messages left answer
      (message ∷ [], refl) leaves
  sent_poll_leaves (Parked ticket) messages left answer leaves = inr leaves
  sent_poll_leaves Finished messages left answer leaves = leaves

  -- if the send waits or fails, the list is as it was
  pub unsent_poll_leaves : (send : PolledSend T) (messages : List T) (answer : Answer T) → answer ≢ Some (Ok tt)
      → (send ≡ Finished → answer ≡ Some (Ok tt))
      → ((message : T) → send ≡ Unsent message → (error : SendError T) → answer ≡ Some (Err error) → back_of error ≡ message)
      → PollLeaves send messages messages answer
  unsent_poll_leaves (Unsent message) messages None unfit over came = (message, ([], refl))
  unsent_poll_leaves (Unsent message) messages (Some (Ok sent)) unfit over came = absurd (unfit refl)
  unsent_poll_leaves (Unsent message) messages (Some (Err (Disconnected back))) unfit over came =
      ([], ap (λ m. m ∷ messages) (sym (came message refl (Disconnected back) refl)))
  unsent_poll_leaves (Unsent message) messages (Some (Err (NoMemory back))) unfit over came =
      ([], ap (λ m. m ∷ messages) (sym (came message refl (NoMemory back) refl)))
  unsent_poll_leaves (Parked ticket) messages answer unfit over came = inl (refl, unfit)
  unsent_poll_leaves Finished messages answer unfit over came = absurd (unfit (over refl))
