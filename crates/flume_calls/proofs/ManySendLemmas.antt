-- A batch of sends, from its first step on.
use Rattle.std.proofs.Common.{◌≡◌, ◌≢◌, ◌∙◌, ℕ, ◌+◌, ◌<◌, ◌≤◌, Option, Some, None, List, [], ◌∷◌, ◌++◌}
use Rattle.std.proofs.Common.{length, Result, Err, sym, ap, subst, arith}
use Rattle.std.proofs.Math.Nat.{lt_of_not-le}
use Rattle.std.proofs.lemmas.List.{length-append}
use Rattle.flume_model.specs.Entries.{round_for_fills}
use Rattle.flume_state.specs.Receivers.{after_fill}
use Rattle.flume_state.specs.Effects.{Joins}
use Rattle.std.specs.declared.collections.VecDeque.{VecDeque}
use Rattle.flume_model.specs.declared.step.Step.{Step}
use Rattle.flume_model.specs.declared.step.Step.TheVariants.{TrySend}
use Rattle.flume_model.specs.declared.step.Reply.{Reply}
use Rattle.flume_model.specs.declared.step.Reply.TheVariants.{Sent, NoMemory as NoRoom}
use Rattle.flume_state.specs.State.{State, message_count}
use Rattle.flume_state.specs.Due.{BecomesDue}
use Rattle.flume_core.specs.Represents.{Extends, IsReachable, IsRefusal}
use Rattle.flume_core.specs.PossibleReply.{PossibleReply}
use Rattle.flume_core.specs.Transitions.{IsTransition}
use Rattle.flume_core.specs.declared.error.TrySendError.{TrySendError}
use Rattle.flume_core.specs.declared.error.TrySendError.TheVariants.{NoMemory}
use Rattle.flume_calls.specs.Batches.{NoSteps, FirstStep, IsBatch}
use Rattle.flume_calls.specs.ManySends.{SendsMany, TakenIn, IsRest, SendManyOutcome}

-- what a batch of sends answers
abbrev Answer : Type 0 → Type 0 → Type 0
Answer T A = Result (Unit {0}) (TrySendError (VecDeque T A))

module _ {T A S : Type 0} where
  -- what a `try_send` says of itself is what a list of steps says of it
  pub offered : {old new : State T S} {message : T} {reply : Reply T A} → Extends old (TrySend message) reply new
      → (IsReachable A old → BecomesDue old (TrySend message) reply new) → PossibleReply (TrySend message) reply → old.space ≤ new.space
      → (message_count old < old.space → reply ≢ NoRoom (Some message)) → (IsRefusal reply → new ≡ old)
      → IsTransition old (TrySend message) reply new
  offered {old} extends becomes_due possible_reply space succeeds unchanged = record {
    extends = extends;
    becomes_due = becomes_due;
    possible_reply = possible_reply;
    space = space;
    refused = λ back is.
        let same = rw is at possible_reply in
        let none : old.space < message_count old + 1 = lt_of_not-le (λ more. succeeds (omega arith) (is ∙ ap NoRoom same)) in
        omega arith;
    unchanged = unchanged;
  }

  -- the first message is taken in, and the batch goes on with the others
  pub taken_in : {old between new : State T S} {message : T} {rest : List T} {filled : Option ℕ} {answer : Answer T A}
      → IsTransition {A = A} old (TrySend message) (Sent filled) between
      → IsBatch {A = A} (SendsMany rest) between new answer → IsBatch {A = A} (SendsMany (message ∷ rest)) old new answer
  taken_in {filled = filled} stepped batch = record {
    made = _ ∷ batch.made;
    reachable = FirstStep stepped batch.reachable;
    answered = TakenIn filled batch.answered;
  }

  -- the batch is one step
  pub one_step : {old new : State T S} {step : Step T} {reply : Reply T A} {messages : List T} {answer : Answer T A}
      → IsTransition old step reply new → SendsMany messages ((step, reply) ∷ []) answer
      → IsBatch {A = A} (SendsMany messages) old new answer
  one_step stepped answered = record {
    made = _ ∷ [];
    reachable = FirstStep stepped NoSteps;
    answered = answered;
  }

module _ {T : Type 0} where
  -- nothing of a list is sent
  pub all_left : (message : T) (rest left : List T) → left ≡ message ∷ rest → IsRest (message ∷ rest) left
  all_left message rest left is = record {
    sent = [];
    first = message;
    behind = rest;
    left_is = is;
    messages_are = sym is;
  }

  -- the first message is sent, and then some of the others
  pub first_sent : (message : T) (rest left : List T) → IsRest rest left → IsRest (message ∷ rest) left
  first_sent message rest left is = record {
    sent = message ∷ is.sent;
    first = is.first;
    behind = is.behind;
    left_is = is.left_is;
    messages_are = ap (λ list. message ∷ list) is.messages_are;
  }

module _ {T : Type 0} where
  -- what fills a receiver leaves no more messages queued
  no_more : (filled : Option ℕ) (queue : List T) → length (after_fill filled queue) ≤ length queue
  no_more None queue = omega arith
  no_more (Some ticket) [] = omega arith
  no_more (Some ticket) (front ∷ queue) = omega arith

module _ {T S : Type 0} where
  -- a message that joins is at most one more
  pub one_at_most : (old new : State T S) (message : T) (filled : Option ℕ) → Joins old new message filled
      → message_count new ≤ message_count old + 1
  one_at_most old new message filled joins =
      let queue = old.queue ++ message ∷ [] in
      let longer : length queue ≡ length old.queue + 1 = length-append old.queue (message ∷ []) in
      let less : length (after_fill (round_for_fills queue old.entries) queue) ≤ length queue =
      no_more (round_for_fills queue old.entries) queue in
      let count : message_count new ≡ length (after_fill (round_for_fills queue old.entries) queue) + length old.blocked =
      ap message_count joins.becomes in
      omega arith

  -- The first of these messages found no memory: it found no space, and the channel is as it was.
  pub refused : {A : Type 0} (first old new : State T S) (messages now : List T) (left : VecDeque T A) → new ≡ old
      → ¬ (message_count old < old.space) → 0 < length now
      → (message_count first + length messages ≤ first.space → message_count old + length now ≤ old.space)
      → SendManyOutcome messages first new (Err (NoMemory left))
  refused first old new messages now left same none some fits = record {
    full = λ full said. absurd (let no : ⊥ = cc in no);
    disconnected = λ closed said. absurd (let no : ⊥ = cc in no);
    no_memory = λ back said.
        let less : old.space < message_count old + 1 = lt_of_not-le (λ more. none (omega arith)) in
        subst (λ s. s.space ≤ message_count s) (sym same) (omega arith);
    succeeds = λ space back said. let space = fits space in none (omega arith);
  }
