-- The steps of a send of many: a batch under the lock, and the send of one of its messages.
use Rattle.std.proofs.Common.{◌≡◌, Result, Ok, Err, List, ◌∷◌, refl, subst}
use Rattle.std.specs.declared.collections.VecDeque.{VecDeque}
use Rattle.std.specs.VecDeque.{deque_items}
use Rattle.flume_model.specs.declared.step.Step.{Step}
use Rattle.flume_model.specs.declared.step.Step.TheVariants.{TrySend}
use Rattle.flume_model.specs.declared.step.Reply.{Reply}
use Rattle.flume_model.specs.declared.step.Reply.TheVariants as reply
use Rattle.flume_model.specs.Log.{Log, Opening}
use Rattle.flume_model.specs.Replies.{IsRun}
use Rattle.flume_state.specs.State.{State}
use Rattle.flume_core.specs.Represents.{IsReachable}
use Rattle.flume_core.specs.declared.error.TrySendError.{TrySendError}
use Rattle.flume_core.specs.declared.error.TrySendError.TheVariants.{Full, Disconnected, NoMemory}
use Rattle.flume_core.specs.declared.error.SendTimeoutError.{SendTimeoutError}
use Rattle.flume_calls.specs.declared.calls.send.SendNext.TheVariants.{NeedSignal}
use Rattle.flume_deadline.specs.declared.Deadline.{Deadline}
use Rattle.flume_calls.specs.Batches.{IsBatch, log_after}
use Rattle.flume_calls.specs.ManySends.{SendsMany, NoneLeft, TakenIn, IsFull, IsClosed, IsRefused, IsRest, LeavesRest}
use Rattle.flume_calls.specs.SendTurns.{after_try_send}
use Rattle.flume_actions.specs.Actions.{Action}
use Rattle.flume_keeper.specs.Keeps.{Did}
use Rattle.flume.specs.LockedTurns.{HasDone, HasMade}
use Rattle.flume.specs.ManySendSteps.{SendsBatch, BatchOf, SendsManyUpTo, SendsManyOf, try_result_list}
use Rattle.flume.specs.ManySendSteps as many
use Rattle.flume.proofs.ManyReceiveStepLemmas.{steps_run}

module _ {T S A : Type 0} where
  -- a batch of a channel that a run led to
  pub batch_at : {old new : State T S} {messages : List T} {batch : Result (Unit {0}) (TrySendError (VecDeque T A))}
      {answer : Result (Unit {0}) (TrySendError (List T))} → IsReachable A old → IsBatch {A = A} (SendsMany messages) old new batch
      → answer ≡ try_result_list deque_items batch → SendsBatch A messages answer
  batch_at {batch = batch} reachable turn is = record {
    batch = batch;
    made = record {
      opening = reachable.0;
      log = reachable.1;
      made = turn.made;
      run = steps_run reachable.0 reachable.1 reachable.2 turn.reachable;
      answered = turn.answered;
    };
    answer_is = is;
  }

  -- a batch under the lock is one of some channel
  pub batch_made : {items messages : List T} {outcome : State T S → State T S → Result (Unit {0}) (TrySendError (VecDeque T A)) → Type 0}
      {batch : Result (Unit {0}) (TrySendError (VecDeque T A))} {answer : Result (Unit {0}) (TrySendError (List T))}
      → HasDone A (λ old new answer. IsBatch {A = A} (SendsMany items) old new answer × outcome old new answer) batch → items ≡ messages
      → answer ≡ try_result_list deque_items batch → SendsBatch A messages answer
  batch_made {answer = answer} done same is =
      subst (λ list. SendsBatch A list answer) same (batch_at (done.opening, done.log, done.represents) done.turn.0 is)

module _ {P T S A : Type 0} {did : P → List (Action T A) → P → Type 0} where
  -- a batch under the lock is one of some channel, and the party's
  pub batch_done : {messages : List T} {outcome : State T S → State T S → Result (Unit {0}) (TrySendError (VecDeque T A)) → Type 0}
      {batch : Result (Unit {0}) (TrySendError (VecDeque T A))} {answer : Result (Unit {0}) (TrySendError (List T))} {old new : P}
      → HasDone A (λ old new answer. IsBatch {A = A} (SendsMany messages) old new answer × outcome old new answer) batch
      → Did did (SendsMany messages) old batch new → answer ≡ try_result_list deque_items batch
      → SendsBatch A messages answer × BatchOf did old messages new answer
  batch_done done turn is = (batch_made done refl is, record { batch = _; turn = turn; answer_is = is })

module _ {T A : Type 0} where
  -- the last step of a batch that found the channel full offered the first message of those that it left
  full_offer : (opening : Opening) (log : Log T A) (messages : List T) (made : List (Step T × Reply T A))
      (batch : Result (Unit {0}) (TrySendError (VecDeque T A))) (left : VecDeque T A) (first : T) (behind : List T)
      → SendsMany messages made batch → batch ≡ Err (Full left) → left.items ≡ first ∷ behind → IsRun opening (log_after log made)
      → HasMade {A = A} (TrySend first) after_try_send (NeedSignal first)
  full_offer opening log messages made batch left first behind NoneLeft over is run = absurd (let none : ⊥ = cc in none)
  full_offer opening log messages made batch left first behind (TakenIn {message = message} {rest = rest} {made = more} filled others)
      over is run =
      full_offer opening ((TrySend message, reply.Sent filled) ∷ log) rest more batch left first behind others over is run
  full_offer opening log messages made batch left first behind (IsFull {message = message} same) over is run =
      let one : message ≡ first = cc in
      subst (λ m. HasMade {A = A} (TrySend m) after_try_send (NeedSignal m)) one
      (record { opening = opening; log = log; reply = reply.Full message; run = run; answered = refl })
  full_offer opening log messages made batch left first behind (IsClosed same) over is run = absurd (let none : ⊥ = cc in none)
  full_offer opening log messages made batch left first behind (IsRefused same) over is run = absurd (let none : ⊥ = cc in none)

module _ {T S A : Type 0} where
  -- a batch under the lock that found the channel full offered the first message of those that it left
  pub batch_full : {items : List T} {outcome : State T S → State T S → Result (Unit {0}) (TrySendError (VecDeque T A))
      → Type 0} {left : VecDeque T A}
      → HasDone A (λ old new told. IsBatch {A = A} (SendsMany items) old new told × outcome old new told) (Err (Full left))
      → (first : T) (behind : List T) → left.items ≡ first ∷ behind → HasMade {A = A} (TrySend first) after_try_send (NeedSignal first)
  batch_full {items} {outcome} {left} done first behind is =
      let turn = done.turn.0 in
      full_offer done.opening done.log items turn.made (Err (Full left)) left first behind turn.answered refl is
      (steps_run done.opening done.log done.represents turn.reachable)

module _ {T : Type 0} where
  -- what the list of a batch's error has
  abbrev pub Leaves : List T → Result (Unit {0}) (TrySendError (List T)) → Type 0
  Leaves messages (Ok sent) = Unit {0}
  Leaves messages (Err (Full left)) = IsRest messages left
  Leaves messages (Err (Disconnected left)) = IsRest messages left
  Leaves messages (Err (NoMemory left)) = IsRest messages left

module _ {T A : Type 0} where
  -- it has what the batch left
  pub leaves : (items messages : List T) (batch : Result (Unit {0}) (TrySendError (VecDeque T A)))
      (answer : Result (Unit {0}) (TrySendError (List T)))
      → LeavesRest items batch → items ≡ messages → try_result_list deque_items batch ≡ answer → Leaves messages answer
  leaves items messages batch answer rest same is =
      subst (λ list. Leaves list answer) same (subst (λ answer. Leaves items answer) is (go batch rest))
    where
      go : (batch : Result (Unit {0}) (TrySendError (VecDeque T A))) → LeavesRest items batch
          → Leaves items (try_result_list deque_items batch)
      go (Ok sent) rest = tt
      go (Err (Full left)) rest = rest
      go (Err (Disconnected left)) rest = rest
      go (Err (NoMemory left)) rest = rest

module _ {P T A : Type 0} {did : P → List (Action T A) → P → Type 0} {deadline : Deadline} where
  -- what a send by the party is of some channel
  pub sends_up_to : {old new : P} {messages : List T} {result : Result (Unit {0}) (SendTimeoutError (List T))}
      → SendsManyOf did deadline old messages new result → SendsManyUpTo A deadline messages result
  sends_up_to many.NoneLeft = many.NoneLeft
  sends_up_to (many.AllTakenIn batch) = many.AllTakenIn batch.0
  sends_up_to (many.IsClosed batch) = many.IsClosed batch.0
  sends_up_to (many.IsRefused batch) = many.IsRefused batch.0
  sends_up_to (many.FirstComesBack batch ends) = many.FirstComesBack batch.0 ends.0
  sends_up_to (many.GoesOn batch sent rest) = many.GoesOn batch.0 sent.0 (sends_up_to rest)
