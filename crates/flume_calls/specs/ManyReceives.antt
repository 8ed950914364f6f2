-- Receives of many messages: which steps each batch makes, and what it answers.
use Rattle.std.specs.Prelude.{◌≡◌, ◌⊎◌, ℕ, ◌+◌, ◌<◌, ◌≤◌, ◌↔◌, min, List, [], ◌∷◌, ◌++◌, map}
use Rattle.std.specs.Prelude.{length, Ok, Err, Vec, vec_len, vec_capacity}
use Rattle.flume_model.specs.declared.step.Step.{Step}
use Rattle.flume_model.specs.declared.step.Step.TheVariants.{TryRecv}
use Rattle.flume_model.specs.declared.step.Reply.{Reply}
use Rattle.flume_model.specs.declared.step.Reply.TheVariants.{Got}
use Rattle.flume_model.specs.Limits.{IsOpen, IsClosed}
use Rattle.flume_state.specs.State.{State, message_count}
use Rattle.flume_core.specs.declared.error.RecvTimeoutError.TheVariants.{Disconnected, NoMemory}
use Rattle.flume_calls.specs.declared.calls.receive.RecvNext.{RecvNext}
use Rattle.flume_calls.specs.declared.calls.receive.RecvNext.TheVariants.{Done, NeedSignal, Park}
use Rattle.flume_calls.specs.declared.calls.receive.RecvNext.TheVariants.{Refused}
use Rattle.flume_calls.specs.declared.calls.receive_many.ManyNext.{ManyNext}
use Rattle.flume_calls.specs.Batches.{StepsBetween, IsBatch, join_steps}
use Rattle.flume_calls.specs.ReceiveTurns.{after_try_recv, GivesNone}

-- a call takes at most this many, and none only if it was to take none
abbrev pub IsAtMost : ℕ → RecvNext ℕ → Type 0
IsAtMost most (Done (Ok count)) = (count ≤ most) × (count ≡ 0 → most ≡ 0)
IsAtMost most _ = Unit {0}

module _ {T A : Type 0} where
  -- a `try_recv` that got it, for each of these messages
  abbrev pub each_got : List T → List (Step T × Reply T A)
  each_got taken = map (λ message. (TryRecv, Got message)) taken

module _ {T S : Type 0} (A : Type 0) where
  -- this many messages were taken, each by a `try_recv`, and put behind the list in order
  pub record Takes (old : State T S) (before : List T) (count : ℕ) (new : State T S)
      (after : List T) : Type 0 where
    pub taken : List T
    pub reachable : StepsBetween {A = A} old (each_got taken) new
    pub items : after ≡ before ++ taken
    pub number : length taken ≡ count

module _ {T : Type 0} where
  -- the message that a turn of a receive gave
  abbrev pub given_by : RecvNext T → List T
  given_by (Done (Ok message)) = message ∷ []
  given_by _ = []

  -- the answer if a turn of a receive gave this and this many messages were taken after it
  abbrev pub with_more : ℕ → RecvNext T → RecvNext ℕ
  with_more more (Done (Ok message)) = Done (Ok (more + 1))
  with_more more (Done (Err error)) = Done (Err error)
  with_more more NeedSignal = NeedSignal
  with_more more (Park ticket) = Park ticket
  with_more more (Refused ticket) = Refused ticket

  -- a turn of a receive gave this, and then these were taken
  pub record Gives (before : List T) (more : ℕ) (first : RecvNext T) (taken : List T)
      (after : List T) (next : RecvNext ℕ) : Type 0 where
    pub items : after ≡ before ++ (given_by first ++ taken)
    pub next_is : next ≡ with_more (length taken) first
    pub only_behind_one : given_by first ≡ [] → taken ≡ []
    pub at_most : length taken ≤ more

module _ {T A : Type 0} where
  -- the table of a batch that takes what is there
  pub record BatchTakes (before : List T) (made : List (Step T × Reply T A)) (after : List T)
      (count : ℕ) : Type 0 where
    pub taken : List T
    pub steps : made ≡ each_got taken
    pub items : after ≡ before ++ taken
    pub number : length taken ≡ count

  -- the table of a first receive of many
  pub data FirstManyTable (before : List T) (made : List (Step T × Reply T A)) (after : List T)
      (next : RecvNext ℕ) : Type 0 where
    Some : (count : ℕ) → BatchTakes before made after count → next ≡ Done (Ok count)
        → FirstManyTable before made after next
    None : (reply : Reply T A) → (first : RecvNext T) → made ≡ (TryRecv, reply) ∷ []
        → after_try_recv reply first → GivesNone first → after ≡ before → next ≡ with_more 0 first
        → FirstManyTable before made after next
    NoRoom : made ≡ [] → after ≡ before → next ≡ Done (Err NoMemory)
        → FirstManyTable before made after next

module _ {T A : Type 0} where
  -- this many of those that were there were taken: all up to the most, or as many as there is room
  abbrev pub TakesAll : ℕ → ℕ → ℕ → Vec T A → Type 0
  TakesAll most there count after =
      (count ≡ min most there) ⊎ ((count < min most there) × (vec_len after ≡ vec_capacity after))

  -- the answer of a turn of this kind, and of what was taken after it
  pub record AnswersMore (answers : RecvNext T → Type 0) (before : Vec T A) (more : ℕ)
      (after : Vec T A) (next : RecvNext ℕ) : Type 0 where
    pub first : RecvNext T
    pub taken : List T
    pub answered : answers first
    pub gives : Gives before.items more first taken after.items next
    pub none_given : given_by first ≡ [] → after ≡ before

module _ {T S A : Type 0} where
  -- what a first receive of at most this many says of the states, by its answer
  pub record FirstManyOutcome (buffer : Vec T A) (most : ℕ) (old new : State T S)
      (next : RecvNext ℕ) : Type 0 where
    pub took : (count : ℕ) → next ≡ Done (Ok count)
        → (count ≡ min most (message_count old)) × (message_count new + count ≡ message_count old)
    pub need_signal : (next ≡ NeedSignal)
        ↔ (0 < most) × (message_count old ≡ 0) × IsOpen old.senders old.receivers
    pub disconnected : (next ≡ Done (Err Disconnected))
        ↔ (0 < most) × (message_count old ≡ 0) × IsClosed old.senders old.receivers
    pub no_memory : next ≡ Done (Err NoMemory) → (0 < message_count old)
        × (vec_capacity buffer < vec_len buffer + min most (message_count old))
    pub unchanged : GivesNone next → new ≡ old

module _ {T S : Type 0} (A : Type 0) where
  -- a turn that does this, and if it gave a message, then what else is there, at most this many
  pub record TurnAndMore (does : State T S → State T S → RecvNext T → Type 0) (before : Vec T A)
      (more : ℕ) (old new : State T S) (after : Vec T A) (next : RecvNext ℕ) : Type 0 where
    pub between : State T S
    pub first : RecvNext T
    pub taken : List T
    pub turn : does old between first
    pub reachable : StepsBetween {A = A} between (each_got taken) new
    pub gives : Gives before.items more first taken after.items next
    pub none_behind : given_by first ≡ [] → new ≡ between
    pub all_behind : (message : T) → first ≡ Done (Ok message)
        → TakesAll more (message_count between) (length taken) after

module _ {T A : Type 0} where
  -- the table of that turn, of which `makes` is the first part's
  pub record MakesMore (makes : List (Step T × Reply T A) → RecvNext T → Type 0) (before : Vec T A)
      (more : ℕ) (made : List (Step T × Reply T A)) (answer : ManyNext T A) : Type 0 where
    pub first_made : List (Step T × Reply T A)
    pub first : RecvNext T
    pub taken : List T
    pub answered : makes first_made first
    pub steps : made ≡ first_made ++ each_got taken
    pub gives : Gives before.items more first taken answer.buffer.items answer.next

  -- that turn is a batch of these steps
  abbrev pub makes_more : {S : Type 0} {does : State T S → State T S → RecvNext T → Type 0}
      {makes : List (Step T × Reply T A) → RecvNext T → Type 0} {before : Vec T A} {more : ℕ}
      {old new : State T S} {answer : ManyNext T A}
      → (did : TurnAndMore A does before more old new answer.buffer answer.next)
      → IsBatch makes old did.between did.first → IsBatch (MakesMore makes before more) old new answer
  makes_more did batch = record {
    made = batch.made ++ each_got did.taken;
    reachable = join_steps batch.reachable did.reachable;
    answered = record {
      first_made = batch.made;
      first = did.first;
      taken = did.taken;
      answered = batch.answered;
      steps = λ i. batch.made ++ each_got did.taken;
      gives = did.gives;
    };
  }
