-- Sends of many messages: the steps that they make, and what they answer.
use Rattle.std.specs.Prelude.{◌≡◌, Result, Ok, Err, List, [], ◌∷◌}
use Rattle.std.specs.VecDeque.{deque_items}
use Rattle.std.specs.declared.collections.VecDeque.{VecDeque}
use Rattle.flume_core.specs.declared.error.TrySendError.{TrySendError}
use Rattle.flume_core.specs.declared.error.TrySendError.TheVariants as try_send
use Rattle.flume_core.specs.declared.error.SendTimeoutError.{SendTimeoutError}
use Rattle.flume_core.specs.declared.error.SendTimeoutError.TheVariants as send_timeout
use Rattle.flume_calls.specs.ManySends.{SendsMany}
use Rattle.flume_deadline.specs.declared.Deadline.{Deadline}
use Rattle.flume_actions.specs.Actions.{Action}
use Rattle.flume_keeper.specs.Keeps.{Did}
use Rattle.flume.specs.GateSteps.{Sends}
use Rattle.flume.specs.ManyReceiveSteps.{HasMadeAll}
use Rattle.flume.specs.PartySteps.{SendsToFullOf}

module _ {L T : Type 0} (listed : L → List T) where
  -- the result of a `try_send` of many, with the messages of its error as a list
  abbrev pub try_result_list : Result (Unit {0}) (TrySendError L)
      → Result (Unit {0}) (TrySendError (List T))
  try_result_list (Ok sent) = Ok tt
  try_result_list (Err (try_send.Full left)) = Err (try_send.Full (listed left))
  try_result_list (Err (try_send.Disconnected left)) = Err (try_send.Disconnected (listed left))
  try_result_list (Err (try_send.NoMemory left)) = Err (try_send.NoMemory (listed left))

  -- the error of a send up to a deadline, with its messages as a list
  abbrev pub error_list : SendTimeoutError L → SendTimeoutError (List T)
  error_list (send_timeout.Timeout left) = send_timeout.Timeout (listed left)
  error_list (send_timeout.Disconnected left) = send_timeout.Disconnected (listed left)
  error_list (send_timeout.NoMemory left) = send_timeout.NoMemory (listed left)

  -- the result of a send up to a deadline, with the messages of its error as a list
  abbrev pub result_list : Result (Unit {0}) (SendTimeoutError L)
      → Result (Unit {0}) (SendTimeoutError (List T))
  result_list (Ok sent) = Ok tt
  result_list (Err error) = Err (error_list error)

module _ {T : Type 0} (A : Type 0) where
  -- some channel's run goes on with a `try_send` of each message, up to the first that is refused
  pub record SendsBatch (messages : List T) (answer : Result (Unit {0}) (TrySendError (List T)))
      : Type 0 where
    pub batch : Result (Unit {0}) (TrySendError (VecDeque T A))
    pub made : HasMadeAll (SendsMany messages) batch
    pub answer_is : answer ≡ try_result_list deque_items batch

module _ {P T : Type 0}
    (batch : P → List T → P → Result (Unit {0}) (TrySendError (List T)) → Type 0)
    (send : P → T → P → Result (Unit {0}) (SendTimeoutError T) → Type 0) where
  -- A send of these messages, by batches. If one finds the channel full, the first message that it
  -- leaves is sent by itself, and may wait; and so on with those behind it.
  pub data SendsInBatches : P → List T → P → Result (Unit {0}) (SendTimeoutError (List T))
      → Type 0 where
    NoneLeft : {old : P} → SendsInBatches old [] old (Ok tt)
    AllTakenIn : {old new : P} {messages : List T} → batch old messages new (Ok tt)
        → SendsInBatches old messages new (Ok tt)
    IsClosed : {old new : P} {messages left : List T}
        → batch old messages new (Err (try_send.Disconnected left))
        → SendsInBatches old messages new (Err (send_timeout.Disconnected left))
    IsRefused : {old new : P} {messages left : List T}
        → batch old messages new (Err (try_send.NoMemory left))
        → SendsInBatches old messages new (Err (send_timeout.NoMemory left))
    FirstComesBack : {old full new : P} {messages behind : List T} {first : T}
        {error : SendTimeoutError T}
        → batch old messages full (Err (try_send.Full (first ∷ behind)))
        → send full first new (Err error)
        → SendsInBatches old messages new (Err (error_list (λ back. back ∷ behind) error))
    GoesOn : {old full between new : P} {messages behind : List T} {first : T}
        {result : Result (Unit {0}) (SendTimeoutError (List T))}
        → batch old messages full (Err (try_send.Full (first ∷ behind)))
        → send full first between (Ok tt) → SendsInBatches between behind new result
        → SendsInBatches old messages new result

module _ {T : Type 0} (A : Type 0) where
  -- a send of these messages up to the deadline, of some channel
  abbrev pub SendsManyUpTo : Deadline → List T → Result (Unit {0}) (SendTimeoutError (List T))
      → Type 0
  SendsManyUpTo deadline messages result =
      SendsInBatches {P = Unit {0}} (λ old list new answer. SendsBatch A list answer)
      (λ old message new sent. Sends A deadline message sent) tt messages tt result

-- `did` is what the keeper says: that a party made these steps, with these replies
module _ {P T A : Type 0} (did : P → List (Action T A) → P → Type 0) where
  -- a `try_send` of each message by the party, up to the first that is refused
  pub record BatchOf (old : P) (messages : List T) (new : P)
      (answer : Result (Unit {0}) (TrySendError (List T))) : Type 0 where
    pub batch : Result (Unit {0}) (TrySendError (VecDeque T A))
    pub turn : Did did (SendsMany messages) old batch new
    pub answer_is : answer ≡ try_result_list deque_items batch

  -- a send of these messages up to the deadline: of some channel, and by the party
  abbrev pub SendsManyOf : Deadline → P → List T → P
      → Result (Unit {0}) (SendTimeoutError (List T)) → Type 0
  SendsManyOf deadline old messages new result = SendsInBatches
      (λ old list new answer. SendsBatch A list answer × BatchOf old list new answer)
      (λ old message new sent. Sends A deadline message sent
      × SendsToFullOf did old message new sent) old messages new result
