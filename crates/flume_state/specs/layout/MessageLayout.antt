-- How messages lie in their chain. The view of a channel has `messages_of` and `space_of`.
use Rattle.std.specs.Prelude.{◌≡◌, ◌+◌, ℕ, List, [], ◌∷◌, ◌++◌, Option, Some, None, length}
use Rattle.flume_chain.specs.ChainState.{ChainState, ChainItem, first_place}
use Rattle.flume_chain.specs.declared.labelled.LabelledValue.{LabelledValue}

-- a message of the chain: its label is the place of its send, if it is blocked
abbrev pub Message : Type 0 → Type 0
Message T = LabelledValue (Option ℕ) T

-- a blocked message: its place, and that of its send
pub record BlockedAt (T : Type 0) : Type 0 where
  pub place : ℕ
  pub send_place : ℕ
  pub message : T

-- the queued messages, the blocked ones, and how many fit before one needs an allocation
pub record MessageList (T : Type 0) : Type 0 where
  pub queued : List T
  pub blocked : List (BlockedAt T)
  pub space : ℕ

module _ {T : Type 0} where
  -- how many messages there are, queued and blocked
  abbrev pub messages_in_chain : MessageList T → ℕ
  messages_in_chain list = length list.queued + length list.blocked

  -- the first blocked message, with this send, joins the queue
  pub record AdmitsSend (old new : MessageList T) (send_place : ℕ) : Type 0 where
    pub place : ℕ
    pub message : T
    pub leaves : old.blocked
        ≡ record { place = place; send_place = send_place; message = message } ∷ new.blocked
    pub joins : new.queued ≡ old.queued ++ message ∷ []
    pub same_space : new.space ≡ old.space

  -- the blocked message at a place, which is this one, leaves
  pub record TakesOut (old new : MessageList T) (place : ℕ) (message : T) : Type 0 where
    pub send_place : ℕ
    pub before : List (BlockedAt T)
    pub after : List (BlockedAt T)
    pub found : old.blocked
        ≡ before ++ record { place = place; send_place = send_place; message = message } ∷ after
    pub rest : new.blocked ≡ before ++ after
    pub same : new.queued ≡ old.queued
    pub same_space : new.space ≡ old.space

  -- a queued message ahead of others; nothing more if it is blocked
  abbrev pub queued_ahead : Option ℕ → T → List T → List T
  queued_ahead None message queued = message ∷ queued
  queued_ahead (Some send_place) message queued = queued

  -- a blocked message at its place ahead of others; nothing more if it is queued
  abbrev pub blocked_ahead : ℕ → Option ℕ → T → List (BlockedAt T) → List (BlockedAt T)
  blocked_ahead k None message blocked = blocked
  blocked_ahead k (Some send_place) message blocked =
      record { place = k; send_place = send_place; message = message } ∷ blocked

  -- the queued messages
  abbrev pub queued_of : List (ChainItem (Message T)) → List T
  queued_of [] = []
  queued_of (x ∷ items) = queued_ahead x.element.label x.element.value (queued_of items)

  -- the blocked messages
  abbrev pub blocked_of : List (ChainItem (Message T)) → List (BlockedAt T)
  blocked_of [] = []
  blocked_of (x ∷ items) =
      blocked_ahead x.place x.element.label x.element.value (blocked_of items)

  -- the messages of these elements, if this many fit
  abbrev pub messages_of : List (ChainItem (Message T)) → ℕ → MessageList T
  messages_of items space = record {
    queued = queued_of items;
    blocked = blocked_of items;
    space = space;
  }

  -- how many elements fit: those that are there, and as many as there is room for
  abbrev pub space_of : ChainState (Message T) → ℕ
  space_of chain = chain.room + length chain.items

  -- the elements are the queued ones, and behind them `count` blocked ones, from `first` on
  pub record MessageLayout (items : List (ChainItem (Message T))) (first : Option ℕ) (count : ℕ)
      : Type 0 where
    pub front : List (ChainItem (Message T))
    pub back : List (ChainItem (Message T))
    pub is : items ≡ front ++ back
    pub none_blocked : blocked_of front ≡ []
    pub none_queued : queued_of back ≡ []
    pub start : first ≡ first_place back
    pub counted : count ≡ length back
