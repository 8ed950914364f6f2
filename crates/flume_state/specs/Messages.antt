-- For every contract: what it sees of the messages of a channel and of their sends.
use Rattle.std.specs.Prelude.{◌≡◌, ◌≢◌, ◌+◌, ℕ, List, [], ◌∷◌, ◌++◌, length}
use Rattle.std.specs.List.{All}
use Rattle.std.specs.FinMap.{remove}
use Rattle.flume_state.specs.Sends.{SendMap, with_send_changed, accepted_now}

-- a message whose sender blocks under this ticket
pub record Blocked (T : Type 0) : Type 0 where
  pub ticket : ℕ
  pub message : T

-- what a contract sees of a line; `space` messages fit, those there included, with no allocation
pub record Messages (T S : Type 0) : Type 0 where
  pub queued : List T
  pub blocked : List (Blocked T)
  pub space : ℕ
  pub sends : SendMap S

module _ {T S : Type 0} where
  -- how many messages there are, queued and blocked
  abbrev pub count : Messages T S → ℕ
  count line = length line.queued + length line.blocked

  -- the first blocked message joins the queue, and its send is accepted
  pub record Admits (old new : Messages T S) : Type 0 where
    pub first : Blocked T
    pub leaves : old.blocked ≡ first ∷ new.blocked
    pub becomes : new ≡ record old {
      queued = old.queued ++ first.message ∷ [];
      blocked = new.blocked;
      sends = with_send_changed old.sends first.ticket accepted_now;
    }

  -- the first blocked message with this ticket, which is this one, leaves, and its ticket is spent
  pub record TakesBack (old new : Messages T S) (ticket : ℕ) (message : T) : Type 0 where
    pub before : List (Blocked T)
    pub after : List (Blocked T)
    pub found : old.blocked ≡ before ++ record { ticket = ticket; message = message } ∷ after
    pub first : All (λ b. b.ticket ≢ ticket) before
    pub becomes : new ≡ record old {
      blocked = before ++ after;
      sends = remove old.sends ticket;
    }
