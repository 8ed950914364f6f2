-- A party's actions as turns, one after the other, and what it sends and gets by them.
use Rattle.std.proofs.Common.{◌≡◌, ℕ, Bool, true, false, List, [], ◌∷◌, ◌++◌, Option, Some, None}
use Rattle.std.proofs.Common.{refl, ap, sym, subst, ◌∙◌}
use Rattle.std.proofs.lemmas.List.{append-nil, append_assoc}
use Rattle.flume_model.specs.declared.step.Step.{Step}
use Rattle.flume_model.specs.declared.step.Step.TheVariants.{TrySend, Send, PollSend, WithdrawSend}
use Rattle.flume_model.specs.declared.step.Step.TheVariants.{TryRecv, Recv, Poll, Withdraw, Drain}
use Rattle.flume_model.specs.declared.step.Step.TheVariants.{SetCapacity}
use Rattle.flume_model.specs.declared.step.Kind.{Kind}
use Rattle.flume_model.specs.declared.step.Reply.{Reply}
use Rattle.flume_model.specs.declared.step.Reply.TheVariants.{Sent, Pending, Accepted, Returned}
use Rattle.flume_model.specs.declared.step.Reply.TheVariants.{NoTicket, NoMemory, Waiting, Got, Ended}
use Rattle.flume_model.specs.declared.step.Reply.TheVariants.{Parked, Gone, Drained}
use Rattle.flume_model.specs.Log.{Offer}
use Rattle.flume_model.specs.Line.{messages}
use Rattle.flume_actions.specs.Actions.{Action}

-- how a party stands between two actions: free, parked under a ticket as a receiver, or blocked
-- under one as the sender of a message
pub data Stand (T : Type 0) : Type 0 where
  Free : Stand T
  AsReceiver : ℕ → Stand T
  AsSender : T → ℕ → Stand T

module _ {T : Type 0} where
  -- the ticket under which it is parked, if it is
  abbrev pub parked_of : Stand T → Option ℕ
  parked_of (AsReceiver ticket) = Some ticket
  parked_of _ = None

module _ {T A : Type 0} where
  -- the offer that an action makes, if it makes one
  abbrev pub offered : Step T → Reply T A → List (Offer T)
  offered (TrySend m) (Sent filled) = record { message = m; ticket = None } ∷ []
  offered (Send m) (Sent filled) = record { message = m; ticket = None } ∷ []
  offered (Send m) (Pending t) = record { message = m; ticket = Some t } ∷ []
  offered _ _ = []

  -- the messages that a party gets by an action while it isn't parked
  abbrev pub gets : Step T → Reply T A → List T
  gets TryRecv (Got message) = message ∷ []
  gets (Recv kind) (Got message) = message ∷ []
  gets Drain (Drained list) = list.items
  gets _ _ = []

  -- whether nobody parks by the action, and whoever makes it isn't parked
  abbrev pub is_unparked : Step T → Reply T A → Bool
  is_unparked (Recv kind) (Parked ticket) = false
  is_unparked (Poll ticket) reply = false
  is_unparked (Withdraw ticket) reply = false
  is_unparked _ reply = true

  -- whether nobody blocks by the action, whoever makes it isn't blocked, and it sets no capacity
  abbrev pub is_unblocked : Step T → Reply T A → Bool
  is_unblocked (Send message) (Pending ticket) = false
  is_unblocked (PollSend ticket) reply = false
  is_unblocked (WithdrawSend ticket) reply = false
  is_unblocked (SetCapacity capacity) reply = false
  is_unblocked _ reply = true

  -- whether a parked receiver that is answered so stays parked
  abbrev pub stays_parked : Reply T A → Bool
  stays_parked Waiting = true
  stays_parked (NoMemory back) = true
  stays_parked _ = false

  -- whether a parked receiver that is answered so isn't parked any more
  abbrev pub is_last : Step T → Reply T A → Bool
  is_last (Poll ticket) (Got message) = true
  is_last (Poll ticket) Ended = true
  is_last (Poll ticket) NoTicket = true
  is_last (Withdraw ticket) (Got message) = true
  is_last (Withdraw ticket) (Gone closed filled) = true
  is_last (Withdraw ticket) NoTicket = true
  is_last _ _ = false

  -- the message that a parked receiver is answered
  abbrev pub answered : Reply T A → List T
  answered (Got message) = message ∷ []
  answered _ = []

  -- whether a blocked send that is answered so has ended
  abbrev pub has_ended : Reply T A → Bool
  has_ended Accepted = true
  has_ended NoTicket = true
  has_ended (Returned back closed) = true
  has_ended _ = false

  -- the message of a blocked send that has ended so, if it has gone
  abbrev pub gone_by : T → Reply T A → List T
  gone_by message (Returned back closed) = []
  gone_by message _ = message ∷ []

  -- one action of a party, how it stands before and after it, and what it sends and gets by it; a
  -- message that is blocked is sent as its send ends
  pub data Turn : Stand T → Step T → Reply T A → Stand T → (sent got : List T) → Type 0 where
    Acts : {step : Step T} {reply : Reply T A} {sent got : List T} → is_unparked step reply ≡ true
        → is_unblocked step reply ≡ true → messages (offered step reply) ≡ sent
        → gets step reply ≡ got → Turn Free step reply Free sent got
    Parks : {kind : Kind} {ticket : ℕ}
        → Turn Free (Recv kind) (Parked ticket) (AsReceiver ticket) [] []
    Asks : {ticket : ℕ} {reply : Reply T A} → stays_parked reply ≡ true
        → Turn (AsReceiver ticket) (Poll ticket) reply (AsReceiver ticket) [] []
    Ends : {ticket : ℕ} {reply : Reply T A} {got : List T}
        → is_last (Poll ticket) reply ≡ true → answered reply ≡ got
        → Turn (AsReceiver ticket) (Poll ticket) reply Free [] got
    Leaves : {ticket : ℕ} {reply : Reply T A} {got : List T}
        → is_last (Withdraw ticket) reply ≡ true → answered reply ≡ got
        → Turn (AsReceiver ticket) (Withdraw ticket) reply Free [] got
    Blocks : {message : T} {ticket : ℕ}
        → Turn Free (Send message) (Pending ticket) (AsSender message ticket) [] []
    Waits : {message : T} {ticket : ℕ}
        → Turn (AsSender message ticket) (PollSend ticket) Waiting (AsSender message ticket) [] []
    Hears : {message : T} {ticket : ℕ} {reply : Reply T A} {sent : List T}
        → has_ended reply ≡ true → gone_by message reply ≡ sent
        → Turn (AsSender message ticket) (PollSend ticket) reply Free sent []
    Withdraws : {message : T} {ticket : ℕ} {reply : Reply T A} {sent : List T}
        → has_ended reply ≡ true → gone_by message reply ≡ sent
        → Turn (AsSender message ticket) (WithdrawSend ticket) reply Free sent []

  -- the first turn, and the rest
  pub record From (Rest : Stand T → List T → List T → Type 0) (p : Action T A) (before : Stand T)
      (sent got : List T) : Type 0 where
    pub after : Stand T
    pub sent_now : List T
    pub got_now : List T
    pub sent_later : List T
    pub got_later : List T
    pub turn : Turn before p.0 p.1 after sent_now got_now
    pub sent_is : sent ≡ sent_now ++ sent_later
    pub got_is : got ≡ got_now ++ got_later
    pub rest : Rest after sent_later got_later

  -- the actions of a party that stands so, to the last, by which it is free, and what it sends and
  -- gets by them
  abbrev pub Course : List (Action T A) → Stand T → (sent got : List T) → Type 0
  Course [] stand sent got = (stand ≡ Free) × (sent ≡ []) × (got ≡ [])
  Course (p ∷ later) stand sent got = From (Course later) p stand sent got

  -- the actions of two courses, one after the other
  pub course_append : (first second : List (Action T A)) (stand : Stand T) (sent sent' : List T)
      (got got' : List T) → Course first stand sent got → Course second Free sent' got'
      → Course (first ++ second) stand (sent ++ sent') (got ++ got')
  course_append [] second stand sent sent' got got' a b =
      subst (λ (z : Stand T × List T × List T). Course second z.0 z.1 z.2)
      (λ i. (sym a.0 i, ap (λ front. front ++ sent') (sym a.1) i, ap (λ front. front ++ got') (sym a.2) i)) b
  course_append (p ∷ first) second stand sent sent' got got' a b = record {
    after = a.after;
    sent_now = a.sent_now;
    got_now = a.got_now;
    sent_later = a.sent_later ++ sent';
    got_later = a.got_later ++ got';
    turn = a.turn;
    sent_is = ap (λ front. front ++ sent') a.sent_is ∙ append_assoc a.sent_now a.sent_later sent';
    got_is = ap (λ front. front ++ got') a.got_is ∙ append_assoc a.got_now a.got_later got';
    rest = course_append first second a.after a.sent_later sent' a.got_later got' a.rest b;
  }

  -- a turn, and then others
  pub course_from : {step : Step T} {reply : Reply T A} {before after : Stand T}
      {sent_now got_now : List T} (later : List (Action T A)) (sent got : List T)
      → Turn before step reply after sent_now got_now → Course later after sent got
      → Course ((step, reply) ∷ later) before (sent_now ++ sent) (got_now ++ got)
  course_from later sent got turn rest = record {
    after = _;
    sent_now = _;
    got_now = _;
    sent_later = sent;
    got_later = got;
    turn = turn;
    sent_is = refl;
    got_is = refl;
    rest = rest;
  }

  -- a turn alone
  pub course_of : {step : Step T} {reply : Reply T A} {before : Stand T} {sent got : List T}
      → Turn before step reply Free sent got → Course ((step, reply) ∷ []) before sent got
  course_of {sent = sent} {got = got} turn = record {
    after = Free;
    sent_now = sent;
    got_now = got;
    sent_later = [];
    got_later = [];
    turn = turn;
    sent_is = sym (append-nil sent);
    got_is = sym (append-nil got);
    rest = (refl, refl, refl);
  }
