-- What a party's send of many messages sent, by whole calls.
use Rattle.std.proofs.Common.{◌≡◌, List, [], ◌∷◌, ◌++◌, length, Some, Result, Ok, Err, refl, sym, ap, ◌∙◌, subst, append_assoc}
use Rattle.std.proofs.lemmas.List.{append-nil}
use Rattle.std.specs.VecDeque.{deque_items}
use Rattle.std.specs.declared.collections.VecDeque.{VecDeque}
use Rattle.flume_model.specs.declared.step.Step.TheVariants.{TrySend}
use Rattle.flume_model.specs.declared.step.Reply.{Reply}
use Rattle.flume_model.specs.declared.step.Reply.TheVariants as reply
use Rattle.flume_core.specs.declared.error.TrySendError.{TrySendError}
use Rattle.flume_core.specs.declared.error.TrySendError.TheVariants as try_send
use Rattle.flume_core.specs.declared.error.SendTimeoutError.{SendTimeoutError}
use Rattle.flume_core.specs.declared.error.SendTimeoutError.TheVariants as timed
use Rattle.flume_calls.specs.declared.calls.send.SendNext.{SendNext}
use Rattle.flume_calls.specs.declared.calls.send.SendNext.TheVariants.{Done, NeedSignal}
use Rattle.flume_calls.specs.SendTurns.{after_try_send}
use Rattle.flume_calls.specs.ManySends as batch
use Rattle.flume_calls.specs.ManySends.{SendsMany}
use Rattle.flume_deadline.specs.declared.Deadline.{Deadline}
use Rattle.flume_party.specs.Parties.{PartyState, party_of, and_made}
use Rattle.flume_actions.specs.Actions.{Action}
use Rattle.flume_actions.specs.Calls.{HasCalled, TriesToSend, sent_by, sent_by_try}
use Rattle.flume_actions.specs.Callers.{HasMadeCalls}
use Rattle.flume_actions.proofs.CallerLemmas.{no_call, and_call}
use Rattle.flume.specs.ManySendSteps as many
use Rattle.flume.specs.ManySendSteps.{BatchOf, SendsManyOf, try_result_list, error_list}
use Rattle.flume.specs.PartySteps.{FirstSendOf, SendsToFullOf}
use Rattle.flume.specs.TracedSends.{HasSentFirst, HasSentMany, HasTriedMany, has_added}
use Rattle.flume.proofs.FirstTurnLemmas.{after_first}
use Rattle.flume.proofs.TracedLemmas.{has_sent}
use Rattle.flume.proofs.TracedCallLemmas.{sent_called}

module _ {T A : Type 0} where
  -- a try to send
  tried : {old new : PartyState (Action T A)} {message : T} {next : SendNext T} → FirstSendOf has_added old message new next
      → HasCalled old new (sent_by_try message next) []
  tried {old = old} {next = next} did = record {
    actions = _;
    call = TriesToSend next did.answered.answered;
    made = did.made ∙ ap (λ steps. and_made old steps) did.answered.is;
  }

  -- Of these messages the party sent some by whole calls. Then it offered the next one, and this was the channel's answer.
  record Refused (start : PartyState (Action T A)) (all : List T) (new : PartyState (Action T A)) (left : List T)
      (answer : T → SendNext T) : Type 0 where
    sent : List T
    first : T
    behind : List T
    offers : PartyState (Action T A)
    all_are : all ≡ sent ++ first ∷ behind
    left_is : left ≡ first ∷ behind
    calls : HasMadeCalls start offers sent []
    last : FirstSendOf has_added offers first new (answer first)

  -- by the offer's reply
  refuses : {start old new : PartyState (Action T A)} {before all left behind : List T} {first : T} {answer : T → SendNext T}
      (given : Reply T A) → after_try_send given (answer first) → HasMadeCalls start old before [] → all ≡ before ++ first ∷ behind
      → left ≡ first ∷ behind → new ≡ and_made old ((TrySend first, given) ∷ []) → Refused start all new left answer
  refuses given answered calls is left did = record {
    sent = _;
    first = _;
    behind = _;
    offers = _;
    all_are = is;
    left_is = left;
    calls = calls;
    last = record { steps = _; answered = record { reply = given; is = refl; answered = answered }; made = did };
  }

  -- if the call that made the offer sent nothing, these are all that was sent
  sent_first : {start full new : PartyState (Action T A)} {all left back : List T} {answer : T → SendNext T}
      (offer : Refused start all full left answer) → HasCalled offer.offers new [] [] → length back ≡ length left
      → HasSentFirst start all new back
  sent_first offer call same = record {
    sent = offer.sent;
    unsent = offer.first ∷ offer.behind;
    all = offer.all_are;
    calls = and_call offer.calls call (sym (append-nil offer.sent)) refl;
    number = same ∙ ap length offer.left_is;
  }

  -- what a party sent of these messages, by the answer of a batch of the last ones
  abbrev Batched : PartyState (Action T A) → List T → PartyState (Action T A) → Result (Unit {0}) (TrySendError (List T)) → Type 0
  Batched start all new (Ok sent) = HasMadeCalls start new all []
  Batched start all new (Err (try_send.Full left)) = Refused start all new left NeedSignal
  Batched start all new (Err (try_send.Disconnected left)) = Refused start all new left (λ m. Done (Err (timed.Disconnected m)))
  Batched start all new (Err (try_send.NoMemory left)) = Refused start all new left (λ m. Done (Err (timed.NoMemory m)))

  -- by the batch's steps
  batched : {start new : PartyState (Action T A)} {messages all : List T} {made : List (Action T A)}
      {answer : Result (Unit {0}) (TrySendError (VecDeque T A))} {old : PartyState (Action T A)} {before : List T}
      → HasMadeCalls start old before [] → all ≡ before ++ messages
      → SendsMany messages made answer → new ≡ and_made old made → Batched start all new (try_result_list deque_items answer)
  batched {start = start} {new = new} {old = old} {before = before} calls is batch.NoneLeft did =
      subst (λ list. HasMadeCalls start new list []) (sym (is ∙ append-nil before))
      (subst (λ party. HasMadeCalls start party before []) (sym (did ∙ ap (λ list. party_of old.parts list) (append-nil old.actions)))
      calls)
  batched {old = old} {before = before} calls is (batch.TakenIn {message = message} {rest = rest} {made = made} filled others) did =
      let step : Action T A = (TrySend message, reply.Sent filled) in
      let call : HasCalled old (and_made old (step ∷ [])) (message ∷ []) [] =
      record { actions = step ∷ []; call = TriesToSend (Done (Ok tt)) refl; made = refl } in
      batched (and_call calls call refl refl) (is ∙ sym (append_assoc before (message ∷ []) rest)) others
      (did ∙ ap (λ list. party_of old.parts list) (sym (append_assoc old.actions (step ∷ []) made)))
  batched calls is (batch.IsFull {message = message} same) did = refuses (reply.Full message) refl calls is same did
  batched calls is (batch.IsClosed {message = message} same) did = refuses (reply.Closed message) refl calls is same did
  batched calls is (batch.IsRefused {message = message} same) did = refuses (reply.NoMemory (Some message)) refl calls is same did

  -- by what the keeper says of it
  batch_sent : {start old new : PartyState (Action T A)} {before messages all : List T}
      {answer : Result (Unit {0}) (TrySendError (List T))} → HasMadeCalls start old before [] → all ≡ before ++ messages
      → BatchOf has_added old messages new answer → Batched start all new answer
  batch_sent {start = start} {new = new} {all = all} calls is did =
      subst (λ answer. Batched start all new answer) (sym did.answer_is) (batched calls is did.turn.answered did.turn.made)

  -- a call that is one batch
  pub tried_many : {old new : PartyState (Action T A)} {messages : List T} (answer : Result (Unit {0}) (TrySendError (List T)))
      → BatchOf has_added old messages new answer → HasTriedMany old messages new answer
  tried_many {old = old} {new = new} {messages = messages} answer did = go answer (batch_sent (no_call old) refl did)
    where
      go : (answer : Result (Unit {0}) (TrySendError (List T))) → Batched old messages new answer → HasTriedMany old messages new answer
      go (Ok sent) calls = calls
      go (Err (try_send.Full left)) offer = sent_first offer (tried offer.last) refl
      go (Err (try_send.Disconnected left)) offer = sent_first offer (tried offer.last) refl
      go (Err (try_send.NoMemory left)) offer = sent_first offer (tried offer.last) refl

  -- a batch's last offer, and the send that goes on from it, are one call
  offer_sends : {start full new : PartyState (Action T A)} {all behind : List T} {first : T}
      {result : Result (Unit {0}) (SendTimeoutError T)} (offer : Refused start all full (first ∷ behind) NeedSignal)
      → SendsToFullOf has_added full first new result → HasCalled offer.offers new (sent_by first result) []
  offer_sends {full = full} {first = first} {result = result} offer sends =
      let same : offer.first ≡ first = let is = offer.left_is in cc in
      sent_called first result (has_sent (after_first
      (subst (λ m. FirstSendOf has_added offer.offers m full (NeedSignal m)) same offer.last) sends))

  -- the first came back
  back_many : {start new : PartyState (Action T A)} {all behind : List T} (error : SendTimeoutError T)
      → ((back : T) → HasSentFirst start all new (back ∷ behind))
      → HasSentMany start all new (Err (error_list (λ back. back ∷ behind) error))
  back_many (timed.Timeout back) sent = sent back
  back_many (timed.Disconnected back) sent = sent back
  back_many (timed.NoMemory back) sent = sent back

  -- the last ones of the messages, after the others
  then_many : {deadline : Deadline} {start old new : PartyState (Action T A)} {messages all : List T}
      {result : Result (Unit {0}) (SendTimeoutError (List T))} {before : List T} → HasMadeCalls start old before []
      → all ≡ before ++ messages → SendsManyOf has_added deadline old messages new result → HasSentMany start all new result
  then_many {start = start} {old = old} {before = before} calls is many.NoneLeft =
      subst (λ list. HasMadeCalls start old list []) (sym (is ∙ append-nil before)) calls
  then_many calls is (many.AllTakenIn made) = batch_sent calls is made.1
  then_many calls is (many.IsClosed made) = let offer = batch_sent calls is made.1 in sent_first offer (tried offer.last) refl
  then_many calls is (many.IsRefused made) = let offer = batch_sent calls is made.1 in sent_first offer (tried offer.last) refl
  then_many {start = start} {all = all} calls is
      (many.FirstComesBack {full = full} {behind = behind} {first = first} {error = error} made sends) =
      let offer : Refused start all full (first ∷ behind) NeedSignal = batch_sent calls is made.1 in
      back_many error (λ back. sent_first offer (offer_sends offer sends.1) refl)
  then_many {start = start} {all = all} calls is (many.GoesOn {full = full} {behind = behind} {first = first} made sends rest) =
      let offer : Refused start all full (first ∷ behind) NeedSignal = batch_sent calls is made.1 in
      let is_next : offer.behind ≡ behind = let same = offer.left_is in cc in
      let is_first : offer.first ≡ first = let same = offer.left_is in cc in
      then_many (and_call offer.calls (offer_sends offer sends.1) refl refl)
      (offer.all_are ∙ (ap (λ list. offer.sent ++ list) (λ i. is_first i ∷ is_next i)
      ∙ sym (append_assoc offer.sent (first ∷ []) behind))) rest

  -- a call that may wait
  pub sent_many : {deadline : Deadline} {old new : PartyState (Action T A)} {messages : List T}
      {result : Result (Unit {0}) (SendTimeoutError (List T))} → SendsManyOf has_added deadline old messages new result
      → HasSentMany old messages new result
  sent_many {old = old} sends = then_many (no_call old) refl sends
