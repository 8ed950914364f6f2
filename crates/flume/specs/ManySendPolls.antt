-- Polls that send many messages: what is polled and offered, and what they answer.
use Rattle.std.specs.Prelude.{Option, Some, Result, Ok, Err, List, [], ◌∷◌}
use Rattle.flume_core.specs.declared.error.SendError.{SendError}
use Rattle.flume_core.specs.declared.error.SendError.TheVariants.{Disconnected, NoMemory}
use Rattle.flume_core.specs.declared.error.TrySendError.TheVariants as try_send
use Rattle.flume_calls.specs.declared.polled.send.PolledSend.{PolledSend}
use Rattle.flume_calls.specs.declared.polled.send.PolledSend.TheVariants.{Unsent, Finished}
use Rattle.flume.specs.ManySendSteps.{SendsBatch}
use Rattle.flume.specs.SendPolls.{HasPolledSend}

module _ {T : Type 0} (A : Type 0) where
  -- The polls so far of a send, and of these messages behind it: what is left of the messages, the
  -- send then, and the last answer. Only after an `Ok` a batch of what is left is offered; if it
  -- finds the channel full, the first message that it leaves is polled as a send, and may park.
  pub data PollsSends (send : PolledSend T) (messages : List T)
      : List T → PolledSend T → Option (Result (Unit {0}) (SendError T)) → Type 0 where
    SendIsPolled : {new : PolledSend T} {answer : Option (Result (Unit {0}) (SendError T))}
        → HasPolledSend A send new answer → PollsSends send messages messages new answer
    AllTakenIn : {left : List T} → PollsSends send messages left Finished (Some (Ok tt))
        → SendsBatch A left (Ok tt) → PollsSends send messages [] Finished (Some (Ok tt))
    IsClosed : {left behind : List T} {first : T}
        → PollsSends send messages left Finished (Some (Ok tt))
        → SendsBatch A left (Err (try_send.Disconnected (first ∷ behind)))
        → PollsSends send messages behind Finished (Some (Err (Disconnected first)))
    IsRefused : {left behind : List T} {first : T}
        → PollsSends send messages left Finished (Some (Ok tt))
        → SendsBatch A left (Err (try_send.NoMemory (first ∷ behind)))
        → PollsSends send messages behind Finished (Some (Err (NoMemory first)))
    FirstIsPolled : {left behind : List T} {first : T} {new : PolledSend T}
        {answer : Option (Result (Unit {0}) (SendError T))}
        → PollsSends send messages left Finished (Some (Ok tt))
        → SendsBatch A left (Err (try_send.Full (first ∷ behind)))
        → HasPolledSend A (Unsent first) new answer → PollsSends send messages behind new answer
