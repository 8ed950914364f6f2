-- What a recorded drain hands on.
use Rattle.std.specs.Prelude.{List, Result, Ok, Err}
use Rattle.judge_recorder.specs.declared.drains.DrainedMessages.{DrainedMessages}
use Rattle.judge_recorder.specs.declared.drains.DrainedMessages.TheVariants as drained

-- the remaining messages, in order
abbrev pub messages_of : {T C A : Type 0} → DrainedMessages T C A → List T
messages_of (drained.Own messages) = messages
messages_of (drained.List messages) = messages.items

-- the result of a drain, by what is handed on
abbrev pub drain_result : {T C A E : Type 0} → Result (DrainedMessages T C A) E → Result (List T) E
drain_result (Ok messages) = Ok (messages_of messages)
drain_result (Err refused) = Err refused
