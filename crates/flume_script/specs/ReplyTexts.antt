-- The text of each reply.
use Rattle.std.specs.Prelude.{ℕ, true, false, List, [], ◌∷◌, ◌++◌, Some, None, codes}
use Rattle.std.specs.Fmt.{decimal}
use Rattle.flume_model.specs.declared.step.Reply.{Reply}
use Rattle.flume_model.specs.declared.step.Reply.TheVariants.{Sent, Full, Closed, NoMemory, Spent}
use Rattle.flume_model.specs.declared.step.Reply.TheVariants.{Pending, Accepted, Waiting, Returned}
use Rattle.flume_model.specs.declared.step.Reply.TheVariants.{NoTicket, Got, Empty, Ended, Done}
use Rattle.flume_model.specs.declared.step.Reply.TheVariants.{Parked, Gone, Drained}
use Rattle.flume_model.specs.declared.step.Reply.TheVariants.{NoEnd, CountFull, Number, Flag}
use Rattle.flume_model.specs.declared.step.Reply.TheVariants.{Capacity as Bound, Unbounded}

-- numbers, with a space before each
abbrev pub spaced : List ℕ → List ℕ
spaced [] = []
spaced (message ∷ messages) = 32 ∷ (decimal message ++ spaced messages)

-- the text of a reply
abbrev pub reply_text : {A : Type 0} → Reply ℕ A → List ℕ
reply_text (Sent None) = codes "sent"
reply_text (Sent (Some ticket)) = codes "sent filled " ++ decimal ticket
reply_text (Full message) = codes "full " ++ decimal message
reply_text (Closed message) = codes "closed " ++ decimal message
reply_text (NoMemory None) = codes "nomemory"
reply_text (NoMemory (Some message)) = codes "nomemory " ++ decimal message
reply_text (Spent None) = codes "spent"
reply_text (Spent (Some message)) = codes "spent " ++ decimal message
reply_text (Pending ticket) = codes "pending " ++ decimal ticket
reply_text Accepted = codes "accepted"
reply_text Waiting = codes "waiting"
reply_text (Returned message false) = codes "returned " ++ decimal message
reply_text (Returned message true) = codes "returned " ++ decimal message ++ codes " closed"
reply_text NoTicket = codes "noticket"
reply_text (Got message) = codes "got " ++ decimal message
reply_text Empty = codes "empty"
reply_text Ended = codes "ended"
reply_text (Parked ticket) = codes "parked " ++ decimal ticket
reply_text (Gone false None) = codes "gone"
reply_text (Gone true None) = codes "gone closed"
reply_text (Gone false (Some ticket)) = codes "gone filled " ++ decimal ticket
reply_text (Gone true (Some ticket)) = codes "gone closed filled " ++ decimal ticket
reply_text (Drained list) = codes "drained" ++ spaced list.items
reply_text Done = codes "done"
reply_text NoEnd = codes "noend"
reply_text CountFull = codes "countfull"
reply_text (Number number) = decimal number
reply_text (Flag true) = codes "true"
reply_text (Flag false) = codes "false"
reply_text (Bound None) = codes "none"
reply_text (Bound (Some capacity)) = decimal capacity
reply_text Unbounded = codes "unbounded"

-- the texts of the replies, each ended by a line feed
abbrev pub reply_texts : {A : Type 0} → List (Reply ℕ A) → List ℕ
reply_texts [] = []
reply_texts (reply ∷ replies) = reply_text reply ++ 10 ∷ reply_texts replies
