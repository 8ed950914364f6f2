-- That no message is lost and none is made, by any weight of messages.
use Rattle.std.specs.Prelude.{◌≡◌, ℕ, ◌+◌, ◌≤◌, Bool, true, false, List, [], ◌∷◌, ◌++◌, sum_by}
use Rattle.flume_model.specs.declared.step.Reply.{Reply}
use Rattle.flume_model.specs.declared.step.Reply.TheVariants.{Returned, Got, Drained}
use Rattle.flume_model.specs.declared.entry.Entry.{Entry}
use Rattle.flume_model.specs.declared.entry.Mark.{Mark}
use Rattle.flume_model.specs.declared.entry.Mark.TheVariants.{Filled}
use Rattle.flume_model.specs.Log.{Log, Opening}
use Rattle.flume_model.specs.Offers.{offers}
use Rattle.flume_model.specs.Counts.{is_over}
use Rattle.flume_model.specs.Line.{messages, line}
use Rattle.flume_model.specs.Parked.{entries}

module _ {T : Type 0} where
  -- the message that a mark holds, if it holds one
  abbrev pub messages_in : Mark T → List T
  messages_in (Filled message) = message ∷ []
  messages_in _ = []

module _ {T N : Type 0} where
  -- the messages that entries hold
  abbrev pub held_messages : List (Entry T N) → List T
  held_messages [] = []
  held_messages (e ∷ entries) = messages_in e.mark ++ held_messages entries

module _ {T A : Type 0} where
  -- the offered messages that a reply gives out: to a receiver, or back to their sender
  abbrev pub gives : Reply T A → List T
  gives (Returned message closed) = message ∷ []
  gives (Got message) = message ∷ []
  gives (Drained list) = list.items
  gives _ = []

  -- all messages that replies gave out; those of the newest reply come first
  abbrev pub given_out : Log T A → List T
  given_out [] = []
  given_out (p ∷ past) = gives p.1 ++ given_out past

  -- what was offered was given out or is still there; once over, no more was given out than offered
  abbrev pub IsConserved : Opening → Log T A → (T → ℕ) → Bool → Type 0
  IsConserved opening log weight false =
      sum_by weight (messages (offers log))
      ≡ sum_by weight (given_out log) + sum_by weight (messages (line log))
      + sum_by weight (held_messages (entries opening log))
  IsConserved opening log weight true =
      sum_by weight (given_out log) ≤ sum_by weight (messages (offers log))

  -- no message is lost by any weight: if one message weighs 1 and all others 0, it is counted
  abbrev pub Conserved : Opening → Log T A → Type 0
  Conserved opening log =
      (weight : T → ℕ) → IsConserved opening log weight (is_over log)
