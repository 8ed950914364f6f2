-- What was offered and kept, and what was handed out.
use Rattle.std.specs.Prelude.{ℕ, Bool, false, not, ◌||◌, List, [], ◌∷◌, ◌++◌, length, map, filter}
use Rattle.std.specs.Prelude.{Option, Some, None}
use Rattle.flume_model.specs.declared.step.Step.{Step}
use Rattle.flume_model.specs.declared.step.Reply.{Reply}
use Rattle.flume_model.specs.Log.{Log, Offer, HandOut, Shown, FilledIn, Change, Queues, Blocks}
use Rattle.flume_model.specs.Log.{Withdraws, Takes, Drains, Leaves, is_ticket, change}

module _ {T : Type 0} where
  -- the offer that a change makes, if it makes one
  abbrev pub offers_made : Change T → List (Offer T)
  offers_made (Queues message filled) = record { message = message; ticket = None } ∷ []
  offers_made (Blocks message ticket) = record { message = message; ticket = Some ticket } ∷ []
  offers_made _ = []

  -- whether a change withdraws the offer
  abbrev pub withdraws : Change T → Offer T → Bool
  withdraws (Withdraws ticket) offer = is_ticket ticket offer.ticket
  withdraws _ offer = false

  -- the hand-out to the receiver that is filled, if one is
  abbrev pub fill : Option ℕ → List (HandOut T)
  fill None = []
  fill (Some ticket) = FilledIn ticket ∷ []

  -- what a change hands out
  abbrev pub hands_out : Change T → List (HandOut T)
  hands_out (Queues message filled) = fill filled
  hands_out (Takes message receiver) = Shown message ∷ []
  hands_out (Drains messages) = map (λ message. Shown message) messages
  hands_out (Leaves ticket filled) = fill filled
  hands_out _ = []

module _ {T A : Type 0} where
  -- the log with these steps and their replies done after it
  abbrev pub after : Log T A → List (Step T) → List (Reply T A) → Log T A
  after log (step ∷ steps) (reply ∷ replies) = after ((step, reply) ∷ log) steps replies
  after log _ _ = log

  -- all offers, the first one first
  abbrev pub offers : Log T A → List (Offer T)
  offers [] = []
  offers (p ∷ past) = offers past ++ offers_made (change past p.0 p.1)

  -- whether the offer was withdrawn at some place of the log
  abbrev pub withdrawn : Log T A → Offer T → Bool
  withdrawn [] offer = false
  withdrawn (p ∷ past) offer = withdraws (change past p.0 p.1) offer || withdrawn past offer

  -- the offers that weren't withdrawn
  abbrev pub kept : Log T A → List (Offer T)
  kept log = filter (λ offer. not (withdrawn log offer)) (offers log)

  -- all messages handed out, the first one first
  abbrev pub handed_out : Log T A → List (HandOut T)
  handed_out [] = []
  handed_out (p ∷ past) = handed_out past ++ hands_out (change past p.0 p.1)

  -- how many were handed out
  abbrev pub hand_outs : Log T A → ℕ
  hand_outs log = length (handed_out log)
