-- What a receiver that was filled got, or still holds, and the message that a hand-out is of.
use Rattle.std.specs.Prelude.{◌≡◌, ◌==◌, ℕ, Bool, true, false, if◌then◌else◌, List, [], ◌∷◌, Option}
use Rattle.std.specs.Prelude.{Some, None}
use Rattle.std.specs.Option.{option_or}
use Rattle.flume_model.specs.declared.step.Step.{Step}
use Rattle.flume_model.specs.declared.step.Step.TheVariants.{Poll, Withdraw}
use Rattle.flume_model.specs.declared.step.Reply.{Reply}
use Rattle.flume_model.specs.declared.step.Reply.TheVariants.{Got}
use Rattle.flume_model.specs.declared.entry.Entry.{Entry}
use Rattle.flume_model.specs.Log.{Log, HandOut, Shown, FilledIn}
use Rattle.flume_model.specs.Counts.{is_over}
use Rattle.flume_model.specs.Entries.{entry_of, held_by}

module _ {T : Type 0} where
  -- a fill is of what its receiver got, or else holds; not got once over, nothing is said of it
  abbrev pub FillIs : Bool → Option T → Option T → T → Type 0
  FillIs over (Some got) held message = got ≡ message
  FillIs true None held message = Unit {0}
  FillIs false None held message = held ≡ Some message

module _ {T A : Type 0} where
  -- the message that a step with this reply shows to the receiver parked under the ticket
  abbrev pub shows_to : ℕ → Step T → Reply T A → Option T
  shows_to t (Poll u) (Got message) = if u == t then Some message else None
  shows_to t (Withdraw u) (Got message) = if u == t then Some message else None
  shows_to t _ _ = None

  -- the message that the receiver parked under the ticket got, if it got one
  abbrev pub shown : Log T A → ℕ → Option T
  shown [] t = None
  shown (p ∷ past) t = option_or (shows_to t p.0 p.1) (shown past t)

module _ {T A N : Type 0} where
  -- the hand-out is of this message: it was shown, or the filled receiver got or holds it
  abbrev pub IsHandOutOf : List (Entry T N) → Log T A → HandOut T → T → Type 0
  IsHandOutOf entries log (Shown given) message = given ≡ message
  IsHandOutOf entries log (FilledIn t) message =
      FillIs (is_over log) (shown log t) (held_by (entry_of t entries)) message
