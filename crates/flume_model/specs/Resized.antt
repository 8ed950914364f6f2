-- What setting the capacity leaves of a run.
use Rattle.std.specs.Prelude.{◌≡◌, ℕ, ◌∷◌, length, max, min, Some}
use Rattle.flume_model.specs.declared.step.Step.TheVariants.{SetCapacity}
use Rattle.flume_model.specs.declared.step.Reply.TheVariants.{Done}
use Rattle.flume_model.specs.Log.{Log, Opening}
use Rattle.flume_model.specs.Line.{line, capacity, queue_len, next_ticket, is_live}
use Rattle.flume_model.specs.Parked.{entries}

module _ {T A : Type 0} where
  -- the log in which the capacity was set to this, after what came before
  abbrev pub set_to : ℕ → Log T A → Log T A
  set_to new past = (SetCapacity new, Done) ∷ past

  -- only the capacity and the number of queued messages change, to these
  pub record IsResized (opening : Opening) (past log : Log T A) (new queued : ℕ) : Type 0 where
    pub capacity_is : capacity opening log ≡ Some new
    pub line_is : line log ≡ line past
    pub queue_len_is : queue_len opening log ≡ queued
    pub entries_are : entries opening log ≡ entries opening past
    pub next_is : next_ticket opening log ≡ next_ticket opening past
    pub live_are : (t : ℕ) → is_live log t ≡ is_live past t

  -- how many are queued once the capacity was set to this, at least as many as were
  abbrev pub queued_at : Opening → Log T A → ℕ → ℕ
  queued_at opening past new = max (queue_len opening past) (min new (length (line past)))
