-- What explains events: steps of the calls, put between them, that are a run.
use Rattle.std.specs.Prelude.{◌≡◌, ◌==◌, ◌⊎◌, ℕ, Bool, false, IsTrue, if◌then◌else◌}
use Rattle.std.specs.Prelude.{Option, Some, None, List, [], ◌∷◌, reverse}
use Rattle.flume_model.specs.declared.step.Step.{Step}
use Rattle.flume_model.specs.declared.step.Reply.{Reply}
use Rattle.flume_model.specs.Log.{Opening}
use Rattle.flume_model.specs.Replies.{IsRun}
use Rattle.judge_calls.specs.declared.call.Call.{Call}
use Rattle.judge_calls.specs.declared.call.Answer.{Answer}
use Rattle.judge_calls.specs.declared.event.Event.{Event}
use Rattle.judge_calls.specs.declared.event.Event.TheVariants.{Begins, Returns}
use Rattle.judge_calls.specs.declared.event.Item.{Item}
use Rattle.judge_calls.specs.declared.event.Item.TheVariants.{Happens, Makes}
use Rattle.judge_calls.specs.declared.stage.Stage.{Stage}
use Rattle.judge_calls.specs.declared.stage.Stage.TheVariants.{Begun}
use Rattle.judge_calls.specs.Calls.{next_step, alternative_step, stage_after}
use Rattle.judge_calls.specs.Answers.{may_return}

module _ {T A : Type 0} where
  -- the thread of an event
  abbrev pub thread_of : Event T A → ℕ
  thread_of (Begins thread call) = thread
  thread_of (Returns thread answer) = thread

  -- the events, without the steps
  abbrev pub events_in : List (Item T A) → List (Event T A)
  events_in [] = []
  events_in (Happens event ∷ items) = event ∷ events_in items
  events_in (Makes thread step reply ∷ items) = events_in items

  -- the steps with their replies, without the events
  abbrev pub steps_in : List (Item T A) → List (Step T × Reply T A)
  steps_in [] = []
  steps_in (Happens event ∷ items) = steps_in items
  steps_in (Makes thread step reply ∷ items) = (step, reply) ∷ steps_in items

  -- an open call and its stage, after a reply
  abbrev pub after_reply : Reply T A → Option (Call T × Stage T A) → Option (Call T × Stage T A)
  after_reply reply None = None
  after_reply reply (Some current) = Some (current.0, stage_after current.0 current.1 reply)

  -- the call that a thread has open, if any, and its stage; the newest item comes first
  abbrev pub open_call : List (Item T A) → ℕ → Option (Call T × Stage T A)
  open_call [] t = None
  open_call (Happens (Begins u call) ∷ past) t =
      if u == t then Some (call, Begun) else open_call past t
  open_call (Happens (Returns u answer) ∷ past) t = if u == t then None else open_call past t
  open_call (Makes u step reply ∷ past) t =
      if u == t then after_reply reply (open_call past t) else open_call past t

  -- the open call, if there is one, may make this step next
  abbrev pub IsNextStep : Option (Call T × Stage T A) → Step T → Type 0
  IsNextStep None step = ⊥
  IsNextStep (Some current) step =
      (next_step current.0 current.1 ≡ Some step)
      ⊎ (alternative_step current.0 current.1 ≡ Some step)

module _ {T A : Type 0} (equal : T → T → Bool) where
  -- whether the open call, if there is one, may return this
  abbrev pub returns : Option (Call T × Stage T A) → Answer T A → Bool
  returns None recorded = false
  returns (Some current) recorded = may_return equal current.0 current.1 recorded

  -- the item may come next: a call if its thread has none open, else what the open call may do
  abbrev pub Fits : List (Item T A) → Item T A → Type 0
  Fits past (Happens (Begins t call)) = open_call past t ≡ None
  Fits past (Happens (Returns t recorded)) = IsTrue (returns (open_call past t) recorded)
  Fits past (Makes t step reply) = IsNextStep (open_call past t) step

  -- each item fits those before it; the newest comes first
  abbrev pub AreCalls : List (Item T A) → Type 0
  AreCalls [] = Unit {0}
  AreCalls (item ∷ past) = Fits past item × AreCalls past

  -- the items, the newest first, are an explanation: what the threads' calls may do, by a run
  pub record IsExplanation (opening : Opening) (past : List (Item T A)) : Type 0 where
    pub calls : AreCalls past
    pub run : IsRun opening (steps_in past)

  -- the events, the oldest first, have an explanation
  abbrev pub IsExplained : Opening → List (Event T A) → Type 0
  IsExplained opening events = (past : List (Item T A))
      × (events_in (reverse past) ≡ events) × IsExplanation opening past
