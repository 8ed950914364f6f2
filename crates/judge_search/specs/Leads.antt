-- The configuration after a move of an open call.
use Rattle.std.specs.Prelude.{◌≡◌, ℕ, Bool, false, List, ◌∷◌, Option, Some}
use Rattle.flume_model.specs.declared.step.Step.{Step}
use Rattle.flume_model.specs.declared.step.Reply.{Reply}
use Rattle.flume_model.specs.Channel.{channel}
use Rattle.flume_model.specs.Log.{Opening}
use Rattle.flume_model.specs.Replies.{IsRun, IsReply}
use Rattle.judge_calls.specs.declared.call.Call.{Call}
use Rattle.judge_calls.specs.declared.call.Answer.{Answer}
use Rattle.judge_calls.specs.declared.event.Event.{Event}
use Rattle.judge_calls.specs.declared.event.Item.{Item}
use Rattle.judge_calls.specs.declared.event.Item.TheVariants.{Makes}
use Rattle.judge_calls.specs.declared.stage.Stage.{Stage}
use Rattle.judge_calls.specs.declared.stage.Stage.TheVariants.{Answered}
use Rattle.judge_calls.specs.Answers.{may_return}
use Rattle.judge_calls.specs.Explanations.{open_call, steps_in}
use Rattle.judge_search.specs.declared.configuration.OpenCall.{OpenCall}
use Rattle.judge_search.specs.declared.step_of.Move.{Move}
use Rattle.judge_search.specs.Configurations.{State, first_answer, call_by, call_at}
use Rattle.judge_search.specs.Agreement.{Agrees, IsProgress}
use Rattle.judge_search.specs.Moves.{move_of, step_for, is_refusal, IsMove}

module _ {T A : Type 0} (equal : T → T → Bool) (events : List (Event T A)) where
  -- the open call has come to another answer than the recorded one
  abbrev pub IsWrong : Option (Call T × Stage T A) → Option (Answer T A) → Type 0
  IsWrong (Some current) (Some recorded) = (may_return equal current.0 current.1 recorded ≡ false)
      × ((own : Answer T A) × (current.1 ≡ Answered own))
  IsWrong _ _ = ⊥

  -- a move leads to items that agree with the new configuration
  abbrev pub LeadsTo : State → List (Event T A) → ℕ → (other refused : Bool) → State → Type 0
  LeadsTo c rest t other refused new =
      (opening : Opening) (past : List (Item T A)) (item : Item T A)
      → Agrees equal events opening past rest c → IsMove past t other refused item
      → IsRun opening (steps_in (item ∷ past)) → Agrees equal events opening (item ∷ past) rest new

  -- a move leads to no explanation: no channel answers so, or the call comes to a wrong answer
  abbrev pub LeadsNowhere : State → List (Event T A) → ℕ → (other refused : Bool) → Type 0
  LeadsNowhere c rest t other refused =
      (opening : Opening) (past : List (Item T A)) (item : Item T A)
      → Agrees equal events opening past rest c → IsMove past t other refused item
      → IsRun opening (steps_in (item ∷ past))
      → IsWrong (open_call (item ∷ past) t) (first_answer t rest)

  -- the thread's open call makes this move, by this step with this reply, memory refused or not
  pub record IsMade (c : State) (rest : List (Event T A)) (t : ℕ) (one : OpenCall) (own : Call T)
      (move : Move) (refused : Bool) (opening : Opening) (past : List (Item T A))
      (step : Step T) (reply : Reply T A) : Type 0 where
    pub agrees : Agrees equal events opening past rest c
    pub is_own : call_by events t c.calls ≡ Some one
    pub call_is : call_at events one.place ≡ Some own
    pub stage : Stage T A
    pub is_open : open_call past t ≡ Some (own, stage)
    pub progress_is : IsProgress equal events own (first_answer t rest) (agrees.tickets one.place)
        one.progress stage
    pub step_is : step_for own (agrees.tickets one.place) move ≡ Some step
    pub refused_is : is_refusal reply ≡ refused
    pub lawful : IsReply (channel opening (steps_in past)) step reply

  -- this move of the open call leads to items that agree with the new configuration
  abbrev pub MoveLeadsTo : State → List (Event T A) → ℕ → OpenCall → Call T → Move → Bool → State
      → Type 0
  MoveLeadsTo c rest t one own move refused new =
      (opening : Opening) (past : List (Item T A)) (step : Step T) (reply : Reply T A)
      → IsMade c rest t one own move refused opening past step reply
      → Agrees equal events opening (Makes t step reply ∷ past) rest new

  -- this move of the open call leads to no explanation: the call comes to a wrong answer
  abbrev pub MoveLeadsNowhere : State → List (Event T A) → ℕ → OpenCall → Call T → Move → Bool
      → Type 0
  MoveLeadsNowhere c rest t one own move refused =
      (opening : Opening) (past : List (Item T A)) (step : Step T) (reply : Reply T A)
      → IsMade c rest t one own move refused opening past step reply
      → IsWrong (open_call (Makes t step reply ∷ past) t) (first_answer t rest)

  -- a move of a call that is recorded to return this leads to the new configuration
  abbrev pub CallLeadsTo : State → Option (Answer T A) → OpenCall → Call T → Move → Bool → State
      → Type 0
  CallLeadsTo c recorded one own move refused new =
      (rest : List (Event T A)) (t : ℕ) (other : Bool) → first_answer t rest ≡ recorded
      → move_of own one.progress other ≡ Some move
      → MoveLeadsTo c rest t one own move refused new

  -- a move of a call that is recorded to return this leads to no explanation
  abbrev pub CallLeadsNowhere : State → Option (Answer T A) → OpenCall → Call T → Move → Bool
      → Type 0
  CallLeadsNowhere c recorded one own move refused =
      (rest : List (Event T A)) (t : ℕ) (other : Bool) → first_answer t rest ≡ recorded
      → move_of own one.progress other ≡ Some move
      → MoveLeadsNowhere c rest t one own move refused
