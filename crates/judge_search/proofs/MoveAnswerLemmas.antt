-- What is to be shown of each move: it answers as the step does that it is, and leaves what mirrors the state after that.
use Rattle.std.proofs.Common.{◌≡◌, ◌≢◌, ℕ, false, List, Some}
use Rattle.std.specs.List.{All}
use Rattle.flume_model.specs.declared.step.Step.{Step}
use Rattle.flume_model.specs.declared.step.Reply.{Reply}
use Rattle.flume_model.specs.Log.{Log, Opening}
use Rattle.flume_model.specs.Channel.{channel}
use Rattle.flume_model.specs.Replies.{IsReply}
use Rattle.flume_state.specs.State.{State as Channel}
use Rattle.flume_core.specs.Represents.{Represents}
use Rattle.judge_calls.specs.declared.call.Call.{Call}
use Rattle.judge_calls.specs.declared.event.Event.{Event}
use Rattle.judge_search.specs.declared.step_of.Move.{Move}
use Rattle.judge_search.specs.declared.step_of.Move.TheVariants as move
use Rattle.judge_search.specs.Configurations.{State, call_at}
use Rattle.judge_search.specs.Outcomes.{outcome}
use Rattle.judge_search.specs.Mirrors.{Mirrors}
use Rattle.judge_search.proofs.MoveAnswers.{Answers}
use Rattle.judge_search.specs.Moves.{step_for, is_refusal}

-- nobody at this place is blocked or has an entry
pub record IsNew (place : ℕ) (c : State) : Type 0 where
  pub not_blocked : All (λ q. q ≢ place) c.blocked
  pub not_parked : All (λ r. r.place ≢ place) c.receives

-- nobody else that is blocked or has an entry has the ticket of this place
pub record IsApart (tickets : ℕ → ℕ) (place : ℕ) (c : State) : Type 0 where
  pub from_blocked : All (λ q. tickets q ≡ tickets place → q ≡ place) c.blocked
  pub from_parked : All (λ r. tickets r.place ≡ tickets place → r.place ≡ place) c.receives

-- as a move needs it: of a parked send, which has no entry, of a parked receive, which isn't blocked, or of another call
abbrev pub IsReady : Move → (ℕ → ℕ) → ℕ → State → Type 0
IsReady move.PollSend tickets place c = IsApart tickets place c × All (λ r. r.place ≢ place) c.receives
IsReady move.WithdrawSend tickets place c = IsApart tickets place c × All (λ r. r.place ≢ place) c.receives
IsReady move.Poll tickets place c = IsApart tickets place c × All (λ q. q ≢ place) c.blocked
IsReady move.Withdraw tickets place c = IsApart tickets place c × All (λ q. q ≢ place) c.blocked
IsReady _ tickets place c = IsNew place c

module _ {T A : Type 0} (events : List (Event T A)) where
  -- whenever a channel may answer the step that the move is, without a want of memory, the move answers as it does
  abbrev pub MoveAnswers : Move → Type 0
  MoveAnswers move = (o : Opening) (log : Log T A) (s : Channel T (Unit {0})) (c : State) (tickets : ℕ → ℕ) (place : ℕ) (call : Call T)
      (step : Step T) (given : Reply T A) → Represents o log s → Mirrors events tickets s c → call_at events place ≡ Some call
      → step_for call (tickets place) move ≡ Some step → IsReady move tickets place c
      → IsReply (channel o log) step given → is_refusal given ≡ false
      → Answers events o log tickets s c place step (outcome move place c).0 (outcome move place c).1
