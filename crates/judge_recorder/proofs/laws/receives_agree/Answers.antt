-- Reply by reply.
use Rattle.std.proofs.Common.{◌≡◌, ℕ, true, false, refl, sym, ap, Some, Result, if◌then◌else◌}
use Rattle.flume.specs.declared.step.Reply.{Reply}
use Rattle.flume.specs.declared.step.Reply.TheVariants as reply
use Rattle.flume.specs.declared.step.Step.TheVariants.{PollSend, Poll}
use Rattle.flume.specs.declared.error.RecvTimeoutError.{RecvTimeoutError}
use Rattle.flume_calls.specs.ReceiveTurns.{after_try_recv, after_recv, after_poll, after_withdraw}
use Rattle.flume_calls.specs.ReceiveGates.{got_or_no_memory}
use Rattle.flume_calls.specs.declared.calls.receive.RecvNext.{RecvNext}
use Rattle.flume_calls.specs.declared.calls.receive.RecvNext.TheVariants.{Done}
use Rattle.judge_calls.specs.declared.call.Call.{Call}
use Rattle.judge_calls.specs.declared.call.Call.TheVariants.{Recv, RecvTimeout}
use Rattle.judge_calls.specs.declared.stage.Stage.{Stage}
use Rattle.judge_calls.specs.declared.stage.Stage.TheVariants.{Begun, Tried, Parked, Refused}
use Rattle.judge_calls.specs.Calls.{is_send, stage_after}
use Rattle.judge_recorder.specs.Led.{stage_of_receive, blocks_to_receive}
use Rattle.judge_recorder.proofs.laws.receives_agree.Goals as goal

module _ {T : Type 0} where
  -- what holds of the two receives that block
  of_both : (P : Call T → Type 0) → P Recv → P RecvTimeout → (call : Call T) → blocks_to_receive call ≡ true → P call
  of_both P one other Recv is = one
  of_both P one other RecvTimeout is = other
  of_both P one other _ is = absurd (let none : ⊥ = cc in none)

  receives : (call : Call T) → blocks_to_receive call ≡ true → is_send call ≡ false
  receives = of_both (λ call. is_send call ≡ false) refl refl

module _ {T A : Type 0} where
  tries : (call : Call T) (reply : Reply T A) (next : RecvNext T) → blocks_to_receive call ≡ true → after_try_recv reply next
      → stage_after call Begun reply ≡ stage_of_receive next
  tries call (reply.Got m) next is h = ap stage_of_receive (sym h)
  tries call reply.Empty next is h =
      of_both (λ call. stage_after {A = A} call Begun reply.Empty ≡ stage_of_receive next) (ap stage_of_receive (sym h))
      (ap stage_of_receive (sym h)) call is
  tries call reply.Ended next is h = ap stage_of_receive (sym h)
  tries call (reply.NoMemory back) next is h =
      of_both (λ call. stage_after {A = A} call Begun (reply.NoMemory back) ≡ stage_of_receive next) (ap stage_of_receive (sym h))
      (ap stage_of_receive (sym h)) call is
  tries call _ next is h = absurd h

  parks : (call : Call T) (reply : Reply T A) (next : RecvNext T) → blocks_to_receive call ≡ true → after_recv reply next
      → stage_after call Tried reply ≡ stage_of_receive next
  parks call (reply.Got m) next is h = ap stage_of_receive (sym h)
  parks call (reply.Parked t) next is h = ap stage_of_receive (sym h)
  parks call reply.Ended next is h = ap stage_of_receive (sym h)
  parks call (reply.NoMemory back) next is h =
      of_both (λ call. stage_after {A = A} call Tried (reply.NoMemory back) ≡ stage_of_receive next) (ap stage_of_receive (sym h))
      (ap stage_of_receive (sym h)) call is
  parks call (reply.Spent back) next is h = ap stage_of_receive (sym h)
  parks call _ next is h = absurd h

  asks : (call : Call T) (t : ℕ) (reply : Reply T A) (next : RecvNext T) → blocks_to_receive call ≡ true → after_poll t reply next
      → stage_after call (Parked t) reply ≡ stage_of_receive next
  asks call t (reply.Got m) next is h = ap stage_of_receive (sym h)
  asks call t reply.Waiting next is h = ap stage_of_receive (sym h)
  asks call t reply.Ended next is h = ap stage_of_receive (sym h)
  asks call t reply.NoTicket next is h =
      of_both (λ call. stage_after {A = A} call (Parked t) reply.NoTicket ≡ stage_of_receive next) (ap stage_of_receive (sym h))
      (ap stage_of_receive (sym h)) call is
  asks call t (reply.NoMemory back) next is h =
      of_both (λ call. stage_after {A = A} call (Parked t) (reply.NoMemory back) ≡ stage_of_receive next) (ap stage_of_receive (sym h))
      (ap stage_of_receive (sym h)) call is
  asks call t _ next is h = absurd h

  leaves : (t : ℕ) (reply : Reply T A) (next : RecvNext T) → after_withdraw reply next
      → stage_after RecvTimeout (Parked t) reply ≡ stage_of_receive next
  leaves t (reply.Got m) next h = ap stage_of_receive (sym h)
  leaves t (reply.Gone true filled) next h = ap stage_of_receive (sym h)
  leaves t (reply.Gone false filled) next h = ap stage_of_receive (sym h)
  leaves t reply.NoTicket next h = ap stage_of_receive (sym h)
  leaves t _ next h = absurd h

  -- what a receive ends with that withdraws, by what its turn ended with
  ended : RecvNext T → Stage T A
  ended (Done answer) = stage_of_receive (Done (got_or_no_memory answer))
  ended next = stage_of_receive next

  withdraws : (call : Call T) (t : ℕ) (reply : Reply T A) (answer : Result T RecvTimeoutError) → blocks_to_receive call ≡ true
      → after_withdraw reply (Done answer) → stage_after call (Refused t) reply ≡ stage_of_receive (Done (got_or_no_memory answer))
  unfolding ended
  withdraws call t (reply.Got m) answer is h = ap ended (sym h)
  withdraws call t (reply.Gone true filled) answer is h =
      of_both (λ call. stage_after {A = A} call (Refused t) (reply.Gone true filled) ≡ stage_of_receive (Done (got_or_no_memory answer)))
      (ap ended (sym h)) (ap ended (sym h)) call is
  withdraws call t (reply.Gone false filled) answer is h =
      of_both (λ call. stage_after {A = A} call (Refused t) (reply.Gone false filled) ≡ stage_of_receive (Done (got_or_no_memory answer)))
      (ap ended (sym h)) (ap ended (sym h)) call is
  withdraws call t reply.NoTicket answer is h =
      of_both (λ call. stage_after {A = A} call (Refused t) reply.NoTicket ≡ stage_of_receive (Done (got_or_no_memory answer)))
      (ap ended (sym h)) (ap ended (sym h)) call is
  withdraws call t _ answer is h = absurd h

pub returns : goal.returns
returns g c = record {
  tries = tries;
  parks = parks;
  asks = asks;
  leaves = leaves;
  withdraws = withdraws;
  asks_step = λ call t is. ap (λ b. Some (if b then PollSend t else Poll t)) (receives call is);
  leaves_step = λ t. refl;
}
