-- Reply by reply.
use Rattle.std.proofs.Common.{◌≡◌, ℕ, true, false, refl, sym, ap, ◌∙◌, Option, Some, if◌then◌else◌}
use Rattle.flume.specs.declared.step.Reply.{Reply}
use Rattle.flume.specs.declared.step.Reply.TheVariants as reply
use Rattle.flume.specs.declared.step.Step.TheVariants.{PollSend, Poll}
use Rattle.flume.specs.Channel.{Channel}
use Rattle.flume.specs.Replies.{IsReply}
use Rattle.flume_calls.specs.SendTurns.{after_try_send, after_send, after_poll_send, after_withdraw_send}
use Rattle.flume_calls.specs.declared.calls.send.SendNext.{SendNext}
use Rattle.judge_calls.specs.declared.call.Call.{Call}
use Rattle.judge_calls.specs.declared.call.Call.TheVariants.{Send, SendTimeout, SendAsync}
use Rattle.judge_calls.specs.declared.call.Answer.TheVariants.{Sent, NoMemory}
use Rattle.judge_calls.specs.declared.stage.Stage.{Stage}
use Rattle.judge_calls.specs.declared.stage.Stage.TheVariants.{Begun, Tried, Parked, Answered}
use Rattle.judge_calls.specs.Calls.{is_send, stage_after}
use Rattle.judge_recorder.specs.Led.{stage_of_send, untimed}
use Rattle.judge_recorder.proofs.laws.sends_agree.Goals as goal

module _ {T A : Type 0} where
  full : (call : Call T) (stage : Stage T A) (back : T) → is_send call ≡ true → stage_after {A = A} call stage (reply.Full back) ≡ Tried
  full (Send m) stage back is = refl
  full (SendTimeout m) stage back is = refl
  full (SendAsync m) stage back is = refl
  full _ stage back is = absurd (let none : ⊥ = cc in none)

  no_memory : (call : Call T) (back : Option T) → is_send call ≡ true
      → (stage_after {A = A} call Begun (reply.NoMemory back) ≡ Answered NoMemory)
      × (stage_after {A = A} call Tried (reply.NoMemory back) ≡ Answered NoMemory)
  no_memory (Send m) back is = (refl, refl)
  no_memory (SendTimeout m) back is = (refl, refl)
  no_memory (SendAsync m) back is = (refl, refl)
  no_memory _ back is = absurd (let none : ⊥ = cc in none)

  no_ticket : (call : Call T) (t : ℕ) → is_send call ≡ true → stage_after {A = A} call (Parked t) reply.NoTicket ≡ Answered Sent
  no_ticket (Send m) t is = refl
  no_ticket (SendTimeout m) t is = refl
  no_ticket (SendAsync m) t is = refl
  no_ticket _ t is = absurd (let none : ⊥ = cc in none)

  tries : (call : Call T) (reply : Reply T A) (next : SendNext T) → is_send call ≡ true → after_try_send reply next
      → stage_after call Begun reply ≡ stage_of_send next
  tries call (reply.Sent filled) next is h = ap stage_of_send (sym h)
  tries call (reply.Full back) next is h = full call Begun back is ∙ ap stage_of_send (sym h)
  tries call (reply.Closed back) next is h = ap stage_of_send (sym h)
  tries call (reply.NoMemory (Some back)) next is h = (no_memory call (Some back) is).0 ∙ ap stage_of_send (sym h)
  tries call _ next is h = absurd h

  parks : (call : Call T) (reply : Reply T A) (next : SendNext T) → is_send call ≡ true → after_send reply next
      → stage_after call Tried reply ≡ stage_of_send next
  parks call (reply.Sent filled) next is h = ap stage_of_send (sym h)
  parks call (reply.Pending t) next is h = ap stage_of_send (sym h)
  parks call (reply.Closed back) next is h = ap stage_of_send (sym h)
  parks call (reply.NoMemory (Some back)) next is h = (no_memory call (Some back) is).1 ∙ ap stage_of_send (sym h)
  parks call (reply.Spent (Some back)) next is h = ap stage_of_send (sym h)
  parks call _ next is h = absurd h

  begins : (message : T) (reply : Reply T A) (next : SendNext T) → after_send reply next
      → stage_after (SendAsync message) Begun reply ≡ stage_of_send next
  begins message (reply.Sent filled) next h = ap stage_of_send (sym h)
  begins message (reply.Pending t) next h = ap stage_of_send (sym h)
  begins message (reply.Closed back) next h = ap stage_of_send (sym h)
  begins message (reply.NoMemory (Some back)) next h = ap stage_of_send (sym h)
  begins message (reply.Spent (Some back)) next h = ap stage_of_send (sym h)
  begins message _ next h = absurd h

  asks : (call : Call T) (c : Channel T) (t : ℕ) (reply : Reply T A) (next : SendNext T) → is_send call ≡ true
      → IsReply c (PollSend t) reply → after_poll_send t reply next → stage_after call (Parked t) reply ≡ stage_of_send next
  asks call c t reply.Accepted next is lawful h = ap stage_of_send (sym h)
  asks call c t reply.NoTicket next is lawful h = no_ticket call t is ∙ ap stage_of_send (sym h)
  asks call c t reply.Waiting next is lawful h = ap stage_of_send (sym h)
  asks call c t (reply.Returned back true) next is lawful h = ap stage_of_send (sym h)
  asks call c t (reply.Returned back false) next is lawful h = absurd (let off = lawful.2 in let none : ⊥ = cc in none)
  asks call c t _ next is lawful h = absurd h

  leaves : (m : T) (t : ℕ) (reply : Reply T A) (next : SendNext T) → after_withdraw_send reply next
      → stage_after (SendTimeout m) (Parked t) reply ≡ stage_of_send next
  leaves m t reply.Accepted next h = ap stage_of_send (sym h)
  leaves m t reply.NoTicket next h = ap stage_of_send (sym h)
  leaves m t (reply.Returned back true) next h = ap stage_of_send (sym h)
  leaves m t (reply.Returned back false) next h = ap stage_of_send (sym h)
  leaves m t _ next h = absurd h

  dropped : (m : T) (t : ℕ) (reply : Reply T A) (next : SendNext T) → after_withdraw_send reply next
      → stage_after (SendAsync m) (Parked t) reply ≡ stage_of_send (untimed next)
  dropped m t reply.Accepted next h = ap (λ n. stage_of_send (untimed n)) (sym h)
  dropped m t reply.NoTicket next h = ap (λ n. stage_of_send (untimed n)) (sym h)
  dropped m t (reply.Returned back true) next h = ap (λ n. stage_of_send (untimed n)) (sym h)
  dropped m t (reply.Returned back false) next h = ap (λ n. stage_of_send (untimed n)) (sym h)
  dropped m t _ next h = absurd h

pub returns : goal.returns
returns g c = record {
  tries = tries;
  parks = parks;
  begins = begins;
  asks = asks;
  leaves = leaves;
  dropped = dropped;
  asks_step = λ call t is. ap (λ b. Some (if b then PollSend t else Poll t)) is;
  leaves_step = λ m t. refl;
}
