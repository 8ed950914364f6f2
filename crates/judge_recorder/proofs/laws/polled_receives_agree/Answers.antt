-- Reply by reply.
use Rattle.std.proofs.Common.{◌≡◌, ℕ, Bool, true, false, refl, sym, ap, subst, Ok, ◌||◌}
use Rattle.flume.specs.declared.step.Reply.{Reply}
use Rattle.flume.specs.declared.step.Reply.TheVariants as reply
use Rattle.flume_calls.specs.ReceiveTurns.{after_try_recv, after_recv, after_poll, after_withdraw, GivesNone}
use Rattle.flume_calls.specs.declared.calls.receive.RecvNext.{RecvNext}
use Rattle.flume_calls.specs.declared.calls.receive.RecvNext.TheVariants.{Done}
use Rattle.judge_calls.specs.declared.call.Call.TheVariants.{RecvAsync}
use Rattle.judge_calls.specs.declared.call.Answer.{Answer}
use Rattle.judge_calls.specs.declared.call.Answer.TheVariants.{Got, Dropped}
use Rattle.judge_calls.specs.declared.stage.Stage.TheVariants.{Begun, Tried, Parked}
use Rattle.judge_calls.specs.Answers.{equal_answers, may_return}
use Rattle.judge_calls.specs.Calls.{stage_after}
use Rattle.judge_recorder.specs.Led.{stage_of_receive, unrefused}
use Rattle.judge_recorder.proofs.laws.polled_receives_agree.Goals as goal

-- one or false is that one
or_false : (b : Bool) → (b || false) ≡ b
or_false true = refl
or_false false = refl

module _ {T A : Type 0} where
  tries : (reply : Reply T A) (next : RecvNext T) → after_try_recv reply next
      → (stage_after RecvAsync Begun reply ≡ stage_of_receive next) × (stage_after RecvAsync Tried reply ≡ stage_of_receive next)
  tries (reply.Got m) next h = (ap stage_of_receive (sym h), ap stage_of_receive (sym h))
  tries reply.Empty next h = (ap stage_of_receive (sym h), ap stage_of_receive (sym h))
  tries reply.Ended next h = (ap stage_of_receive (sym h), ap stage_of_receive (sym h))
  tries (reply.NoMemory back) next h = (ap stage_of_receive (sym h), ap stage_of_receive (sym h))
  tries _ next h = absurd h

  parks : (reply : Reply T A) (next : RecvNext T) → after_recv reply next
      → (stage_after RecvAsync Begun reply ≡ stage_of_receive next) × (stage_after RecvAsync Tried reply ≡ stage_of_receive next)
  parks (reply.Got m) next h = (ap stage_of_receive (sym h), ap stage_of_receive (sym h))
  parks (reply.Parked t) next h = (ap stage_of_receive (sym h), ap stage_of_receive (sym h))
  parks reply.Ended next h = (ap stage_of_receive (sym h), ap stage_of_receive (sym h))
  parks (reply.NoMemory back) next h = (ap stage_of_receive (sym h), ap stage_of_receive (sym h))
  parks (reply.Spent back) next h = (ap stage_of_receive (sym h), ap stage_of_receive (sym h))
  parks _ next h = absurd h

  asks : (t : ℕ) (reply : Reply T A) (next : RecvNext T) → after_poll t reply next
      → stage_after RecvAsync (Parked t) reply ≡ stage_of_receive (unrefused next)
  asks t (reply.Got m) next h = ap (λ n. stage_of_receive (unrefused n)) (sym h)
  asks t reply.Waiting next h = ap (λ n. stage_of_receive (unrefused n)) (sym h)
  asks t reply.Ended next h = ap (λ n. stage_of_receive (unrefused n)) (sym h)
  asks t reply.NoTicket next h = ap (λ n. stage_of_receive (unrefused n)) (sym h)
  asks t (reply.NoMemory back) next h = ap (λ n. stage_of_receive (unrefused n)) (sym h)
  asks t _ next h = absurd h

  leaves_with : (equal : T → T → Bool) (t : ℕ) (reply : Reply T A) (message : T) → after_withdraw reply (Done (Ok message))
      → may_return equal RecvAsync (stage_after RecvAsync (Parked t) reply) Dropped ≡ false
  leaves_with equal t (reply.Got m) message h = refl
  leaves_with equal t (reply.Gone true filled) message h = absurd (let none : ⊥ = cc in none)
  leaves_with equal t (reply.Gone false filled) message h = absurd (let none : ⊥ = cc in none)
  leaves_with equal t reply.NoTicket message h = absurd (let none : ⊥ = cc in none)
  leaves_with equal t _ message h = absurd h

  leaves : (equal : T → T → Bool) (t : ℕ) (reply : Reply T A) (next : RecvNext T) → after_withdraw reply next → GivesNone next
      → may_return equal RecvAsync (stage_after RecvAsync (Parked t) reply) Dropped ≡ true
  leaves equal t (reply.Got m) next h none = absurd (subst GivesNone h none)
  leaves equal t (reply.Gone true filled) next h none = refl
  leaves equal t (reply.Gone false filled) next h none = refl
  leaves equal t reply.NoTicket next h none = refl
  leaves equal t _ next h none = absurd h

pub returns : goal.returns
returns g c = record {
  tries = tries;
  parks = parks;
  asks = asks;
  returns = λ equal message recorded. or_false (equal_answers equal recorded (Got message));
  leaves_with = leaves_with;
  leaves = leaves;
  asks_step = λ t. refl;
  leaves_step = λ t. refl;
}
