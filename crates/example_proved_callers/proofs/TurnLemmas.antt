-- What turns that follow one another lead to, be they of a send or of a receive.
use Rattle.std.proofs.Common.{◌≡◌, ℕ, Bool, [], ◌∷◌, ◌++◌}
use Rattle.std.proofs.lemmas.List.{append_assoc}
use Rattle.flume_model.specs.declared.step.Step.{Step}
use Rattle.flume_model.specs.declared.step.Reply.{Reply}
use Rattle.flume_model.specs.Log.{Log}
use Rattle.flume.specs.State.{State}
use Rattle.flume_calls.specs.AtRest.{IsCallAtRest}
use Rattle.flume_calls.specs.Turns.{Turned}
use Rattle.example_proved_callers.specs.LocalSends.{Leads, Makes, Others}

module _ {T A S : Type 0} where
  module _ {N B : Type 0} {rings : B → ℕ → S → B → Type 0} {step : Step T}
      {table : Reply T A → N → Type 0} {outcomes : State T S → State T S → N → Type 0}
      {old new : State T S} {bell rung : B} {answer : N} where
    -- a call of one step made it
    pub made_by : IsCallAtRest A rings (λ s t given. Turned {A = A} step table s t given × outcomes s t given) old bell new rung answer
        → Makes A step table old new answer
    made_by call =
        let turn = call.turn.0 in
        record {
          reply = turn.reply;
          leads = λ o log s. call.represents o _ (turn.stepped.extends o log s);
          answered = turn.answered;
        }

    -- so to another it is some steps
    pub by_call : IsCallAtRest A rings (λ s t given. Turned {A = A} step table s t given × outcomes s t given) old bell new rung answer
        → Others A old new
    by_call call = let made = made_by call in ((step, made.reply) ∷ [], made.leads)

  -- some steps, and then others
  pub chain : {old mid new : State T S} (a b : Log T A) → Leads old a mid → Leads mid b new
      → Leads old (b ++ a) new
  chain a b first next o log s = rw (append_assoc b a log) (next o (a ++ log) (first o log s))

  -- two turns with these replies, between which no step is made
  pub two_turns : {N : Type 0} {old first armed new : State T S} {step again : Step T}
      {table tables : Reply T A → N → Type 0} {answer answers : N} {reply replies : Reply T A}
      → (made : Makes A step table old first answer) → made.reply ≡ reply → armed ≡ first
      → (next : Makes A again tables armed new answers) → next.reply ≡ replies
      → Leads old ((again, replies) ∷ (step, reply) ∷ []) new
  two_turns {step = step} {again = again} {reply = r} {replies = s} made is arms next are =
      chain ((step, r) ∷ []) ((again, s) ∷ []) (rw is at made.leads)
      (rw (arms, are) at next.leads)

  -- how a parked call ended: by a last step of which this holds, after others
  pub record Ended (old new : State T S) (holds : Step T → Reply T A → Type 0) : Type 0 where
    pub others : Log T A
    pub step : Step T
    pub reply : Reply T A
    pub leads : Leads old ((step, reply) ∷ others) new
    pub last : holds step reply

  -- by one turn
  pub by_turn : {N : Type 0} {old new : State T S} {step : Step T} {table : Reply T A → N → Type 0}
      {answer : N} {holds : Step T → Reply T A → Type 0} (made : Makes A step table old new answer)
      → holds step made.reply → Ended old new holds
  by_turn {step = step} made last =
      record { others = []; step = step; reply = made.reply; leads = made.leads; last = last }

  -- after one turn and a wait, if the call keeps its ticket
  pub after_wait : {N : Type 0} {old asked waited new : State T S} {step : Step T}
      {table : Reply T A → N → Type 0} {answer : N} {ticket same : ℕ}
      (holds : ℕ → Step T → Reply T A → Type 0) → Makes A step table old asked answer
      → Others A asked waited → same ≡ ticket → Ended waited new (holds same)
      → Ended old new (holds ticket)
  after_wait {step = step} holds polls waits is end =
      let polled : Log T A = (step, polls.reply) ∷ [] in
      record {
        others = end.others ++ (waits.0 ++ polled);
        step = end.step;
        reply = end.reply;
        leads = chain (waits.0 ++ polled) ((end.step, end.reply) ∷ end.others)
            (chain polled waits.0 polls.leads waits.1) end.leads;
        last = rw is at end.last;
      }

module _ {G T S : Type 0} (A : Type 0) (at : G → State T S) where
  -- what arming tells
  abbrev pub Arms : G → G → Bool → Type 0
  Arms old new answer = at new ≡ at old

  -- what the waiting of a parked call tells
  abbrev pub InWait : G → G → Bool → Type 0
  InWait old new answer = Others A (at old) (at new)
