-- A receive of many without a trace: its steps are some that a run goes on with.
use Rattle.std.proofs.Common.{◌≡◌, ℕ, ◌+◌, ◌<◌, ◌⊎◌, inl, inr, List, [], ◌∷◌, ◌++◌, Result, Ok, Err, Vec, zero, suc}
use Rattle.std.proofs.Common.{vec_len, vec_capacity, refl, ap, ◌∙◌, subst, length, arith}
use Rattle.flume_model.specs.declared.step.Step.{Step}
use Rattle.flume_model.specs.declared.step.Reply.{Reply}
use Rattle.flume_model.specs.Log.{Log, Opening}
use Rattle.flume_model.specs.Replies.{IsRun}
use Rattle.flume_state.specs.State.{State}
use Rattle.flume_core.specs.Represents.{Represents}
use Rattle.flume_core.specs.declared.error.RecvTimeoutError.{RecvTimeoutError}
use Rattle.flume_core.specs.declared.error.RecvTimeoutError.TheVariants.{NoMemory}
use Rattle.flume_calls.specs.declared.calls.receive.RecvNext.{RecvNext}
use Rattle.flume_calls.specs.declared.calls.receive.RecvNext.TheVariants.{Done}
use Rattle.flume_calls.specs.Batches.{StepsBetween, NoSteps, FirstStep, IsOneStep, log_after}
use Rattle.flume_calls.specs.ReceiveGates as gate
use Rattle.flume_calls.specs.ManyReceives.{each_got, FirstManyOutcome}
use Rattle.flume_actions.specs.Actions.{Action}
use Rattle.flume_keeper.specs.Keeps.{Did, SomeRunGoesOn}
use Rattle.flume.specs.LockedTurns.{HasMade}
use Rattle.flume.specs.ManyReceiveSteps.{LacksRoom, ReceivesBatch, MakesMany, FindsNone, ReceivesMany}
use Rattle.flume.specs.ManyReceiveSteps as steps
use Rattle.flume.specs.ManyReceiveGates.{ManyState, FirstManyOf, TurnAndMoreOf, ReceivesManyOf}
use Rattle.flume.proofs.ManyReceiveLemmas.{first_none, last_turn}

module _ {T S A : Type 0} where
  -- the steps of a batch are steps that a run goes on with
  pub steps_run : (opening : Opening) (log : Log T A) {old new : State T S} {made : List (Step T × Reply T A)} → Represents opening log old
      → StepsBetween old made new → IsRun opening (log_after log made)
  steps_run opening log represents NoSteps = represents.run
  steps_run opening log represents (FirstStep {step = step} {reply = reply} stepped later) =
      steps_run opening ((step, reply) ∷ log) (stepped.extends opening log represents) later

  -- a first turn that found no memory lacked room
  pub lacks_room : (buffer : Vec T A) (most : ℕ) (old new : State T S) (next : RecvNext ℕ) → FirstManyOutcome buffer most old new next
      → LacksRoom buffer most next
  lacks_room buffer most old new next is = grind arith

module _ {T A : Type 0} where
  -- a run is one up to each of its steps
  earlier : (opening : Opening) (log : Log T A) (later : List (Action T A)) → IsRun opening (log_after log later) → IsRun opening log
  earlier opening log [] run = run
  earlier opening log (made ∷ later) run = (earlier opening (made ∷ log) later run).1

module _ {P T A : Type 0} where
  -- what is said of a party of a channel without a trace
  abbrev pub some_run : P → List (Action T A) → P → Type 0
  some_run old made new = SomeRunGoesOn made

  -- one step
  step_made : {N : Type 0} {step : Step T} {table : Reply T A → N → Type 0} {old new : P} {answer : N}
      → Did some_run (IsOneStep step table) old answer new → HasMade step table answer
  step_made did = record {
    opening = did.made.opening;
    log = did.made.log;
    reply = did.answered.reply;
    run = subst (λ made. IsRun did.made.opening (log_after did.made.log made)) did.answered.is did.made.run;
    answered = did.answered.answered;
  }

  -- a first turn
  pub first_made : {old new : ManyState P T A} {next : RecvNext ℕ} → FirstManyOf some_run old new next
      → ReceivesBatch A old.list.items new.list.items next
  first_made first =
      let did = first.turn in
      record { opening = did.made.opening; log = did.made.log; made = did.steps; run = did.made.run; answered = did.answered }

  -- a turn of one step, and what it took behind it
  more_made : {step : Step T} {table : Reply T A → RecvNext T → Type 0} {old new : ManyState P T A} {next : RecvNext ℕ}
      → TurnAndMoreOf some_run (IsOneStep step table) old new next → MakesMany A step table next
  more_made {step = step} more =
      let run = more.turn.made in
      let all = more.turn.answered in
      let one = all.answered in
      let steps = all.steps ∙ ap (λ made. made ++ each_got all.taken) one.is in
      record {
        first = all.first;
        more = length all.taken;
        answered = record {
          opening = run.opening;
          log = run.log;
          reply = one.reply;
          run = earlier run.opening ((step, one.reply) ∷ run.log) (each_got all.taken)
              (subst (λ made. IsRun run.opening (log_after run.log made)) steps run.run);
          answered = one.answered;
        };
        next_is = all.gives.next_is;
      }

  -- a whole call
  pub many_made : {most : ℕ} {old new : P} {before after : Vec T A} {result : Result ℕ RecvTimeoutError}
      → ReceivesManyOf some_run most old before new after result → ReceivesMany A before.items after.items result
  many_made (end, gate.AtFirst f) = steps.AtFirst (first_made f)
  many_made (end, gate.NoWaiter f a e) = steps.NoWaiter (step_made (first_none f).0) e
  many_made (end, gate.AtPark f a p) = steps.AtPark (step_made (first_none f).0) (more_made p.turn)
  many_made (end, gate.Parked f a p rest) =
      let last = last_turn rest in
      steps.AtAgain (step_made (first_none f).0) last.ticket last.last (more_made last.turn.turn)

  -- if a whole call found no memory, it lacked room, or none was there
  lacks : {most : ℕ} {old new : P} {before after : Vec T A} {result : Result ℕ RecvTimeoutError}
      → ReceivesManyOf some_run most old before new after result → result ≡ Err NoMemory
      → (vec_capacity before < vec_len before + most) ⊎ FindsNone T A
  lacks {most} {before = before} (end, gate.AtFirst f) said = inl (subst (λ r. LacksRoom before most (Done r)) said f.room)
  lacks (end, gate.NoWaiter f a e) said = inr (step_made (first_none f).0)
  lacks (end, gate.AtPark f a p) said = inr (step_made (first_none f).0)
  lacks (end, gate.Parked f a p rest) said = inr (step_made (first_none f).0)

  -- the same of one that may have been asked for none
  pub many_lacks : (most : ℕ) {old new : P} {before after : Vec T A} {result : Result ℕ RecvTimeoutError} → (most ≡ 0 → result ≡ Ok 0)
      → (0 < most → ReceivesManyOf some_run most old before new after result) → result ≡ Err NoMemory
      → (vec_capacity before < vec_len before + most) ⊎ FindsNone T A
  many_lacks zero none run said = let asked = none refl in absurd (let never : ⊥ = cc in never)
  many_lacks (suc n) none run said = lacks (run (omega arith)) said
