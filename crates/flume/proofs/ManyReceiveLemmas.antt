-- A receive of many: what its turns leave of the list, and how they answer.
use Rattle.std.proofs.Common.{◌≡◌, ℕ, ◌<◌, Bool, false, true, List, [], ◌++◌, length, Result, Ok, Err, Vec, IfOk, OnErr}
use Rattle.std.proofs.Common.{refl, sym, ap, ◌∙◌, subst, arith}
use Rattle.std.proofs.lemmas.List.{append-nil}
use Rattle.flume_core.specs.declared.error.RecvError.{RecvError}
use Rattle.flume_core.specs.declared.error.RecvTimeoutError.{RecvTimeoutError}
use Rattle.flume_calls.specs.declared.calls.receive.RecvNext.{RecvNext}
use Rattle.flume_calls.specs.declared.calls.receive.RecvNext.TheVariants.{Done, NeedSignal, Park}
use Rattle.flume_calls.specs.ReceiveTurns as turn
use Rattle.flume_calls.specs.ReceiveGates as gate
use Rattle.flume_calls.specs.ManyReceives.{each_got, given_by, with_more, FirstManyTable, Some, None, NoRoom}
use Rattle.flume_actions.specs.Actions.{Action}
use Rattle.flume_keeper.specs.Keeps.{Did}
use Rattle.flume.specs.CallSteps.{receive_as_timed}
use Rattle.flume.specs.PartySteps.{FirstReceiveOf}
use Rattle.flume.specs.ManyReceiveCalls.{Appends, AnswersMany, IsntDone}
use Rattle.flume.specs.ManyReceiveGates.{ManyState, SameState, FirstManyOf, TurnAndMoreOf, AgainManyOf, ReceivesManyOf}

module _ {T : Type 0} where
  -- a turn that may park answers as one does
  pub parks_many : {next : RecvNext ℕ} → AnswersMany {T = T} (λ first. turn.IsParkingAnswer first) next → turn.IsParkingAnswer next
  parks_many is = grind arith

  -- a turn of a parked call answers as one does
  pub asks_many : (t : ℕ) (late : Bool) {next : RecvNext ℕ}
      → AnswersMany {T = T} (λ first. turn.IsParkedAnswer t late first × turn.HadMemory first) next
      → turn.IsParkedAnswer t late next × turn.HadMemory next
  asks_many t late is = (grind arith, grind arith)

  -- a turn that gave a message ended the call
  pub none_given : (n : ℕ) (first : RecvNext T) → IsntDone (with_more n first) → given_by first ≡ []
  none_given n first is = grind arith

  -- a turn that left the call parked gave none
  parks : (n t : ℕ) (first : RecvNext T) → Park t ≡ with_more n first → first ≡ Park t
  parks n t first is = grind arith

  -- a turn that found none is the answer of one that may take one message and found none
  needs : (first : RecvNext T) → NeedSignal ≡ with_more 0 first → first ≡ NeedSignal
  needs first is = grind arith

  -- what a call with this result leaves of the list
  abbrev Leaves : ℕ → List T → List T → Result ℕ RecvTimeoutError → Type 0
  Leaves most before after result = IfOk result (Appends most before after) × OnErr result (after ≡ before)

  -- what a call with no deadline leaves of the list
  pub waited_leaves : (most : ℕ) (before after : List T) {ended : Result ℕ RecvTimeoutError} (result : Result ℕ RecvError)
      → ended ≡ receive_as_timed result → IfOk ended (Appends most before after) → IfOk result (Appends most before after)
  waited_leaves most before after (Ok n) is came = subst (λ r. IfOk r (Appends most before after)) is came
  waited_leaves most before after (Err e) is came = tt

-- what a call with no deadline answers to an end with this
pub waited_none : (n : ℕ) {ended : Result ℕ RecvTimeoutError} (result : Result ℕ RecvError) → ended ≡ receive_as_timed result
    → ended ≡ Ok n → result ≡ Ok n
waited_none n result is same = grind arith

module _ {P T A : Type 0} (did : P → List (Action T A) → P → Type 0) where
  -- the turn that ended the parked call, and what the call had before it
  pub record LastTurn (old new : ManyState P T A) (result : Result ℕ RecvTimeoutError) : Type 0 where
    pub asked : ManyState P T A
    pub most : asked.most ≡ old.most
    pub items : asked.list.items ≡ old.list.items
    pub ticket : ℕ
    pub last : Bool
    pub turn : AgainManyOf did asked ticket last new (Done result)

module _ {P T A : Type 0} {did : P → List (Action T A) → P → Type 0} where
  -- the one step of a first turn that found none
  pub first_none : {old new : ManyState P T A} → FirstManyOf did old new NeedSignal
      → FirstReceiveOf did old.party new.party NeedSignal × (new.list.items ≡ old.list.items)
  first_none {old} {new} first = (go first.turn.steps NeedSignal refl first.turn.made first.turn.answered, grind arith)
    where
      go : (made : List (Action T A)) (next : RecvNext ℕ) → next ≡ NeedSignal → did old.party made new.party
          → FirstManyTable old.list.items made new.list.items next → FirstReceiveOf did old.party new.party NeedSignal
      go made next is did (Some count took ended) = absurd (let none : ⊥ = cc in none)
      go made next is did (NoRoom none same ended) = absurd (let none : ⊥ = cc in none)
      go made next is did (None reply first one answered none same ended) =
          let first = needs first (sym is ∙ ended) in
          record {
            steps = made;
            answered = record { reply = reply; is = one; answered = subst (λ n. turn.after_try_recv reply n) first answered };
            made = did;
          }

  -- a turn that parked the call, or left it parked, took nothing
  pub more_parks : {makes : List (Action T A) → RecvNext T → Type 0} {old new : ManyState P T A} {t : ℕ}
      → TurnAndMoreOf did makes old new (Park t) → Did did makes old.party (Park t) new.party × (new.list.items ≡ old.list.items)
  more_parks {makes} {old} {new} {t} more =
      let all = more.turn.answered in
      let first = parks (length all.taken) t all.first all.gives.next_is in
      let none = all.gives.only_behind_one (ap given_by first) in
      let steps = all.steps ∙ (ap (λ taken. all.first_made ++ each_got taken) none ∙ append-nil all.first_made) in (
        record {
          steps = all.first_made;
          answered = subst (λ n. makes all.first_made n) first all.answered;
          made = subst (λ steps. did old.party steps new.party) steps more.turn.made;
        },
        grind (arith, append-nil),
      )

  -- a parked call has the same list until its last turn
  pub last_turn : {old new : ManyState P T A} {ticket : ℕ} {result : Result ℕ RecvTimeoutError}
      → gate.ParkedReceive (AgainManyOf did) SameState old ticket new result → LastTurn did old new result
  last_turn {old} {ticket = ticket} (gate.Asked a) =
      record { asked = old; most = refl; items = refl; ticket = ticket; last = false; turn = a }
  last_turn (gate.Withdrawn a b e) = absurd a.had_memory
  last_turn (gate.Expired {same = same} a w b) = record {
    asked = _;
    most = w.most ∙ a.turn.most;
    items = w.items ∙ (more_parks a.turn).1;
    ticket = same;
    last = true;
    turn = b;
  }
  last_turn (gate.Waited a w rest) =
      let last = last_turn rest in
      record {
        asked = last.asked;
        most = last.most ∙ (w.most ∙ a.turn.most);
        items = last.items ∙ (w.items ∙ (more_parks a.turn).1);
        ticket = last.ticket;
        last = last.last;
        turn = last.turn;
      }

  -- what a turn leaves of a list like this
  more_leaves : {makes : List (Action T A) → RecvNext T → Type 0} {old new : ManyState P T A} {most : ℕ} {items : List T}
      (result : Result ℕ RecvTimeoutError) → 0 < most → old.most ≡ most → old.list.items ≡ items
      → TurnAndMoreOf did makes old new (Done result) → Leaves most items new.list.items result
  more_leaves (Ok n) some same list more = (grind (arith, append-nil), tt)
  more_leaves (Err e) some same list more = (tt, grind (arith, append-nil))

  -- what a whole call leaves of the list
  pub many_leaves : {most : ℕ} {old new : P} {before after : Vec T A} (result : Result ℕ RecvTimeoutError) → 0 < most
      → ReceivesManyOf did most old before new after result → Leaves most before.items after.items result
  many_leaves (Ok n) some (end, gate.AtFirst f) = (grind arith, tt)
  many_leaves (Err e) some (end, gate.AtFirst f) = (tt, grind arith)
  many_leaves (Ok n) some (end, gate.NoWaiter f a e) = absurd (let none : ⊥ = cc in none)
  many_leaves (Err e) some (end, gate.NoWaiter f a is) = (tt, a.items ∙ (first_none f).1)
  many_leaves result some (end, gate.AtPark f a p) = more_leaves result some (a.most ∙ f.most) (a.items ∙ (first_none f).1) p.turn
  many_leaves result some (end, gate.Parked f a p rest) =
      let last = last_turn rest in
      more_leaves result some (last.most ∙ (p.turn.most ∙ (a.most ∙ f.most)))
      (last.items ∙ ((more_parks p.turn).1 ∙ (a.items ∙ (first_none f).1))) last.turn.turn

  -- the same at the end, with a party and a list that are equal
  pub at_return : {most : ℕ} {old new new' : P} {before after after' : Vec T A} {result : Result ℕ RecvTimeoutError} → new ≡ new'
      → after ≡ after' → ReceivesManyOf did most old before new after result → ReceivesManyOf did most old before new' after' result
  at_return {most} {old} {new} {new'} {before} {after} {after'} {result} party list run =
      subst (λ after. ReceivesManyOf did most old before new' after result) list
      (subst (λ new. ReceivesManyOf did most old before new after result) party run)
