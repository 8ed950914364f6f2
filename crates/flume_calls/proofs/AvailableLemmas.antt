-- While a message is queued or blocked there is a front, and taking it leaves one less.
use Rattle.std.proofs.Common.{◌≡◌, ℕ, ◌+◌, ◌≤◌, ◌<◌, Bool, not, true, false, if◌then◌else◌, List, [], ◌∷◌}
use Rattle.std.proofs.Common.{◌++◌, length, refl, sym, ap, ◌∙◌, subst}
use Rattle.std.proofs.Common.{arith}
use Rattle.std.proofs.lemmas.List.{length-append, map-append, append_assoc}
use Rattle.flume_model.specs.Limits.{is_full}
use Rattle.flume_model.specs.declared.step.Step.{Step}
use Rattle.flume_model.specs.declared.step.Step.TheVariants.{TryRecv}
use Rattle.flume_model.specs.declared.step.Reply.{Reply}
use Rattle.flume_model.specs.declared.step.Reply.TheVariants.{Got}
use Rattle.flume_state.specs.Messages.{Blocked}
use Rattle.flume_state.specs.State.{State, message_count}
use Rattle.flume_state.specs.Effects.{with_front, with_front_of, after_admission, after_admission_of, after_admission_if_room, after_take}
use Rattle.flume_state.specs.Due.{BecomesDue}
use Rattle.flume_core.specs.Represents.{Extends, IsReachable, IsRefusal}
use Rattle.flume_core.specs.PossibleReply.{PossibleReply}
use Rattle.flume_core.specs.Transitions.{IsTransition}
use Rattle.flume_calls.specs.Batches.{StepsBetween, NoSteps, FirstStep}
use Rattle.flume_calls.specs.ManyReceives.{Takes}

module _ {T S : Type 0} where
  -- if a message is there is a front
  pub front : (s : State T S) → 0 < message_count s → (message : T) × (rest : List T) × ((with_front s).queue ≡ message ∷ rest)
  front s some = go s.queue s.blocked refl refl
    where
      go : (q : List T) (b : List (Blocked T)) → s.queue ≡ q → s.blocked ≡ b
          → (message : T) × (rest : List T) × ((with_front s).queue ≡ message ∷ rest)
      go (m ∷ rest) b queued blocked = (m, rest, ap (λ q. (with_front_of q s).queue) queued ∙ queued)
      go [] (b ∷ later) queued blocked = (
        b.message,
        [],
        ap (λ q. (with_front_of q s).queue) queued ∙ ap (λ b. (after_admission_of b s).queue) blocked
            ∙ ap (λ q. q ++ b.message ∷ []) queued,
      )
      go [] [] queued blocked =
          let none : length s.queue ≡ 0 = ap length queued in
          let none_blocked : length s.blocked ≡ 0 = ap length blocked in
          absurd (omega arith)

  -- a blocked message that joins the queue is still there
  admission_keeps : (s : State T S) → message_count (after_admission s) ≡ message_count s
  admission_keeps s = go s.blocked refl
    where
      go : (b : List (Blocked T)) → s.blocked ≡ b → message_count (after_admission s) ≡ message_count s
      go [] blocked = ap (λ b. message_count (after_admission_of b s)) blocked
      go (b ∷ later) blocked =
          let joined : length (s.queue ++ b.message ∷ []) ≡ length s.queue + 1 = length-append s.queue (b.message ∷ []) in
          let before : length s.blocked ≡ length (b ∷ later) = ap length blocked in
          let after : message_count (after_admission s) ≡ length (s.queue ++ b.message ∷ []) + length later =
          ap (λ b. message_count (after_admission_of b s)) blocked in
          omega arith

  front_keeps : (s : State T S) → message_count (with_front s) ≡ message_count s
  front_keeps s = go s.queue refl
    where
      go : (q : List T) → s.queue ≡ q → message_count (with_front s) ≡ message_count s
      go [] queued = ap (λ q. message_count (with_front_of q s)) queued ∙ admission_keeps s
      go (m ∷ rest) queued = ap (λ q. message_count (with_front_of q s)) queued

  admit_if_room_keeps : (s : State T S) → message_count (after_admission_if_room s) ≡ message_count s
  admit_if_room_keeps s = go (not (is_full s.capacity (length s.queue))) refl
    where
      go : (b : Bool) → not (is_full s.capacity (length s.queue)) ≡ b → message_count (after_admission_if_room s) ≡ message_count s
      go true e = ap (λ b. message_count (if b then after_admission s else s)) e ∙ admission_keeps s
      go false e = ap (λ b. message_count (if b then after_admission s else s)) e

  -- taking the front leaves one less
  pub taken_one : (s : State T S) (message : T) (rest : List T) → (with_front s).queue ≡ message ∷ rest
      → message_count (after_take rest s) + 1 ≡ message_count s
  taken_one s message rest e =
      let left : message_count (after_take rest s) ≡ length rest + length (with_front s).blocked =
      admit_if_room_keeps (record (with_front s) { queue = rest }) in
      let front : length (with_front s).queue ≡ length (message ∷ rest) = ap length e in
      let kept : message_count (with_front s) ≡ message_count s = front_keeps s in omega arith

module _ {T A S : Type 0} where
  -- what a `try_recv` says of itself is what a list of steps says of it: it needs no memory
  pub received : {old new : State T S} {reply : Reply T A} → Extends old TryRecv reply new
      → (IsReachable A old → BecomesDue old TryRecv reply new)
      → PossibleReply TryRecv reply → old.space ≤ new.space → (IsRefusal reply → new ≡ old) → IsTransition old TryRecv reply new
  received {old} extends becomes_due possible_reply space unchanged = record {
    extends = extends;
    becomes_due = becomes_due;
    possible_reply = possible_reply;
    space = space;
    refused = λ back is. rw is at possible_reply;
    unchanged = unchanged;
  }

  -- one more step behind those that lead there
  pub one_more : {old between new : State T S} {made : List (Step T × Reply T A)} {step : Step T} {reply : Reply T A}
      → StepsBetween old made between
      → IsTransition between step reply new → StepsBetween old (made ++ (step, reply) ∷ []) new
  one_more NoSteps stepped = FirstStep stepped NoSteps
  one_more (FirstStep first rest) stepped = FirstStep first (one_more rest stepped)

module _ {T S : Type 0} where
  -- a step that takes the front leaves one less
  pub one_less : {P : T → Type 0} (old new : State T S) → 0 < message_count old
      → ((message : T) (rest : List T) → (with_front old).queue ≡ message ∷ rest → P message × (new ≡ after_take rest old))
      → message_count new + 1 ≡ message_count old
  one_less old new some takes =
      let (message, rest, is) = front old some in
      let taken : message_count new ≡ message_count (after_take rest old) = ap message_count (takes message rest is).1 in
      let less = taken_one old message rest is in omega arith

module _ {T S : Type 0} (A : Type 0) where
  -- one more message is taken
  pub takes_one : {old between new : State T S} {before items after : List T} {count : ℕ} (message : T)
      → Takes A old before count between items
      → IsTransition {A = A} between TryRecv (Got message) new → after ≡ items ++ message ∷ [] → Takes A old before (count + 1) new after
  takes_one {old} {between} {new} {before} message took stepped is = record {
    taken = took.taken ++ message ∷ [];
    reachable = subst (λ made. StepsBetween old made new) (sym (map-append (λ m. (TryRecv, Got m)) took.taken (message ∷ [])))
        (one_more took.reachable stepped);
    items = is ∙ ap (λ items. items ++ message ∷ []) took.items ∙ append_assoc before took.taken (message ∷ []);
    number = let more : length (took.taken ++ message ∷ []) ≡ length took.taken + 1 = length-append took.taken (message ∷ []) in
        let number = took.number in omega arith;
  }
