-- The configuration of a new channel agrees with no items; so if it is dead, nothing explains the events.
use Rattle.std.proofs.Common.{◌≡◌, ℕ, Bool, List, [], ◌∷◌, ◌++◌, Option, reverse, append_assoc, refl, sym, ap, ◌∙◌, subst, arith}
use Rattle.std.specs.FinMap.{get-empty}
use Rattle.std.proofs.lemmas.Bool.{false≢true}
use Rattle.std.proofs.lemmas.List.{reverse-append, append-nil}
use Rattle.std.proofs.lemmas.List.Elements.{All-nil}
use Rattle.flume_model.specs.Log.{Opening, opens}
use Rattle.flume_state.specs.State.{new_state}
use Rattle.flume_core.specs.Represents.{Represents}
use Rattle.judge_calls.specs.declared.event.Event.{Event}
use Rattle.judge_calls.specs.declared.event.Item.{Item}
use Rattle.judge_calls.specs.Explanations.{IsExplanation, IsExplained}
use Rattle.judge_calls.proofs.LateCallLemmas.{explained_late}
use Rattle.judge_search.specs.Configurations.{start_of}
use Rattle.judge_search.specs.Agreement.{Agrees, IsOwn}
use Rattle.judge_search.specs.Dead.{IsDeadEnd, onto}

module _ {T A : Type 0} where
  -- a new channel stands for the empty log
  new_stands : (o : Opening) → Represents {T = T} {A = A} {S = Unit {0}} o [] (new_state o)
  new_stands o = record {
    run = tt;
    capacity_is = refl;
    greatest_is = refl;
    queue_is = refl;
    blocked_are = refl;
    sends_are = λ t. rw get-empty refl;
    entries_are = refl;
    peak_is = refl;
    next_is = refl;
    senders_are = refl;
    receivers_are = refl;
  }

  -- items, the oldest first, after others
  onto_reverse : (items past : List (Item T A)) → reverse items ++ past ≡ onto items past
  onto_reverse [] past = refl
  onto_reverse (item ∷ items) past =
      ap (λ l. l ++ past) (reverse-append (item ∷ []) items) ∙ append_assoc (reverse items) (item ∷ []) past
      ∙ onto_reverse items (item ∷ past)

module _ {T A : Type 0} (equal : T → T → Bool) (events : List (Event T A)) where
  -- the start agrees with no items
  pub start_agrees : (capacity : Option ℕ) (first : ℕ) → Agrees equal events (opens capacity first) [] events (start_of capacity)
  start_agrees capacity first = record {
    state = new_state (opens capacity first);
    represents = new_stands (opens capacity first);
    tickets = λ p. 0;
    channel = record {
      capacity_is = refl;
      senders_are = refl;
      receivers_are = refl;
      queue_is = refl;
      blocked_are = refl;
      receives_are = refl;
    };
    calls_are = λ t. tt;
    threads_apart = All-nil (IsOwn equal events []);
    parked = record {
      tickets_apart = λ p q hp hq same. absurd (false≢true hp);
      tickets_below = λ p hp. absurd (false≢true hp);
      blocked_parked = All-nil _;
      receives_parked = All-nil _;
      blocked_send = All-nil _;
      receives_apart = All-nil _;
    };
  }

  -- if it is dead, the events have no explanation
  pub unexplained : (capacity : Option ℕ) (first : ℕ) → IsDeadEnd equal events 0 (start_of capacity)
      → IsExplained equal (opens capacity first) events → ⊥
  unexplained capacity first gone explained =
      let late = explained_late equal (opens capacity first) events explained in
      gone (opens capacity first) [] late.0 (start_agrees capacity first) (record {
        events_are = late.1;
        late_steps = late.3;
        explains = subst (IsExplanation equal (opens capacity first)) (sym (append-nil (reverse late.0)) ∙ onto_reverse late.0 []) late.2;
      })
