-- What a turn that was made leaves in what is kept.
use Rattle.std.proofs.Common.{◌≡◌, ℕ, List, [], ◌∷◌, ◌++◌, Option, refl, sym, ap, ◌∙◌, subst}
use Rattle.std.specs.Prelude.{reverse}
use Rattle.std.proofs.lemmas.List.{append-nil, reverse-append}
use Rattle.std.proofs.Common.{append_assoc}
use Rattle.flume_model.specs.Log.{opens}
use Rattle.flume_state.specs.State.{State}
use Rattle.flume_core.specs.Represents.{Represents, SameLogs}
use Rattle.flume_calls.specs.Batches.{IsBatch, log_after}
use Rattle.flume_calls.proofs.LeadsToLemmas.{led_log}
use Rattle.flume_actions.specs.Actions.{Action}
use Rattle.flume_keeper.specs.Keeps.{HasMade, LeadsTo}

module _ {T A : Type 0} where
  -- a log, the newest first, after some steps
  after_reversed : (made log : List (Action T A)) → log_after log made ≡ reverse made ++ log
  after_reversed [] log = refl
  after_reversed (action ∷ made) log =
      after_reversed made (action ∷ log)
      ∙ (sym (append_assoc (reverse made) (action ∷ []) log)
      ∙ ap (λ first. first ++ log) (sym (reverse-append (action ∷ []) made)))

  module _ {S N : Type 0} {makes : List (Action T A) → N → Type 0} {old new : State T S} {answer : N} where
    -- a turn leads on from what was done before
    pub leads_on : (capacity : Option ℕ) (history : List (Action T A))
        (made : HasMade makes old new answer) → LeadsTo capacity history old
        → LeadsTo capacity (history ++ made.made) new
    leads_on capacity history made led =
        subst (λ log. Represents (opens capacity 1) log new)
        (after_reversed made.made (reverse history) ∙ sym (reverse-append history made.made))
        (made.leads (opens capacity 1) (reverse history) led)

    -- a turn, and rings that change no log
    pub was_made : {between : State T S} → IsBatch makes old between answer
        → SameLogs A between new → HasMade makes old new answer
    was_made batch same = record {
      made = batch.made;
      answered = batch.answered;
      leads = λ opening log before. same opening _ (led_log batch.reachable opening log before);
    }
