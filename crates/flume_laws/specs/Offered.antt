-- What was offered in a channel, by its history.
use Rattle.std.specs.Prelude.{ℕ, List, [], ◌∷◌, Option, reverse}
use Rattle.std.specs.List.{flat_map}
use Rattle.flume_model.specs.declared.step.Step.{Step}
use Rattle.flume_model.specs.declared.step.Step.TheVariants.{TrySend, Send}
use Rattle.flume_model.specs.declared.step.Reply.{Reply}
use Rattle.flume_model.specs.declared.step.Reply.TheVariants.{Sent, Pending}
use Rattle.flume_model.specs.Offers.{kept}
use Rattle.flume_model.specs.Line.{messages}
use Rattle.flume_party.specs.Interleavings.{Interleaving}
use Rattle.flume_actions.specs.Actions.{Action, IsPart}

-- the first list has some of the elements of the second one, each at most once, in their order
abbrev pub IsSublist : {X : Type 0} → List X → List X → Type 0
IsSublist {X} some all = (rest : List X) × Interleaving some rest all

module _ {T A : Type 0} where
  -- the message that the channel took by a step with this reply, if it took one
  abbrev pub offered_by : Step T → Reply T A → List T
  offered_by (TrySend message) (Sent filled) = message ∷ []
  offered_by (Send message) (Sent filled) = message ∷ []
  offered_by (Send message) (Pending ticket) = message ∷ []
  offered_by _ _ = []

  -- the messages that were offered and that the channel took, in order, by its history
  abbrev pub offered_in : List (Action T A) → List T
  offered_in history = flat_map (λ action. offered_by action.0 action.1) history

  -- those that didn't go back to their senders
  abbrev pub kept_in : List (Action T A) → List T
  kept_in history = messages (kept (reverse history))

  -- These actions of a party stand, in their order, in all that was done to a channel, the oldest
  -- first. It was opened with the capacity, and took these messages there, in this order.
  pub record WereOffered (capacity : Option ℕ) (actions : List (Action T A)) (got : List T)
      : Type 0 where
    pub part : IsPart capacity actions
    pub offered : IsSublist got (offered_in part.history)
    -- none of them went back to its sender
    pub kept : IsSublist got (kept_in part.history)
