-- When two logs have the same steps, and when they have the same replies too.
use Rattle.std.specs.Prelude.{◌≡◌, [], ◌∷◌, ◌↔◌}
use Rattle.flume_model.specs.declared.step.Reply.{Reply}
use Rattle.flume_model.specs.declared.step.Reply.TheVariants.{NoMemory}
use Rattle.flume_model.specs.Log.{Log}
use Rattle.flume_model.specs.Replies.{SameReply}

module _ {T A : Type 0} where
  -- memory ran out
  abbrev pub IsNoMemory : Reply T A → Type 0
  IsNoMemory (NoMemory back) = Unit {0}
  IsNoMemory _ = ⊥

  -- the logs have the same steps with the same replies
  abbrev pub SameLog : Log T A → Log T A → Type 0
  SameLog [] [] = Unit {0}
  SameLog (p ∷ past) (q ∷ other) = (p.0 ≡ q.0) × SameReply p.1 q.1 × SameLog past other
  SameLog _ _ = ⊥

  -- the logs have the same steps, of which the same ones ran out of memory
  abbrev pub SameSteps : Log T A → Log T A → Type 0
  SameSteps [] [] = Unit {0}
  SameSteps (p ∷ past) (q ∷ other) =
      (p.0 ≡ q.0) × (IsNoMemory p.1 ↔ IsNoMemory q.1) × SameSteps past other
  SameSteps _ _ = ⊥
