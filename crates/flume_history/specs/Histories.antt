-- Which lists of steps and replies are histories of a channel.
use Rattle.std.specs.Prelude.{◌≡◌, ◌<◌, ◌+◌, ℕ, List, [], ◌∷◌, length, reverse, take}
use Rattle.flume_model.specs.declared.step.Step.{Step}
use Rattle.flume_model.specs.declared.step.Reply.{Reply}
use Rattle.flume_model.specs.Log.{Log, Opening}
use Rattle.flume_model.specs.Replies.{IsRun}

module _ {T A X : Type 0} (describes : X → Reply T A → Type 0) where
  -- the log has these steps, and its replies are as described; both have the newest first
  abbrev pub DescribesLog : List (Step T × X) → Log T A → Type 0
  DescribesLog [] [] = Unit {0}
  DescribesLog (p ∷ history) (q ∷ log) = (p.0 ≡ q.0) × describes p.1 q.1 × DescribesLog history log
  DescribesLog _ _ = ⊥

  -- there is a run of these steps, the oldest first, with replies as described
  abbrev pub IsHistory : Opening → List (Step T × X) → Type 0
  IsHistory opening history =
      (log : Log T A) × IsRun opening log × DescribesLog (reverse history) log

  -- the first this many are a history, and with the next one they aren't
  pub record BreaksAt (opening : Opening) (history : List (Step T × X)) (place : ℕ)
      : Type 0 where
    pub is_within : place < length history
    pub before : IsHistory opening (take place history)
    pub not_with_next : IsHistory opening (take (place + 1) history) → ⊥
