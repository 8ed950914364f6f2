-- How many messages may be in a channel before more memory is wanted, once blocked ones moved in.
use Rattle.std.proofs.Common.{◌≡◌, ℕ, Bool, true, false, if◌then◌else◌, List, [], ◌∷◌, refl, ap, ◌∙◌}
use Rattle.flume_model.specs.Limits.{is_full}
use Rattle.flume_state.specs.Messages.{Blocked}
use Rattle.flume_state.specs.Effects.{after_admissions_of, after_admissions}
use Rattle.flume_state.specs.State.{State}

module _ {T S : Type 0} where
  -- one of two states is left, with the same space
  either : (b : Bool) (x y : State T S) (space : ℕ) → x.space ≡ space → y.space ≡ space → (if b then x else y).space ≡ space
  either true x y space first second = first
  either false x y space first second = second

  -- those that move in was before
  space_filled : (blocked : List (Blocked T)) (s : State T S) → (after_admissions_of blocked s).space ≡ s.space
  space_filled [] s = refl
  space_filled (b ∷ later) s = either (is_full s.capacity _) s _ s.space refl (space_filled later _)

  -- so the space is as it was
  pub space_filled_up : (s new : State T S) → new ≡ after_admissions s → new.space ≡ s.space
  space_filled_up s new is = ap (λ (x : State T S). x.space) is ∙ space_filled s.blocked s
