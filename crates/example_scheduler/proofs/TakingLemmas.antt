-- What a receive takes from a channel at which nobody waits.
use Rattle.std.proofs.Common.{◌≡◌, ◌≢◌, List, [], ◌∷◌, refl, ◌∙◌, ap, sym}
use Rattle.flume_state.specs.State.{State}
use Rattle.flume_state.specs.Effects.{with_front, with_front_of, after_take}
use Rattle.example_scheduler.specs.Turns.{IsPlain}

module _ {T S : Type 0} (s : State T S) (plain : IsPlain s) where
  -- no blocked message comes to the front, since there is none
  pub fronted_is : with_front s ≡ s
  fronted_is = by_queue s.queue
    where
      by_queue : (queue : List T) → with_front_of queue s ≡ s
      by_queue [] = rw plain.none_blocked refl
      by_queue (message ∷ rest) = refl

  -- and none moves in as the front is taken
  pub taken_is : (rest : List T) → after_take rest s ≡ record s { queue = rest }
  taken_is rest = rw fronted_is (rw plain.any_number (rw plain.none_blocked refl))

  -- so the front goes, and all else stays
  pub front_goes : (message : T) (after : State T S) → (with_front s).queue ≢ []
      → ((front : T) (rest : List T) → (with_front s).queue ≡ front ∷ rest
      → (message ≡ front) × (after ≡ after_take rest s))
      → (rest : List T) × (s.queue ≡ message ∷ rest) × (after ≡ record s { queue = rest })
  front_goes message after some got = by_queue s.queue refl
    where
      queue_is : (with_front s).queue ≡ s.queue
      queue_is = ap (λ t. t.queue) fronted_is

      by_queue : (queue : List T) → s.queue ≡ queue
          → (rest : List T) × (s.queue ≡ message ∷ rest) × (after ≡ record s { queue = rest })
      by_queue [] is = absurd (some (queue_is ∙ is))
      by_queue (front ∷ rest) is =
          let left = got front rest (queue_is ∙ is) in
          (rest, is ∙ ap (λ m. m ∷ rest) (sym left.0), left.1 ∙ taken_is rest)
