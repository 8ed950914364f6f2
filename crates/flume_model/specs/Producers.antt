-- Messages are handed out in the order of their offers, whoever made them.
use Rattle.std.specs.Prelude.{◌≡◌, ℕ, ◌<◌, false, Some}
use Rattle.std.specs.List.{slice_get}
use Rattle.flume_model.specs.Log.{Log, Offer}
use Rattle.flume_model.specs.Offers.{offers, withdrawn, kept, hand_outs}

-- each hand-out is of the offer at its place among all, in their order; so it is of one producer's
pub record HandedOutInOrder {T A : Type 0} (log : Log T A) : Type 0 where
  pub place : ℕ → ℕ
  pub is_kept : (j : ℕ) → j < hand_outs log
      → (offer : Offer T) × (slice_get (offers log) (place j) ≡ Some offer)
      × (slice_get (kept log) j ≡ Some offer)
  pub rises : (j k : ℕ) → j < k → k < hand_outs log → place j < place k
  pub first_made_first : (j k : ℕ) → j < hand_outs log → k < hand_outs log → place j < place k
      → j < k
  pub none_left_behind : (i k : ℕ) (offer : Offer T) → k < hand_outs log → i < place k
      → slice_get (offers log) i ≡ Some offer → withdrawn log offer ≡ false
      → (j : ℕ) × (j < k) × (place j ≡ i)
