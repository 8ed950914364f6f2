-- How much is left in a channel after whole calls.
use Rattle.std.proofs.Common.{◌≡◌, ℕ, ◌≤◌, ◌+◌, false, List, Option, length}
use Rattle.std.proofs.Common.{ap, subst, arith}
use Rattle.std.proofs.lemmas.List.{length-drop}
use Rattle.std.proofs.lemmas.Grind.{common_steps}
use Rattle.std.specs.Prelude.{reverse}
use Rattle.flume_model.specs.Log.{Log, Opening}
use Rattle.flume_model.specs.Counts.{is_over}
use Rattle.flume_model.specs.Line.{line, queue_len, blocked, is_live}
use Rattle.flume_model.specs.Parked.{entries, peak}
use Rattle.flume_model.specs.Entries.{waiting_count}
use Rattle.flume_model.specs.Replies.{IsRun}
use Rattle.flume_model.specs.WaitLaws.{IsWithinCapacity}
use Rattle.flume_model.proofs.waits.BoundingLemmas.{bounded}
use Rattle.flume_actions.specs.Actions.{Action}
use Rattle.flume_laws.proofs.PartyLemmas.{Parties, parkers}
use Rattle.flume_laws.proofs.BlockedLemmas.{blocked_live}
use Rattle.flume_laws.proofs.LiveOfferLemmas.{none_live}
use Rattle.flume_laws.proofs.GotInOrderLemmas.{outcome_of}

-- fewer are within a bound that is no less
pub within_more : (c : Option ℕ) (other more n k : ℕ) → other ≤ more → n ≤ k
    → IsWithinCapacity c other k → IsWithinCapacity c more n
within_more c other more n k le few within = grind (arith, common_steps)

module _ {T A : Type 0} where
  -- the greater of the capacity and the number of parties that may park
  pub few_left : (o : Opening) (most : ℕ) (history : List (Action T A)) (sents gots : List (List T))
      → IsRun o (reverse history) → is_over (reverse history) ≡ false
      → (s : Parties history sents gots) → parkers s.members ≤ most
      → IsWithinCapacity o.capacity most (length (line (reverse history)))
  few_left o most history sents gots run still s few =
      let log : Log T A = reverse history in
      let last = (outcome_of o most history sents gots run still s few).last in
      let queued = ap length (none_live (is_live log) (blocked o log) last.awaited
      (blocked_live o log run still)) in
      let cut = length-drop (queue_len o log) (line log) in
      let together = queue_len o log + waiting_count (entries o log) in
      within_more o.capacity (peak o log) most (length (line log)) together last.waited
      (omega (arith, queued, cut))
      (subst (λ c. IsWithinCapacity c (peak o log) together) last.greatest_is (bounded o log run))
