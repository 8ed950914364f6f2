-- Nobody is stuck: if nobody is woken, nobody waits for a message or for room that is there.
use Rattle.flume_model.proofs.Common.{◌≡◌, ◌<◌, Bool, true, false, List, [], ◌∷◌, length, refl, arith}
use Rattle.flume_model.proofs.Common.{some_wait, woken_count, line, queue_len, Log, Opening, entries, IsRun}
use Rattle.flume_model.specs.WaitLaws.{NobodyStuck}
use Rattle.flume_model.proofs.order.RunLemmas.{blocked_at_capacity, waits_whole}
use Rattle.flume_model.proofs.waits.CoveringLemmas.{covered}
use Rattle.flume_model.proofs.waits.WaitingOpenLemmas.{waits_while_open}

-- a list of no length is empty
nil_by_length : {X : Type 0} (xs : List X) → length xs ≡ 0 → xs ≡ []
nil_by_length [] e = refl
nil_by_length (x ∷ xs) e = absurd (omega arith)

module _ {T A : Type 0} where
  -- of each run
  pub nobody_stuck : (o : Opening) (log : Log T A) → IsRun o log → woken_count (entries o log) ≡ 0 → NobodyStuck o log
  nobody_stuck o log run none = record {
    waiting_receivers = λ some.
        let cover = covered o log run some in
        let whole = waits_whole o log run some in
        (nil_by_length (line log) (omega arith), (waits_while_open o log run some).0);
    blocked_senders = λ more. (blocked_at_capacity o log run more, by_case more (some_wait (entries o log)) refl);
  }
    where
      by_case : queue_len o log < length (line log) → (b : Bool) → some_wait (entries o log) ≡ b → b ≡ false
      by_case more true waits = absurd (let whole = waits_whole o log run waits in omega arith)
      by_case more false waits = refl
