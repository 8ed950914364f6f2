-- The theorem holds of a run, and so it held at each moment of it.
use Rattle.flume_model.proofs.Common.{◌≡◌, ◌≤◌, Bool, true, false, [], ◌∷◌, ◌++◌, ◌∙◌, sym, ap, subst, length, take, drop, take-nil}
use Rattle.flume_model.proofs.Common.{Theorem, TheoremThroughout, Log, Opening, IsRun, is_over, line, queue, queue_len, blocked}
use Rattle.flume_model.proofs.Common.{messages, kept, hand_outs, arith, refl}
use Rattle.flume_model.proofs.order.KeptLemmas.{line_is_open}
use Rattle.flume_model.proofs.order.LineStepLemmas.{line_over}
use Rattle.flume_model.proofs.order.RunLemmas.{shape_of}
use Rattle.flume_model.proofs.fills.FillsOrderLemmas.{in_order}
use Rattle.flume_model.proofs.waits.WaitingLaws.{covered, bounded}

module _ {T A : Type 0} where
  -- what a run began with is a run
  run_before : (o : Opening) (later before : Log T A) → IsRun o (later ++ before) → IsRun o before
  run_before o [] before lawful = lawful
  run_before o (p ∷ later) before lawful = run_before o later before lawful.1

  -- the queue is the kept offers from the hand-outs on, as many as are queued
  queue_is_front : (o : Opening) (log : Log T A) → queue_len o log ≤ length (line log)
      → queue o log ≡ messages (take (queue_len o log) (drop (hand_outs log) (kept log)))
  queue_is_front o log within = go (is_over log) refl
    where
      go : (over : Bool) → is_over log ≡ over
          → queue o log ≡ messages (take (queue_len o log) (drop (hand_outs log) (kept log)))
      go true over =
          let at_most : queue_len o log ≤ 0 = subst (λ l. queue_len o log ≤ length l) (line_over log over) within in
          let none : queue_len o log ≡ 0 = grind (arith) in
          rw none refl
      go false open_ = ap (λ l. messages (take (queue_len o log) l)) (line_is_open log open_)

  -- the blocked messages are the rest of them, while an end is there
  blocked_are_rest : (o : Opening) (log : Log T A) → is_over log ≡ false
      → blocked o log ≡ drop (queue_len o log) (drop (hand_outs log) (kept log))
  blocked_are_rest o log open_ = ap (drop (queue_len o log)) (line_is_open log open_)

  -- the theorem holds of a run
  holds : (o : Opening) (log : Log T A) → IsRun o log → Theorem o log
  holds o log lawful =
      let within : queue_len o log ≤ length (line log) = (shape_of o log lawful).within in
      record {
        in_order = in_order o log lawful;
        queue_is_front = queue_is_front o log within;
        blocked_are_rest = blocked_are_rest o log;
        queue_len_within = within;
        replies_lawful = lawful;
        woken_cover = covered o log lawful;
        queue_bounded = bounded o log lawful;
      }

  -- the theorem held at each moment of a run
  pub throughout : (o : Opening) (log : Log T A) → IsRun o log → TheoremThroughout o log
  throughout o log lawful before began = holds o before (run_before o began.0 before (subst (IsRun o) began.1 lawful))
