-- Each pair adds a number or none, and the numbers that lack lose the first one or none.
use Rattle.std.proofs.Common.{◌≡◌, inl, inr, arith}
use Rattle.std.proofs.lemmas.Bool.{lt-ltb, ltb-true}
use Rattle.mailbox.proofs.CountingLemmas.{after_next, after_another, not_all, at_end}
use Rattle.mailbox.proofs.in_order.counts_up.Goals as goal
use Rattle.mailbox.proofs.in_order.counts_up.Goals.{then-next-gt-MESSAGES-via-then-next-gt-MESSAGES}
use Rattle.mailbox.proofs.in_order.counts_up.Goals.{then-next-gt-MESSAGES-via-else-next-gt-MESSAGES+then-number-next}
use Rattle.mailbox.proofs.in_order.counts_up.Goals.{then-sender-worker+else-next-gt-MESSAGES+else-number-next}
use Rattle.mailbox.proofs.in_order.counts_up.Goals.{else-sender-worker}

pub returns-then-next-gt-MESSAGES : goal.returns-then-next-gt-MESSAGES
returns-then-next-gt-MESSAGES c =
    let at_odds = not_all c.args.worker c.args.pairs.now c.loop-sender.sender-index
    c.loop-sender.next c.loop-sender.invariant.lacking c.loop-sender-test.true
    c.if-sender-worker.true in record {
      numbers = (
        λ never. absurd (let none : ⊥ = cc in none),
        λ all. absurd (elim c.then-next-gt-MESSAGES.branch [
          | then-next-gt-MESSAGES-via-then-next-gt-MESSAGES w ↦
              at_odds (inl w.if-next-gt-MESSAGES.true) all
          | then-next-gt-MESSAGES-via-else-next-gt-MESSAGES+then-number-next w ↦
              at_odds (inr w.if-number-next.true) all
        ]),
      );
    }

pub loop-sender-preserved : goal.loop-sender-preserved
loop-sender-preserved c = elim c.if-sender-worker.branch [
  | then-sender-worker+else-next-gt-MESSAGES+else-number-next w ↦ rw w.next-is (record {
    at_most = omega arith;
    lacking = after_next c.args.worker c.args.pairs.now c.loop-sender.sender-index
        c.loop-sender.next c.loop-sender.invariant.lacking c.loop-sender-test.true
        w.if-sender-worker.true w.if-number-next.false w.if-next-gt-MESSAGES.false;
  })
  | else-sender-worker w ↦ rw w.next-is (record {
    at_most = c.loop-sender.invariant.at_most;
    lacking = after_another c.args.worker c.args.pairs.now c.loop-sender.sender-index
        c.loop-sender.next c.loop-sender.invariant.lacking c.loop-sender-test.true
        w.if-sender-worker.false;
  })
]

pub returns : goal.returns
returns c =
    let all = at_end c.args.worker c.args.pairs.now c.loop-sender.sender-index c.loop-sender.next
    c.loop-sender.invariant.lacking c.loop-sender-test.false
    c.loop-sender.invariant.at_most in record {
      numbers = (λ over. all.0 (ltb-true _ _ over), λ same. lt-ltb _ _ (all.1 same));
    }
