use Rattle.std.proofs.Common.{◌≡◌, ◌↔◌, ◌-◌, ◌≤◌, drop}
use Rattle.std.specs.List.{range_with_len}
use Rattle.mailbox.specs.InOrder.{numbers_of, one_to_hundred}
use Rattle.mailbox.proofs.in_order.counts_up.Given as goal

-- the numbers from here on are the ones that still lack, exactly if all are those that are wanted
abbrev pub invariant-loop-sender : goal.invariant-loop-sender
invariant-loop-sender l = record {
  at_most : l.next ≤ 101;
  lacking : (numbers_of l.worker (drop l.sender-index l.pairs) ≡ range_with_len l.next (101 - l.next))
      ↔ (numbers_of l.worker l.pairs ≡ one_to_hundred);
}
