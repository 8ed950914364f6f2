use Rattle.std.proofs.Common.{take}
use Rattle.example_exchange.specs.Asking.{HasAsked}
use Rattle.example_exchange.proofs.asking.ask_all.Given as goal

-- it asked about the numbers so far, and what it received is in the list
abbrev pub invariant-loop-number : goal.invariant-loop-number
invariant-loop-number g l = HasAsked l.fn.of_second (take l.number-index l.numbers)
    l.fn.me l.me l.fn.reader.me l.receiver l.items.items
