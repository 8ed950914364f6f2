use Rattle.example_exchange.specs.Asking.{HasAnswered}
use Rattle.example_exchange.proofs.asking.reply_to_all.Given as goal

-- what was received was replied to
abbrev pub invariant-loop : goal.invariant-loop
invariant-loop g l = HasAnswered l.fn.server.me l.server.me l.fn.server.first.me l.server.first.me
    l.fn.server.second.me l.server.second.me
