-- The front was taken, since the queue wasn't empty.
use Rattle.std.proofs.Common.{rules}
use Rattle.example_scheduler.proofs.TakingLemmas.{front_goes}
use Rattle.example_scheduler.proofs.run_queue.take.Goals as goal

pub returns-in-Got-clause-some : goal.returns-in-Got-clause-some
returns-in-Got-clause-some c =
    front_goes c.args.tasks.now c.requires.plain c.in-Got.task c.try_recv.new.self
    (λ none. let open_ = c.requires.plain.is_open in
    let empty = c.try_recv.ensures.empty.1 (none, open_) in search rules)
    (λ front rest is. let got = c.try_recv.ensures.got front rest is in (search rules, got.1))
