-- How a receive that gave no message ended.
use Rattle.std.proofs.Common.{refl, rules}
use Rattle.flume.proofs.deadline_iter.DeadlineIter.next_as.Goals as goal

pub returns-in-Err-clause-next : goal.returns-in-Err-clause-next
returns-in-Err-clause-next g c =
    let said = c.in-Err.ensures in
    rw (← c.self.view_is) (record {
      channel = refl;
      deadline = refl;
      calls_left = c.count.ensures.calls_left;
      end = search rules;
      has_deadline = λ late. said.has_deadline (cc);
      ahead = λ other. said.ahead (λ late. other (cc));
      made = λ other. (_, said.made (λ late. other (cc)), refl, refl);
    })
