-- What `==` says of each of them.
use Rattle.std.proofs.Common.{sym, ◌∙◌}
use Rattle.judge_search.proofs.SameLemmas.{same_receives}
use Rattle.judge_search.proofs.table.are_same_receives.Goals as goal

pub returns : goal.returns
returns c = record { same = λ is. same_receives c.args.these.now c.args.those.now (sym c.eq.ensures ∙ is) }
