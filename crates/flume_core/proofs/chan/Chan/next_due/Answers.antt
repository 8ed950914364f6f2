-- Naming a ticket changes no mark that a log knows.
use Rattle.std.proofs.Common.{rules, refl}
use Rattle.flume_core.proofs.NotifyLemmas.{represents_if_same_marks, same_marks_named, named_bare}
use Rattle.flume_core.proofs.chan.Chan.next_due.Goals as goal

pub returns-in-Some-clause-represents : goal.returns-in-Some-clause-represents
returns-in-Some-clause-represents g c o log h =
    represents_if_same_marks o log c.args.self.now _ c.next_due.new.self.sends c.args.self.now.entries h (search rules)
    (same_marks_named c.args.self.now.sends c.next_due.new.self.sends c.next_due.result (search rules) (search rules)) refl

pub returns-clause-represents : goal.returns-clause-represents
returns-clause-represents g c o log h =
    represents_if_same_marks o log c.args.self.now _ c.next_due.new.self.sends c.next_due-2.new.self h (search rules)
    (same_marks_named c.args.self.now.sends c.next_due.new.self.sends c.next_due.result (search rules) (search rules))
    (named_bare c.args.self.now.entries c.next_due-2.new.self c.next_due-2.result (search rules) (search rules))
