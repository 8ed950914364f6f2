-- Where the choice leads is dead, or in the level or in the next one.
use Rattle.std.proofs.Common.{refl}
use Rattle.judge_search.proofs.LevelLemmas.{into_dead, into_level, into_next, nowhere}
use Rattle.judge_search.proofs.levels.Level.follow.Goals as goal

pub returns-in-Leads-clause-followed : goal.returns-in-Leads-clause-followed
returns-in-Leads-clause-followed g c = λ yes.
    into_dead g.T.PartialEq.eq c.args.events.now c.args.self.now.seen.list.items c.args.next.now.seen.list.items c.args.place
    c.args.configuration.now c.args.trail.choice c.in-Leads.at c.in-Leads.new
    (c.in-Leads.ensures.leads c.in-Leads.new c.in-Leads.at refl) (c.if-are_overtaking.ensures.dead refl)

pub returns-in-Leads-2-clause-followed : goal.returns-in-Leads-2-clause-followed
returns-in-Leads-2-clause-followed g c = λ yes.
    into_level g.T.PartialEq.eq c.args.events.now c.enter.new.self.seen.list.items c.args.next.now.seen.list.items c.args.place
    c.args.configuration.now c.args.trail.choice c.in-Leads.at c.in-Leads.new
    (c.in-Leads.ensures.leads c.in-Leads.new c.in-Leads.at refl) (c.enter.ensures.entered yes)

pub returns-in-Leads-3-clause-followed : goal.returns-in-Leads-3-clause-followed
returns-in-Leads-3-clause-followed g c = λ yes.
    into_next g.T.PartialEq.eq c.args.events.now c.args.self.now.seen.list.items c.enter-in-Leads-3.new.self.seen.list.items c.args.place
    c.args.configuration.now c.args.trail.choice c.in-Leads.at c.in-Leads.new
    (c.in-Leads.ensures.leads c.in-Leads.new c.in-Leads.at refl) (c.enter-in-Leads-3.ensures.entered yes)

pub returns-in-Spent-clause-followed : goal.returns-in-Spent-clause-followed
returns-in-Spent-clause-followed g c = λ yes.
    nowhere g.T.PartialEq.eq c.args.events.now c.args.self.now.seen.list.items c.args.next.now.seen.list.items c.args.place
    c.args.configuration.now c.args.trail.choice (c.in-Spent.ensures.spent refl)
