use Rattle.flume_state.proofs.PairLemmas.{admits}
use Rattle.flume_state.proofs.line.Line.admit.Goals as goal

pub invariant_of-self-2 : goal.invariant_of-self-2
invariant_of-self-2 g c =
    (admits _ _ _ _ _ c.self.invariant c.facts.ensures.apart c.in-Some.ensures.admitted c.accept.ensures.link c.accept.ensures.live).paired

pub returns-clause-admitted : goal.returns-clause-admitted
returns-clause-admitted g c = λ _.
    rw (← c.self.view_is)
    (admits _ _ _ _ _ c.self.invariant c.facts.ensures.apart c.in-Some.ensures.admitted c.accept.ensures.link c.accept.ensures.live).holds
