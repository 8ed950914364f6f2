use Rattle.std.proofs.Common.{arith, refl, ap, ◌∙◌, ◌++◌, ◌∷◌, []}
use Rattle.flume_state.specs.Receivers.{new_receiver}
use Rattle.flume_state.proofs.EntrySortedLemmas.{entries-append, sorted_push, waits_few}
use Rattle.flume_state.proofs.entries.Entries.park.Goals as goal
use Rattle.flume_state.proofs.entries.Entries.park.Goals.{in-Ok, in-Err}

pub overflow_add-self : goal.overflow_add-self
overflow_add-self g c = omega (arith, waits_few _ _ _ _ c.self.invariant)

pub invariant_of-self : goal.invariant_of-self
invariant_of-self g c =
    let e = c.in-Ok.ensures in
    rw (e.inserted, c.or-self-inside.ensures, c.or-self-inside-in-Ok.ensures)
    (sorted_push _ _ _ _ _ _ c.self.invariant e.fresh (refl, refl) (rw e.inserted at e.fits))

pub returns-clause-parked : goal.returns-clause-parked
returns-clause-parked g c = elim c.match-insert.branch [
  | in-Ok w ↦ rw (w.result-is, w.self-is, w.in-Ok.ensures.inserted)
      (entries-append c.self.inside.chain _ ∙ ap (λ l. l ++ new_receiver c.args.ticket c.args.kind c.args.signal ∷ []) c.self.view_is)
  | in-Err w ↦ rw w.result-is tt
]
