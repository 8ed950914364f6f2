use Rattle.std.proofs.Common.{rules, ◌≡◌, vec_len}
use Rattle.flume_audit.proofs.ClosingLemmas.{this_differs, not_settled, none_differs, is_settled}
use Rattle.flume_audit.proofs.book.Book.close.Goals.{in-Some, in-None}
use Rattle.flume_audit.proofs.book.Book.close.Goals as goal

-- as `differs` answers, if all seats are there
pub returns-clause-differs : goal.returns-clause-differs
returns-clause-differs g c number =
    let all : vec_len c.args.seats ≡ g.L.Ledger.parts = search rules in
    let law = c.settled_if_nothing_differs.ensures.law c.self.inside.history.items
    c.args.seats.items in
    elim c.match-differs.branch [
      | in-Some w ↦
          rw (← c.self.view_is) (this_differs _ c.self.inside.history.items c.args.seats.items law
          c.deref.ensures.value c.deref-2.ensures.value all c.match-differs.closed w.in-Some.number number w.closed-is
          w.in-Some.ensures.some)
      | in-None w ↦
          rw (← c.self.view_is) (none_differs _ c.self.inside.history.items c.args.seats.items law
          c.deref.ensures.value c.deref-2.ensures.value all c.match-differs.closed number w.closed-is w.in-None.ensures.none)
    ]

pub returns-clause-settled : goal.returns-clause-settled
returns-clause-settled g c =
    let all : vec_len c.args.seats ≡ g.L.Ledger.parts = search rules in
    let law = c.settled_if_nothing_differs.ensures.law c.self.inside.history.items
    c.args.seats.items in
    elim c.match-differs.branch [
      | in-Some w ↦
          rw (← c.self.view_is) (not_settled _ c.self.inside.history.items c.args.seats.items law
          c.deref.ensures.value c.deref-2.ensures.value all c.match-differs.closed w.in-Some.number w.closed-is w.in-Some.ensures.some)
      | in-None w ↦
          rw (← c.self.view_is) (is_settled _ c.self.inside.history.items c.args.seats.items law
          c.deref.ensures.value c.deref-2.ensures.value all c.match-differs.closed w.closed-is w.in-None.ensures.none)
    ]
