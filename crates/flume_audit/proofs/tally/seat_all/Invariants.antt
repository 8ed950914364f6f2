use Rattle.std.specs.Prelude.{◌≡◌, ◌+◌, ◌≤◌, [], vec_len, vec_capacity, All}
use Rattle.flume_audit.proofs.tally.seat_all.Given as goal

abbrev pub invariant-loop-i : goal.invariant-loop-i
invariant-loop-i g l =
    (l.whole.parts + l._i ≡ l.seats) × (l.whole.amount ≡ 0)
    × (vec_len l.list ≡ l._i) × (l.seats ≤ vec_capacity l.list)
    × All (λ seat. seat ≡ []) l.list.items
