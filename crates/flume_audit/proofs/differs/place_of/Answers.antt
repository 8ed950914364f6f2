-- The numbers below this one come first.
use Rattle.std.proofs.Common.{ltb-true, ltb-false, rules}
use Rattle.std.proofs.lemmas.List.Sorted.{IsPartitionPoint-from_clause}
use Rattle.flume_audit.proofs.RisingLemmas.{lower_come_first, is_lower}
use Rattle.flume_audit.proofs.differs.place_of.Goals as goal

pub returns : goal.returns
returns g c =
    let point = IsPartitionPoint-from_clause (is_lower c.args.number) _ _
    c.partition_point.ensures.partitioned
    (lower_come_first c.args.number c.args.list.now c.requires.before)
    (λ a r q k. search rules) in record {
      place = (
        λ k other le lt. ltb-true _ _ (point.0 k other le lt),
        λ k other le lt. ltb-false _ _ (point.1 k other le lt),
      );
    }
