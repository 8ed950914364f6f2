-- The receipt at the place that the search finds has the number, or none has.
use Rattle.flume_audit.proofs.RisingLemmas.{the_one, none_past, none_other}
use Rattle.flume_audit.proofs.differs.receipt_at.Goals as goal
use Rattle.flume_audit.proofs.differs.receipt_at.Goals.{in_default-via-in-Some+else-receipt-number, in_default-via-in_default}

pub returns-in-Some : goal.returns-in-Some
returns-in-Some g c =
    let at = c.in-Some.ensures.lookup.3 in record {
      sole = the_one c.args.number c.args.list.now _ c.requires.before c.place_of.ensures.place
          _ at.0 (at.1 _) c.if-receipt-number.true;
    }

pub returns-in_default : goal.returns-in_default
returns-in_default g c = record {
  sole = elim c.in_default.branch [
    | in_default-via-in-Some+else-receipt-number w ↦
        let at = w.in-Some.ensures.lookup.3 in
        none_other c.args.number c.args.list.now _ c.requires.before c.place_of.ensures.place
        _ at.0 (at.1 _) w.if-receipt-number.false
    | in_default-via-in_default w ↦
        none_past c.args.number c.args.list.now _ c.requires.before c.place_of.ensures.place
        w.in_default.ensures.lookup.3
  ];
}
