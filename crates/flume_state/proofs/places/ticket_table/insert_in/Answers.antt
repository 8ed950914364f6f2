use Rattle.std.proofs.Common.{sym, ◌∙◌}
use Rattle.flume_state.proofs.TableLemmas.{put_back}
use Rattle.flume_state.proofs.places.ticket_table.insert_in.Goals as goal

pub returns-in-Some-clause-unchanged : goal.returns-in-Some-clause-unchanged
returns-in-Some-clause-unchanged g c =
    put_back c.insert-in-Some.result c.args.table.now c.insert.new.self c.insert-in-Some.new.self c.args.ticket c.args.place c.in-Some.old
    (sym c.in_ok-old.ensures.old ∙ c.in-Some.is) c.in_ok-old.ensures.updates c.insert-in-Some.ensures.updates
    c.insert-in-Some.ensures.absent
