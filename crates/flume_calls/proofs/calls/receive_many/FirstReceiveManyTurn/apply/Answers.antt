-- A first receive of many: what it made of the channel.
use Rattle.std.proofs.Common.{◌∷◌, [], ◌++◌, refl, ap, ◌∙◌, rules}
use Rattle.flume_calls.specs.Batches.{NoSteps, FirstStep}
use Rattle.flume_calls.specs.ManyReceives.{NoRoom, None, Some}
use Rattle.flume_calls.proofs.AvailableLemmas.{received}
use Rattle.flume_calls.proofs.calls.receive_many.FirstReceiveManyTurn.apply.Goals as goal
use Rattle.flume_calls.proofs.calls.receive_many.FirstReceiveManyTurn.apply.Goals.{in-Empty, in-Ended}

pub returns-then-most-gt0-clause-does : goal.returns-then-most-gt0-clause-does
returns-then-most-gt0-clause-does g c = (
  record {
    made = (_, c.try_recv.result) ∷ [];
    reachable =
        let made = c.try_recv.ensures in
        FirstStep (received made.step made.becomes_due made.possible_reply made.space made.unchanged) NoSteps;
    answered = elim c.match-try_recv.branch [
      | in-Empty w ↦ rw (w.next-is, w.in-Empty.is) (None _ _ refl refl tt refl refl)
      | in-Ended w ↦ rw (w.next-is, w.in-Ended.is) (None _ _ refl refl tt refl refl)
    ];
  },
  search rules,
)

pub returns-then-is_err-clause-does : goal.returns-then-is_err-clause-does
returns-then-is_err-clause-does g c = (
  record {
    made = [];
    reachable = NoSteps;
    answered = NoRoom refl c.try_reserve.ensures.items refl;
  },
  search rules,
)

pub returns-clause-does : goal.returns-clause-does
returns-clause-does g c =
    let took = c.take_each.ensures.took in (
      record {
        made = _;
        reachable = took.reachable;
        answered = Some _ (record {
          taken = took.taken;
          steps = refl;
          items = took.items
              ∙ ap (λ items. items ++ took.taken) c.try_reserve.ensures.items;
          number = took.number;
        }) refl;
      },
      search rules,
    )
