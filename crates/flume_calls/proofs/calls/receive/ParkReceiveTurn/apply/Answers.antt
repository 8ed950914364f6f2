-- A receive that may park gets the front, or parks if there is none.
use Rattle.std.proofs.Common.{◌≡◌, refl, subst, rules}
use Rattle.flume_state.specs.Effects.{Begins}
use Rattle.flume_calls.proofs.GotLemmas.{same_got}
use Rattle.flume_calls.proofs.calls.receive.ParkReceiveTurn.apply.Goals as goal

pub returns-in-Got-clause-does : goal.returns-in-Got-clause-does
returns-in-Got-clause-does g c = (
  search rules,
  record {
    got = λ message rest e. same_got _ _ _ c.in-Got.is (c.recv.ensures.got message rest e);
    disconnected = search rules;
    parked = search rules;
    spent = search rules;
    unchanged = search rules;
  },
)

pub returns-in-Parked-clause-does : goal.returns-in-Parked-clause-does
returns-in-Parked-clause-does g c = (
  search rules,
  record {
    got = λ message rest e. let found = (c.in-Parked.ensures.got message rest e).0 in absurd (let none : ⊥ = cc in none);
    disconnected = search rules;
    parked = λ ticket e.
        let same : c.in-Parked.ticket ≡ ticket = cc in
        subst (λ t. Begins c.args.chan.now c.recv.new.self t c.args.self.kind c.args.self.signal) same
        (c.in-Parked.ensures.parked c.in-Parked.ticket refl);
    spent = search rules;
    unchanged = search rules;
  },
)
