use Rattle.std.proofs.Common.{refl}
use Rattle.flume_laws.proofs.CallerLemmas.{no_call, and_call}
use Rattle.flume_laws.proofs.ConfirmLemmas.{confirmed}
use Rattle.test_promises.proofs.receives.receive_two.Goals as goal

pub returns : goal.returns
returns g c =
    let one = and_call (no_call _) c.recv-first.ensures.called refl refl in
    let both = and_call one c.recv-second.ensures.called refl refl in
    rw c.confirm.ensures.party
    (record {
      got = both;
      made = record { between = _; one = c.recv-first.ensures.made; other = c.recv-second.ensures.made };
      offered = confirmed both c.confirm.ensures.part;
    })
