-- It withdraws, if it is parked.
use Rattle.std.proofs.Common.{◌≡◌, rules}
use Rattle.flume.specs.declared.select.send.SendState.TheVariants.{Parked, Finished}
use Rattle.flume.proofs.select.send.OfferArm.withdraw.Goals as goal

pub returns-in-Parked-clause-did : goal.returns-in-Parked-clause-did
returns-in-Parked-clause-did g c =
    let was : c.args.self.now.state ≡ Parked c.in-Parked.call = search rules in
    let ended : c.take_back.new.self.state ≡ Finished = search rules in
    let did = c.take_back.ensures.did in
    rw was (did.0, ended, did.2)
