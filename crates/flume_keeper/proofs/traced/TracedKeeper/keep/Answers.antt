-- The steps were recorded, and lead to the channel after them.
use Rattle.flume_keeper.proofs.KeepLemmas.{leads_on}
use Rattle.flume_keeper.proofs.traced.TracedKeeper.keep.Goals as goal

pub record-requires : goal.record-requires
record-requires g c =
    let made = c.requires.made in
    record {
      some = (
        made.made,
        (made.answered, leads_on g.J.ChannelName.identity.capacity c.self.inside.trace made (rw c.self.view_is c.requires.fits)),
        c.requires.moves _ _ made.answered,
      );
    }
