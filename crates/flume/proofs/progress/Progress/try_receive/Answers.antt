-- What the try answered, and what the party did.
use Rattle.flume.proofs.progress.Progress.try_receive.Goals as goal

pub returns-clause-tried : goal.returns-clause-tried
returns-clause-tried g c = record {
  tried = record {
    answer = c.try_recv_as.result;
    made = c.try_recv_as.ensures.made;
    had_memory = c.try_recv_as.ensures.never_no_memory;
    item_is = c.ok.ensures.value;
  };
  made = c.try_recv_as.ensures.did;
}
