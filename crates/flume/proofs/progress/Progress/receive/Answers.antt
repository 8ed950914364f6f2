-- What the receive answered, and what the party did.
use Rattle.flume.proofs.progress.Progress.receive.Goals as goal

pub returns-clause-received : goal.returns-clause-received
returns-clause-received g c = record {
  received = record {
    answer = c.recv_as.result;
    made = c.recv_as.ensures.made;
    item_is = c.item.ensures.item;
    fault_is = c.item.ensures.fault;
  };
  made = c.recv_as.ensures.did;
}
