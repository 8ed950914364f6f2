use Rattle.flume_laws.proofs.ComesBackLemmas.{run_of, polled_back, send_back}
use Rattle.flume_laws.proofs.laws.what_comes_back_is_what_was_offered.Goals as goal

pub returns : goal.returns
returns g c = record {
  send = λ capacity left all made message error whole there.
      send_back message made error (run_of capacity left all made whole there);
  polled_send = λ capacity left all made message error whole there.
      polled_back message made error (run_of capacity left all made whole there);
}
