use Rattle.flume_laws.proofs.ExchangeLemmas.{exchange_so_far}
use Rattle.flume_laws.proofs.laws.what_is_left_was_sent_last.Goals as goal

pub returns : goal.returns
returns g c = record {
  law = λ capacity n parties all sents gots merged calls whole. exchange_so_far merged calls whole;
}
