use Rattle.flume_laws.proofs.ExchangeLemmas.{exchange}
use Rattle.flume_laws.proofs.laws.what_was_sent_is_what_was_got.Goals as goal

pub returns : goal.returns
returns g c = record {
  law = λ capacity parties all sents gots merged calls whole. exchange merged calls whole;
}
