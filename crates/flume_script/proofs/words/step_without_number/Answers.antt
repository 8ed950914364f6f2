use Rattle.flume_script.proofs.PlainStepLemmas.{no_plain}
use Rattle.flume_script.proofs.words.step_without_number.Goals as goal

pub returns-clause-none : goal.returns-clause-none
returns-clause-none c = λ step is none. no_plain c.args.word.now step is (c.find_step.ensures.none none)
