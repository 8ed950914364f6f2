-- The items up to the last of these events explain them.
use Rattle.judge_calls.proofs.BeginningLemmas.{beginning_explained}
use Rattle.judge_calls.proofs.laws.beginnings_are_explained.Goals as goal

pub returns : goal.returns
returns g c = record { beginning = beginning_explained g.T.PartialEq.eq }
