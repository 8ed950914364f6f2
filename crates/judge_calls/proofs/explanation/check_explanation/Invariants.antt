use Rattle.std.proofs.Common.{List, take, reverse}
use Rattle.std.specs.List.{AllZip}
use Rattle.flume_model.specs.Log.{opens}
use Rattle.judge_calls.specs.declared.event.Item.{Item}
use Rattle.judge_calls.specs.Explanations.{IsExplanation}
use Rattle.judge_calls.specs.Descriptions.{Describes}
use Rattle.judge_calls.specs.Following.{LeadTo}
use Rattle.judge_calls.proofs.explanation.check_explanation.Given as goal

-- the items so far tell of an explanation, which leads to these calls and this channel
abbrev pub invariant-loop-place : goal.invariant-loop-place
invariant-loop-place g l = record {
  followed : (past : List (Item g.row.T.Denot g.row.A.Denot)) × AllZip (Describes g.T.PartialEq.eq) (reverse (take l.place l.items)) past
      × IsExplanation g.T.PartialEq.eq (opens l.fn.capacity 1) past × LeadTo (opens l.fn.capacity 1) past l.calls l.chan;
}
