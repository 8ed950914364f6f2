use Rattle.std.proofs.Common.{◌≡◌, ◌+◌, ◌++◌, map}
use Rattle.std.specs.Vec.{vec_len, vec_capacity}
use Rattle.std.specs.Vec.Iter.{into_iter_items, into_iter_len}
use Rattle.flume.specs.declared.select.send.SendState.{SendState}
use Rattle.flume.proofs.select.send_list.SendList.new.Given as goal

-- an arm for each pair so far, and room for the others
abbrev pub invariant-loop-sender : goal.invariant-loop-sender
invariant-loop-sender g l =
    (goal.iterator-loop-sender g).can_next l.sender-iterator ×
    (goal.iterator-loop-sender g).is_finite l.sender-iterator × record {
      room : vec_len l.arms + into_iter_len l.sender-iterator ≡ vec_capacity l.arms;
      channels : map (λ arm. arm.sender.now) l.arms.items ++ map (λ pair. pair.0.now) (into_iter_items l.sender-iterator) ≡ map
          (λ pair. pair.0.now) l.fn.sends.items;
      unstarted : map (λ arm. arm.state) l.arms.items ++ map (λ pair. SendState.Unstarted pair.1) (into_iter_items l.sender-iterator)
          ≡ map (λ pair. SendState.Unstarted pair.1) l.fn.sends.items;
    }
