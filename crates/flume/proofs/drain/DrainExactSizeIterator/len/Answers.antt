-- What a drain still gives.
use Rattle.std.proofs.Common.{◌≡◌, List, [], ◌∷◌, length, ap, sym, ◌∙◌, arith}
use Rattle.std.specs.Iterator.{Drains}
use Rattle.std.specs.Map.Iter.{TakesFirst}
use Rattle.flume.proofs.drain.DrainExactSizeIterator.len.Goals as goal

module _ {T : Type 0} where
  -- the items that come until nothing is left are the list
  gives_all : (left items : List T) → Drains (TakesFirst (λ message. message)) left items → left ≡ items
  gives_all left [] (after, (end, same, last)) = same ∙ last.0
  gives_all left (x ∷ items) (after, (end, (next, first, later), last)) =
      first ∙ ap (λ l. x ∷ l) (gives_all next items (after, (end, later, last)))

pub returns-clause-gives : goal.returns-clause-gives
returns-clause-gives g c = λ items run.
    let all = gives_all _ items run in let long = ap length all in let same = ap length c.self.view_is in (sym all, omega arith)
