use Rattle.std.proofs.Common.{rules, subst, sym}
use Rattle.std.specs.Prelude.{◌≡◌, [], All}
use Rattle.std.proofs.lemmas.List.Elements.{All-push}
use Rattle.flume_audit.proofs.tally.seat_all.Goals as goal

-- the new seat has no receipt, as those before it
pub loop-i-preserved : goal.loop-i-preserved
loop-i-preserved g c = (
  search rules,
  search rules,
  search rules,
  search rules,
  subst (All (λ seat. seat ≡ [])) (sym c.push_reserved.ensures.items)
      (All-push (λ seat. seat ≡ []) c.loop-i.list.items c.new.result c.loop-i.invariant.4
      c.new.ensures.empty),
)
