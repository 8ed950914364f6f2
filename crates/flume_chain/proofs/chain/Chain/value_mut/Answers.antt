use Rattle.std.proofs.Common.{IsSome, refl, sym, subst, ◌∙◌}
use Rattle.flume_chain.proofs.EditLemmas.{found_kept, part_kept}
use Rattle.flume_chain.proofs.WriteLemmas.{written_kept, written_chain}
use Rattle.flume_chain.proofs.chain.Chain.value_mut.Goals as goal

pub value_mut-requires : goal.value_mut-requires
value_mut-requires g c = record {
  occupied = subst IsSome
      (sym (found_kept c.self.inside.links c.self.inside.len c.args.self.now c.self.invariant c.args.place c.self.view_is))
      c.requires.occupied;
}

pub invariant_of-self-lent : goal.invariant_of-self-lent
invariant_of-self-lent g c w =
    let occupied = subst IsSome
    (sym (found_kept c.self.inside.links c.self.inside.len c.args.self.now c.self.invariant c.args.place c.self.view_is))
    c.requires.occupied in
    written_kept c.self.inside.links c.self.inside.len c.args.place w c.self.invariant occupied

pub returns : goal.returns
returns g c =
    let occupied = subst IsSome
    (sym (found_kept c.self.inside.links c.self.inside.len c.args.self.now c.self.invariant c.args.place c.self.view_is))
    c.requires.occupied in (
      (
        refl,
        λ w. written_chain c.self.inside.links c.self.inside.len c.args.place w c.self.invariant occupied
            c.args.self.now c.self.view_is,
      ),
      record {
        writes_back = tt;
        value = sym (part_kept _ c.self.inside.links c.self.inside.len c.args.self.now c.self.invariant c.args.place c.self.view_is)
            ∙ c.value_mut.ensures.value;
      },
    )
