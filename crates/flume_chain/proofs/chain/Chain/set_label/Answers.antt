use Rattle.std.proofs.Common.{◌-◌, min, ap, ◌∙◌}
use Rattle.flume_chain.specs.Links.{nil, with_new_label}
use Rattle.flume_chain.proofs.WriteLemmas.{edited_kept, edited_items}
use Rattle.flume_chain.proofs.chain.Chain.set_label.Goals as goal

pub invariant_of-self : goal.invariant_of-self
invariant_of-self g c =
    edited_kept (with_new_label c.args.label) c.self.inside.links c.set_label.new.self c.self.inside.len c.args.place c.self.invariant
    c.set_label.ensures.written

pub returns : goal.returns
returns g c = record {
  labelled = edited_items (with_new_label c.args.label) c.self.inside.links c.set_label.new.self c.self.inside.len c.args.place
      c.self.invariant c.set_label.ensures.written c.args.self.now c.self.view_is;
  room = ap (λ n. min n nil - c.self.inside.len) c.set_label.ensures.written.capacity ∙ ap (λ x. x.room) c.self.view_is;
}
