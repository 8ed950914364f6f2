use Rattle.std.proofs.Common.{refl, sym, ap, ◌∙◌}
use Rattle.std.proofs.lemmas.List.{get_or_read_under}
use Rattle.std.specs.Option.{option_map}
use Rattle.std.specs.Vec.{vec_len, with_item}
use Rattle.flume_chain.specs.declared.chain.node.Node.{Node}
use Rattle.flume_chain.specs.declared.labelled.LabelledValue.{LabelledValue}
use Rattle.flume_chain.specs.Links.{no_node, element_of, node_with_value}
use Rattle.flume_chain.proofs.WriteLemmas.{node_below}
use Rattle.flume_chain.proofs.chain.links.Links.value_mut.Goals as goal

pub returns : goal.returns
returns g c =
    let s = c.args.self.now in
    let below = node_below s c.args.place c.requires.occupied in
    let is = get_or_read_under s.nodes.items c.args.place (vec_len s.nodes) c.index_mut.result.now no_node c.index_mut.ensures.value below
    s.nodes.ok.0 in (
      (
        refl {a = c.value_mut.result.ghost_name},
        λ w. ap (λ (x : Node g.row.L.Denot g.row.E.Denot). record s {
          nodes =
              with_item s.nodes c.args.place (node_with_value x w);
        }) is,
      ),
      record {
        writes_back = tt;
        value = sym (ap (λ x. option_map (λ (e : LabelledValue g.row.L.Denot g.row.E.Denot). e.value) (element_of x)) is)
            ∙ c.value_mut.ensures.value;
      },
    )
