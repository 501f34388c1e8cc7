use Rattle.offset_allocator.proofs.{Common.◌∙◌, Common.Bool, Common.ap, Common.refl, Common.Node, Common.put, Common.link_of, Arranging.Entries.bound, Arranging.Entries.even_set, Arranging.Entries.wrote-chain}
use Rattle.offset_allocator.proofs.layouts.by_node.ByNodeTables.set_block.Goals as goal

pub returns-clause-cells : goal.returns-clause-cells
returns-clause-cells g c =
    let written : Bool → Node = λ u. record {
      offset = c.args.offset;
      size = c.args.size;
      used = u;
      before = link_of g.NI.NodeIndex.MAX (g.NI.NodeIndex.number c.args.before);
      after = link_of g.NI.NodeIndex.MAX (g.NI.NodeIndex.number c.args.after);
    } in
    wrote-chain _ _ _ c.self.view_is c.args.name c.index_mut-node.result.now _ (λ (n : Node). written n.used) c.requires.name c.index_mut-node.ensures.value refl refl refl
    ∙ ap (λ (u : Bool). record c.args.self.now { chain = put c.args.self.now.chain c.args.name (written u) }) c.requires.idle

pub index_mut-node-requires : goal.index_mut-node-requires
index_mut-node-requires g c = bound g.NI.NodeIndex.MAX g.NI.NodeIndex.number c.self.inside c.self.view_is c.args.name c.requires.name

pub invariant_of-self : goal.invariant_of-self
invariant_of-self g c = even_set _ _ c.self.invariant c.args.name _
