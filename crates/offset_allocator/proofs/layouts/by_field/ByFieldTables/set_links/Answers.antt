use Rattle.offset_allocator.proofs.Common.{◌<◌, ◌∙◌, ℕ, List, ap, length, map, set, arith, length-map, map-set, Cells, common_steps}
use Rattle.offset_allocator.proofs.Arranging.Fields.{length-nodes_in, wrote-newer}
use Rattle.offset_allocator.proofs.layouts.by_field.ByFieldTables.set_links.Goals as goal

pub returns-clause-cells : goal.returns-clause-cells
returns-clause-cells g c =
    let t = c.self.inside in
    let even = length-map t.newer.items g.NI.NodeIndex.number ∙ c.self.invariant.newer in
    let named : c.args.name < length c.args.self.now.chain.nodes = grind (arith, common_steps, length-map, length-nodes_in) in
    let newer = map-set g.NI.NodeIndex.number t.newer.items c.args.name c.args.newer in
    let older = map-set g.NI.NodeIndex.number t.older.items c.args.name c.args.older in
    rw (newer, older) (wrote-newer _ _ t c.self.view_is c.args.name (g.NI.NodeIndex.number c.args.newer)
    (set (map g.NI.NodeIndex.number t.older.items) c.args.name (g.NI.NodeIndex.number c.args.older)) named even c.requires.idle c.requires.link)
    ∙ ap (λ (l : List ℕ). record c.args.self.now {
      bins = record c.args.self.now.bins {
        newer = set c.args.self.now.bins.newer c.args.name (g.NI.NodeIndex.number c.args.newer);
        older = set l c.args.name (g.NI.NodeIndex.number c.args.older);
      };
    }) (ap (λ (v : Cells). v.bins.older) c.self.view_is)
