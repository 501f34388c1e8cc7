use Rattle.offset_allocator.proofs.Common.{◌≡◌, ◌≢◌, ◌∙◌, ℕ, Bool, map, set, refl, ap, arith, get_or-set_same, get_or-set_other, length-set, Node, node, put, link_of, FieldTables, node_in}
use Rattle.offset_allocator.proofs.{Common.field_tables, Common.common_steps, Arranging.Fields.other, Arranging.Fields.at, Arranging.Fields.within, Arranging.Fields.wrote-chain}
use Rattle.offset_allocator.proofs.layouts.by_field.ByFieldTables.set_block.Goals as goal

pub returns-clause-cells : goal.returns-clause-cells
returns-clause-cells g c =
    let t = c.self.inside in
    let max : ℕ = g.NI.NodeIndex.MAX in
    let x : ℕ = c.args.name in
    let fs : FieldTables = field_tables g.NI.NodeIndex.number t in
    let short = within _ _ t c.self.view_is x c.requires.name in
    let u : FieldTables = record fs {
      offset = set t.offset.items x c.args.offset;
      size = set t.size.items x c.args.size;
      before = map g.NI.NodeIndex.number (set t.before.items x c.args.before);
      after = map g.NI.NodeIndex.number (set t.after.items x c.args.after);
    } in
    let off : (i : ℕ) → i ≢ x → node_in max u i ≡ node_in max fs i = grind (arith, common_steps, get_or-set_other, other) in
    let is : node_in max u x ≡ record (node_in max fs x) {
      offset = c.args.offset;
      size = c.args.size;
      before = link_of max (g.NI.NodeIndex.number c.args.before);
      after = link_of max (g.NI.NodeIndex.number c.args.after);
    } = grind (arith, common_steps, get_or-set_same, at) in
    wrote-chain _ _ t c.self.view_is u x (λ (n : Node). record n {
      offset = c.args.offset;
      size = c.args.size;
      before = link_of max (g.NI.NodeIndex.number c.args.before);
      after = link_of max (g.NI.NodeIndex.number c.args.after);
    }) c.requires.name (length-set t.offset.items x c.args.offset) refl off is
    ∙ ap (λ (k : Bool). record c.args.self.now {
      chain = put c.args.self.now.chain x (record (node c.args.self.now.chain x) {
        used = k;
        offset = c.args.offset;
        size = c.args.size;
        before = link_of max (g.NI.NodeIndex.number c.args.before);
        after = link_of max (g.NI.NodeIndex.number c.args.after);
      });
    }) c.requires.idle
