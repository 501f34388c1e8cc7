use Rattle.offset_allocator.proofs.Common.{◌≡◌, ◌≢◌, ℕ, map, set, refl, arith, get_or-set_same, get_or-set_other, length-set, Node, link_of, FieldTables, node_in, field_tables, common_steps}
use Rattle.offset_allocator.proofs.Arranging.Fields.{other, at, within, wrote-chain}
use Rattle.offset_allocator.proofs.layouts.by_field.ByFieldTables.set_start.Goals as goal

pub returns-clause-cells : goal.returns-clause-cells
returns-clause-cells g c =
    let t = c.self.inside in
    let max : ℕ = g.NI.NodeIndex.MAX in
    let x : ℕ = c.args.name in
    let fs : FieldTables = field_tables g.NI.NodeIndex.number t in
    let short = within _ _ t c.self.view_is x c.requires in
    let u : FieldTables = record fs { offset = set t.offset.items x c.args.offset; size = set t.size.items x c.args.size; before = map g.NI.NodeIndex.number (set t.before.items x c.args.link) } in
    let off : (i : ℕ) → i ≢ x → node_in max u i ≡ node_in max fs i =
    λ i ne. rw (get_or-set_other t.offset.items x i c.args.offset 0 ne, get_or-set_other t.size.items x i c.args.size 0 ne, other g.NI.NodeIndex.number t.before.items x c.args.link i ne) refl in
    let is : node_in max u x ≡ record (node_in max fs x) { offset = c.args.offset; size = c.args.size; before = link_of max (g.NI.NodeIndex.number c.args.link) } =
    grind (arith, common_steps, get_or-set_same, at) in
    wrote-chain _ _ t c.self.view_is u x (λ (n : Node). record n { offset = c.args.offset; size = c.args.size; before = link_of max (g.NI.NodeIndex.number c.args.link) }) c.requires
    (length-set t.offset.items x c.args.offset) refl off is
