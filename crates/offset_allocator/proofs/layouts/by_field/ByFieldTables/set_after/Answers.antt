use Rattle.offset_allocator.proofs.Common.{◌≡◌, ◌≢◌, ℕ, map, set, refl, arith, Node, link_of, FieldTables, node_in, field_tables}
use Rattle.offset_allocator.proofs.Arranging.Fields.{other, at, within, wrote-chain}
use Rattle.offset_allocator.proofs.layouts.by_field.ByFieldTables.set_after.Goals as goal

pub returns-clause-cells : goal.returns-clause-cells
returns-clause-cells g c =
    let t = c.self.inside in
    let h = c.self.invariant in
    let max : ℕ = g.NI.NodeIndex.MAX in
    let x : ℕ = c.args.name in
    let fs : FieldTables = field_tables g.NI.NodeIndex.number t in
    let short = within _ _ t c.self.view_is x c.requires in
    let u : FieldTables = record fs { after = map g.NI.NodeIndex.number (set t.after.items x c.args.link) } in
    let off : (i : ℕ) → i ≢ x → node_in max u i ≡ node_in max fs i = λ i ne. rw (other g.NI.NodeIndex.number t.after.items x c.args.link i ne) refl in
    let is : node_in max u x ≡ record (node_in max fs x) { after = link_of max (g.NI.NodeIndex.number c.args.link) } =
    rw (at g.NI.NodeIndex.number t.after.items x c.args.link (omega (arith, short, h.after))) refl in
    wrote-chain _ _ t c.self.view_is u x (λ (n : Node). record n { after = link_of max (g.NI.NodeIndex.number c.args.link) }) c.requires refl refl off is
