use Rattle.offset_allocator.proofs.Common.{◌≡◌, ◌≢◌, ℕ, set, refl, arith, get_or-set_same, get_or-set_other, Node, FieldTables, node_in, field_tables}
use Rattle.offset_allocator.proofs.Arranging.Fields.{within, wrote-chain}
use Rattle.offset_allocator.proofs.layouts.by_field.ByFieldTables.set_size.Goals as goal

pub returns-clause-cells : goal.returns-clause-cells
returns-clause-cells g c =
    let t = c.self.inside in
    let h = c.self.invariant in
    let max : ℕ = g.NI.NodeIndex.MAX in
    let x : ℕ = c.args.name in
    let fs : FieldTables = field_tables g.NI.NodeIndex.number t in
    let short = within _ _ t c.self.view_is x c.requires in
    let u : FieldTables = record fs { size = set t.size.items x c.args.size } in
    let off : (i : ℕ) → i ≢ x → node_in max u i ≡ node_in max fs i = λ i ne. rw (get_or-set_other t.size.items x i c.args.size 0 ne) refl in
    let is : node_in max u x ≡ record (node_in max fs x) { size = c.args.size } = rw (get_or-set_same t.size.items x c.args.size 0 (omega (arith, short, h.size))) refl in
    wrote-chain _ _ t c.self.view_is u x (λ (n : Node). record n { size = c.args.size }) c.requires refl refl off is
