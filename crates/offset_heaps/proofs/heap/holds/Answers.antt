use Rattle.std.proofs.Common.{◌∙◌, subst, sym}
use Rattle.std.proofs.lemmas.Bool.{false≢true}
use Rattle.offset_allocator.specs.{Tight.HasBlockFor, View.IsWellFormed}
use Rattle.offset_heaps.proofs.Holders.{holds_less}
use Rattle.offset_heaps.proofs.heap.holds.Goals as goal

pub returns-clause-less : goal.returns-clause-less
returns-clause-less g c e =
    let known = subst IsWellFormed c.allocator-space.ensures c.is_well_formed.ensures in
    holds_less c.args.limits c.args.number c.args.size c.args.align c.args.heap.now known c.requires.some c.requires.alignment
    (λ held. false≢true (sym e ∙ c.has_block_for_counted.ensures.holds.1 (subst (HasBlockFor c.args.size c.args.align) (sym c.allocator-space.ensures) held.2)))
