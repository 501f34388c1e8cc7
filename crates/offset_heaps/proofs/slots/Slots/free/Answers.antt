use Rattle.std.proofs.Common.{ap, ◌∙◌, slice_set}
use Rattle.std.proofs.lemmas.List.{set-get_or}
use Rattle.offset_heaps.proofs.slots.Slots.free.Goals as goal

pub returns-clause-same : goal.returns-clause-same
returns-clause-same g c e =
    let old = c.self.inside.heaps.items in
    ap (slice_set old c.args.number) (c.free_in.ensures.same e ∙ c.index_mut.ensures.value) ∙ set-get_or old c.args.number c.index_mut.result.now ∙ c.self.view_is
