use Rattle.std.proofs.Common.{◌∙◌, None, refl, slice_set, option_map, ap, sym}
use Rattle.std.proofs.lemmas.List.{get_or_read}
use Rattle.offset_guarded.specs.Values.{entry}
use Rattle.offset_guarded.proofs.Entries.{value_kept, within}
use Rattle.offset_guarded.proofs.values.Beside.value_mut.Goals as goal

pub invariant_of-self-lent : goal.invariant_of-self-lent
invariant_of-self-lent g c w =
    let cells = c.self.inside.cells.items in
    let here = within cells c.args.name (rw c.self.view_is c.requires) in
    value_kept cells c.args.name c.self.inside.kept c.index_mut.result.now w (get_or_read cells _ _ here c.index_mut.ensures.value None) here c.self.invariant

pub returns : goal.returns
returns g c =
    let cells = c.self.inside.cells.items in
    let here = within cells c.args.name (rw c.self.view_is c.requires) in
    let read = get_or_read cells _ _ here c.index_mut.ensures.value None in (
      (refl, λ w. ap (λ o. slice_set cells c.args.name (option_map (λ e. (e.0, w)) o)) read ∙ ap (λ l. slice_set l c.args.name (option_map (λ e. (e.0, w)) (entry c.args.name l))) c.self.view_is),
      record { writes_back = tt; value = ap (option_map (λ e. e.1)) (ap (entry c.args.name) (sym c.self.view_is) ∙ sym read) ∙ c.lend_value.ensures.value },
    )
