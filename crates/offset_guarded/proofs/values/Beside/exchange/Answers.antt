use Rattle.std.proofs.Common.{◌∙◌, ◌<◌, ◌≡◌, None, length, slice_set, ap, arith, length-set}
use Rattle.std.specs.Prelude.{is_some}
use Rattle.std.proofs.lemmas.List.{get_or_read}
use Rattle.offset_guarded.specs.Values.{entry}
use Rattle.offset_guarded.proofs.Entries.{exchanged, few_entries, if_some, named_set, number_of}
use Rattle.offset_guarded.proofs.values.Beside.exchange.Goals as goal

pub overflow_sub-self : goal.overflow_sub-self
overflow_sub-self g c =
    let here : c.args.name < length c.self.inside.cells.items = omega (arith, c.requires.cell, ap length c.self.view_is) in
    let was = c.replace-was.ensures.value ∙ get_or_read c.self.inside.cells.items _ _ here c.index_mut.ensures.value None in
    (exchanged c.self.inside.cells.items c.args.name c.args.with _ _ _ here c.self.invariant.1 (number_of _ _ _ c.from.ensures (c.is_some-2.ensures ∙ ap is_some was)) (number_of _ _ _ c.from-more.ensures c.is_some.ensures)).0

pub overflow_add-self : goal.overflow_add-self
overflow_add-self g c =
    let here : c.args.name < length c.self.inside.cells.items = omega (arith, c.requires.cell, ap length c.self.view_is) in
    let was = c.replace-was.ensures.value ∙ get_or_read c.self.inside.cells.items _ _ here c.index_mut.ensures.value None in
    let count = exchanged c.self.inside.cells.items c.args.name c.args.with _ _ _ here c.self.invariant.1 (number_of _ _ _ c.from.ensures (c.is_some-2.ensures ∙ ap is_some was)) (number_of _ _ _ c.from-more.ensures c.is_some.ensures) in
    record { fits = omega (arith, count.1, few_entries (slice_set c.self.inside.cells.items c.args.name c.args.with), length-set c.self.inside.cells.items c.args.name c.args.with) }

pub invariant_of-self : goal.invariant_of-self
invariant_of-self g c =
    let here : c.args.name < length c.self.inside.cells.items = omega (arith, c.requires.cell, ap length c.self.view_is) in
    let was = c.replace-was.ensures.value ∙ get_or_read c.self.inside.cells.items _ _ here c.index_mut.ensures.value None in
    let count = exchanged c.self.inside.cells.items c.args.name c.args.with _ _ _ here c.self.invariant.1 (number_of _ _ _ c.from.ensures (c.is_some-2.ensures ∙ ap is_some was)) (number_of _ _ _ c.from-more.ensures c.is_some.ensures) in
    rw c.replace-was.ensures.after (named_set _ _ _ c.self.invariant.0 (if_some (λ e. e.0.name ≡ c.args.name) c.args.with c.requires.named), count.1)

pub returns-clause-was : goal.returns-clause-was
returns-clause-was g c =
    let here : c.args.name < length c.self.inside.cells.items = omega (arith, c.requires.cell, ap length c.self.view_is) in
    c.replace-was.ensures.value ∙ get_or_read c.self.inside.cells.items _ _ here c.index_mut.ensures.value None ∙ ap (entry c.args.name) c.self.view_is

pub returns-clause-after : goal.returns-clause-after
returns-clause-after g c =
    ap (slice_set c.self.inside.cells.items c.args.name) c.replace-was.ensures.after ∙ ap (λ l. slice_set l c.args.name c.args.with) c.self.view_is
