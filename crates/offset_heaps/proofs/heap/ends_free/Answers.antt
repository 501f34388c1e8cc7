use Rattle.std.proofs.Common.{◌∙◌, ap, refl, sym}
use Rattle.std.proofs.lemmas.Bool.{false≢true}
use Rattle.offset_allocator.specs.Reporting.Listing.{as_placed, listing}
use Rattle.offset_heaps.proofs.Longer.{ends_free, ends_none}
use Rattle.offset_heaps.proofs.heap.ends_free.Goals as goal

pub returns-in-None : goal.returns-in-None
returns-in-None g c =
    let all = sym (c.blocks-blocks.ensures ∙ ap listing c.allocator.ensures) in
    (λ e. absurd (false≢true e), λ free. absurd (ends_none c.args.heap.now.space (all ∙ c.in-None.ensures.yields.0) free))

pub returns-in-None-allocation : goal.returns-in-None-allocation
returns-in-None-allocation g c =
    let all = sym (c.blocks-blocks.ensures ∙ ap listing c.allocator.ensures) in
    (λ e. (ends_free c.args.heap.now.space (as_placed c.in-Some.block) _ (all ∙ c.in-Some.ensures.yields)).0 c.in-None-allocation.is, λ free. refl)

pub returns : goal.returns
returns g c =
    let all = sym (c.blocks-blocks.ensures ∙ ap listing c.allocator.ensures) in (
      λ e. absurd (false≢true e),
      λ free. absurd (let none = (ends_free c.args.heap.now.space (as_placed c.in-Some.block) _ (all ∙ c.in-Some.ensures.yields)).1 free in let some = c.in-Some-allocation.is in cc),
    )
