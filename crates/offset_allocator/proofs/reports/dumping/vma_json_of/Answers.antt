use Rattle.std.proofs.Common.{◌++◌, ℕ, List, ap, map, string_bytes, true, ◌∙◌}
use Rattle.offset_allocator.specs.Reporting.Listing.{Placed, as_placed, placed}
use Rattle.offset_allocator.specs.Reporting.Dumping.{joined, vma_json, vma_numbers}
use Rattle.offset_allocator.proofs.Reporting.Dumped.{three_put}
use Rattle.offset_allocator.proofs.reports.dumping.vma_json_of.Goals as goal

pub returns : goal.returns
returns g c =
    let v = c.args.space.now in
    let sums = c.statistics-sums.result in (
      sums,
      c.statistics-sums.ensures,
      three_put (string_bytes c.new-text.result) (string_bytes c.put_vma_numbers.new.text) (string_bytes c.put_vma_blocks.new.text) _ (vma_numbers v.size sums)
          (joined vma_json true (placed 0 v.blocks)) _
          c.new-text.ensures.bytes
          (c.in_ok-put_vma_numbers.ensures ∙ ap (λ (n : ℕ). string_bytes c.new-text.result ++ vma_numbers n sums) c.size.ensures)
          (c.in_ok-put_vma_blocks.ensures
          ∙ ap (λ (ps : List Placed). string_bytes c.put_vma_numbers.new.text ++ joined vma_json true ps) (ap (map as_placed) c.deref.ensures.value ∙ c.in_ok-blocks.ensures))
          c.in_ok-write.ensures.bytes,
    )
