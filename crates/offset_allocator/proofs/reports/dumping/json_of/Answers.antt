use Rattle.std.proofs.Common.{◌++◌, ℕ, List, ap, ap₂, map, string_bytes, true, ◌∙◌}
use Rattle.offset_allocator.specs.Reporting.Listing.{Placed, as_placed, placed}
use Rattle.offset_allocator.specs.Reporting.Dumping.{joined, block_json, numbers_json}
use Rattle.offset_allocator.proofs.Reporting.Dumped.{three_put}
use Rattle.offset_allocator.proofs.reports.dumping.json_of.Goals as goal

pub returns : goal.returns
returns g c =
    let v = c.args.space.now in
    let sums = c.statistics-sums.result in (
      sums,
      c.statistics-sums.ensures,
      three_put (string_bytes c.new-text.result) (string_bytes c.put_numbers.new.text) (string_bytes c.put_blocks.new.text) _ (numbers_json v.size v.max_allocs sums)
          (joined block_json true (placed 0 v.blocks)) _
          c.new-text.ensures.bytes
          (c.in_ok-put_numbers.ensures ∙ ap₂ (λ (n m : ℕ). string_bytes c.new-text.result ++ numbers_json n m sums) c.size.ensures c.max_allocs.ensures)
          (c.in_ok-put_blocks.ensures ∙ ap (λ (ps : List Placed). string_bytes c.put_numbers.new.text ++ joined block_json true ps) (ap (map as_placed) c.deref.ensures.value ∙ c.in_ok-blocks.ensures))
          c.in_ok-write.ensures.bytes,
    )
