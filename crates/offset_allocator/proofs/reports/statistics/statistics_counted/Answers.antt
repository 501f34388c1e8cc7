use Rattle.offset_allocator.proofs.{Common.arith, Always.split_count}
use Rattle.offset_allocator.proofs.reports.statistics.statistics_counted.Goals as goal

pub overflow_sub-result : goal.overflow_sub-result
overflow_sub-result g c = omega (arith, c.free_blocks-free_blocks.ensures.blocks, c.block_count.ensures, split_count c.args.allocator.now.blocks)

pub returns-clause-statistics : goal.returns-clause-statistics
returns-clause-statistics g c = record {
  live_ranges = omega (arith, c.free_blocks-free_blocks.ensures.blocks, c.block_count.ensures, split_count c.args.allocator.now.blocks);
  live_units = c.live_units.ensures;
  free_blocks = c.free_blocks-free_blocks.ensures.blocks;
  free_units = c.free_units.ensures;
  largest_free_block = c.largest_free-largest_free_block.ensures.block;
  largest_free_region = c.largest_free-largest_free_block.ensures.region;
  unused_nodes = c.unused_nodes.ensures;
}
