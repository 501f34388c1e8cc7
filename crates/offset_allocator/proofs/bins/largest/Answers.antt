use Rattle.offset_allocator.proofs.Filing.Find.{none_at_all, last_below, bit_within, largest_is}
use Rattle.offset_allocator.proofs.bins.largest.Goals as goal

pub returns-then-top_mask-eq0-clause-largest : goal.returns-then-top_mask-eq0-clause-largest
returns-then-top_mask-eq0-clause-largest g c = none_at_all c.requires.masked c.if-top_mask-eq0.true

pub mask-requires : goal.mask-requires
mask-requires g c = last_below c.requires.masked c.if-top_mask-eq0.false

pub overflow_sub-result : goal.overflow_sub-result
overflow_sub-result g c = bit_within c.requires.masked c.if-top_mask-eq0.false _ c.mask.ensures.cell

pub returns-clause-largest : goal.returns-clause-largest
returns-clause-largest g c = largest_is c.requires.masked c.if-top_mask-eq0.false _ c.mask.ensures.cell
