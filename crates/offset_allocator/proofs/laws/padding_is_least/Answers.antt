use Rattle.offset_allocator.proofs.Padding.{reaches, least}
use Rattle.offset_allocator.proofs.laws.padding_is_least.Goals as goal

pub returns-clause-reaches : goal.returns-clause-reaches
returns-clause-reaches c align offset some = reaches align offset some

pub returns-clause-smallest : goal.returns-clause-smallest
returns-clause-smallest c align offset k some h = least align offset some k h
