use Rattle.offset_allocator.proofs.{Common.arith, Common.common_steps, Moving.InPieces.stepped}
use Rattle.offset_allocator.proofs.moves.pieces.MovePiecesIterator.next.Goals as goal

pub returns-clause-steps : goal.returns-clause-steps
returns-clause-steps c = grind (arith, common_steps, stepped)

pub returns-clause-goes : goal.returns-clause-goes
returns-clause-goes c = grind (arith, common_steps, stepped)
