use Rattle.offset_uses.proofs.InPieces.{IsPartly}
use Rattle.offset_uses.proofs.pool.copy_in_pieces.Given as goal

abbrev pub invariant-loop-piece : goal.invariant-loop-piece
invariant-loop-piece l = IsPartly l.range.from l.range.to l.range.size l.initial.bytes l.bytes l.piece-iterator
