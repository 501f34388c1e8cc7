use Rattle.offset_allocator.proofs.Moving.RoomAdvice.{granted_moves_none, fragmented_moves, space_moves_none, large_moves_none}
use Rattle.offset_allocator.proofs.laws.room_is_advised.Goals as goal

pub returns : goal.returns
returns g c = record {
  granted = λ n k can h. granted_moves_none c.args.allocator.now c.formed.ensures n k can h;
  fragmented = λ n k why h. fragmented_moves c.args.allocator.now c.formed.ensures n why k h;
  space = λ n k why h. space_moves_none c.args.allocator.now c.formed.ensures n k why h;
  large = λ n k why h. large_moves_none c.args.allocator.now c.formed.ensures n k why h;
}
