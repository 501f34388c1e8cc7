use Rattle.offset_allocator.proofs.Moving.Passes.{goes_on, comes_further}
use Rattle.offset_allocator.proofs.laws.a_pass_comes_further.Goals as goal

pub returns : goal.returns
returns c = record {
  more = λ s from u r o v w p some known left k next. goes_on s from u r some v w known left p o k next;
  behind = λ s from u r o n m v w x p q some known left k next l. comes_further s from u r some v w known left p o k next x q n m l;
}
