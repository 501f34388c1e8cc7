use Rattle.offset_allocator.proofs.Raised.{aligns_raised, allocates_raised, at_raised, compacts_raised, extends_raised, relocates_aligned_raised, relocates_raised, retracts_raised, frees_raised, fresh_raised, grows_raised, resets_raised, same_raised, shrinks_raised, tight_raised}
use Rattle.offset_allocator.proofs.laws.a_raised_limit_changes_no_answer.Goals as goal

pub returns : goal.returns
returns c = record {
  fresh = fresh_raised;
  raised = same_raised;
  allocate = λ limit n v v' w w' known l same. allocates_raised limit v v' w w' known l same n;
  allocate_aligned = λ limit n align v v' w w' known l same. aligns_raised limit v v' w w' known l same n align;
  allocate_tight = λ limit n align v v' w w' known l same. tight_raised limit v v' w w' known l same n align;
  relocate = λ limit x v v' w w' known l same. relocates_raised limit v v' w w' known l same x;
  relocate_aligned = λ limit x align v v' w w' some known l same. relocates_aligned_raised limit v v' w w' known l same x align some;
  allocate_at = λ limit offset n v v' w w' known l same. at_raised limit v v' w w' known l same offset n;
  free = λ limit x v v' w w' known l same. frees_raised limit v v' w w' known l same x;
  reset = λ limit v v' w w' known l same. resets_raised limit v v' w w' known l same;
  extend = λ limit more v v' w w' known l same. extends_raised limit v v' w w' known l same more;
  retract = λ limit less v v' w w' known l same. retracts_raised limit v v' w w' known l same less;
  shrink = λ limit x n v v' w w' known l same. shrinks_raised limit v v' w w' known l same x n;
  grow = λ limit x n v v' w w' known l same. grows_raised limit v v' w w' known l same x n;
  compact = λ limit v v' w w' known l same. compacts_raised limit v v' w w' known l same;
}
