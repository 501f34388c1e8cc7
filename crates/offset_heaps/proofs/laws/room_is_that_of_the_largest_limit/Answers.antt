use Rattle.std.proofs.Common.{ap, refl, ◌∙◌}
use Rattle.std.proofs.lemmas.Bool.{lt-ltb}
use Rattle.offset_heaps.specs.Heaps.{room}
use Rattle.offset_heaps.proofs.laws.room_is_that_of_the_largest_limit.Goals as goal

pub returns : goal.returns
returns c limits k g h blocks usual raised = ap (room limits k blocks) raised ∙ rw (lt-ltb k limits.most usual) refl
