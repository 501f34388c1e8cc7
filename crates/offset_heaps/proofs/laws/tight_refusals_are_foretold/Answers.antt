use Rattle.offset_heaps.proofs.{Finders.holds, Foretold.foretold}
use Rattle.offset_heaps.proofs.laws.tight_refusals_are_foretold.Goals as goal

pub returns : goal.returns
returns c size align = foretold (holds size align) size align
