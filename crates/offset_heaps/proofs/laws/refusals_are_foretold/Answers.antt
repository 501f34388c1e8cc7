use Rattle.offset_allocator.specs.Requests.{blocks_needed, units_needed}
use Rattle.offset_heaps.proofs.{Finders.fits, Foretold.foretold}
use Rattle.offset_heaps.proofs.laws.refusals_are_foretold.Goals as goal

pub returns : goal.returns
returns c size align = foretold (fits (blocks_needed align) (units_needed size align)) size align
