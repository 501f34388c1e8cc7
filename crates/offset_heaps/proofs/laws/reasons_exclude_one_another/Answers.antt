use Rattle.offset_allocator.specs.Requests.{blocks_needed, units_needed}
use Rattle.offset_heaps.proofs.{Finders.fits, Finders.holds, Refusals.first_memory, Refusals.next_memory, Refusals.one_reason}
use Rattle.offset_heaps.proofs.laws.reasons_exclude_one_another.Goals as goal

pub returns-clause-one : goal.returns-clause-one
returns-clause-one c size align = one_reason (fits (blocks_needed align) (units_needed size align)) size align

pub returns-clause-found : goal.returns-clause-found
returns-clause-found c size align k hs = first_memory (fits (blocks_needed align) (units_needed size align)) size align hs k

pub returns-clause-made : goal.returns-clause-made
returns-clause-made c size align k hs = next_memory (fits (blocks_needed align) (units_needed size align)) size align hs k

pub returns-clause-tight : goal.returns-clause-tight
returns-clause-tight c size align = one_reason (holds size align) size align
