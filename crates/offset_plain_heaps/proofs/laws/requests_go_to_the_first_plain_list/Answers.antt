use Rattle.offset_plain_heaps.proofs.FirstLists.{aligned_first, tight_first}
use Rattle.offset_plain_heaps.proofs.laws.requests_go_to_the_first_plain_list.Goals as goal

pub returns-clause-aligned : goal.returns-clause-aligned
returns-clause-aligned l = aligned_first

pub returns-clause-tight : goal.returns-clause-tight
returns-clause-tight l = tight_first
