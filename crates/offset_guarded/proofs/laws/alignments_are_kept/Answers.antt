use Rattle.offset_guarded.proofs.Continued.{all_happened, asked, happened, inherited, keeps_asked}
use Rattle.offset_guarded.proofs.laws.alignments_are_kept.Goals as goal

pub returns-clause-each : goal.returns-clause-each
returns-clause-each c = happened

pub returns-clause-kept : goal.returns-clause-kept
returns-clause-kept c = keeps_asked

pub returns-clause-granted : goal.returns-clause-granted
returns-clause-granted c = asked

pub returns-clause-second : goal.returns-clause-second
returns-clause-second c = inherited

pub returns-clause-lists : goal.returns-clause-lists
returns-clause-lists c n align g h i t es s at all r e = ((all_happened h es i all t align (asked n align g h t s at)).1 r e).1
