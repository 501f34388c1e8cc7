use Rattle.offset_allocator.proofs.{Common.◌∙◌, Common.arith, Common.refl, Moving.Searching.none_left, Moving.Searching.some_left, Moving.Searching.sums_fit, Moving.Searching.and_used, Moving.Searching.and_free}
use Rattle.offset_allocator.proofs.moves.runs.Sums.and.Goals as goal

pub overflow_add-result : goal.overflow_add-result
overflow_add-result c = let h = c.requires.fits in omega (arith, (sums_fit h.1).0, h.2)

pub overflow_add-result-then-used : goal.overflow_add-result-then-used
overflow_add-result-then-used c = let h = c.requires.fits in omega (arith, (sums_fit h.1).2, h.3)

pub returns-then-used : goal.returns-then-used
returns-then-used c = record { sums = λ bs b is u h. and_used h b is (u ∙ c.if-used.true) }

pub overflow_add-result-2 : goal.overflow_add-result-2
overflow_add-result-2 c = let h = c.requires.fits in omega (arith, (sums_fit h.1).0, h.2)

pub overflow_add-result-then-left-eq0 : goal.overflow_add-result-then-left-eq0
overflow_add-result-then-left-eq0 c = let h = c.requires.fits in omega (arith, (sums_fit h.1).1, h.3)

pub returns-then-left-eq0 : goal.returns-then-left-eq0
returns-then-left-eq0 c = record { sums = λ bs b is u h. and_free h b is (u ∙ c.if-used.false) _ _ refl (omega (arith, none_left c.if-left-eq0.true)) }

pub returns-else-left-eq0 : goal.returns-else-left-eq0
returns-else-left-eq0 c = record { sums = λ bs b is u h. and_free h b is (u ∙ c.if-used.false) _ _ refl (omega (arith, some_left c.if-left-eq0.false)) }
