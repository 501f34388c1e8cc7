use Rattle.std.proofs.Common.{refl, ap, ◌∙◌, inl, inr}
use Rattle.offset_allocator.specs.Ranges.{range_of}
use Rattle.offset_allocator.proofs.{Sound.state_space, Views.ViewUndo.taken_back}
use Rattle.offset_uses.proofs.place_mesh.Goals as goal

-- the first range is freed
pub returns-in-None-clause-same : goal.returns-in-None-clause-same
returns-in-None-clause-same g c e = taken_back c.args.outer c.args.vertices.now c.allocate.new.self c.allocate-2.new.self c.free.new.self c.in_ok-one.one c.is_well_formed.ensures
    c.in_ok-one.ensures.step (c.allocate-2.ensures.same c.in-None.is) c.free.ensures.step

pub returns-in-None-clause-kept : goal.returns-in-None-clause-kept
returns-in-None-clause-kept g c x r e = ap (range_of x) (returns-in-None-clause-same g c refl) ∙ e

pub returns-in_err-one-clause-same : goal.returns-in_err-one-clause-same
returns-in_err-one-clause-same g c e = state_space c.args.vertices.now c.allocate.new.self (c.allocate.ensures.same c.in_err-one.was)

pub returns-in_err-one-clause-refused : goal.returns-in_err-one-clause-refused
returns-in_err-one-clause-refused g c e = inl (c.allocate.new.self, c.in_err-one.ensures.step)

pub returns-in-None-clause-refused : goal.returns-in-None-clause-refused
returns-in-None-clause-refused g c e = inr (c.allocate.new.self, c.allocate-2.new.self, c.in_ok-one.one, c.in_ok-one.ensures.step, c.in-None.ensures.step)

-- the second grant is apart from the first, which is live
pub returns-in-Some-clause-apart : goal.returns-in-Some-clause-apart
returns-in-Some-clause-apart g c = c.in-Some.ensures.grants.disjoint c.in_ok-one.one.name _ c.in_ok-one.ensures.grants.range
