use Rattle.offset_allocator.proofs.{Common.◌≡◌, Common.◌∙◌, Common.sym, Common.ap, Common.arith, Common.false≢true, Common.Node, Common.size_of, Resizing.grows_can, Resizing.grows_of}
use Rattle.offset_allocator.proofs.{Resizing.resized_counted, Resizing.size_there, Freeing.Release, Freeing.at, Freeing.named_live, Linking.Places.at_place, Reading.live_used, Sound.shown}
use Rattle.offset_allocator.proofs.{Sound.fields_of}
use Rattle.offset_allocator.proofs.AllocatorOf.grow_in_place.Goals as goal
use Rattle.offset_allocator.proofs.AllocatorOf.grow_in_place.{Goals.After-self, Goals.After-size-old_size, Given.Over}

-- where the block is, and its size
block : (g : Over) (c : After-self g) → Release (fields_of g.T.Tables.cells g.T.Index.NodeIndex.MAX c.self.inside) c.name-name.result
block g c = grind (arith, named_live, live_used)

size : (g : Over) (c : After-size-old_size g) (r : Release (fields_of g.T.Tables.cells g.T.Index.NodeIndex.MAX c.self.inside) c.name-name.result)
    → size_of c.name-name.result (shown (fields_of g.T.Tables.cells g.T.Index.NodeIndex.MAX c.self.inside)) ≡ c.size-old_size.result
size g c r = size_there r ∙ sym (c.size-old_size.ensures.cell ∙ ap (λ (v : Node). v.size) (at_place (at r).held))

there : (g : Over) (c : After-size-old_size g) (r : Release (fields_of g.T.Tables.cells g.T.Index.NodeIndex.MAX c.self.inside) c.name-name.result)
    → size_of c.args.allocation.name c.args.self.now ≡ c.size-old_size.result
there g c r = grind (arith, size)

pub size-old_size-requires : goal.size-old_size-requires
size-old_size-requires g c = (at (block g (goal.at.size-old_size-requires g c).After-self)).held.below

-- a call in the other direction
pub returns-then-size-old_size-clause-step : goal.returns-then-size-old_size-clause-step
returns-then-size-old_size-clause-step g c = grind (arith, there, block)

pub returns-then-size-old_size-clause-done : goal.returns-then-size-old_size-clause-done
returns-then-size-old_size-clause-done g c = (λ h. absurd (false≢true h), λ k. absurd ((returns-then-size-old_size-clause-step g c).0 k))

pub resize_to-requires-clause-old_size : goal.resize_to-requires-clause-old_size
resize_to-requires-clause-old_size g c = grind (arith, size, block)

pub returns-clause-step : goal.returns-clause-step
returns-clause-step g c = grind (arith, resized_counted, there, block, grows_of)

pub returns-clause-done : goal.returns-clause-done
returns-clause-done g c = grows_can c.args.allocation.name c.args.size c.args.self.now c.resize_to.new.self c.resize_to.result (returns-clause-step g c)

pub returns-clause-accesses_done : goal.returns-clause-accesses_done
returns-clause-accesses_done g c done l = grind (arith, there, block)
