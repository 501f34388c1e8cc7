use Rattle.offset_allocator.proofs.{Sound.fields_of, Sound.known_sound, Reading.live_below, Reading.live_size, Reading.live_offset}
use Rattle.offset_allocator.proofs.Common.{◌≡◌, ◌+◌, ◌-◌, ℕ, refl, Some, sym, ap, subst, ◌∙◌, arith, View, Handle, Aligns, IsLive, IsWellFormed, Option, unwrap_or, size_of}
use Rattle.offset_allocator.proofs.Moving.Begins.{Begins, none_relocates, later_relocates, earlier_relocates, far_refuses}
use Rattle.offset_allocator.specs.{Moving.Relocating.WouldBegin, Moving.Relocating.offset_of, Moving.Relocating.RelocatesAligned, Relations.SameState}
use Rattle.offset_allocator.proofs.AllocatorOf.relocate_to.Goals as goal
use Rattle.offset_allocator.proofs.AllocatorOf.relocate_to.{Goals.After-block_begin, Goals.After-serve, Given.Over}

pub size-size-requires : goal.size-size-requires
size-size-requires g c =
    live_below (fields_of g.T.Tables.cells g.T.Index.NodeIndex.MAX c.self.inside) _ c.self.invariant _ c.self.view_is
    (subst (λ (x : ℕ). IsLive x c.args.self.now) (sym c.name-name.ensures.number) c.requires.live)

pub offset-old-requires : goal.offset-old-requires
offset-old-requires g c =
    live_below (fields_of g.T.Tables.cells g.T.Index.NodeIndex.MAX c.self.inside) _ c.self.invariant _ c.self.view_is
    (subst (λ (x : ℕ). IsLive x c.args.self.now) (sym c.name-name.ensures.number) c.requires.live)

-- more units are needed than a space can have
pub returns-then-size-align-clause-step : goal.returns-then-size-align-clause-step
returns-then-size-align-clause-step g c =
    let size : c.size-size.result ≡ size_of c.args.allocation.name c.args.self.now = c.size-size.ensures.cell
    ∙ live_size (fields_of g.T.Tables.cells g.T.Index.NodeIndex.MAX c.self.inside) _ c.self.invariant _ c.self.view_is
    (subst (λ (x : ℕ). IsLive x c.args.self.now) (sym c.name-name.ensures.number) c.requires.live)
    ∙ ap (λ (i : ℕ). size_of i c.args.self.now) c.name-name.ensures.number in
    let known = (known_sound (fields_of g.T.Tables.cells g.T.Index.NodeIndex.MAX c.self.inside) c.self.invariant c.args.self.now c.self.view_is).0 in
    let far = far_refuses c.args.self.now c.args.allocation.name c.args.align c.size-size.result (offset_of c.args.allocation.name c.args.self.now) c.requires.alignment size refl known
    (omega (arith, c.if-size-align.true)) in
    (λ m room b. far m b, rw (← c.self.view_is) refl)

pub returns-then-size-align-clause-accesses_min : goal.returns-then-size-align-clause-accesses_min
returns-then-size-align-clause-accesses_min g c few =
    let size : c.size-size.result ≡ size_of c.args.allocation.name c.args.self.now = c.size-size.ensures.cell
    ∙ live_size (fields_of g.T.Tables.cells g.T.Index.NodeIndex.MAX c.self.inside) _ c.self.invariant _ c.self.view_is
    (subst (λ (x : ℕ). IsLive x c.args.self.now) (sym c.name-name.ensures.number) c.requires.live)
    ∙ ap (λ (i : ℕ). size_of i c.args.self.now) c.name-name.ensures.number in
    absurd (omega (arith, few, size, c.requires.alignment, c.if-size-align.true))

-- the numbers that were read are those of the range
its_size : (g : Over) (c : After-block_begin g) → c.size-size.result ≡ size_of c.args.allocation.name c.args.self.now
its_size g c = c.size-size.ensures.cell
    ∙ live_size (fields_of g.T.Tables.cells g.T.Index.NodeIndex.MAX c.self.inside) _ c.self.invariant _ c.self.view_is
    (subst (λ (x : ℕ). IsLive x c.args.self.now) (sym c.name-name.ensures.number) c.requires.live)
    ∙ ap (λ (i : ℕ). size_of i c.args.self.now) c.name-name.ensures.number

its_offset : (g : Over) (c : After-block_begin g) → c.offset-old.result ≡ offset_of c.args.allocation.name c.args.self.now
its_offset g c = c.offset-old.ensures.cell
    ∙ ap (λ (q : Option ℕ). unwrap_or q 0)
    (live_offset (fields_of g.T.Tables.cells g.T.Index.NodeIndex.MAX c.self.inside) _ c.self.invariant _ c.self.view_is
    (subst (λ (x : ℕ). IsLive x c.args.self.now) (sym c.name-name.ensures.number) c.requires.live))
    ∙ ap (λ (i : ℕ). offset_of i c.args.self.now) c.name-name.ensures.number

-- what was found of the block
found : (g : Over) (c : After-block_begin g) → Begins c.args.self.now c.args.allocation.name c.args.align c.size-size.result c.offset-old.result c.requires.alignment (its_size g c) (its_offset g c) c.block_begin.result
found g c =
    subst (λ (v : View). (k : ℕ) × ((m : ℕ) → WouldBegin (c.size-size.result + (c.args.align - 1)) (record v { accesses = k }) m → c.block_begin.result ≡ Some m)) c.self.view_is
    (_, c.block_begin.ensures.begins)

the_same : (g : Over) (c : After-block_begin g) → SameState c.args.self.now c.block_begin.new.self
the_same g c = subst (λ (v : View). SameState v c.block_begin.new.self) c.self.view_is c.block_begin.ensures.same

pub returns-in_err-begins-clause-step : goal.returns-in_err-begins-clause-step
returns-in_err-begins-clause-step g c =
    let at = (goal.at.returns-in_err-begins-clause-step g c).After-block_begin in
    subst (λ (h : Option Handle). RelocatesAligned c.args.allocation.name c.args.align c.args.self.now c.block_begin.new.self h) (sym c.from_residual.ensures)
    (none_relocates c.args.self.now c.args.allocation.name c.args.align c.size-size.result c.offset-old.result c.requires.alignment (its_size g at) (its_offset g at) c.block_begin.result
    (found g at) c.in_err-begins.was c.block_begin.new.self (the_same g at))

pub returns-then-begins-old-clause-step : goal.returns-then-begins-old-clause-step
returns-then-begins-old-clause-step g c =
    let at = (goal.at.returns-then-begins-old-clause-step g c).After-block_begin in
    earlier_relocates c.args.self.now c.args.allocation.name c.args.align c.size-size.result c.offset-old.result c.requires.alignment (its_size g at) (its_offset g at) c.block_begin.result
    (found g at) c.in_ok-begins.begins c.in_ok-begins.was c.if-begins-old.true
    c.block_begin.new.self.accesses c.serve.new.self c.serve.result
    (subst (λ (v : View). Aligns c.size-size.result c.args.align v c.serve.new.self c.serve.result) (the_same g at) c.serve.ensures.step)

formed : (g : Over) (c : After-block_begin g) → IsWellFormed c.args.self.now
formed g c = (known_sound (fields_of g.T.Tables.cells g.T.Index.NodeIndex.MAX c.self.inside) c.self.invariant c.args.self.now c.self.view_is).0

pub returns-else-begins-old-clause-step : goal.returns-else-begins-old-clause-step
returns-else-begins-old-clause-step g c =
    let at = (goal.at.returns-else-begins-old-clause-step g c).After-block_begin in
    later_relocates c.args.self.now c.args.allocation.name c.args.align c.size-size.result c.offset-old.result c.requires.alignment (its_size g at) (its_offset g at) c.block_begin.result
    (found g at) c.in_ok-begins.begins c.in_ok-begins.was (omega (arith, c.if-begins-old.false))
    c.block_begin.new.self (the_same g at)
