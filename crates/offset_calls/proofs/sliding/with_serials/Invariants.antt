use Rattle.offset_calls.proofs.Common.{◌≡◌, ◌++◌, drop, map, move_view, serial_of}
use Rattle.offset_calls.specs.Slides.{numbered_move}
use Rattle.offset_calls.proofs.sliding.with_serials.Given as goal

-- the moves so far, and those that are left with their numbers
abbrev pub invariant-loop-i : goal.invariant-loop-i
invariant-loop-i g l = map move_view l.found.items ++ map (numbered_move (λ x. serial_of x l.space)) (drop l.i l.slides) ≡ map (numbered_move (λ x. serial_of x l.space)) l.slides
