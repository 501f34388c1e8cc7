-- Commands that are a nest, the collapse of three grants, and values of classes beyond 32 bits.
use Rattle.offset_script.proofs.Common.{◌≡◌, [], ◌∷◌, map, refl, value, up, down, State, start, after, IsNest, outline, collapse, releases}
use Rattle.offset_script.specs.declared.scripts.Command.TheVariants as command
use Rattle.offset_script.specs.Histories as history

-- a state, and a nest from it on
before_nest : State
before_nest = after (command.Alloc 10 ∷ command.Alloc 10 ∷ command.Alloc 10 ∷ command.Alloc 10 ∷ command.Free 1 ∷ command.Free 3 ∷ []) (start 100 16)

is_nest : IsNest before_nest (command.Alloc 5 ∷ command.Alloc 7 ∷ command.Free 6 ∷ command.Free 5 ∷ [])
unfolding before_nest value up down
is_nest = history.paired {k = 5} {inner = command.Alloc 7 ∷ command.Free 6 ∷ []} {outer = []} tt (
  20,
  refl,
) (history.paired {k = 6} {inner = []} {outer = []} tt (0, refl) history.done history.done)
    history.done

-- the collapse of three grants, and what their releases leave
collapsed : collapse (1 ∷ 2 ∷ 3 ∷ []) (outline (after (command.Alloc 10 ∷ command.Alloc 10 ∷ command.Alloc 10 ∷ command.Alloc 10 ∷ []) (start 60 8)).blocks)
    ≡ outline (after (command.Alloc 10 ∷ command.Alloc 10 ∷ command.Alloc 10 ∷ command.Alloc 10 ∷ releases (3 ∷ 1 ∷ 2 ∷ [])) (start 60 8)).blocks
unfolding value up down
collapsed = refl

-- values of classes that no size has, of which calls return the low 32 bits
values : map value (240 ∷ 247 ∷ 248 ∷ 255 ∷ []) ≡ 4294967296 ∷ 8053063680 ∷ 8589934592 ∷ 16106127360 ∷ []
unfolding value
values = refl
