-- The heap of a number, as it was read of its bytes, or why it is refused.
use Rattle.std.proofs.Common.{◌≡◌, ℕ, ◌+◌, ◌<◌, ◌≤◌, List, Option, None, Some, length, refl, sym, ap, subst, arith}
use Rattle.offset_guarded.specs.Guard.{Guard}
use Rattle.offset_guarded.specs.State as guarded
use Rattle.offset_guarded.proofs.States as guards
use Rattle.offset_heaps.specs.declared.limits.Limits.{Limits}
use Rattle.offset_heaps.specs.declared.state.StateFaultKind.TheVariants.{Size}
use Rattle.offset_heaps.specs.{Heaps.IsOfKind, State.IsHeapFormed, State.IsHeapRead, State.IsHeapState, State.quiet, StateFaults.IsHeapFault}

module _ (limits : Limits) (max made most k : ℕ) (bytes : List ℕ) (g : Guard) (read : guarded.IsRestored bytes most g) (formed : guarded.IsWellFormed g) where
  rests : quiet (Some g) ≡ Some g
  rests = ap (λ (n : ℕ). Some (record g { space = record g.space { accesses = n } })) (sym read.1)

  pub heap_read : g.space.max_allocs + 1 < max → g.realm ≤ made → IsOfKind limits k g → IsHeapRead limits max made most k bytes (Some g)
  heap_read low below kind = record { state = read.0; formed = (formed, below, kind); admitted = (low, read.2); rests = rests }

  -- it is not of the kind of its number
  pub heap_fault : g.space.max_allocs + 1 < max → g.realm ≤ made → (IsOfKind limits k g → ⊥) → IsHeapFault limits max made most k bytes 0 Size
  heap_fault low below not = (refl, (g, record { state = read.0; formed = formed; admitted = (low, read.2) }, below, not))

  pub heap_refused : ((h : Guard) → guarded.IsWellFormed h → guarded.IsStateOf h bytes → guarded.SameGuard g h) → (IsOfKind limits k g → ⊥)
      → (o : Option Guard) → IsHeapFormed limits made k o → IsHeapState o bytes → ⊥
  heap_refused one not None is state = omega (arith, ap length state, (guards.parts g bytes read.0).long)
  heap_refused one not (Some h) is state = not (subst (IsOfKind limits k) (one h is.0 state) is.2)
