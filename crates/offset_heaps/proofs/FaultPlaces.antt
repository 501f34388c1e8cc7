-- The place of a fault of a heap is one of its bytes, or where they end.
use Rattle.std.proofs.Common.{◌≤◌, List, arith, length, ℕ}
use Rattle.offset_guarded.proofs.FaultPlaces as guarded
use Rattle.offset_guarded.proofs.States as guards
use Rattle.offset_heaps.specs.StateFaults.{IsHeapFault}
use Rattle.offset_heaps.specs.declared.limits.Limits.{Limits}
use Rattle.offset_heaps.specs.declared.state.StateFaultKind.{StateFaultKind}
use Rattle.offset_heaps.specs.declared.state.StateFaultKind.TheVariants.{Length, Form, Limits as OfLimits, Counts, Checksum, Place, Realm, Size, Heap}

pub heap_within : (limits : Limits) (max made most_allocs k : ℕ) (bytes : List ℕ) (at : ℕ) (kind : StateFaultKind) → IsHeapFault limits max made most_allocs k bytes at kind → at ≤ length bytes
heap_within limits max made most_allocs k bytes at Length f = absurd f
heap_within limits max made most_allocs k bytes at Form f = absurd f
heap_within limits max made most_allocs k bytes at OfLimits f = absurd f
heap_within limits max made most_allocs k bytes at Counts f = absurd f
heap_within limits max made most_allocs k bytes at Checksum f = absurd f
heap_within limits max made most_allocs k bytes at Place f = absurd f
heap_within limits max made most_allocs k bytes at Realm (place, (g, of, above)) = omega (arith, place, (guards.parts g bytes of.state).long)
heap_within limits max made most_allocs k bytes at Size (place, of) = omega (arith, place)
heap_within limits max made most_allocs k bytes at (Heap kind) (some, wrong) = guarded.fault_within max most_allocs bytes (record { at = at; kind = kind }) wrong
