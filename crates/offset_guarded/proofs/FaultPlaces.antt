-- The place of a fault is one of the bytes, or where they end.
use Rattle.std.proofs.Common.{◌≡◌, ◌+◌, ◌*◌, ◌≤◌, Bool, List, ap, arith, drop, inl, inr, if◌then◌else◌, length, ℕ}
use Rattle.std.proofs.lemmas.Bool.{cases_lt, le-ltb, lt-ltb}
use Rattle.std.proofs.lemmas.List.{length-drop}
use Rattle.offset_allocator.proofs.Saving.FaultPlaces as allocator
use Rattle.offset_guarded.proofs.Bytes.{length-numbers}
use Rattle.offset_guarded.specs.{Numbers.number_at, StateFaults.IsFault, StateFaults.IsFaultOf, StateFaults.serial_place}
use Rattle.offset_guarded.specs.declared.state.StateFault.{StateFault}
use Rattle.offset_guarded.specs.declared.state.StateFaultKind.{StateFaultKind}
use Rattle.offset_guarded.specs.declared.state.StateFaultKind.TheVariants.{Length, Form, Realm, Step, Checksum, Serial, Allocator}

serial_within : (x n : ℕ) (cells : List ℕ) → length cells ≡ n → serial_place x cells ≤ 48 + 8 * n
serial_within x n cells long = elim (cases_lt x (length cells)) [
  | inl l ↦ omega (arith, l, long, ap {B = ℕ} (λ (t : Bool). if t then 48 + 8 * x else 16) (lt-ltb x (length cells) l))
  | inr g ↦ omega (arith, ap {B = ℕ} (λ (t : Bool). if t then 48 + 8 * x else 16) (le-ltb x (length cells) g))
]

kind_within : (max most : ℕ) (bytes : List ℕ) (at : ℕ) (kind : StateFaultKind) → IsFaultOf max most bytes at kind → at ≤ length bytes
kind_within max most bytes at Length f = omega (arith, f.0)
kind_within max most bytes at Form f = omega (arith, f.0)
kind_within max most bytes at Realm f = omega (arith, f.0, f.1.0)
kind_within max most bytes at Step f = omega (arith, f.0, f.1.0)
kind_within max most bytes at Checksum f = omega (arith, f.0, f.2)
kind_within max most bytes at Serial (hd, (v, of, (x, place, first))) =
    omega (arith, place, hd.long, serial_within x (number_at bytes 2) _ (length-numbers (number_at bytes 2) (drop 48 bytes)))
kind_within max most bytes at (Allocator kind) (hd, (inner, place, wrong)) =
    let start : ℕ = 56 + 8 * number_at bytes 2 in
    omega (arith, place, hd.long, allocator.fault_within max most (drop start bytes) (record { at = inner; kind = kind }) wrong, length-drop start bytes)

pub fault_within : (max most : ℕ) (bytes : List ℕ) (f : StateFault) → IsFault max most bytes f → f.at ≤ length bytes
fault_within max most bytes f wrong = kind_within max most bytes f.at f.kind wrong
