-- What the slots are, once a `&mut` to one of their heaps has ended.
use Rattle.std.specs.Prelude.{ℕ, List, Option, Some, slice_set}
use Rattle.std.specs.Borrow.{Fml, Lends, MutBor, RattleType}
use Rattle.std.specs.declared.cmp.PartialEq as eq
use Rattle.std.specs.declared.default.Default as default
use Rattle.std.specs.declared.fmt.Debug as debug
use Rattle.std.specs.declared.fmt.Display as display
use Rattle.offset_allocator.specs.declared.index.NodeIndex as index
use Rattle.offset_allocator.specs.declared.index.NodeIndexNonMax as name
use Rattle.offset_allocator.specs.declared.tables.Tables as tables
use Rattle.offset_guarded.specs.Guard.{Guard}
use Rattle.offset_guarded.specs.contracts.GuardedOf as guarded
use Rattle.offset_heaps.specs.contracts.slots.Slots.{the_row}

-- of a layout T with its index type I and its type of names N
module _ (T I N : RattleType) (t : tables.Ghosts T.Denot I.Denot N.Denot) (i : index.Ghosts I.Denot N.Denot) (d : default.Ghosts I.Denot) (n : name.Ghosts N.Denot)
    (e : eq.Ghosts N.Denot) (f : default.Ghosts N.Denot) (g : debug.Ghosts N.Denot) (h : display.Ghosts N.Denot) where
  -- the number has the heap that was left behind the reference
  abbrev pub LendsHeap : MutBor (List (Option Guard)) → ℕ → MutBor Guard → Fml
  LendsHeap s k r = Lends (the_row T I N t i d n e f g h) (guarded.the_row T I N t i d n e f g h) s r (λ w. slice_set s.now k (Some w))
