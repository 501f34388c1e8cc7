-- What many heaps are, once the heap of a number has been changed.
use Rattle.std.specs.Prelude.{◌≡◌, Option}
use Rattle.std.specs.Borrow.{Fml, MutBor, RattleType, RestsIfNone}
use Rattle.std.specs.declared.cmp.PartialEq as eq
use Rattle.std.specs.declared.default.Default as default
use Rattle.std.specs.declared.fmt.Debug as debug
use Rattle.std.specs.declared.fmt.Display as display
use Rattle.offset_allocator.specs.declared.index.NodeIndex as index
use Rattle.offset_allocator.specs.declared.index.NodeIndexNonMax as name
use Rattle.offset_allocator.specs.declared.tables.Tables as tables
use Rattle.offset_heaps.specs.Heaps.{Heaps}
use Rattle.offset_heaps.specs.contracts.HeapsOf.{the_row}
use Rattle.offset_heaps.specs.declared.heap_mut.HeapMut.{HeapMut}

-- of a layout T with its index type I and its type of names N
module _ (T I N : RattleType) (t : tables.Ghosts T.Denot I.Denot N.Denot) (i : index.Ghosts I.Denot N.Denot) (d : default.Ghosts I.Denot) (n : name.Ghosts N.Denot)
    (e : eq.Ghosts N.Denot) (f : default.Ghosts N.Denot) (g : debug.Ghosts N.Denot) (h : display.Ghosts N.Denot) where
  -- what the heap that is lent leaves of them; or what they were, where none is
  abbrev pub Rests : MutBor Heaps → Option (HeapMut T.Denot I.Denot N.Denot t i d n e f g h) → Fml
  Rests s r = RestsIfNone (the_row T I N t i d n e f g h) s (λ v. v.heaps.ghost_name) r (λ hs. hs ≡ s.now)
