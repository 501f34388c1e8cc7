-- The fields of an allocator, and what their invariant says of the view.
use Rattle.offset_allocator.proofs.Common.{◌≡◌, ℕ, ◌+◌, ◌≤◌, ◌∙◌, List, length, length-take-le, nat_lt, if◌then◌else◌, take, ap, sym, subst, arith, blocks, View, IsWellFormed, Cells, view_of, IsSound, SameSpace}
use Rattle.offset_allocator.specs.{Relations.SameState, View.AreNames}
use Rattle.offset_allocator.specs.declared.AllocatorOf.TheInside.{Inside}

-- the fields, with the largest number of the index type
pub record Fields : Type 0 where
  pub max : ℕ
  pub size : ℕ
  pub limit : ℕ
  pub cells : Cells
  pub last : ℕ
  pub count : ℕ
  pub top : ℕ
  pub free : ℕ
  pub accesses : ℕ

-- what contracts see of them
abbrev pub shown : Fields → View
shown it = view_of it.max it.size it.limit it.cells it.last it.count it.accesses

-- what is true of them between two calls
abbrev pub AreSound : Fields → Type 0
AreSound it = IsSound it.max it.size it.limit it.cells it.last it.count it.top it.free

-- the fields of an allocator
abbrev pub fields_of : {A B C : Type 0} → (A → Cells) → ℕ → Inside A B C → Fields
fields_of cells max a = record {
  max = max;
  size = a.size;
  limit = a.max_allocs;
  cells = cells a.store.tables;
  last = a.store.last;
  count = a.store.spare_count;
  top = a.store.top_mask;
  free = a.free_total;
  accesses = a.store.accesses;
}

-- whatever was counted
pub well_counted : (v : View) (k : ℕ) → IsWellFormed v → IsWellFormed (record v { accesses = k })
well_counted v k w = grind arith

-- the same state is the same space
pub state_space : (v w : View) → SameState v w → SameSpace v w
state_space v w e = e ∙ ap (λ (l : List ℕ). record v { unused = l; accesses = w.accesses }) (sym (ap (λ (u : View). u.unused) e))

-- whichever names are unused
pub well_unused : (v : View) (unused : List ℕ) (k : ℕ) → IsWellFormed v → IsWellFormed (record v { unused = unused; accesses = k })
well_unused v unused k w = grind arith

pub well_same : (v w : View) → SameSpace v w → IsWellFormed v → IsWellFormed w
well_same v w e k = subst IsWellFormed (sym e) (well_unused v w.unused w.accesses k)

-- the view of sound fields is well formed, and of a size that a word holds
pub known_sound : (f : Fields) → AreSound f → (v : View) → shown f ≡ v → IsWellFormed v × (v.size ≤ 4294967295)
known_sound f s v e = grind (arith, well_counted)

-- its names are those of the nodes that were made
pub names_sound : (f : Fields) → AreSound f → AreNames (shown f)
names_sound f s =
    let chain = s.space in
    let long : length (take f.count f.cells.chain.spare) ≡ f.count = length-take-le f.count f.cells.chain.spare (omega (arith, chain.full, chain.stack)) in
    record {
      each = λ x. chain.each x ∙ ap (λ n. if nat_lt x n then 1 else 0) {x = length f.cells.chain.nodes} {y = length (blocks f.cells.chain f.last) + length (take f.count f.cells.chain.spare)}
          (omega (arith, chain.full, long));
      made = omega (arith, chain.full, chain.within, s.memory, long);
    }
