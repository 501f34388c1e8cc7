-- Rows of linked nodes: split, appended, and left alone by writes elsewhere.
use Rattle.offset_allocator.proofs.Common.{◌≡◌, ◌≢◌, ℕ, zero, suc, ◌+◌, ◌≤◌, Option, None, Some, List, [], ◌∷◌, ◌++◌, length, refl, ◌∙◌, arith, add_assoc, zero-add, add-zero, cases_eq, ChainCells}
use Rattle.offset_allocator.proofs.Common.{node, first_or, last_or, IsRow, Block, units, count_named}
use Rattle.offset_allocator.proofs.Tallies.{one-same, one-eq}
use Rattle.offset_allocator.specs.Chain.{blocks_back}

-- the first of a list is in it
pub times-first : (k : ℕ) (bs : List Block) → first_or None bs ≡ Some k → 1 ≤ count_named k bs
times-first k [] e = cc
times-first k (b ∷ bs) e = let same : b.name ≡ k = cc in omega (arith, one-eq k b.name same)

pub times-last : (k p : ℕ) (bs : List Block) → last_or (Some p) bs ≡ Some k → (count_named k bs ≡ 0) → p ≡ k
times-last k p [] e h = cc
times-last k p (b ∷ bs) e h =
    let same : b.name ≡ k = times-last k b.name bs e (omega arith) in
    absurd (omega (arith, one-eq k b.name same))

-- the last of a list is in it
pub times-end : (k : ℕ) (bs : List Block) → last_or None bs ≡ Some k → 1 ≤ count_named k bs
times-end k [] e = grind arith
times-end k (b ∷ bs) e = grind (arith, cases_eq, one-eq, times-last)

pub first_or-append : (q : Option ℕ) (fs bs : List Block) → first_or q (fs ++ bs) ≡ first_or (first_or q bs) fs
first_or-append q [] bs = refl
first_or-append q (a ∷ fs) bs = refl

pub last_or-append : (p : Option ℕ) (fs bs : List Block) → last_or p (fs ++ bs) ≡ last_or (last_or p fs) bs
last_or-append p [] bs = refl
last_or-append p (a ∷ fs) bs = last_or-append (Some a.name) fs bs

-- a row split in two
pub IsRow-front : (c : ChainCells) (p : Option ℕ) (o : ℕ) (fs bs : List Block) (q : Option ℕ) → IsRow c p o (fs ++ bs) q → IsRow c p o fs (first_or q bs)
IsRow-front c p o [] bs q h = tt
IsRow-front c p o (a ∷ fs) bs q h = (rw (first_or-append q fs bs) at h.0, IsRow-front c (Some a.name) (o + a.size) fs bs q h.1)

pub IsRow-back : (c : ChainCells) (p : Option ℕ) (o : ℕ) (fs bs : List Block) (q : Option ℕ) → IsRow c p o (fs ++ bs) q → IsRow c (last_or p fs) (o + units fs) bs q
IsRow-back c p o [] bs q h = rw (add-zero o) h
IsRow-back c p o (a ∷ fs) bs q h = rw (← add_assoc o a.size (units fs)) (IsRow-back c (Some a.name) (o + a.size) fs bs q h.1)

pub IsRow-append : (c : ChainCells) (p : Option ℕ) (o : ℕ) (fs bs : List Block) (q : Option ℕ) → IsRow c p o fs (first_or q bs)
    → IsRow c (last_or p fs) (o + units fs) bs q → IsRow c p o (fs ++ bs) q
IsRow-append c p o [] bs q g h = grind (arith, add-zero)
IsRow-append c p o (a ∷ fs) bs q g h = grind (arith, first_or-append, add_assoc, IsRow-append c (Some a.name) (o + a.size) fs bs q g.1 (rw (← add_assoc o a.size (units fs)) at h))

-- the node of a block of a row
pub node_at : (c : ChainCells) (fs : List Block) (b : Block) (cs : List Block) (x : ℕ) → IsRow c None 0 (fs ++ b ∷ cs) None → b.name ≡ x
    → node c x ≡ record { offset = units fs; size = b.size; used = b.used; before = last_or None fs; after = first_or None cs }
node_at c fs b cs x row e = grind (arith, IsRow-back)

-- writes at other names leave a row
pub IsRow-kept : (c d : ChainCells) (p : Option ℕ) (o : ℕ) (bs : List Block) (q : Option ℕ) → ((k : ℕ) → 1 ≤ count_named k bs → node d k ≡ node c k)
    → IsRow c p o bs q → IsRow d p o bs q
IsRow-kept c d p o [] q same h = tt
IsRow-kept c d p o (b ∷ bs) q same h = (same b.name (omega (arith, one-same b.name)) ∙ h.0, IsRow-kept c d (Some b.name) (o + b.size) bs q (λ k l. same k (omega arith)) h.1)

-- a row whose first node is linked back to another
pub IsRow-moved : (c d : ChainCells) (p p' : Option ℕ) (o : ℕ) (bs : List Block) (q : Option ℕ) → ((k : ℕ) → count_named k bs ≤ 1)
    → ((z : ℕ) → first_or None bs ≡ Some z → node d z ≡ record (node c z) { before = p' })
    → ((k : ℕ) → 1 ≤ count_named k bs → first_or None bs ≢ Some k → node d k ≡ node c k) → IsRow c p o bs q → IsRow d p' o bs q
IsRow-moved c d p p' o [] q once head others h = grind arith
IsRow-moved c d p p' o (b ∷ bs) q once head others h = grind (arith, IsRow-kept, one-eq)

-- a row whose last node is linked on to another
pub IsRow-aimed : (c d : ChainCells) (p : Option ℕ) (o : ℕ) (bs : List Block) (q q' : Option ℕ) → ((k : ℕ) → count_named k bs ≤ 1)
    → ((z : ℕ) → last_or None bs ≡ Some z → node d z ≡ record (node c z) { after = q' }) → ((k : ℕ) → 1 ≤ count_named k bs → last_or None bs ≢ Some k → node d k ≡ node c k)
    → IsRow c p o bs q → IsRow d p o bs q'
IsRow-aimed c d p o [] q q' once end others h = tt
IsRow-aimed c d p o (b ∷ []) q q' once end others h = (rw h.0 at (end b.name refl), tt)
IsRow-aimed c d p o (b ∷ b' ∷ bs) q q' once end others h = (
  others b.name (omega (arith, one-same b.name)) (λ e. omega (arith, once b.name, one-same b.name, times-end b.name (b' ∷ bs) e)) ∙ h.0,
  IsRow-aimed c d (Some b.name) (o + b.size) (b' ∷ bs) q q' (λ k. omega (arith, once k)) end (λ k l ne. others k (omega arith) ne) h.1,
)

-- the walk back from the end of a row is the row
pub walk-row : (c : ChainCells) (p : Option ℕ) (o : ℕ) (bs : List Block) (q : Option ℕ) (f : ℕ) (rest : List Block) → IsRow c p o bs q
    → blocks_back c (length bs + f) (last_or p bs) rest ≡ blocks_back c f p (bs ++ rest)
walk-row c p o [] q f rest h = grind (arith, zero-add)
walk-row c p o (b ∷ bs) q f rest h = grind (arith, walk-row c (Some b.name) (o + b.size) bs q (suc f) rest h.1)

pub walk-none : (c : ChainCells) (f : ℕ) (rest : List Block) → blocks_back c f None rest ≡ rest
walk-none c zero rest = refl
walk-none c (suc f) rest = refl
