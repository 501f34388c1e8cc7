-- Sums and bounds of a well formed view.
use Rattle.offset_allocator.proofs.{Taken.fitting, Classes.down_law, Views.ViewTaken.well_alone}
use Rattle.offset_allocator.proofs.Common.{◌≡◌, ℕ, ◌+◌, ◌*◌, ◌<◌, ◌≤◌, Bool, false, not, ◌&&◌, ◌↔◌, List, [], ◌∷◌, ◌++◌, length, sum, sym, ap, ap₂, subst, ◌∙◌, arith, le-leb, true≢false}
use Rattle.offset_allocator.proofs.Common.{AllByRecursion, sum_by-cons, value, up, down, Block, View, used_units, count_used, one, starts_free, reported_free, reported_largest, units, free_sizes}
use Rattle.offset_allocator.proofs.Common.{free_block, AreCoalesced, IsWellFormed, max_size, IsFresh, CanGrant, common_steps, None, Some, last_or, is_used_at, place_of, eq-eqb, ◌≢◌}
use Rattle.std.specs.Prelude.{IsTrue}

-- used and free units
pub parted : (bs : List Block) → used_units bs + sum (free_sizes bs) ≡ units bs
parted [] = grind (arith, common_steps)
parted (b ∷ bs) = grind (arith, common_steps, sum_by-cons, parted bs)

pub adds_up : (v : View) → IsWellFormed v → used_units v.blocks + sum (free_sizes v.blocks) ≡ v.size
adds_up v w = parted v.blocks ∙ w.whole

-- free neighbours
apart_after_one : (xs ys : List Block) → AreCoalesced (xs ++ ys) → AreCoalesced ys
apart_after_one [] ys a = a
apart_after_one (x ∷ xs) ys a = apart_after_one xs ys a.1

alone_if : (run after : List Block) → AreCoalesced (run ++ after) → AllByRecursion (λ b. b.used ≡ false) run → length run ≤ 1
alone_if [] after a f = omega arith
alone_if (b ∷ []) after a f = omega arith
alone_if (b ∷ c ∷ run) after a f = absurd (true≢false (ap₂ (λ (x y : Bool). not x && not y) (sym f.0) (sym f.1.0) ∙ a.0))

pub no_neighbours : (v : View) → IsWellFormed v → (before run after : List Block) → v.blocks ≡ before ++ (run ++ after) → AllByRecursion (λ b. b.used ≡ false) run → length run ≤ 1
no_neighbours v w before run after e f = alone_if run after (apart_after_one before (run ++ after) (subst AreCoalesced e w.apart)) f

-- free blocks are few: at most one more than the used ones, and no more where the first block is used
few : (bs : List Block) → AreCoalesced bs → length bs + one (not (starts_free bs)) ≤ 2 * count_used bs + 1
few [] a = grind arith
few (b ∷ bs) a = grind (arith, few bs a.1)

pub few_blocks : (v : View) → IsWellFormed v → length v.blocks ≤ 2 * count_used v.blocks + 1
few_blocks v w = let h = few v.blocks w.apart in omega (arith, h)

-- a full space
pub reports_nothing : (v : View) → v.max_allocs ≤ length v.blocks + 1 → (reported_free v ≡ 0) × (reported_largest v ≡ 0)
reports_nothing v h = grind (arith, le-leb)

head_of : (b c : Block) (bs cs : List Block) → b ∷ bs ≡ c ∷ cs → b ≡ c
head_of b c bs cs e = cc

-- a fresh space
only_block : (xs : List Block) (b : Block) (ys : List Block) (c : Block) → c ∷ [] ≡ xs ++ b ∷ ys → c ≡ b
only_block [] b ys c e = head_of c b [] ys e
only_block (x ∷ []) b ys c e = absurd (cc)
only_block (x ∷ y ∷ xs) b ys c e = absurd (cc)

module _ (size max_allocs n : ℕ) (v : View) (f : IsFresh size max_allocs v) (limit : 3 ≤ max_allocs) (sized : size ≤ max_size) where
  formed : IsWellFormed v
  formed = subst IsWellFormed (sym f.view) (well_alone (record v { max_allocs = max_allocs }) f.name size 0 [] (omega arith) f.below sized)

  there : v.blocks ≡ free_block f.name size ∷ []
  there = ap (λ (x : View). x.blocks) f.view

  room : length v.blocks + 1 < v.max_allocs
  room = omega (arith, ap length there, ap (λ (x : View). x.max_allocs) f.view)

  pub fresh_grants : CanGrant 1 n v ↔ (value (up n) ≤ size)
  fresh_grants = (
    λ h.
        let t = fitting n v formed h.1 in
        let block = only_block t.0.before t.0.block t.0.after (free_block f.name size) (sym there ∙ t.1) in
        (down_law size (up n) (omega arith)).0 (subst (λ z. up n ≤ down z) (ap (λ (b : Block). b.size) (sym block)) t.3),
    λ l. (room, (down size, (down_law size (up n) (omega arith)).1 l, λ e. let o = formed.binned (down size) f.name in absurd (grind (arith, e, o)))),
  )

-- free and used blocks
pub split_count : (bs : List Block) → length (free_sizes bs) + count_used bs ≡ length bs
split_count [] = grind (arith, common_steps)
split_count (b ∷ bs) = grind (arith, common_steps, split_count bs)

-- where no block is used, there is one
pub none_live : (v : View) → IsWellFormed v → (x : ℕ) → last_or None v.blocks ≡ Some x → length v.blocks ≡ 1 → (used : Bool) → used ≡ is_used_at (place_of x v.blocks)
    → IsTrue (not used) ↔ (count_used v.blocks ≡ 0)
none_live v w x ends one used e = go v.blocks ends one e
  where
    go : (bs : List Block) → last_or None bs ≡ Some x → length bs ≡ 1 → used ≡ is_used_at (place_of x bs) → IsTrue (not used) ↔ (count_used bs ≡ 0)
    go [] f l u = absurd (omega arith)
    go (b ∷ []) f l u = let same : b.name ≡ x = cc in let k = eq-eqb x b.name (sym same) in grind (arith, common_steps)
    go (b ∷ d ∷ bs) f l u = absurd (omega arith)

pub some_live : (v : View) → IsWellFormed v → length v.blocks ≢ 1 → count_used v.blocks ≢ 0
some_live v w l u = absurd (let f = few_blocks v w in let s = w.some in omega (arith, f, s, l, u))
