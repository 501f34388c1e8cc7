-- What goes from heap to heap adds to the squares of the heaps' live units.
use Rattle.std.proofs.Common.{◌≡◌, ℕ, zero, suc, ◌+◌, ◌-◌, ◌*◌, ◌^◌, ◌<◌, ◌≤◌, Bool, true, false, List, [], ◌∷◌, ◌++◌, Option, Some, None, IsSome, is_some, length, min, slice_set, if◌then◌else◌, nat_eq, refl, sym, ap, ap₂, subst, subst₂}
use Rattle.std.proofs.Common.{◌∙◌, inl, inr, arith, append_assoc, mul-le-mul_left, mul-le-mul_right}
use Rattle.std.proofs.Math.Nat.{add-mul, mul-add, mul_comm}
use Rattle.std.proofs.lemmas.Bool.{cases_lt}
use Rattle.std.proofs.lemmas.Nat.{mul-le}
use Rattle.std.specs.List.{AllByRecursion}
use Rattle.offset_allocator.specs.{Ranges.Range, Relations.Splits, View.Block, View.Handle, View.IsWellFormed, View.Place as Position, View.View, View.count_named, View.free_block, View.free_part, View.one, View.place_of, View.tally, View.units}
use Rattle.offset_allocator.specs.{View.padding_to, Requests.blocks_needed, Requests.units_needed}
use Rattle.offset_allocator.specs.Ranges as named
use Rattle.offset_allocator.specs.Relations as space
use Rattle.offset_allocator.proofs.{Always.adds_up, Ranges.beside, Reading.range_at, Tallies.tally_append, Views.ViewPlaces.place_here}
use Rattle.offset_guarded.specs.Answers as tickets
use Rattle.offset_guarded.specs.Guard.{Guard, handle_in}
use Rattle.offset_guarded.specs.Guard as guarded
use Rattle.offset_heaps.specs.Calls.{GoAll, Goes}
use Rattle.offset_heaps.specs.Changing.{Alters}
use Rattle.offset_heaps.specs.Places.{Place, ticket_from, ticket_of}
use Rattle.offset_heaps.specs.Heaps.{Heaps, Grants, GrantsOld, heap_at, live_units_of, numbers, part, range_in, range_of, units_of_heap, slot, total}
use Rattle.offset_heaps.specs.Relocating.{TakesRange, live_units_at, most_ranks, rank, ranges_of, ranks, ranks_from, square_of, squares, units_in, size_of}
use Rattle.offset_heaps.specs.State as state
use Rattle.offset_heaps.proofs.Decided.{known, known_at}
use Rattle.offset_heaps.proofs.{Numbers.slot_other, Numbers.slot_there, Raising.must_in}

-- ---- what the live blocks of one heap add up to: their units, or how many they are
module _ (own : Block → ℕ) (idle : (b : Block) → b.used ≡ false → own b ≡ 0) where
  free_added : (x n : ℕ) → tally own (free_part x n) ≡ 0
  free_added x zero = refl
  free_added x (suc n) = let none = idle (free_block x (suc n)) refl in omega (arith, none)

  idle_added : (bs : List Block) → AllByRecursion (λ b. b.used ≡ false) bs → tally own bs ≡ 0
  idle_added [] free = refl
  idle_added (b ∷ bs) free = omega (arith, idle b free.0, idle_added bs free.1)

  splits_added : (needed n : ℕ) (at : ℕ → ℕ) (v w : View) (h : Handle) → (s : Splits needed n at v w h) → tally own w.blocks ≡ tally own v.blocks + own (record s.block { size = n; used = true })
  splits_added needed n at v w h s =
      let was = ap (tally own) s.blocks ∙ tally_append own s.before (s.block ∷ s.after) in
      let now = ap (λ (v : View). tally own v.blocks) s.view ∙ tally_append own s.before (s.parts ++ s.after) in
      let made = ap (tally own) s.made ∙ tally_append own (free_part s.padding_name s.padding) (record s.block { size = n; used = true } ∷ free_part s.remainder_name s.remainder) in
      omega (arith, was, idle s.block s.free, now, tally_append own s.parts s.after, made, free_added s.padding_name s.padding, free_added s.remainder_name s.remainder)

  frees_added : (x : ℕ) (v w : View) (f : space.Frees x v w) → tally own w.blocks + own f.block ≡ tally own v.blocks
  frees_added x v w f =
      let was = ap (tally own) f.blocks ∙ tally_append own f.before ((f.left ++ (f.block ∷ f.right)) ++ f.after) in
      let merged : Block = free_block x (units (f.left ++ (f.block ∷ f.right))) in
      let now = ap (λ (v : View). tally own v.blocks) f.view ∙ tally_append own f.before (merged ∷ f.after) in
      omega (arith, was, tally_append own (f.left ++ (f.block ∷ f.right)) f.after, tally_append own f.left (f.block ∷ f.right), tally_append own f.left f.right, idle_added (f.left ++ f.right) f.free, now, idle merged refl)

freed_size : (x : ℕ) (v w : View) (f : space.Frees x v w) → IsWellFormed v → units_in (named.range_of x v) ≡ f.block.size
freed_size x v w f known =
    let front : List Block = f.before ++ f.left in
    let behind : List Block = f.right ++ f.after in
    let parted : v.blocks ≡ front ++ f.block ∷ behind = f.blocks ∙ ap (λ (bs : List Block). f.before ++ bs) (append_assoc f.left (f.block ∷ f.right) f.after) ∙ sym (append_assoc f.before f.left (f.block ∷ behind)) in
    let once = ap (count_named x) parted in
    let most = known.distinct x in
    let alone = beside x front f.block behind (sym f.named) (omega (arith, once, most)) in
    ap (λ (o : Option Position). units_in (range_at o)) (ap (place_of x) parted ∙ place_here x front f.block behind alone.0 (sym f.named))
    ∙ ap (λ (u : Bool). units_in (if u then Some (record { offset = units front; size = f.block.size }) else None)) f.used

some_if : (b : Bool) (o : Option Range) → IsSome (if b then o else None) → (if b then o else None) ≡ o
some_if true o some = refl
some_if false o some = absurd (cc)

-- ---- sums over heaps
pub total_put : (f : Guard → ℕ) (slots : List (Option Guard)) (k : ℕ) (o : Option Guard) → k < length slots → total f (slice_set slots k o) + part f (slot k slots) ≡ total f slots + part f o
total_put f [] k o l = absurd (omega (arith, l))
total_put f (p ∷ slots) zero o l = omega arith
total_put f (p ∷ slots) (suc k) o l = let rest = total_put f slots k o (omega (arith, l)) in omega (arith, rest)

total_most : (f g : Guard → ℕ) (slots : List (Option Guard)) → ((k : ℕ) → part f (slot k slots) ≤ part g (slot k slots)) → total f slots ≤ total g slots
total_most f g [] each = omega arith
total_most f g (o ∷ slots) each = let here = each 0 in let rest = total_most f g slots (λ k. each (suc k)) in omega (arith, here, rest)

-- the same of a number that depends on the number of the heap too: its rank for each live range
abbrev weigh : ℕ → ℕ → Guard → ℕ
weigh n k g = ranges_of g * rank n k g

ranks_put : (n k : ℕ) (slots : List (Option Guard)) (j : ℕ) (o : Option Guard) → j < length slots
    → ranks_from n k (slice_set slots j o) + part (weigh n (k + j)) (slot j slots) ≡ ranks_from n k slots + part (weigh n (k + j)) o
ranks_put n k [] j o l = absurd (omega (arith, l))
ranks_put n k (p ∷ slots) zero o l = let e : k + 0 ≡ k = omega arith in rw e (omega arith)
ranks_put n k (p ∷ slots) (suc j) o l =
    let rest = ranks_put n (k + 1) slots j o (omega (arith, l)) in
    let e : k + suc j ≡ k + 1 + j = omega arith in
    rw e (omega (arith, rest))

ranks_at : (n : ℕ) (slots : List (Option Guard)) (j : ℕ) (o : Option Guard) → j < length slots
    → ranks_from n 0 (slice_set slots j o) + part (weigh n j) (slot j slots) ≡ ranks_from n 0 slots + part (weigh n j) o
ranks_at n slots j o l =
    let e : 0 + j ≡ j = omega arith in
    subst (λ m. ranks_from n 0 (slice_set slots j o) + part (weigh n m) (slot j slots) ≡ ranks_from n 0 slots + part (weigh n m) o) e (ranks_put n 0 slots j o l)

-- where each heap has less than 2 ^ 32 live units, the ranks are at most that for each live range
ranks_most : (n k : ℕ) (slots : List (Option Guard)) → ((j : ℕ) → part live_units_of (slot j slots) < 2 ^ 32) → ranks_from n k slots ≤ total ranges_of slots * (n * 2 ^ 32)
ranks_most n k [] few = omega arith
ranks_most n k (None ∷ slots) few =
    let rest = ranks_most n (k + 1) slots (λ j. few (suc j)) in
    let same : 0 + total ranges_of slots ≡ total ranges_of slots = omega arith in
    omega (arith, rest, ap (λ t. t * (n * 2 ^ 32)) same)
ranks_most n k (Some g ∷ slots) few =
    let rest = ranks_most n (k + 1) slots (λ j. few (suc j)) in
    let own : n * (live_units_of g + 1) ≤ n * 2 ^ 32 = mul-le-mul_left n (omega (arith, few 0)) in
    let more = mul-add n (live_units_of g) 1 in
    let low : rank n k g ≤ n * 2 ^ 32 = omega (arith, own, more) in
    let here : ranges_of g * rank n k g ≤ ranges_of g * (n * 2 ^ 32) = mul-le-mul_left (ranges_of g) low in
    omega (arith, rest, here, add-mul (ranges_of g) (total ranges_of slots) (n * 2 ^ 32))

-- ---- squares
square_more : (a u : ℕ) → (a + u) * (a + u) ≡ a * a + 2 * (u * a) + u * u
square_more a u = omega (arith, add-mul a u (a + u), mul-add a a u, mul-add u a u, mul_comm a u)

-- u units go from a heap of a live units, which keeps c, to one of b, which has d then
gained : (a b c d u old new : ℕ) → c + u ≡ a → d ≡ b + u → a ≤ b → new + a * a + b * b ≡ old + d * d + c * c → new ≡ old + 2 * (u * (b - a)) + 2 * (u * u)
gained a b c d u old new less more full sums =
    let was = ap (λ n. n * n) (sym less) ∙ square_more c u in
    let now = ap (λ n. n * n) more ∙ square_more b u in
    let apart : b ≡ (b - a) + (c + u) = omega (arith, less, full) in
    let split = ap (λ n. u * n) apart ∙ mul-add u (b - a) (c + u) in
    omega (arith, was, now, split, mul-add u c u, sums)

-- the square of the units of a heap
abbrev pub square_most : Guard → ℕ
square_most g = units_of_heap g * units_of_heap g

pub squares_most : (hs : Heaps) → state.IsWellFormed hs → squares hs ≤ total square_most hs.slots
squares_most hs w = total_most square_of square_most hs.slots (λ k. go (heap_at k hs) (λ g e. known_at hs (known hs w) k g e))
  where
    go : (o : Option Guard) → ((g : Guard) → o ≡ Some g → IsWellFormed g.space) → part square_of o ≤ part square_most o
    go None is = omega arith
    go (Some g) is =
        let all = adds_up g.space (is g refl) in
        mul-le (live_units_of g) (live_units_of g) (units_of_heap g) (units_of_heap g) (omega (arith, all)) (omega (arith, all))

-- ---- a range goes to another heap
module _ (p q : Place) (hs ks : Heaps) (known_well : state.IsWellFormed hs) (goes : Goes p q hs ks) where
  abbrev ls : Heaps
  ls = goes.between

  s : Grants (size_of p hs) goes.align hs ls (record { place = q; offset = goes.offset; is_new = false })
  s = goes.grants.grants

  takes : TakesRange p goes.align hs q.heap
  takes = goes.grants.first.0

  abbrev Asks : Guard → Guard → Type 0
  Asks g h = tickets.AllocatesAligned (size_of p hs) goes.align g h (Some (ticket_from goes.offset q))

  o : GrantsOld Asks hs.limits q.heap (blocks_needed goes.align) (heap_at q.heap hs) s.after
  o = elim s.step [ inl old ↦ old.1 | inr new ↦ absurd (let e : false ≡ true = new.0 in cc) ]

  asked : space.Aligns (size_of p hs) goes.align o.before.space s.after.space (Some (handle_in (ticket_from goes.offset q)))
  asked = o.by.step (o.by.can_grant.0 refl).0

  f : Alters p.heap (λ g h. tickets.Frees (ticket_of p) g h true) ls ks
  f = goes.frees.step refl

  freed_by : space.Frees p.name f.before.space f.after.space
  freed_by = f.by.step refl

  to : heap_at q.heap hs ≡ Some o.before
  to = elim o.raised [
    | inl up ↦ absurd (takes.1.stays (must_in hs.limits q.heap (blocks_needed goes.align) (heap_at q.heap hs) o.was o.heap up.0))
    | inr kept ↦ o.heap ∙ ap Some (sym kept.1)
  ]

  slots : ls.slots ≡ slice_set hs.slots q.heap (Some s.after)
  slots = ap (λ (h : Heaps). h.slots) s.heaps

  from : heap_at p.heap hs ≡ Some f.before
  from = sym (slot_other hs.slots q.heap p.heap (Some s.after) (λ e. takes.1.other (sym e))) ∙ sym (ap (slot p.heap) slots) ∙ f.heap

  grown : live_units_of s.after ≡ live_units_of o.before + size_of p hs
  grown = splits_added (λ b. if b.used then b.size else 0) (λ b e. ap (λ (u : Bool). if u then b.size else 0) e) (units_needed (size_of p hs) goes.align) (size_of p hs) (padding_to goes.align) o.before.space s.after.space
      (handle_in (ticket_from goes.offset q)) asked.1

  grown_size : units_of_heap s.after ≡ units_of_heap o.before
  grown_size = ap (λ (v : View). v.size) asked.1.view

  -- the units of the range are those of the block that is freed
  here : range_of p hs ≡ guarded.range_of (ticket_of p) f.before
  here = some_if (nat_eq p.realm hs.realm) (range_in (ticket_of p) (heap_at p.heap hs)) takes.0 ∙ ap (range_in (ticket_of p)) from

  freed : size_of p hs ≡ freed_by.block.size
  freed =
      ap units_in here
      ∙ ap units_in (some_if (guarded.fits (ticket_of p) f.before) (named.range_of p.name f.before.space) (subst IsSome here takes.0))
      ∙ freed_size p.name f.before.space f.after.space freed_by (known_at hs (known hs known_well) p.heap f.before from)

  lost : live_units_of f.after + size_of p hs ≡ live_units_of f.before
  lost = omega (arith, freed, frees_added (λ b. if b.used then b.size else 0) (λ b e. ap (λ (u : Bool). if u then b.size else 0) e) p.name f.before.space f.after.space freed_by, ap (λ (u : Bool). if u then freed_by.block.size else 0) freed_by.used)

  lost_size : units_of_heap f.after ≡ units_of_heap f.before
  lost_size = ap (λ (v : View). v.size) freed_by.view

  both_put : (g : Guard → ℕ) → total g ks.slots + g f.before + g o.before ≡ total g hs.slots + g s.after + g f.after
  both_put g =
      let first = total_put g hs.slots q.heap (Some s.after) s.number in
      let second = total_put g ls.slots p.heap (Some f.after) (slot_there ls.slots p.heap (ap is_some f.heap)) in
      let there = ap (total g) slots in
      let last = ap (λ (h : Heaps). total g h.slots) f.heaps in
      let source = ap (part g) f.heap in
      let target = ap (part g) to in
      omega (arith, first, second, there, last, source, target)

  pub squares_grow : squares ks ≡ squares hs + 2 * (size_of p hs * (live_units_at q.heap hs - live_units_at p.heap hs)) + 2 * (size_of p hs * size_of p hs)
  squares_grow =
      let source : live_units_at p.heap hs ≡ live_units_of f.before = ap (part live_units_of) from in
      let target : live_units_at q.heap hs ≡ live_units_of o.before = ap (part live_units_of) to in
      let full = takes.1.full in
      gained (live_units_at p.heap hs) (live_units_at q.heap hs) (live_units_of f.after) (live_units_of s.after) (size_of p hs) (squares hs) (squares ks) (omega (arith, lost, source)) (omega (arith, grown, target))
      full (omega (arith, both_put square_of, ap (λ n. n * n) source, ap (λ n. n * n) target))

  pub squares_more : squares hs + 2 * min 1 (size_of p hs) ≤ squares ks
  squares_more = elim (cases_lt 0 (size_of p hs)) [
    | inl some ↦ let one = mul-le 1 1 (size_of p hs) (size_of p hs) some some in omega (arith, squares_grow, one)
    | inr none ↦ omega (arith, squares_grow, none)
  ]

  pub sizes_stay : total square_most ks.slots ≡ total square_most hs.slots
  sizes_stay = omega (arith, both_put square_most, ap (λ n. n * n) grown_size, ap (λ n. n * n) lost_size)

  -- ---- ranks
  one_more : ranges_of s.after ≡ ranges_of o.before + 1
  one_more = splits_added (λ b. one b.used) (λ b e. ap one e) (units_needed (size_of p hs) goes.align) (size_of p hs) (padding_to goes.align) o.before.space s.after.space
      (handle_in (ticket_from goes.offset q)) asked.1

  one_less : ranges_of f.after + 1 ≡ ranges_of f.before
  one_less = let less = frees_added (λ b. one b.used) (λ b e. ap one e) p.name f.before.space f.after.space freed_by in omega (arith, less, ap one freed_by.used)

  ranges_stay : total ranges_of ks.slots ≡ total ranges_of hs.slots
  ranges_stay = omega (arith, both_put ranges_of, one_more, one_less)

  count_stays : numbers ks ≡ numbers hs
  count_stays = ap numbers f.heaps ∙ ap numbers s.heaps

  pub most_stays : most_ranks ks ≡ most_ranks hs
  most_stays = ap₂ (λ a b. a * (b * 2 ^ 32)) ranges_stay count_stays

  ranks_put_both : ranks ks + weigh (numbers hs) p.heap f.before + weigh (numbers hs) q.heap o.before ≡ ranks hs + weigh (numbers hs) q.heap s.after + weigh (numbers hs) p.heap f.after
  ranks_put_both =
      let n : ℕ = numbers hs in
      let first = ranks_at n hs.slots q.heap (Some s.after) s.number in
      let second = ranks_at n ls.slots p.heap (Some f.after) (slot_there ls.slots p.heap (ap is_some f.heap)) in
      let there = ap (ranks_from n 0) slots in
      let last = ap (λ (h : Heaps). ranks_from n 0 h.slots) f.heaps in
      let all = ap (λ m. ranks_from m 0 ks.slots) count_stays in
      let source = ap (part (weigh n p.heap)) f.heap in
      let target = ap (part (weigh n q.heap)) to in
      omega (arith, first, second, there, last, all, source, target)

  pub ranks_grow : size_of p hs ≡ 0 → ranks hs < ranks ks
  ranks_grow none =
      let n : ℕ = numbers hs in
      let a : ℕ = live_units_of f.before in
      let b : ℕ = live_units_of o.before in
      let source : live_units_at p.heap hs ≡ a = ap (part live_units_of) from in
      let target : live_units_at q.heap hs ≡ b = ap (part live_units_of) to in
      let left : rank n p.heap f.after ≡ rank n p.heap f.before = ap (λ m. n * m + (n - p.heap)) (let e : live_units_of f.after ≡ a = omega (arith, lost, none) in e) in
      let come : rank n q.heap s.after ≡ rank n q.heap o.before = ap (λ m. n * m + (n - q.heap)) (let e : live_units_of s.after ≡ b = omega (arith, grown, none) in e) in
      let below : q.heap < n = omega (arith, s.number, known_well.count) in
      let more : rank n p.heap f.before < rank n q.heap o.before = elim (takes.1.before none) [
        | inl fuller ↦
            let up : n * (a + 1) ≤ n * b = mul-le-mul_left n (omega (arith, fuller, source, target)) in
            omega (arith, up, mul-add n a 1, below)
        | inr lower ↦
            let up : n * a ≤ n * b = mul-le-mul_left n (let full = takes.1.full in omega (arith, full, source, target)) in
            omega (arith, up, lower, below)
      ] in
      let grown_by : weigh n q.heap s.after ≡ weigh n q.heap o.before + rank n q.heap o.before =
      ap₂ (λ r m. r * m) one_more come ∙ add-mul (ranges_of o.before) 1 (rank n q.heap o.before) ∙ ap (λ m. weigh n q.heap o.before + m) (let e : 1 * rank n q.heap o.before ≡ rank n q.heap o.before = omega arith in e) in
      let lost_by : weigh n p.heap f.before ≡ weigh n p.heap f.after + rank n p.heap f.before =
      ap (λ r. r * rank n p.heap f.before) (sym one_less) ∙ add-mul (ranges_of f.after) 1 (rank n p.heap f.before)
      ∙ ap₂ (λ r m. r + m) (ap (λ m. ranges_of f.after * m) (sym left)) (let e : 1 * rank n p.heap f.before ≡ rank n p.heap f.before = omega arith in e) in
      omega (arith, ranks_put_both, more, grown_by, lost_by)

-- ---- all together
few_live : (hs : Heaps) → state.IsWellFormed hs → (k : ℕ) → part live_units_of (heap_at k hs) < 2 ^ 32
few_live hs w k = go (heap_at k hs) (λ g e. known_at hs (known hs w) k g e)
  where
    go : (o : Option Guard) → ((g : Guard) → o ≡ Some g → IsWellFormed g.space) → part live_units_of o < 2 ^ 32
    go None is = omega arith
    go (Some g) is = let v = is g refl in omega (arith, adds_up g.space v, v.fits)

ranks_few : (hs : Heaps) → state.IsWellFormed hs → ranks hs ≤ most_ranks hs
ranks_few hs w = ranks_most (numbers hs) 0 hs.slots (few_live hs w)

pub units_end : (n : ℕ) (ps : List Place) (hs ks : Heaps) → state.IsWellFormed hs → GoAll n hs ps ks → squares hs + 2 * n ≤ total square_most hs.slots
units_end n [] hs ks w g = omega (arith, squares_most hs w, g.0)
units_end n (p ∷ ps) hs ks w g =
    let later = units_end g.4.0 ps g.1 ks g.3 g.4.2 in
    omega (arith, squares_more p g.0 hs g.1 w g.2, sizes_stay p g.0 hs g.1 w g.2, later, g.4.1)

-- what a range adds to the squares and the ranks together
step_more : (p q : Place) (hs ks : Heaps) → state.IsWellFormed hs → Goes p q hs ks → squares hs * (most_ranks hs + 1) + ranks hs + 1 ≤ squares ks * (most_ranks hs + 1) + ranks ks
step_more p q hs ks w goes = elim (cases_lt 0 (size_of p hs)) [
  | inl some ↦
      let m : ℕ = most_ranks hs + 1 in
      let up : squares hs + 2 ≤ squares ks = omega (arith, squares_more p q hs ks w goes, some) in
      let more : (squares hs + 2) * m ≤ squares ks * m = mul-le-mul_right m up in
      omega (arith, more, add-mul (squares hs) 2 m, ranks_few hs w)
  | inr none ↦
      let zero : size_of p hs ≡ 0 = omega (arith, none) in
      let up : squares hs ≤ squares ks = omega (arith, squares_more p q hs ks w goes) in
      let more : squares hs * (most_ranks hs + 1) ≤ squares ks * (most_ranks hs + 1) = mul-le-mul_right (most_ranks hs + 1) up in
      omega (arith, more, ranks_grow p q hs ks w goes zero)
]

pub all_end : (n : ℕ) (ps : List Place) (hs ks : Heaps) → state.IsWellFormed hs → GoAll n hs ps ks
    → squares hs * (most_ranks hs + 1) + ranks hs + length ps ≤ total square_most hs.slots * (most_ranks hs + 1) + most_ranks hs
all_end n [] hs ks w g =
    let low : squares hs * (most_ranks hs + 1) ≤ total square_most hs.slots * (most_ranks hs + 1) = mul-le-mul_right (most_ranks hs + 1) (squares_most hs w) in
    omega (arith, low, ranks_few hs w)
all_end n (p ∷ ps) hs ks w g =
    let now : Heaps = g.1 in
    let later = all_end g.4.0 ps now ks g.3 g.4.2 in
    let same : squares now * (most_ranks hs + 1) + ranks now + length ps ≤ total square_most hs.slots * (most_ranks hs + 1) + most_ranks hs =
    subst₂ (λ m t. squares now * (m + 1) + ranks now + length ps ≤ t * (m + 1) + m) (most_stays p g.0 hs now w g.2) (sizes_stay p g.0 hs now w g.2) later in
    omega (arith, step_more p g.0 hs now w g.2, same)
