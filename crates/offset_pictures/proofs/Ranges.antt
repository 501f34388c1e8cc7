-- What a call does to the range of a grant.
use Rattle.std.proofs.Common.{◌≡◌, ◌≢◌, ℕ, zero, suc, ◌+◌, ◌-◌, ◌≤◌, Bool, true, false, List, [], ◌∷◌, ◌++◌, Option, Some, None, nat_eq, if◌then◌else◌, refl, sym, ap, ap₂, ◌∙◌, inl, inr, arith}
use Rattle.std.proofs.Common.{ne_eqb, eq-eqb, append-nil}
use Rattle.offset_allocator.specs.View.{one}
use Rattle.std.proofs.lemmas.Bool.{cases_eq, true≢false, false≢true}
use Rattle.offset_script.specs.Machine.{Tag, Live, Free, Block, block, is_free, has_number, total, Place, place_of, free_part, coalesce}
use Rattle.offset_script.proofs.Lists.{count, hit, whole, count-append, total-append, AreFree, coalesced}
use Rattle.offset_script.proofs.{Found.found_at, Found.number_hit, Well.granted_blocks}
use Rattle.offset_pictures.specs.Lives.{range_of}

-- the first of two options that is not `None`
abbrev pub either_of : Option (ℕ × ℕ) → Option (ℕ × ℕ) → Option (ℕ × ℕ)
either_of None y = y
either_of (Some r) y = Some r

either_if : (x : Bool) (r : ℕ × ℕ) (y z : Option (ℕ × ℕ)) → (if x then Some r else either_of y z) ≡ either_of (if x then Some r else y) z
either_if true r y z = refl
either_if false r y z = refl

pub range-append : (k offset : ℕ) (xs ys : List Block) → range_of k offset (xs ++ ys) ≡ either_of (range_of k offset xs) (range_of k (offset + total xs) ys)
range-append k offset [] ys = ap (λ o. range_of k o ys) (omega arith)
range-append k offset (b ∷ xs) ys =
    ap (λ r. if has_number k b.tag then Some (offset, b.size) else r)
    (range-append k (offset + b.size) xs ys ∙ ap (λ o. either_of (range_of k (offset + b.size) xs) (range_of k o ys)) (omega arith))
    ∙ either_if (has_number k b.tag) (offset, b.size) (range_of k (offset + b.size) xs) (range_of k (offset + (b.size + total xs)) ys)

at_start : (k : ℕ) (xs ys : List Block) → range_of k 0 (xs ++ ys) ≡ either_of (range_of k 0 xs) (range_of k (total xs) ys)
at_start k xs ys = range-append k 0 xs ys ∙ ap (λ o. either_of (range_of k 0 xs) (range_of k o ys)) (omega arith)

-- a free block belongs to no grant
free_number : (k : ℕ) (t : Tag) → is_free t ≡ true → has_number k t ≡ false
free_number k (Live j) e = absurd (false≢true e)
free_number k (Free s) e = refl

-- a block of another number
other_number : (k j : ℕ) (t : Tag) → k ≢ j → has_number j t ≡ true → has_number k t ≡ false
other_number k j (Live i) n e = ne_eqb k i (λ same. n (same ∙ sym (number_is j i e)))
  where
    number_is : (j i : ℕ) → nat_eq j i ≡ true → j ≡ i
    number_is j i e = elim (cases_eq j i) [ inl same ↦ same | inr other ↦ absurd (true≢false (sym e ∙ ne_eqb j i other)) ]
other_number k j (Free s) n e = refl

past : (k offset : ℕ) (b : Block) (bs : List Block) → has_number k b.tag ≡ false → range_of k offset (b ∷ bs) ≡ range_of k (offset + b.size) bs
past k offset b bs e = ap (λ x. if x then Some (offset, b.size) else range_of k (offset + b.size) bs) e

range_free_part : (k offset n s : ℕ) (bs : List Block) → range_of k offset (free_part n s ++ bs) ≡ range_of k (offset + n) bs
range_free_part k offset zero s bs = ap (λ o. range_of k o bs) (omega arith)
range_free_part k offset (suc n) s bs = refl

-- a number that no block has
pub range_none : (k offset : ℕ) (bs : List Block) → count (Live k) bs ≡ 0 → range_of k offset bs ≡ None
range_none k offset [] h = refl
range_none k offset (b ∷ bs) h = past k offset b bs (no_hit (has_number k b.tag) (sym (number_hit k b.tag)) (omega arith)) ∙ range_none k (offset + b.size) bs (omega arith)
  where
    no_hit : (x : Bool) → one x ≡ hit (Live k) b.tag → hit (Live k) b.tag ≡ 0 → x ≡ false
    no_hit true e z = absurd (omega arith)
    no_hit false e z = refl

-- free blocks belong to no grant
range_free : (k offset : ℕ) (fs ys : List Block) → AreFree fs → range_of k offset (fs ++ ys) ≡ range_of k (offset + total fs) ys
range_free k offset [] ys f = ap (λ o. range_of k o ys) (omega arith)
range_free k offset (b ∷ fs) ys f = past k offset b (fs ++ ys) (free_number k b.tag f.0) ∙ range_free k (offset + b.size) fs ys f.1 ∙ ap (λ o. range_of k o ys) (omega arith)

either_none : (r : Option (ℕ × ℕ)) → either_of r None ≡ r
either_none None = refl
either_none (Some r) = refl

-- blocks that coalesce belonged to no grant
pub range_coalesce : (k : ℕ) (xs : List Block) (n s : ℕ) (ys : List Block) → range_of k 0 (coalesce xs n s ys) ≡ either_of (range_of k 0 xs) (range_of k (total xs + n) ys)
range_coalesce k xs n s ys =
    let c = coalesced xs n s ys in
    let front : range_of k 0 xs ≡ range_of k 0 c.front =
    ap (range_of k 0) c.at_front ∙ at_start k c.front c.last
    ∙ ap (either_of (range_of k 0 c.front)) (ap (range_of k (total c.front)) (sym (append-nil c.last)) ∙ range_free k (total c.front) c.last [] c.end.free) ∙ either_none _ in
    ap (range_of k 0) c.is ∙ at_start k c.front (block (total c.last + n + total c.first) (Free s) ∷ c.back)
    ∙ ap₂ (λ r o. either_of r (range_of k o c.back)) (sym front) (omega (arith, ap total c.at_front, total-append c.front c.last))
    ∙ ap (either_of (range_of k 0 xs)) (sym (ap (range_of k (total xs + n)) c.at_back ∙ range_free k (total xs + n) c.first c.back c.start.free))

-- a release leaves the other ranges
pub range_released : (k j n s : ℕ) (bs : List Block) (p : Place) → place_of j bs ≡ Some p → n ≡ p.block.size → k ≢ j → range_of k 0 (coalesce p.before n s p.after) ≡ range_of k 0 bs
range_released k j n s bs p found size other =
    let f = found_at j bs p found in
    range_coalesce k p.before n s p.after
    ∙ ap (λ m. either_of (range_of k 0 p.before) (range_of k (total p.before + m) p.after)) size
    ∙ ap (either_of (range_of k 0 p.before)) (sym (past k (total p.before) p.block p.after (other_number k j p.block.tag other f.1)))
    ∙ sym (at_start k p.before (p.block ∷ p.after))
    ∙ ap (range_of k 0) (sym f.0)

-- and removes its own
pub range_gone : (k n s : ℕ) (bs : List Block) (p : Place) → count (Live k) bs ≤ 1 → place_of k bs ≡ Some p → range_of k 0 (coalesce p.before n s p.after) ≡ None
range_gone k n s bs p once found =
    let f = found_at k bs p found in
    let e = count-append (Live k) p.before (p.block ∷ p.after) in
    let h : hit (Live k) p.block.tag ≡ 1 = number_hit k p.block.tag ∙ ap one f.1 in
    let c : count (Live k) p.after ≡ 0 = omega (arith, e, h, once, ap (count (Live k)) f.0) in
    range_coalesce k p.before n s p.after ∙ ap (λ r. either_of r (range_of k (total p.before + n) p.after)) (range_none k 0 p.before f.2) ∙ range_none k (total p.before + n) p.after c

-- a grant leaves the other ranges
pub range_kept : (k : ℕ) (p : Place) (n padding front g rest : ℕ) → is_free p.block.tag ≡ true → padding + n ≤ p.block.size → k ≢ g
    → range_of k 0 (granted_blocks p n padding front g rest) ≡ range_of k 0 (whole p)
range_kept k p n padding front g rest free within other =
    let left : List Block = free_part (p.block.size - (padding + n)) rest ++ p.after in
    at_start k p.before (free_part padding front ++ (block n (Live g) ∷ left))
    ∙ ap (either_of (range_of k 0 p.before))
    (range_free_part k (total p.before) padding front (block n (Live g) ∷ left)
    ∙ past k (total p.before + padding) (block n (Live g)) left (ne_eqb k g other)
    ∙ range_free_part k (total p.before + padding + n) (p.block.size - (padding + n)) rest p.after
    ∙ ap (λ o. range_of k o p.after) (omega arith)
    ∙ sym (past k (total p.before) p.block p.after (free_number k p.block.tag free)))
    ∙ sym (at_start k p.before (p.block ∷ p.after))

-- and adds its own
pub range_granted : (p : Place) (n padding front g rest : ℕ) → count (Live g) p.before ≡ 0 → range_of g 0 (granted_blocks p n padding front g rest) ≡ Some (total p.before + padding, n)
range_granted p n padding front g rest none =
    at_start g p.before _
    ∙ ap (λ r. either_of r (range_of g (total p.before) (free_part padding front ++ (block n (Live g) ∷ (free_part (p.block.size - (padding + n)) rest ++ p.after))))) (range_none g 0 p.before none)
    ∙ range_free_part g (total p.before) padding front _
    ∙ ap (λ x. if x then Some (total p.before + padding, n) else range_of g (total p.before + padding + n) (free_part (p.block.size - (padding + n)) rest ++ p.after)) (eq-eqb g g refl)
