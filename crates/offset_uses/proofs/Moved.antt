-- What the copies of the moves leave under each handle.
use Rattle.std.proofs.Common.{◌≡◌, ℕ, ◌+◌, ◌<◌, ◌≤◌, Bool, true, false, Option, Some, None, List, [], ◌∷◌, ◌++◌, length, slice_index_or, if◌then◌else◌, nat_eq, option_map, option_and_then, refl, sym}
use Rattle.std.proofs.Common.{ap, subst, ◌∙◌, inl, inr, arith}
use Rattle.std.specs.{Bool.⊤, List.FoldsTo}
use Rattle.std.proofs.lemmas.Bool.{cases_eq}
use Rattle.std.proofs.lemmas.Bool.Decides.{nat_tests}
use Rattle.offset_allocator.specs.View.{Block, View, Place, one, place_of, count_named, units, IsWellFormed}
use Rattle.offset_allocator.specs.Ranges.{Range, range_of}
use Rattle.offset_allocator.specs.Moving.Compacting.{Move, live, moves, move_of, gathered, Compacts}
use Rattle.offset_allocator.proofs.Moving.Sliding.{live_used, live_idle, moves_used, moves_idle}
use Rattle.offset_allocator.proofs.Tallies.{hit_cases}
use Rattle.offset_uses.specs.Pool.{HasSameBytes, IsCopied}

abbrev no_range : Option Range
no_range = None

abbrev range_from : ℕ → ℕ → Option Range
range_from o n = Some (record { offset = o; size = n })

-- the range of a name among blocks that begin at an offset
abbrev pub found : ℕ → ℕ → List Block → Option Range
found x o [] = None
found x o (b ∷ bs) = if nat_eq x b.name then (if b.used then range_from o b.size else no_range) else found x (o + b.size) bs

-- as `range_of` sees it
abbrev range_at : ℕ → Option Place → Option Range
range_at o q = option_and_then (λ (p : Place). if p.block.used then range_from (o + units p.before) p.block.size else no_range) q

found_is : (x o : ℕ) (bs : List Block) → range_at o (place_of x bs) ≡ found x o bs
found_is x o [] = refl
found_is x o (b ∷ bs) =
    elim (nat_eq x b.name)
    as (λ t. range_at o (if t then Some (record { before = []; block = b; after = bs }) else option_map (λ (p : Place). record p { before = b ∷ p.before }) (place_of x bs))
    ≡ (if t then (if b.used then range_from o b.size else no_range) else found x (o + b.size) bs)) [
      | true ↦ here b.used
      | false ↦ later (place_of x bs) ∙ found_is x (o + b.size) bs
    ]
  where
    here : (u : Bool) → (if u then range_from (o + 0) b.size else no_range) ≡ (if u then range_from o b.size else no_range)
    here true = let z : o + 0 ≡ o = omega arith in ap (λ n. range_from n b.size) z
    here false = refl

    both : (u : Bool) (p : Place) → (if u then range_from (o + (b.size + units p.before)) (p.block.size) else no_range)
        ≡ (if u then range_from ((o + b.size) + units p.before) (p.block.size) else no_range)
    both true p = let z : o + (b.size + units p.before) ≡ (o + b.size) + units p.before = omega arith in ap (λ n. range_from n p.block.size) z
    both false p = refl

    later : (q : Option Place) → range_at o (option_map (λ (p : Place). record p { before = b ∷ p.before }) q) ≡ range_at (o + b.size) q
    later None = refl
    later (Some p) = both p.block.used p

pub range_found : (x : ℕ) (v : View) → range_of x v ≡ found x 0 v.blocks
range_found x v = go (place_of x v.blocks) ∙ found_is x 0 v.blocks
  where
    both : (u : Bool) (p : Place) → (if u then range_from (units p.before) p.block.size else no_range) ≡ (if u then range_from (0 + units p.before) p.block.size else no_range)
    both true p = let z : units p.before ≡ 0 + units p.before = omega arith in ap (λ n. range_from n p.block.size) z
    both false p = refl

    go : (q : Option Place) → option_and_then (λ (p : Place). if p.block.used then range_from (units p.before) p.block.size else no_range) q ≡ range_at 0 q
    go None = refl
    go (Some p) = both p.block.used p

found_other : (x o : ℕ) (b : Block) (bs : List Block) → one (nat_eq x b.name) ≡ 0 → found x o (b ∷ bs) ≡ found x (o + b.size) bs
found_other x o b bs e = search (arith, nat_eq)

found_here : (x o : ℕ) (b : Block) (bs : List Block) → x ≡ b.name → found x o (b ∷ bs) ≡ (if b.used then range_from o b.size else no_range)
found_here x o b bs e = let t : nat_eq x b.name ≡ true = grind (arith, nat_tests) in ap (λ (t : Bool). if t then (if b.used then range_from o b.size else no_range) else found x (o + b.size) bs) t

found_gathered : (x o y : ℕ) (ns : List ℕ) → found x o (gathered y ns) ≡ None
found_gathered x o y [] = refl
found_gathered x o y (n ∷ ns) = elim (nat_eq x y) as (λ t. (if t then no_range else no_range) ≡ no_range) [ true ↦ refl | false ↦ refl ]

found_absent : (x o y : ℕ) (ns : List ℕ) (bs : List Block) → count_named x bs ≡ 0 → found x o (live bs ++ gathered y ns) ≡ None
found_absent x o y ns [] e = found_gathered x o y ns
found_absent x o y ns (b ∷ bs) e = go b.used refl (λ o. found_absent x o y ns bs (omega (arith, e)))
  where
    go : (u : Bool) → b.used ≡ u → ((o : ℕ) → found x o (live bs ++ gathered y ns) ≡ None) → found x o (live (b ∷ bs) ++ gathered y ns) ≡ None
    go true u ih = ap (λ l. found x o (l ++ gathered y ns)) (live_used b bs u) ∙ found_other x o b (live bs ++ gathered y ns) (omega (arith, e)) ∙ ih (o + b.size)
    go false u ih = ap (λ l. found x o (l ++ gathered y ns)) (live_idle b bs u) ∙ ih o

-- a range from an offset on
abbrev IsFrom : ℕ → Option Range → Type 0
IsFrom n None = ⊤
IsFrom n (Some r) = n ≤ r.offset

found_from : (x n o : ℕ) (bs : List Block) → n ≤ o → IsFrom n (found x o bs)
found_from x n o [] l = tt
found_from x n o (b ∷ bs) l =
    let ih = found_from x n (o + b.size) bs (omega (arith, l)) in
    elim (nat_eq x b.name) as (λ t. IsFrom n (if t then (if b.used then range_from o b.size else no_range) else found x (o + b.size) bs)) [
      | true ↦ elim b.used as (λ u. IsFrom n (if u then range_from o b.size else no_range)) [ true ↦ l | false ↦ tt ]
      | false ↦ ih
    ]

-- what the bytes from an offset on are does not change what ranges there hold
holds_from : (n : ℕ) (ws xs ys : List ℕ) (q r : Option Range) → ((i d : ℕ) → n ≤ i → slice_index_or xs i d ≡ slice_index_or ws i d) → IsFrom n q
    → HasSameBytes xs ys q r → HasSameBytes ws ys q r
holds_from n ws xs ys None None e l h = tt
holds_from n ws xs ys None (Some s) e l h = h
holds_from n ws xs ys (Some q) None e l h = h
holds_from n ws xs ys (Some q) (Some s) e l h = (h.0, λ i d m. h.1 i d m ∙ e (q.offset + i) d (omega (arith, l)))

-- one move, or none where a block stays
step : (from to : ℕ) (b : Block) (ws ys : List ℕ) (ms : List Move) → FoldsTo (λ xs (m : Move) zs. IsCopied m.from m.to m.size xs zs) ws (move_of from to b ++ ms) ys
    → to ≤ from → from + b.size ≤ length ws
    → (xs : List ℕ) × (length xs ≡ length ws) × ((i d : ℕ) → i < to → slice_index_or xs i d ≡ slice_index_or ws i d)
    × ((i d : ℕ) → to + b.size ≤ i → slice_index_or xs i d ≡ slice_index_or ws i d)
    × ((i d : ℕ) → i < b.size → slice_index_or xs (to + i) d ≡ slice_index_or ws (from + i) d) × FoldsTo (λ xs (m : Move) zs. IsCopied m.from m.to m.size xs zs) xs ms ys
step from to b ws ys ms f l fits = search (arith, cases_eq, nat_eq, nat_tests, slice_index_or)

-- the moves of blocks that begin at an offset, packed from another one on
pub moved : (from to : ℕ) (bs : List Block) (ws ys : List ℕ) → FoldsTo (λ xs (m : Move) zs. IsCopied m.from m.to m.size xs zs) ws (moves from to bs) ys → to ≤ from
    → from + units bs ≤ length ws
    → (length ys ≡ length ws) × ((i d : ℕ) → i < to → slice_index_or ys i d ≡ slice_index_or ws i d)
    × ((x y : ℕ) (ns : List ℕ) → count_named x bs ≤ 1 → HasSameBytes ws ys (found x from bs) (found x to (live bs ++ gathered y ns)))
moved from to [] ws ys f l fits = search (arith, length, slice_index_or, found_gathered)
moved from to (b ∷ bs) ws ys f l fits = go b.used refl (λ t xs. moved (from + b.size) t bs xs ys)
  where
    go : (u : Bool) → b.used ≡ u
        → ((t : ℕ) (xs : List ℕ) → FoldsTo (λ xs (m : Move) zs. IsCopied m.from m.to m.size xs zs) xs (moves (from + b.size) t bs) ys → t ≤ from + b.size
        → (from + b.size) + units bs ≤ length xs
        → (length ys ≡ length xs) × ((i d : ℕ) → i < t → slice_index_or ys i d ≡ slice_index_or xs i d)
        × ((x y : ℕ) (ns : List ℕ) → count_named x bs ≤ 1 → HasSameBytes xs ys (found x (from + b.size) bs) (found x t (live bs ++ gathered y ns))))
        → (length ys ≡ length ws) × ((i d : ℕ) → i < to → slice_index_or ys i d ≡ slice_index_or ws i d)
        × ((x y : ℕ) (ns : List ℕ) → count_named x (b ∷ bs) ≤ 1 → HasSameBytes ws ys (found x from (b ∷ bs)) (found x to (live (b ∷ bs) ++ gathered y ns)))
    go true u rest =
        let s = step from to b ws ys (moves (from + b.size) (to + b.size) bs)
        (subst (λ (ms : List Move). FoldsTo (λ xs (m : Move) zs. IsCopied m.from m.to m.size xs zs) ws ms ys) (moves_used from to b bs u) f) l (omega (arith, fits)) in
        let r = rest (to + b.size) s.0 s.5 (omega (arith, l)) (omega (arith, fits, s.1)) in (
          r.0 ∙ s.1,
          (λ i d m. r.1 i d (omega (arith, m)) ∙ s.2 i d m),
          λ x y ns m. subst (λ (k : List Block). HasSameBytes ws ys (found x from (b ∷ bs)) (found x to (k ++ gathered y ns))) (sym (live_used b bs u)) (elim (hit_cases x b.name) [
            | inl h ↦
                let was : found x from (b ∷ bs) ≡ range_from from b.size = found_here x from b bs h.0 ∙ ap (λ (v : Bool). if v then range_from from b.size else no_range) u in
                let is : found x to (b ∷ (live bs ++ gathered y ns)) ≡ range_from to b.size =
                found_here x to b (live bs ++ gathered y ns) h.0 ∙ ap (λ (v : Bool). if v then range_from to b.size else no_range) u in
                let same : HasSameBytes ws ys (range_from from b.size) (range_from to b.size) = (refl, λ i d k. r.1 (to + i) d (omega (arith, k)) ∙ s.4 i d k) in
                subst (λ q. HasSameBytes ws ys q (found x to (b ∷ (live bs ++ gathered y ns)))) (sym was) (subst (λ q. HasSameBytes ws ys (range_from from b.size) q) (sym is) same)
            | inr h ↦
                let later : HasSameBytes ws ys (found x (from + b.size) bs) (found x (to + b.size) (live bs ++ gathered y ns)) =
                holds_from (to + b.size) ws s.0 ys (found x (from + b.size) bs) (found x (to + b.size) (live bs ++ gathered y ns)) (λ i d k. s.3 i d k)
                (found_from x (to + b.size) (from + b.size) bs (omega (arith, l))) (r.2 x y ns (omega (arith, m))) in
                subst (λ q. HasSameBytes ws ys q (found x to (b ∷ (live bs ++ gathered y ns)))) (sym (found_other x from b bs h.1))
                (subst (λ q. HasSameBytes ws ys (found x (from + b.size) bs) q) (sym (found_other x to b (live bs ++ gathered y ns) h.1)) later)
          ]),
        )
    go false u rest = search (arith, moves_idle, live_idle, hit_cases, found_here, found_absent, found_other)

pub compacted_holds : (v w : View) (xs ys : List ℕ) → IsWellFormed v → Compacts v w → v.size ≤ length xs
    → FoldsTo (λ xs (m : Move) zs. IsCopied m.from m.to m.size xs zs) xs (moves 0 0 v.blocks) ys
    → (length ys ≡ length xs) × ((x : ℕ) → HasSameBytes xs ys (range_of x v) (range_of x w))
compacted_holds v w xs ys well c fits f = search (arith, moved, range_found)

-- calls of a closure, seen by what it borrowed: this is changed step by step, and stays the same reference
pub calls_seen : {P A S N : Type 0} (R : P → A → P → Type 0) (T : S → A → S → Type 0) (see : P → S) (place : P → N)
    → ((p : P) (x : A) (q : P) → R p x q → T (see p) x (see q) × (place q ≡ place p))
    → (xs : List A) (p q : P) → FoldsTo R p xs q → FoldsTo T (see p) xs (see q) × (place q ≡ place p)
calls_seen R T see place each [] p q e = (ap see e, ap place (sym e))
calls_seen R T see place each (x ∷ xs) p q f =
    let one = each p x f.0 f.1 in
    let rest = calls_seen R T see place each xs f.0 q f.2 in
    ((see f.0, one.0, rest.0), rest.1 ∙ one.1)
