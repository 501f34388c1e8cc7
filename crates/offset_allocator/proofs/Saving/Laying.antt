-- Blocks and unused names that are laid out: as many as there are nodes, and each of its own.
use Rattle.offset_allocator.proofs.{Tallies.one-same, Tallies.one-other, Tallies.times-join, Linking.Walks.length_below, Saving.Marks.one_small, Saving.Backwards.marked_below}
use Rattle.offset_allocator.proofs.Common.{◌≡◌, ℕ, ◌+◌, ◌<◌, ◌≤◌, ◌^◌, Bool, true, false, None, Some, List, [], ◌∷◌, ◌++◌, length, map, take, refl, sym, ap, subst, ◌∙◌, arith, cases_eq, cases_lt, inl}
use Rattle.offset_allocator.proofs.Common.{inr, if◌then◌else◌, nat_lt, length-append, length-map, lt-ltb, le-ltb, Cells, node, IsChain, last_or, Block, units, count_named, one, times, nat_eq}
use Rattle.offset_allocator.specs.{Saving.Building.AreEach, Saving.Building.HasBack, Saving.Building.IsMade, Saving.Copying.IsIdle}

-- the names of blocks
names_of : List Block → List ℕ
names_of bs = map (λ (b : Block). b.name) bs

times-names : (x : ℕ) (bs : List Block) → times x (names_of bs) ≡ count_named x bs
unfolding names_of
times-names x [] = refl
times-names x (b ∷ bs) = ap (λ n. one (nat_eq x b.name) + n) (times-names x bs)

length-names : (bs : List Block) → length (names_of bs) ≡ length bs
unfolding names_of
length-names bs = length-map bs (λ (b : Block). b.name)

-- as many names as nodes, each marked: so each node has one
pub marked_each : (c : Cells) (o : ℕ) (bs : List Block) (us : List ℕ) → HasBack c o bs us → length bs + length us ≡ length c.chain.nodes → AreEach bs us
marked_each c o bs us h long x =
    let xs : List ℕ = names_of bs ++ us in
    let count : (y : ℕ) → times y xs ≡ one (node c.chain y).used = λ y. times-join y (names_of bs) us ∙ ap (λ n. n + times y us) (times-names y bs) ∙ h.marks y in
    let size : length xs ≡ length bs + length us = length-append (names_of bs) us ∙ ap (λ n. n + length us) (length-names bs) in
    let small : (y : ℕ) → times y xs ≤ 1 = λ y. subst (λ n. n ≤ 1) (sym (count y)) (one_small (node c.chain y).used) in
    let there : (y : ℕ) → 1 ≤ times y xs → y < length c.chain.nodes = λ y l. marked_below c.chain y (omega (arith, l, count y)) in
    let both : count_named x bs + times x us ≡ times x xs = h.marks x ∙ sym (count x) in
    elim (cases_lt x (length bs + length us)) [
      | inl l ↦
          both ∙ elim (cases_eq (times x xs) 1) [
            | inl e ↦ e ∙ ap (λ t. if t then 1 else 0) (sym (lt-ltb x (length bs + length us) l))
            | inr ne ↦
                let none : times x xs ≡ 0 = omega (arith, small x, ne) in
                absurd (omega (
                  arith,
                  size,
                  long,
                  length_below (length c.chain.nodes) (x ∷ xs)
                      (λ y. elim (cases_eq y x) [
                        | inl q ↦ subst (λ i. times i (x ∷ xs) ≤ 1) (sym q) (omega (arith, none, one-same x))
                        | inr n ↦ omega (arith, one-other y x n, small y)
                      ])
                      (λ y a. elim (cases_eq y x) [ inl q ↦ omega (arith, q, l, long) | inr n ↦ there y (omega (arith, a, one-other y x n)) ]),
                ))
          ]
      | inr g ↦
          both ∙ elim (cases_eq (times x xs) 0) [
            | inl e ↦ e ∙ ap (λ t. if t then 1 else 0) (sym (le-ltb x (length bs + length us) g))
            | inr ne ↦ absurd (omega (arith, there x (omega (arith, ne)), long, g))
          ]
    ]

-- then the tables hold a chain
pub laid_chain : {c : Cells} {max n m last : ℕ} {bs : List Block} {us : List ℕ} → HasBack c 0 bs [] → IsMade max n m c → AreEach bs us → length bs + length us ≡ n → n ≤ m
    → length c.chain.spare ≡ length c.chain.nodes → take (length us) c.chain.spare ≡ us → last_or None bs ≡ Some last → units bs < 2 ^ 32 → IsChain c.chain m last (length us) bs
laid_chain {c} {max} {n} {m} {last} {bs} {us} h made each long within stack spare ends fits = record {
  memory = made.reserved;
  within = omega (arith, made.nodes, within);
  stack = stack;
  row = h.row;
  ends = ends;
  each = λ k. rw (spare, made.nodes) (each k ∙ ap (λ i. if nat_lt k i then 1 else 0) long);
  idle = λ k none. idle_of (node c.chain k).used (sym (h.marks k) ∙ omega (arith, none));
  full = omega (arith, long, made.nodes);
  fits = fits;
}
  where
    idle_of : (u : Bool) → one u ≡ 0 → u ≡ false
    idle_of true e = absurd (omega (arith, e))
    idle_of false e = refl

pub each_small : (bs : List Block) (us : List ℕ) → AreEach bs us → (x : ℕ) → count_named x bs + times x us ≤ 1
each_small bs us h x = elim (cases_lt x (length bs + length us)) [
  | inl l ↦ omega (arith, h x, ap {B = ℕ} (λ (t : Bool). if t then 1 else 0) (lt-ltb x (length bs + length us) l))
  | inr g ↦ omega (arith, h x, ap {B = ℕ} (λ (t : Bool). if t then 1 else 0) (le-ltb x (length bs + length us) g))
]

pub each_far : (bs : List Block) (us : List ℕ) → AreEach bs us → (x : ℕ) → length bs + length us ≤ x → count_named x bs + times x us ≡ 0
each_far bs us h x g = h x ∙ ap (λ t. if t then 1 else 0) (le-ltb x (length bs + length us) g)

pub idle_made : {max n m : ℕ} {c : Cells} → IsIdle max n m c → IsMade max n m c
idle_made h = record { nodes = h.nodes; reserved = h.reserved; empty = h.empty }
