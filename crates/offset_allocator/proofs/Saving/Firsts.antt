-- The first word of a list that is wrong: those before it are right.
use Rattle.offset_allocator.proofs.Common.{◌≡◌, ℕ, zero, suc, ◌+◌, ◌-◌, ◌*◌, ◌<◌, ◌≤◌, List, [], ◌∷◌, length, take, drop, sym, ap, subst, ◌∙◌, arith, cases_eq, inl, inr, length-take-le, take-take}
use Rattle.offset_allocator.proofs.Common.{Cells, node, Block, count_named, times, units, down}
use Rattle.std.proofs.Math.Seq.{drop-cons}
use Rattle.std.proofs.lemmas.List.{drop-drop, get_or-take}
use Rattle.offset_allocator.proofs.{Saving.Backwards.marked_below, Saving.Laying.each_small, Saving.Laying.each_far, Saving.Marks.one_small, Saving.Marks.times_at, Saving.Saved.ordered_drop}
use Rattle.offset_allocator.proofs.{Saving.StateWords.length-words, Tallies.one-same, Saving.Freed.times_drop}
use Rattle.offset_allocator.specs.{Saving.Building.AreEach, Saving.Building.AreOrdered, Saving.Building.HasBack, Saving.State.block_words, Saving.State.size_named}
use Rattle.offset_allocator.specs.Saving.ListFaults.{AreBlocks, AreLast, IsNotFree, IsNotUnused, word}

-- a name of a node that is marked
pub back_small : {c : Cells} {o : ℕ} {bs : List Block} {us : List ℕ} → HasBack c o bs us → (x : ℕ) → count_named x bs + times x us ≤ 1
back_small {c} h x = subst (λ n. n ≤ 1) (sym (h.marks x)) (one_small (node c.chain x).used)

pub back_far : {c : Cells} {o : ℕ} {bs : List Block} {us : List ℕ} → HasBack c o bs us → (x : ℕ) → length c.chain.nodes ≤ x → count_named x bs + times x us ≡ 0
back_far {c} {o} {bs} {us} h x far = elim (cases_eq (count_named x bs + times x us) 0) [
  | inl e ↦ e
  | inr ne ↦ absurd (omega (arith, far, marked_below c.chain x (omega (arith, ne, h.marks x))))
]

-- the blocks that were read so far
pub last_read : {c : Cells} {o : ℕ} {bs : List Block} (nodes size i : ℕ) (ws : List ℕ) → HasBack c o bs [] → nodes ≡ length c.chain.nodes → length bs ≡ i → block_words bs ≡ take (2 * i) ws → units bs ≤ size
    → AreLast nodes size ws bs
last_read {c} {o} {bs} nodes size i ws h n long words fit = record {
  words = words ∙ ap (λ k. take (2 * k) ws) (sym long);
  below = λ x far. omega (arith, back_far h x (omega (arith, n, far)));
  once = λ x. omega (arith, back_small h x);
  fit = fit;
}

pub count_read : (bs : List Block) (ws : List ℕ) (i : ℕ) → block_words bs ≡ take (2 * i) ws → 2 * i ≤ length ws → length bs ≡ i
count_read bs ws i e l = omega (arith, ap length e, length-words bs, length-take-le (2 * i) ws l)

-- all of them
pub all_read : {c : Cells} {o : ℕ} {bs : List Block} (nodes size : ℕ) (ws : List ℕ) → HasBack c o bs [] → nodes ≡ length c.chain.nodes → block_words bs ≡ ws → units bs ≡ size → AreBlocks nodes size ws bs
all_read nodes size ws h n words whole = record {
  words = words;
  below = λ x far. omega (arith, back_far h x (omega (arith, n, far)));
  once = λ x. omega (arith, back_small h x);
  whole = whole;
}

pub each_read : (nodes size : ℕ) (ws : List ℕ) (bs : List Block) (us : List ℕ) → AreEach bs us → nodes ≡ length bs + length us → block_words bs ≡ ws → units bs ≡ size → AreBlocks nodes size ws bs
each_read nodes size ws bs us each n words whole = record {
  words = words;
  below = λ x far. omega (arith, each_far bs us each x (omega (arith, n, far)));
  once = λ x. omega (arith, each_small bs us each x);
  whole = whole;
}

-- the unused names before a place are right, where they are marked
pub unused_before : {c : Cells} {o : ℕ} {bs : List Block} (nodes i j : ℕ) (ws : List ℕ) → HasBack c o bs (take i ws) → nodes ≡ length c.chain.nodes → j < i → i ≤ length ws → IsNotUnused nodes bs ws j → ⊥
unused_before {c} {o} {bs} nodes i j ws h n l within wrong =
    let x : ℕ = word j ws in
    let at : times x (take j (take i ws)) + 1 ≤ times x (take i ws) =
    times_at x j (take i ws) (omega (arith, l, length-take-le i ws within)) (sym (get_or-take i ws j 0 l)) in
    let before : times x (take j (take i ws)) ≡ times x (take j ws) = ap (times x) (take-take j i ws (omega (arith, l))) in
    let small = back_small h x in
    elim wrong [
      | inl far ↦ omega (arith, at, back_far h x (omega (arith, n, far)))
      | inr (inl named) ↦ omega (arith, at, small, named)
      | inr (inr listed) ↦ omega (arith, at, small, before, listed)
    ]

-- the free names from a place on are right, where each is that of one block, and they are in order
pub free_behind : (bs : List Block) (ws : List ℕ) (n m j : ℕ) → ((x : ℕ) → times x (drop n ws) ≤ count_named x bs) → ((x : ℕ) → count_named x bs ≤ 1) → AreOrdered bs m (drop n ws) → n ≤ j → j < length ws
    → IsNotFree bs ws j → ⊥
free_behind bs ws n m j once small order from within wrong =
    let x : ℕ = word j ws in
    let later : drop (j - n) (drop n ws) ≡ drop j ws = drop-drop (j - n) n ws ∙ ap (λ k. drop k ws) (omega (arith, from)) in
    let first : drop j ws ≡ x ∷ drop (j + 1) ws = drop-cons ws j 0 within ∙ ap (λ k. x ∷ drop k ws) {x = suc j} {y = j + 1} (omega arith) in
    let some : times x (drop (j + 1) ws) + 1 ≤ count_named x bs =
    omega (arith, once x, times_drop x (j - n) (drop n ws), ap (times x) later, ap (times x) first, one-same x) in
    let o = ordered_drop bs m (j - n) (drop n ws) order in
    elim wrong [
      | inl none ↦ omega (arith, some, none)
      | inr (inl again) ↦ omega (arith, some, again, small x)
      | inr (inr above) ↦
          let second : drop (j + 1) ws ≡ word (j + 1) ws ∷ drop (suc (j + 1)) ws = drop-cons ws (j + 1) 0 above.0 in
          let both : drop (j - n) (drop n ws) ≡ x ∷ word (j + 1) ws ∷ drop (suc (j + 1)) ws = later ∙ first ∙ ap (λ k. x ∷ k) second in
          let here = subst (AreOrdered bs o.0) both o.1 in
          omega (arith, above.1, here.1.0)
    ]

-- names in order begin with the class of the first
pub own_class : (bs : List Block) (m : ℕ) (ws : List ℕ) (i : ℕ) → AreOrdered bs m (drop i ws) → i < length ws → AreOrdered bs (down (size_named (word i ws) bs)) (drop i ws)
own_class bs m ws i order l =
    let first = drop-cons ws i 0 l in
    subst (AreOrdered bs (down (size_named (word i ws) bs))) (sym first) (omega arith, (subst (AreOrdered bs m) first order).1)

-- behind the last one any class may begin
pub past_order : (bs : List Block) (m i : ℕ) (ws : List ℕ) → length ws ≤ i → AreOrdered bs m (drop i ws)
past_order bs m zero [] l = tt
past_order bs m zero (x ∷ ws) l = absurd (omega (arith, l))
past_order bs m (suc i) [] l = tt
past_order bs m (suc i) (x ∷ ws) l = past_order bs m i ws (omega (arith, l))
