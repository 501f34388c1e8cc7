-- The words of blocks say their names and sizes.
use Rattle.offset_allocator.proofs.Common.{◌≡◌, ℕ, zero, suc, ◌+◌, ◌*◌, ◌<◌, ◌≤◌, not, List, [], ◌∷◌, ◌++◌, length, take, drop, get_or, refl, sym, ap, ap₂, ◌∙◌, arith, inl, inr, cases_lt}
use Rattle.offset_allocator.proofs.Common.{length-append, take-append-le, take_all, take_more, append_assoc, Block, used_block, units, count_named, one, nat_eq}
use Rattle.std.proofs.Math.Seq.{drop-append_seam, take-append_seam}
use Rattle.offset_allocator.specs.Saving.State.{block_words, freed, is_among}

pub length-words : (bs : List Block) → length (block_words bs) ≡ 2 * length bs
length-words [] = refl
length-words (b ∷ bs) = omega (arith, length-append (block_words bs) (b.name ∷ b.size ∷ []), length-words bs)

-- two lists of one length, each with two numbers behind it
ends_same : (xs ys : List ℕ) (a b c d : ℕ) → xs ++ a ∷ b ∷ [] ≡ ys ++ c ∷ d ∷ [] → (xs ≡ ys) × (a ≡ c) × (b ≡ d)
ends_same xs ys a b c d e =
    let long : length xs ≡ length ys = omega (arith, ap length e, length-append xs (a ∷ b ∷ []), length-append ys (c ∷ d ∷ [])) in
    let front : xs ≡ ys = sym (take-append_seam xs (a ∷ b ∷ [])) ∙ ap (take (length xs)) e ∙ ap (λ n. take n (ys ++ c ∷ d ∷ [])) long ∙ take-append_seam ys (c ∷ d ∷ []) in
    let back : a ∷ b ∷ [] ≡ c ∷ d ∷ [] = sym (drop-append_seam xs (a ∷ b ∷ [])) ∙ ap (drop (length xs)) e ∙ ap (λ n. drop n (ys ++ c ∷ d ∷ [])) long ∙ drop-append_seam ys (c ∷ d ∷ []) in
    (front, cc, cc)

-- the same words are of the same names and sizes
pub words_same : (bs cs : List Block) → block_words bs ≡ block_words cs → freed [] bs ≡ freed [] cs
words_same [] [] e = refl
words_same [] (c ∷ cs) e = absurd (omega (arith, ap length e, length-append (block_words cs) (c.name ∷ c.size ∷ [])))
words_same (b ∷ bs) [] e = absurd (omega (arith, ap length e, length-append (block_words bs) (b.name ∷ b.size ∷ [])))
words_same (b ∷ bs) (c ∷ cs) e =
    let s = ends_same (block_words bs) (block_words cs) b.name b.size c.name c.size e in
    ap₂ (λ (x : Block) (xs : List Block). x ∷ xs) (ap₂ used_block s.1 s.2) (words_same bs cs s.0)

pub count-freed : (x : ℕ) (xs : List ℕ) (bs : List Block) → count_named x (freed xs bs) ≡ count_named x bs
count-freed x xs [] = refl
count-freed x xs (b ∷ bs) = ap (λ n. one (nat_eq x b.name) + n) (count-freed x xs bs)

pub units-freed : (xs : List ℕ) (bs : List Block) → units (freed xs bs) ≡ units bs
units-freed xs [] = refl
units-freed xs (b ∷ bs) = ap (λ n. b.size + n) (units-freed xs bs)

pub length-freed : (xs : List ℕ) (bs : List Block) → length (freed xs bs) ≡ length bs
length-freed xs [] = refl
length-freed xs (b ∷ bs) = ap suc (length-freed xs bs)

pub same_counts : (x : ℕ) (bs cs : List Block) → block_words bs ≡ block_words cs → count_named x bs ≡ count_named x cs
same_counts x bs cs e = sym (count-freed x [] bs) ∙ ap (count_named x) (words_same bs cs e) ∙ count-freed x [] cs

pub same_units : (bs cs : List Block) → block_words bs ≡ block_words cs → units bs ≡ units cs
same_units bs cs e = sym (units-freed [] bs) ∙ ap units (words_same bs cs e) ∙ units-freed [] cs

take_nil : (n : ℕ) → take {A = ℕ} n [] ≡ []
take_nil zero = refl
take_nil (suc n) = refl

-- the first words are those of the last blocks
pub some_of : (x k : ℕ) (bs vs : List Block) → block_words bs ≡ take (2 * k) (block_words vs) → k ≤ length vs → (count_named x bs ≤ count_named x vs) × (units bs ≤ units vs)
some_of x k bs [] e l =
    let none : block_words bs ≡ block_words [] = e ∙ take_nil (2 * k) in
    (omega (arith, same_counts x bs [] none), omega (arith, same_units bs [] none))
some_of x k bs (v ∷ vs) e l = elim (cases_lt (length vs) k) [
  | inl more ↦
      let all : block_words bs ≡ block_words (v ∷ vs) = e ∙ take_all (2 * k) (block_words (v ∷ vs)) (omega (arith, length-words (v ∷ vs), more)) in
      (omega (arith, same_counts x bs (v ∷ vs) all), omega (arith, same_units bs (v ∷ vs) all))
  | inr less ↦
      let r = some_of x k bs vs (e ∙ take-append-le (2 * k) (block_words vs) (v.name ∷ v.size ∷ []) (omega (arith, length-words vs, less))) less in
      (omega (arith, r.0), omega (arith, r.1))
]

-- one block more
pub words_next : (bs : List Block) (ws : List ℕ) (i a b : ℕ) → block_words bs ≡ take (2 * i) ws → 2 * i + 1 < length ws → a ≡ get_or ws (2 * i) 0 → b ≡ get_or ws (2 * i + 1) 0
    → block_words (used_block a b ∷ bs) ≡ take (2 * (i + 1)) ws
words_next bs ws i a b e l ea eb =
    let one_more : take (2 * i + 1) ws ≡ take (2 * i) ws ++ a ∷ [] = take_more ws (2 * i) 0 (omega (arith, l)) ∙ ap (λ n. take (2 * i) ws ++ n ∷ []) (sym ea) in
    let two_more : take (2 * i + 1 + 1) ws ≡ take (2 * i + 1) ws ++ b ∷ [] = take_more ws (2 * i + 1) 0 l ∙ ap (λ n. take (2 * i + 1) ws ++ n ∷ []) (sym eb) in
    let same : 2 * (i + 1) ≡ 2 * i + 1 + 1 = omega arith in
    ap (λ f. f ++ a ∷ b ∷ []) e ∙ sym (append_assoc (take (2 * i) ws) (a ∷ []) (b ∷ [])) ∙ ap (λ f. f ++ b ∷ []) (sym one_more) ∙ sym two_more ∙ ap (λ n. take n ws) (sym same)

-- what is free is said by the list alone
pub freed_again : (xs ys : List ℕ) (bs : List Block) → freed xs (freed ys bs) ≡ freed xs bs
freed_again xs ys [] = refl
freed_again xs ys (b ∷ bs) = ap (λ (l : List Block). record b { used = not (is_among b.name xs) } ∷ l) (freed_again xs ys bs)

pub freed_same : (xs : List ℕ) (bs cs : List Block) → block_words bs ≡ block_words cs → freed xs bs ≡ freed xs cs
freed_same xs bs cs e = sym (freed_again xs [] bs) ∙ ap (freed xs) (words_same bs cs e) ∙ freed_again xs [] cs
