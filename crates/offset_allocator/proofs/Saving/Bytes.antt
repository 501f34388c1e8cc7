-- Bytes as numbers of 32 bits.
use Rattle.offset_allocator.proofs.Common.{◌≡◌, ℕ, zero, suc, ◌+◌, ◌*◌, ◌%◌, ◌<◌, ◌≤◌, List, [], ◌∷◌, ◌++◌, length, get_or, refl, sym, ap, ap₂, ◌∙◌, arith, drop, w32, AllByRecursion, length-append}
use Rattle.offset_allocator.proofs.Common.{append_assoc, ◌^◌}
use Rattle.std.specs.Int.{from_le_bytes, to_le_bytes}
use Rattle.std.proofs.lemmas.Nat.{from_le_bytes-to_le_bytes_4, le_bytes_4}
use Rattle.offset_allocator.specs.Saving.State.{words_in}

pub length-in : (bs : List ℕ) → (4 * length (words_in bs) ≤ length bs) × (length bs < 4 * length (words_in bs) + 4)
length-in [] = (omega arith, omega arith)
length-in (a ∷ []) = (omega arith, omega arith)
length-in (a ∷ b ∷ []) = (omega arith, omega arith)
length-in (a ∷ b ∷ c ∷ []) = (omega arith, omega arith)
length-in (a ∷ b ∷ c ∷ d ∷ bs) = let h = length-in bs in (omega (arith, h.0), omega (arith, h.1))

-- the four bytes of a number
abbrev pub four_at : List ℕ → ℕ → List ℕ
four_at bs k = get_or bs k 0 ∷ get_or bs (k + 1) 0 ∷ get_or bs (k + 2) 0 ∷ get_or bs (k + 3) 0 ∷ []

four_more : (a b c d : ℕ) (bs : List ℕ) (k : ℕ) → four_at (a ∷ b ∷ c ∷ d ∷ bs) (suc (suc (suc (suc k)))) ≡ four_at bs k
four_more a b c d bs k =
    let at : (j : ℕ) → get_or (a ∷ b ∷ c ∷ d ∷ bs) (suc (suc (suc (suc k))) + j) 0 ≡ get_or bs (k + j) 0 =
    λ j. ap (λ n. get_or (a ∷ b ∷ c ∷ d ∷ bs) n 0) {x = suc (suc (suc (suc k))) + j} {y = suc (suc (suc (suc (k + j))))} (omega arith) in
    ap₂ (λ x (xs : List ℕ). get_or bs k 0 ∷ x ∷ xs) (at 1) (ap₂ (λ x y. x ∷ y ∷ []) (at 2) (at 3))

pub word_at : (bs : List ℕ) (i : ℕ) → 4 * i + 3 < length bs → get_or (words_in bs) i 0 ≡ from_le_bytes w32 (four_at bs (4 * i))
word_at [] i l = absurd (omega (arith, l))
word_at (a ∷ []) i l = absurd (omega (arith, l))
word_at (a ∷ b ∷ []) i l = absurd (omega (arith, l))
word_at (a ∷ b ∷ c ∷ []) i l = absurd (omega (arith, l))
word_at (a ∷ b ∷ c ∷ d ∷ bs) zero l = refl
word_at (a ∷ b ∷ c ∷ d ∷ bs) (suc i) l =
    let k : 4 * suc i ≡ suc (suc (suc (suc (4 * i)))) = omega arith in
    word_at bs i (omega (arith, l)) ∙ ap (from_le_bytes w32) (sym (ap (four_at (a ∷ b ∷ c ∷ d ∷ bs)) k ∙ four_more a b c d bs (4 * i)))

-- four bytes behind whole numbers
words_behind : (k : ℕ) (bs : List ℕ) (a b c d : ℕ) → length bs ≡ 4 * k → words_in (bs ++ a ∷ b ∷ c ∷ d ∷ []) ≡ words_in bs ++ from_le_bytes w32 (a ∷ b ∷ c ∷ d ∷ []) ∷ []
words_behind zero [] a b c d e = refl
words_behind zero (x ∷ bs) a b c d e = absurd (omega (arith, e))
words_behind (suc k) [] a b c d e = absurd (omega (arith, e))
words_behind (suc k) (x ∷ []) a b c d e = absurd (omega (arith, e))
words_behind (suc k) (x ∷ y ∷ []) a b c d e = absurd (omega (arith, e))
words_behind (suc k) (x ∷ y ∷ z ∷ []) a b c d e = absurd (omega (arith, e))
words_behind (suc k) (x ∷ y ∷ z ∷ w ∷ bs) a b c d e = ap (λ l. from_le_bytes w32 (x ∷ y ∷ z ∷ w ∷ []) ∷ l) (words_behind k bs a b c d (omega (arith, e)))

pub word_added : (k n : ℕ) (bs ws cs : List ℕ) → length bs ≡ 4 * k → words_in bs ≡ ws → n < 2 ^ 32 → cs ≡ bs ++ to_le_bytes w32 n → (words_in cs ≡ ws ++ n ∷ []) × (length cs ≡ 4 * (k + 1))
word_added k n bs ws cs long words small e = (
  ap words_in e ∙ words_behind k bs _ _ _ _ long ∙ ap₂ (λ (l : List ℕ) (w : ℕ). l ++ w ∷ []) words (from_le_bytes-to_le_bytes_4 n small),
  ap length e ∙ length-append bs (to_le_bytes w32 n) ∙ omega (arith, long),
)

pub four_pushed : (l : List ℕ) (a b c d : ℕ) → (((l ++ a ∷ []) ++ b ∷ []) ++ c ∷ []) ++ d ∷ [] ≡ l ++ a ∷ b ∷ c ∷ d ∷ []
four_pushed l a b c d = simp append_assoc

-- bytes that are below 256 are those that their words say
small_at : (bs : List ℕ) (i : ℕ) → AllByRecursion (λ x. x < 256) bs → get_or bs i 0 < 256
small_at [] zero a = omega arith
small_at [] (suc i) a = omega arith
small_at (b ∷ bs) zero a = a.0
small_at (b ∷ bs) (suc i) a = small_at bs i a.1

pub same_bytes : (ks bs : List ℕ) → length ks % 4 ≡ 0 → length bs % 4 ≡ 0 → AllByRecursion (λ x. x < 256) ks → AllByRecursion (λ x. x < 256) bs → words_in ks ≡ words_in bs → ks ≡ bs
same_bytes [] [] n m s t e = refl
same_bytes [] (x ∷ []) n m s t e = absurd (omega (arith, m))
same_bytes [] (x ∷ y ∷ []) n m s t e = absurd (omega (arith, m))
same_bytes [] (x ∷ y ∷ z ∷ []) n m s t e = absurd (omega (arith, m))
same_bytes [] (x ∷ y ∷ z ∷ w ∷ bs) n m s t e = absurd (omega (arith, ap length e))
same_bytes (a ∷ []) bs n m s t e = absurd (omega (arith, n))
same_bytes (a ∷ b ∷ []) bs n m s t e = absurd (omega (arith, n))
same_bytes (a ∷ b ∷ c ∷ []) bs n m s t e = absurd (omega (arith, n))
same_bytes (a ∷ b ∷ c ∷ d ∷ ks) [] n m s t e = absurd (omega (arith, ap length e))
same_bytes (a ∷ b ∷ c ∷ d ∷ ks) (x ∷ []) n m s t e = absurd (omega (arith, m))
same_bytes (a ∷ b ∷ c ∷ d ∷ ks) (x ∷ y ∷ []) n m s t e = absurd (omega (arith, m))
same_bytes (a ∷ b ∷ c ∷ d ∷ ks) (x ∷ y ∷ z ∷ []) n m s t e = absurd (omega (arith, m))
same_bytes (a ∷ b ∷ c ∷ d ∷ ks) (x ∷ y ∷ z ∷ w ∷ bs) n m s t e =
    let word : from_le_bytes w32 (a ∷ b ∷ c ∷ d ∷ []) ≡ from_le_bytes w32 (x ∷ y ∷ z ∷ w ∷ []) = ap (λ l. get_or l 0 0) e in
    let four : a ∷ b ∷ c ∷ d ∷ [] ≡ x ∷ y ∷ z ∷ w ∷ [] =
    sym (le_bytes_4 (a ∷ b ∷ c ∷ d ∷ []) _ refl (λ i. small_at (a ∷ b ∷ c ∷ d ∷ []) i (s.0, (s.1.0, (s.1.1.0, (s.1.1.1.0, tt))))) refl)
    ∙ le_bytes_4 (x ∷ y ∷ z ∷ w ∷ []) _ refl (λ i. small_at (x ∷ y ∷ z ∷ w ∷ []) i (t.0, (t.1.0, (t.1.1.0, (t.1.1.1.0, tt))))) word in
    ap₂ (λ (l m : List ℕ). l ++ m) four (same_bytes ks bs (omega (arith, n)) (omega (arith, m)) s.1.1.1.1 t.1.1.1.1 (ap (drop 1) e))
