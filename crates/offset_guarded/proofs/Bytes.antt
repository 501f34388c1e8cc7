-- Bytes as numbers of 64 bits.
use Rattle.std.proofs.Common.{◌≡◌, ℕ, zero, suc, ◌+◌, ◌*◌, ◌-◌, ◌/◌, ◌%◌, ◌^◌, ◌<◌, ◌≤◌, List, [], ◌∷◌, ◌++◌, length, get_or, take, drop, refl, sym, ap, ap₂, ◌∙◌, arith, length-append, take_all}
use Rattle.std.proofs.Math.Seq.{drop-append_seam, take-add}
use Rattle.std.specs.{List.AllByRecursion, Int.w64, Int.from_le_bytes, Int.to_le_bytes}
use Rattle.std.proofs.lemmas.List.{drop-drop, length-drop, length-take-le, take-append-drop, take-append-le, drop-append-le}
use Rattle.std.proofs.lemmas.Nat.{from_le_bytes-to_le_bytes_8, le_bytes_8}
use Rattle.offset_guarded.specs.Numbers.{checksum_from, number_at, numbers}

pub length-numbers : (n : ℕ) (bs : List ℕ) → length (numbers n bs) ≡ n
length-numbers zero bs = refl
length-numbers (suc n) bs = ap suc (length-numbers n (drop 8 bs))

-- numbers further on
number_later : (i : ℕ) (bs : List ℕ) → number_at (drop 8 bs) i ≡ number_at bs (suc i)
number_later i bs = ap (λ l. from_le_bytes w64 (take 8 l)) (drop-drop (8 * i) 8 bs ∙ ap (λ k. drop k bs) (omega arith))

pub number_in : (n i : ℕ) (bs : List ℕ) → i < n → get_or (numbers n bs) i 0 ≡ number_at bs i
number_in zero i bs l = absurd (omega (arith, l))
number_in (suc n) zero bs l = refl
number_in (suc n) (suc i) bs l = number_in n i (drop 8 bs) (omega (arith, l)) ∙ number_later i bs

-- some numbers, and those behind them
pub numbers-add : (m n : ℕ) (bs : List ℕ) → numbers (m + n) bs ≡ numbers m bs ++ numbers n (drop (8 * m) bs)
numbers-add zero n bs = ap (λ k. numbers k bs) {x = zero + n} {y = n} (omega arith)
numbers-add (suc m) n bs =
    ap (λ k. numbers k bs) {x = suc m + n} {y = suc (m + n)} (omega arith)
    ∙ ap (λ l. from_le_bytes w64 (take 8 bs) ∷ l)
    (numbers-add m n (drop 8 bs) ∙ ap (λ l. numbers m (drop 8 bs) ++ numbers n l) (drop-drop (8 * m) 8 bs ∙ ap (λ k. drop k bs) (omega arith)))

pub numbers_more : (n : ℕ) (bs : List ℕ) → numbers (n + 1) bs ≡ numbers n bs ++ number_at bs n ∷ []
numbers_more n bs = numbers-add n 1 bs

-- bytes behind whole numbers do not count
pub numbers_front : (n : ℕ) (xs ys : List ℕ) → length xs ≡ 8 * n → numbers n (xs ++ ys) ≡ numbers n xs
numbers_front zero xs ys e = refl
numbers_front (suc n) xs ys e =
    ap₂ (λ (x : ℕ) (l : List ℕ). x ∷ l) (ap (from_le_bytes w64) (take-append-le 8 xs ys (omega (arith, e))))
    (ap (numbers n) (drop-append-le 8 xs ys (omega (arith, e))) ∙ numbers_front n (drop 8 xs) ys (omega (arith, e, length-drop 8 xs)))

pub numbers_taken : (n : ℕ) (bs : List ℕ) → 8 * n ≤ length bs → numbers n (take (8 * n) bs) ≡ numbers n bs
numbers_taken n bs l = sym (numbers_front n (take (8 * n) bs) (drop (8 * n) bs) (length-take-le (8 * n) bs l)) ∙ ap (numbers n) (take-append-drop (8 * n) bs)

-- the numbers of a part, as many as it has
pub numbers_sliced : (n k : ℕ) (bs : List ℕ) → k ≡ 8 * n → k ≤ length bs → numbers (length (take k bs) / 8) (take k bs) ≡ numbers n bs
numbers_sliced n k bs e l =
    ap (λ m. numbers m (take k bs)) {x = length (take k bs) / 8} {y = n} (omega (arith, length-take-le k bs l, e)) ∙ ap (λ m. numbers n (take m bs)) e ∙ numbers_taken n bs (omega (arith, l, e))

-- all bytes from one on
pub rest_of : (k : ℕ) (bs : List ℕ) → take (length bs - k) (drop k bs) ≡ drop k bs
rest_of k bs = take_all (length bs - k) (drop k bs) (omega (arith, length-drop k bs))

-- one more number behind whole ones
pub number_added : (k n : ℕ) (bs cs : List ℕ) → n < 2 ^ 64 → cs ≡ bs ++ to_le_bytes w64 n → length bs ≡ 8 * k → (numbers (k + 1) cs ≡ numbers k bs ++ n ∷ []) × (length cs ≡ 8 * (k + 1))
number_added k n bs cs small e long =
    let here : number_at cs k ≡ n =
    ap (λ l. number_at l k) e ∙ ap (λ m. from_le_bytes w64 (take 8 (drop m (bs ++ to_le_bytes w64 n)))) (sym long) ∙ ap (λ l. from_le_bytes w64 (take 8 l)) (drop-append_seam bs (to_le_bytes w64 n))
    ∙ from_le_bytes-to_le_bytes_8 n small in (
      numbers_more k cs ∙ ap₂ (λ (l : List ℕ) (m : ℕ). l ++ m ∷ []) (ap (numbers k) e ∙ numbers_front k bs (to_le_bytes w64 n) long) here,
      ap length e ∙ length-append bs (to_le_bytes w64 n) ∙ omega (arith, long),
    )

-- the checksum of one number more
pub checksum_more : (s n : ℕ) (ns : List ℕ) → checksum_from s (ns ++ n ∷ []) ≡ (checksum_from s ns * 1099511628211 + n) % 18446744073709551616
checksum_more s n [] = refl
checksum_more s n (m ∷ ns) = checksum_more ((s * 1099511628211 + m) % 18446744073709551616) n ns

-- bytes that are below 256 are those that their numbers say
all_at : (bs : List ℕ) (i : ℕ) → AllByRecursion (λ x. x < 256) bs → get_or bs i 0 < 256
all_at [] zero a = omega arith
all_at [] (suc i) a = omega arith
all_at (b ∷ bs) zero a = a.0
all_at (b ∷ bs) (suc i) a = all_at bs i a.1

pub all_drop : (k : ℕ) (bs : List ℕ) → AllByRecursion (λ x. x < 256) bs → AllByRecursion (λ x. x < 256) (drop k bs)
all_drop zero bs a = a
all_drop (suc k) [] a = tt
all_drop (suc k) (b ∷ bs) a = all_drop k bs a.1

pub all_take : (k : ℕ) (bs : List ℕ) → AllByRecursion (λ x. x < 256) bs → AllByRecursion (λ x. x < 256) (take k bs)
all_take zero bs a = tt
all_take (suc k) [] a = tt
all_take (suc k) (b ∷ bs) a = (a.0, all_take k bs a.1)

pub same_front : (n : ℕ) (ks bs : List ℕ) → 8 * n ≤ length ks → 8 * n ≤ length bs → AllByRecursion (λ x. x < 256) ks → AllByRecursion (λ x. x < 256) bs
    → numbers n ks ≡ numbers n bs → take (8 * n) ks ≡ take (8 * n) bs
same_front zero ks bs l m s t e = refl
same_front (suc n) ks bs l m s t e =
    let word : from_le_bytes w64 (take 8 ks) ≡ from_le_bytes w64 (take 8 bs) = ap (λ l. get_or l 0 0) e in
    let eight : take 8 ks ≡ take 8 bs =
    sym (le_bytes_8 (take 8 ks) _ (length-take-le 8 ks (omega (arith, l))) (λ i. all_at (take 8 ks) i (all_take 8 ks s)) refl)
    ∙ le_bytes_8 (take 8 bs) _ (length-take-le 8 bs (omega (arith, m))) (λ i. all_at (take 8 bs) i (all_take 8 bs t)) word in
    let rest = same_front n (drop 8 ks) (drop 8 bs) (omega (arith, l, length-drop 8 ks)) (omega (arith, m, length-drop 8 bs)) (all_drop 8 ks s) (all_drop 8 bs t) (ap (drop 1) e) in
    let parted : (l : List ℕ) → take (8 * suc n) l ≡ take 8 l ++ take (8 * n) (drop 8 l) = λ l. ap (λ k. take k l) {x = 8 * suc n} {y = 8 + 8 * n} (omega arith) ∙ take-add 8 (8 * n) l in
    parted ks ∙ ap₂ (λ (f r : List ℕ). f ++ r) eight rest ∙ sym (parted bs)
