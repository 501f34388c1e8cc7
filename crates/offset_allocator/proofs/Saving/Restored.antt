-- The words of a state and its parts, and the view of what is built of them.
use Rattle.offset_allocator.proofs.{Saving.Freed.length-filed, Saving.Freed.bins_agree, Saving.Laying.each_small, Saving.Laying.each_far, Saving.Saved.ordered_filed, Saving.Saved.names_free}
use Rattle.offset_allocator.proofs.{Saving.Saved.names_bins}
use Rattle.offset_allocator.proofs.Common.{◌≡◌, ℕ, suc, ◌+◌, ◌-◌, ◌*◌, ◌<◌, ◌≤◌, List, [], ◌∷◌, ◌++◌, length, take, drop, get_or, refl, sym, ap, ap₂, ◌∙◌, arith, append_assoc, length-append}
use Rattle.offset_allocator.proofs.Common.{length-take-le, take-append-drop, Block, View, IsWellFormed, AreCoalesced, units, count_named, times, count_used, max_size}
use Rattle.offset_allocator.proofs.Saving.StateWords.{length-words, count-freed, units-freed, length-freed, freed_same}
use Rattle.offset_allocator.specs.{Saving.Building.AreEach, Saving.Building.AreOrdered, Saving.State.IsHeader, Relations.SameState}
use Rattle.offset_allocator.specs.Saving.State.{block_words, checksum_from, filed, freed, state_text, state_words}
use Rattle.std.proofs.Math.Seq.{drop-append_seam, take-append_seam, get_or-append_seam, take-add, drop-cons}
use Rattle.std.proofs.lemmas.List.{length-drop}
use Rattle.offset_allocator.specs.declared.states.restore.Header.{Header}
use Rattle.std.specs.List.{concat}

cut : (f m r : List ℕ) (i j : ℕ) → length f ≡ i → length m ≡ j → take j (drop i (f ++ (m ++ r))) ≡ m
cut f m r i j e l =
    ap (λ n. take j (drop n (f ++ (m ++ r)))) (sym e) ∙ ap (take j) (drop-append_seam f (m ++ r)) ∙ ap (λ n. take n (m ++ r)) (sym l) ∙ take-append_seam m r

-- three lists behind seven numbers, and one number behind them
pub record AreParts (ws xs ys zs : List ℕ) (s a b : ℕ) : Type 0 where
  pub last : get_or ws (length ws - 1) 0 ≡ s
  pub numbers : take (length ws - 1) ws ≡ take 7 ws ++ (xs ++ (ys ++ zs))
  pub first : take (7 + a - 7) (drop 7 ws) ≡ xs
  pub second : take (7 + a + b - (7 + a)) (drop (7 + a) ws) ≡ ys
  pub third : take (length ws - 1 - (7 + a + b)) (drop (7 + a + b) ws) ≡ zs

pub parted : (ws h xs ys zs : List ℕ) (s a b : ℕ) → ws ≡ h ++ ((xs ++ (ys ++ zs)) ++ s ∷ []) → length h ≡ 7 → length xs ≡ a → length ys ≡ b → AreParts ws xs ys zs s a b
parted ws h xs ys zs s a b e seven la lb =
    let body : List ℕ = xs ++ (ys ++ zs) in
    let all : ws ≡ (h ++ body) ++ s ∷ [] = e ∙ sym (append_assoc h body (s ∷ [])) in
    let one : ws ≡ h ++ (xs ++ ((ys ++ zs) ++ s ∷ [])) = e ∙ ap (λ l. h ++ l) (append_assoc xs (ys ++ zs) (s ∷ [])) in
    let two : ws ≡ (h ++ xs) ++ (ys ++ (zs ++ s ∷ [])) = one ∙ sym (append_assoc h xs ((ys ++ zs) ++ s ∷ [])) ∙ ap (λ l. (h ++ xs) ++ l) (append_assoc ys zs (s ∷ [])) in
    let three : ws ≡ ((h ++ xs) ++ ys) ++ (zs ++ s ∷ []) = two ∙ sym (append_assoc (h ++ xs) ys (zs ++ s ∷ [])) in
    let long : length ws ≡ length (h ++ body) + 1 = ap length all ∙ length-append (h ++ body) (s ∷ []) in
    let size : length (h ++ body) ≡ length ws - 1 = omega (arith, long) in
    let lx : length (h ++ xs) ≡ 7 + a = omega (arith, length-append h xs, seven, la) in
    let ly : length ((h ++ xs) ++ ys) ≡ 7 + a + b = omega (arith, length-append (h ++ xs) ys, lx, lb) in
    let lz : length zs ≡ length ws - 1 - (7 + a + b) = omega (arith, size, length-append h body, length-append xs (ys ++ zs), length-append ys zs, seven, la, lb) in
    let head : take 7 ws ≡ h = ap (λ n. take n ws) (sym seven) ∙ ap (take (length h)) e ∙ take-append_seam h (body ++ s ∷ []) in
    record {
      last = ap (λ n. get_or ws n 0) (sym size) ∙ ap (λ l. get_or l (length (h ++ body)) 0) all ∙ get_or-append_seam (h ++ body) s [] 0;
      numbers = ap (λ n. take n ws) (sym size) ∙ ap (take (length (h ++ body))) all ∙ take-append_seam (h ++ body) (s ∷ []) ∙ ap (λ l. l ++ body) (sym head);
      first = ap (λ l. take (7 + a - 7) (drop 7 l)) one ∙ cut h xs ((ys ++ zs) ++ s ∷ []) 7 (7 + a - 7) seven (omega (arith, la));
      second = ap (λ l. take (7 + a + b - (7 + a)) (drop (7 + a) l)) two ∙ cut (h ++ xs) ys (zs ++ s ∷ []) (7 + a) (7 + a + b - (7 + a)) lx (omega (arith, lb));
      third = ap (λ l. take (length ws - 1 - (7 + a + b)) (drop (7 + a + b) l)) three ∙ cut ((h ++ xs) ++ ys) zs (s ∷ []) (7 + a + b) (length ws - 1 - (7 + a + b)) ly lz;
    }

none_left : (l : List ℕ) → length l ≡ 0 → l ≡ []
none_left [] e = refl
none_left (x ∷ l) e = absurd (omega (arith, e))

-- as many numbers, in parts
pub joined : (ws : List ℕ) (a b c : ℕ) → length ws ≡ 8 + a + b + c
    → (ws ≡ take (length ws - 1) ws ++ get_or ws (length ws - 1) 0 ∷ [])
    × (take (length ws - 1) ws ≡ take 7 ws ++ (take (7 + a - 7) (drop 7 ws) ++ (take (7 + a + b - (7 + a)) (drop (7 + a) ws) ++ take (length ws - 1 - (7 + a + b)) (drop (7 + a + b) ws))))
joined ws a b c e =
    let n : ℕ = length ws - 1 in
    let l : n < length ws = omega (arith, e) in
    let end : drop (suc n) ws ≡ [] = none_left (drop (suc n) ws) (omega (arith, length-drop (suc n) ws, l)) in
    let x : List ℕ = take (7 + a - 7) (drop 7 ws) in
    let y : List ℕ = take (7 + a + b - (7 + a)) (drop (7 + a) ws) in
    let z : List ℕ = take (n - (7 + a + b)) (drop (7 + a + b) ws) in
    let e₁ : take (7 + a) ws ≡ take 7 ws ++ x = take-add 7 a ws ∙ ap (λ k. take 7 ws ++ take k (drop 7 ws)) (omega arith) in
    let e₂ : take (7 + a + b) ws ≡ take (7 + a) ws ++ y = take-add (7 + a) b ws ∙ ap (λ k. take (7 + a) ws ++ take k (drop (7 + a) ws)) (omega arith) in
    let e₃ : take n ws ≡ take (7 + a + b) ws ++ z = ap (λ k. take k ws) (omega (arith, e)) ∙ take-add (7 + a + b) (n - (7 + a + b)) ws in (
      sym (take-append-drop n ws) ∙ ap (λ k. take n ws ++ k) (drop-cons ws n 0 l ∙ ap (λ k. get_or ws n 0 ∷ k) end),
      e₃ ∙ ap (λ k. k ++ z) (e₂ ∙ ap (λ k. k ++ y) e₁) ∙ ap (λ k. k ++ z) (append_assoc (take 7 ws) x y) ∙ append_assoc (take 7 ws) (x ++ y) z
          ∙ ap (λ k. take 7 ws ++ k) (append_assoc x y z),
    )

-- the view of what is built
pub well_built : (size limit count : ℕ) (bs : List Block) (free unused : List ℕ) → 1 ≤ length bs → units bs ≡ size → size ≤ max_size → AreEach bs unused → length bs + length unused ≤ limit
    → length bs + 1 ≤ limit
    → ((x : ℕ) → times x free ≤ count_named x bs) → AreCoalesced (freed free bs) → count_used (freed free bs) + 2 ≤ limit
    → IsWellFormed (record { size = size; max_allocs = limit; blocks = freed free bs; bins = filed bs free; unused = unused; accesses = count })
well_built size limit count bs free unused some whole fits each made room once apart spare = record {
  some = omega (arith, some, length-freed free bs);
  distinct = λ x. omega (arith, count-freed x free bs, each_small bs unused each x);
  below = λ x l. omega (arith, count-freed x free bs, each_far bs unused each x (omega (arith, l, made)));
  whole = units-freed free bs ∙ whole;
  fits = fits;
  apart = apart;
  classes = length-filed bs free;
  binned = bins_agree bs free (λ x. omega (arith, each_small bs unused each x)) once;
  room = omega (arith, room, length-freed free bs);
  few_used = spare;
}

-- the words of blocks do not say which are free
pub words-freed : (xs : List ℕ) (bs : List Block) → block_words (freed xs bs) ≡ block_words bs
words-freed xs [] = refl
words-freed xs (b ∷ bs) = ap (λ l. l ++ b.name ∷ b.size ∷ []) (words-freed xs bs)

-- they are the words of that view
pub text_built : {max most : ℕ} (ws : List ℕ) (h : Header) (count : ℕ) (bs : List Block) (x y z : List ℕ) → IsHeader max most ws h → x ≡ take (7 + 2 * h.blocks - 7) (drop 7 ws)
    → y ≡ take (7 + 2 * h.blocks + h.free - (7 + 2 * h.blocks)) (drop (7 + 2 * h.blocks) ws) → z ≡ take (length ws - 1 - (7 + 2 * h.blocks + h.free)) (drop (7 + 2 * h.blocks + h.free) ws)
    → block_words bs ≡ x → AreOrdered bs 0 y → checksum_from 0 (take (length ws - 1) ws) ≡ get_or ws (length ws - 1) 0
    → ws ≡ state_text (record { size = h.size; max_allocs = h.max_allocs; blocks = freed y bs; bins = filed bs y; unused = z; accesses = count })
text_built ws h count bs x y z hd ex ey ez words order check =
    let v : View = record { size = h.size; max_allocs = h.max_allocs; blocks = freed y bs; bins = filed bs y; unused = z; accesses = count } in
    let n : ℕ = length ws - 1 in
    let j = joined ws (2 * h.blocks) h.free h.unused (omega (arith, hd.long)) in
    let lx : length x ≡ 2 * h.blocks = ap length ex ∙ length-take-le (7 + 2 * h.blocks - 7) (drop 7 ws) (omega (arith, hd.long, length-drop 7 ws)) ∙ omega arith in
    let ly : length y ≡ h.free =
    ap length ey ∙ length-take-le (7 + 2 * h.blocks + h.free - (7 + 2 * h.blocks)) (drop (7 + 2 * h.blocks) ws) (omega (arith, hd.long, length-drop (7 + 2 * h.blocks) ws)) ∙ omega arith in
    let lz : length z ≡ h.unused =
    ap length ez ∙ length-take-le (n - (7 + 2 * h.blocks + h.free)) (drop (7 + 2 * h.blocks + h.free) ws) (omega (arith, hd.long, length-drop (7 + 2 * h.blocks + h.free) ws))
    ∙ omega (arith, hd.long) in
    let lb : length (freed y bs) ≡ h.blocks = omega (arith, length-freed y bs, length-words bs, ap length words, lx) in
    let heads : take 7 ws ≡ 1414742351 ∷ 1 ∷ h.size ∷ h.max_allocs ∷ length (freed y bs) ∷ length y ∷ length z ∷ [] = let e = ap (take 7) hd.words in cc in
    let body : take (7 + 2 * h.blocks - 7) (drop 7 ws) ≡ block_words (freed y bs) = sym ex ∙ sym words ∙ sym (words-freed y bs) in
    let numbers : take n ws ≡ state_words v =
    j.1 ∙ ap₂ (λ (p q : List ℕ). p ++ q) heads (ap₂ (λ (p q : List ℕ). p ++ q) body (ap₂ (λ (p q : List ℕ). p ++ q) (sym ey) (sym ez)))
    ∙ ap (λ (l : List ℕ). 1414742351 ∷ 1 ∷ h.size ∷ h.max_allocs ∷ length (freed y bs) ∷ length l ∷ length z ∷ (block_words (freed y bs) ++ (l ++ z))) (sym (ordered_filed bs y order)) in
    j.0 ∙ ap₂ (λ (p : List ℕ) (s : ℕ). p ++ s ∷ []) numbers (sym check ∙ ap (checksum_from 0) numbers)

-- so they are those of a view with these blocks, bins and unused names
pub text_shown : {max most : ℕ} (ws : List ℕ) (h : Header) (v : View) (bs : List Block) (x y z : List ℕ) → IsHeader max most ws h → x ≡ take (7 + 2 * h.blocks - 7) (drop 7 ws)
    → y ≡ take (7 + 2 * h.blocks + h.free - (7 + 2 * h.blocks)) (drop (7 + 2 * h.blocks) ws) → z ≡ take (length ws - 1 - (7 + 2 * h.blocks + h.free)) (drop (7 + 2 * h.blocks + h.free) ws)
    → block_words bs ≡ x → AreOrdered bs 0 y → checksum_from 0 (take (length ws - 1) ws) ≡ get_or ws (length ws - 1) 0
    → v.size ≡ h.size → v.max_allocs ≡ h.max_allocs → v.blocks ≡ freed y bs → v.bins ≡ filed bs y → v.unused ≡ z → ws ≡ state_text v
text_shown ws h v bs x y z hd ex ey ez words order check s m b o u =
    let same : v ≡ record { size = h.size; max_allocs = h.max_allocs; blocks = freed y bs; bins = filed bs y; unused = z; accesses = v.accesses } =
    λ i. record { size = s i; max_allocs = m i; blocks = b i; bins = o i; unused = u i; accesses = v.accesses } in
    text_built ws h v.accesses bs x y z hd ex ey ez words order check ∙ ap state_text (sym same)

-- the parts of the words of a view
pub text_parts : {ws : List ℕ} (v : View) → ws ≡ state_text v → (a b : ℕ) → length v.blocks ≡ a → length (concat v.bins) ≡ b
    → AreParts ws (block_words v.blocks) (concat v.bins) v.unused (checksum_from 0 (state_words v)) (2 * a) b
text_parts {ws} v t a b ea eb =
    parted ws (1414742351 ∷ 1 ∷ v.size ∷ v.max_allocs ∷ length v.blocks ∷ length (concat v.bins) ∷ length v.unused ∷ []) (block_words v.blocks) (concat v.bins) v.unused _ (2 * a) b t refl
    (omega (arith, length-words v.blocks, ea)) eb

view_parts : (v w : View) → w.size ≡ v.size → w.max_allocs ≡ v.max_allocs → w.blocks ≡ v.blocks → w.bins ≡ v.bins → w.unused ≡ v.unused → SameState v w
view_parts v w s m b o u =
    ap (λ (n : ℕ). record w { size = n }) s ∙ ap (λ (n : ℕ). record w { size = v.size; max_allocs = n }) m
    ∙ ap (λ (l : List Block). record w { size = v.size; max_allocs = v.max_allocs; blocks = l }) b
    ∙ ap (λ (l : List (List ℕ)). record v { bins = l; unused = w.unused; accesses = w.accesses }) o
    ∙ ap (λ (l : List ℕ). record v { unused = l; accesses = w.accesses }) u

-- bytes are of one view
pub one_view : (v w : View) (ws : List ℕ) → IsWellFormed v → IsWellFormed w → ws ≡ state_text v → ws ≡ state_text w → SameState v w
one_view v w ws f h t u =
    let blocks : length w.blocks ≡ length v.blocks = ap (λ l. get_or l 4 0) (sym u ∙ t) in
    let names : length (concat w.bins) ≡ length (concat v.bins) = ap (λ l. get_or l 5 0) (sym u ∙ t) in
    let p = text_parts v t (length v.blocks) (length (concat v.bins)) refl refl in
    let q = text_parts w u (length v.blocks) (length (concat v.bins)) blocks names in
    let same_names : concat w.bins ≡ concat v.bins = sym q.second ∙ p.second in
    let same_words : block_words w.blocks ≡ block_words v.blocks = sym q.first ∙ p.first in
    let same_blocks : w.blocks ≡ v.blocks = sym (names_free w h) ∙ ap (λ l. freed l w.blocks) same_names ∙ freed_same (concat v.bins) w.blocks v.blocks same_words ∙ names_free v f in
    let same_bins : w.bins ≡ v.bins = sym (names_bins w h) ∙ ap₂ filed same_blocks same_names ∙ names_bins v f in
    view_parts v w (ap (λ l. get_or l 2 0) (sym u ∙ t)) (ap (λ l. get_or l 3 0) (sym u ∙ t)) same_blocks same_bins (sym q.third ∙ p.third)
