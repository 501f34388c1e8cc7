-- No two lives overlap, and none leaves the space.
use Rattle.std.proofs.Common.{◌≡◌, ◌≢◌, ℕ, ◌+◌, ◌<◌, ◌≤◌, Bool, true, false, ◌&&◌, ◌⊎◌, List, [], ◌∷◌, ◌++◌, take, Some, None, All, AllPairs, nat_eq, nat_lt, nat_le, if◌then◌else◌, refl, sym, ap, ◌∙◌}
use Rattle.std.proofs.Common.{inl, inr, arith, slice_index_or, le-leb, ne_eqb}
use Rattle.std.proofs.lemmas.Bool.{cases_eq, cases_lt, true≢false}
use Rattle.std.proofs.lemmas.Bool.Decides.{nat_tests}
use Rattle.std.proofs.lemmas.List.Elements.{All-cons}
use Rattle.std.proofs.lemmas.List.Kept.{AllPairs-cons}
use Rattle.offset_script.specs.declared.scripts.Command.{Command}
use Rattle.offset_script.specs.Machine.{Tag, Live, Free, Block, has_number, total, State, Answer, start, step, answers, after}
use Rattle.offset_script.specs.Machine as machine
use Rattle.offset_script.proofs.Well.{IsWell, well_start, well_step}
use Rattle.offset_pictures.specs.Lives.{Life, life_of_answer, end_from, lives_from, lives_of, range_of, is_on, blocks_after, AreApart, LivesAreWithin, LivesAreApart}
use Rattle.offset_pictures.proofs.{Seen.grants_of, Seen.call_counts, Seen.call_grants, Whole.IsShown, Whole.shown}

-- ---- two ranges of one list

some_inj : {A : Type 0} (x y : A) → Some x ≡ Some y → x ≡ y
some_inj x y e = cc

-- a range lies where the list does
in_list : (k offset : ℕ) (bs : List Block) (r : ℕ × ℕ) → range_of k offset bs ≡ Some r → (offset ≤ r.0) × (r.0 + r.1 ≤ offset + total bs)
in_list k offset [] r e = absurd (none r e)
  where
    none : (r : ℕ × ℕ) → None ≡ Some r → ⊥
    none r e = cc
in_list k offset (b ∷ bs) r e = either (has_number k b.tag) e (in_list k (offset + b.size) bs r)
  where
    either : (x : Bool) → (if x then Some (offset, b.size) else range_of k (offset + b.size) bs) ≡ Some r
        → (range_of k (offset + b.size) bs ≡ Some r → (offset + b.size ≤ r.0) × (r.0 + r.1 ≤ offset + b.size + total bs))
        → (offset ≤ r.0) × (r.0 + r.1 ≤ offset + (b.size + total bs))
    either true e ih = let same = some_inj (offset, b.size) r e in let o = ap (λ (p : ℕ × ℕ). p.0) same in let n = ap (λ (p : ℕ × ℕ). p.1) same in (omega arith, omega arith)
    either false e ih = let m = ih e in (omega (arith, m.0), omega (arith, m.1))

-- a tag has one number
one_number : (j k : ℕ) (t : Tag) → has_number j t ≡ true → has_number k t ≡ true → j ≡ k
one_number j k (Live i) e f = is_number j i e ∙ sym (is_number k i f)
  where
    is_number : (j i : ℕ) → nat_eq j i ≡ true → j ≡ i
    is_number j i e = elim (cases_eq j i) [ inl same ↦ same | inr other ↦ absurd (true≢false (sym e ∙ ne_eqb j i other)) ]
one_number j k (Free s) e f = absurd (true≢false (sym e))

-- ranges of two numbers do not overlap
two_apart : (j k offset : ℕ) (bs : List Block) (q r : ℕ × ℕ) → j ≢ k → range_of j offset bs ≡ Some q → range_of k offset bs ≡ Some r → (q.0 + q.1 ≤ r.0) ⊎ (r.0 + r.1 ≤ q.0)
two_apart j k offset [] q r n e f = absurd (none q e)
  where
    none : (r : ℕ × ℕ) → None ≡ Some r → ⊥
    none r e = cc
two_apart j k offset (b ∷ bs) q r n e f = either (has_number j b.tag) (has_number k b.tag) refl refl e f (two_apart j k (offset + b.size) bs q r n)
  where
    either : (x y : Bool) → has_number j b.tag ≡ x → has_number k b.tag ≡ y
        → (if x then Some (offset, b.size) else range_of j (offset + b.size) bs) ≡ Some q
        → (if y then Some (offset, b.size) else range_of k (offset + b.size) bs) ≡ Some r
        → (range_of j (offset + b.size) bs ≡ Some q → range_of k (offset + b.size) bs ≡ Some r → (q.0 + q.1 ≤ r.0) ⊎ (r.0 + r.1 ≤ q.0))
        → (q.0 + q.1 ≤ r.0) ⊎ (r.0 + r.1 ≤ q.0)
    either true true a c e f ih = absurd (n (one_number j k b.tag a c))
    either true false a c e f ih = let same = some_inj (offset, b.size) q e in let o = ap (λ (p : ℕ × ℕ). p.0) same in let m = ap (λ (p : ℕ × ℕ). p.1) same in
        let l = in_list k (offset + b.size) bs r f in inl (omega (arith, l.0))
    either false true a c e f ih = let same = some_inj (offset, b.size) r f in let o = ap (λ (p : ℕ × ℕ). p.0) same in let m = ap (λ (p : ℕ × ℕ). p.1) same in
        let l = in_list j (offset + b.size) bs q e in inr (omega (arith, l.0))
    either false false a c e f ih = ih e f

-- ---- two lives

while_on : (i : ℕ) (l : Life) → l.first < i → i ≤ l.last → is_on i l ≡ true
while_on i l f g = both (nat_lt l.first i) (nat_le i l.last) (begun_by l.first i f) (le-leb i l.last g)
  where
    both : (x y : Bool) → x ≡ true → y ≡ true → (x && y) ≡ true
    both true y e h = h
    both false y e h = absurd (true≢false (sym e))

    begun_by : (x y : ℕ) → x < y → nat_lt x y ≡ true
    begun_by x y h = grind (arith, nat_tests)

-- the range of a life while it is on
there : (cs : List Command) (s : State) (l : Life) (i : ℕ) → IsShown 0 cs s l → l.first < i → i ≤ l.last → range_of l.number 0 (after (take i cs) s).blocks ≡ Some (l.offset, l.size)
there cs s l i m f g = m.seen i (omega (arith, m.ends)) ∙ ap (λ b. if b then Some (l.offset, l.size) else None) (ap (λ n. is_on n l) (omega arith) ∙ while_on i l f g)

pub within_law : LivesAreWithin
within_law size limit h cs k d l =
    let life = slice_index_or (lives_of size limit cs) k d in
    let m = shown cs (start size limit) (well_start size limit h) 0 k d l in
    let e = there cs (start size limit) life (life.first + 1) m (omega arith) (omega (arith, m.lasts)) in
    let b = in_list life.number 0 (blocks_after (life.first + 1) size limit cs) (life.offset, life.size) e in
    omega (arith, b.1)

both_on : (cs : List Command) (s : State) (a b : Life) (i : ℕ) → IsShown 0 cs s a → IsShown 0 cs s b → a.number ≢ b.number → a.first < i → i ≤ a.last → b.first < i → i ≤ b.last → AreApart a b
both_on cs s a b i m n other f g p q =
    inr (inr (two_apart a.number b.number 0 (after (take i cs) s).blocks (a.offset, a.size) (b.offset, b.size) other (there cs s a i m f g) (there cs s b i n p q)))

apart : (cs : List Command) (s : State) (a b : Life) → IsShown 0 cs s a → IsShown 0 cs s b → a.number ≢ b.number → AreApart a b
apart cs s a b m n other = elim (cases_lt b.first a.last) [
  | inr late ↦ inl late
  | inl x ↦ elim (cases_lt a.first b.last) [
    | inr late ↦ inr (inl late)
    | inl y ↦ elim (cases_lt a.first b.first) [
      | inl z ↦ both_on cs s a b (b.first + 1) m n other (omega arith) (omega arith) (omega arith) (omega (arith, n.lasts))
      | inr z ↦ both_on cs s a b (a.first + 1) m n other (omega arith) (omega (arith, m.lasts)) (omega arith) (omega arith)
    ]
  ]
]

-- numbers rise
AreRising : ℕ → List Life → Type 0
AreRising g ls = (All (λ l. g < l.number) ls) × AllPairs (λ a b. a.number ≢ b.number) ls

rising_answer : (c : Command) (cs : List Command) (s : State) → IsWell s → (j : ℕ) (rest : List Life) → (a : Answer) → (step c s).answer ≡ a → AreRising (step c s).state.grants rest
    → AreRising s.grants (life_of_answer j c a (end_from (j + 1) cs) ++ rest)
unfolding AreRising
rising_answer c cs s w j rest (machine.Grant k offset) e r =
    let says = call_grants c s w k offset e in
    let g = call_counts c s w in (
      All-cons (λ (l : Life). s.grants < l.number) _ rest (omega (arith, says.0)) (λ i d h. let m = r.0 i d h in omega arith),
      AllPairs-cons (λ (a b : Life). a.number ≢ b.number) _ rest (λ i d h same. let m = r.0 i d h in omega (arith, says.0, g, ap grants_of e)) r.1,
    )
rising_answer c cs s w j rest machine.Refused e r = (λ i d h. let m = r.0 i d h in let g = call_counts c s w in omega arith, r.1)
rising_answer c cs s w j rest machine.Freed e r = (λ i d h. let m = r.0 i d h in let g = call_counts c s w in omega arith, r.1)
rising_answer c cs s w j rest machine.Gone e r = (λ i d h. let m = r.0 i d h in let g = call_counts c s w in omega arith, r.1)
rising_answer c cs s w j rest (machine.Size n) e r = (λ i d h. let m = r.0 i d h in let g = call_counts c s w in omega arith, r.1)
rising_answer c cs s w j rest (machine.Report free largest) e r = (λ i d h. let m = r.0 i d h in let g = call_counts c s w in omega arith, r.1)
rising_answer c cs s w j rest (machine.Full rows) e r = (λ i d h. let m = r.0 i d h in let g = call_counts c s w in omega arith, r.1)
rising_answer c cs s w j rest machine.Reset e r = (λ i d h. let m = r.0 i d h in let g = call_counts c s w in omega arith, r.1)
rising_answer c cs s w j rest machine.Extended e r = (λ i d h. let m = r.0 i d h in let g = call_counts c s w in omega arith, r.1)

rising : (cs : List Command) (s : State) → IsWell s → (j : ℕ) → AreRising s.grants (lives_from j cs (answers cs s))
unfolding AreRising
rising [] s w j = (λ k d h. absurd (omega arith), λ i k d l h. absurd (omega arith))
rising (c ∷ cs) s w j = rising_answer c cs s w j _ (step c s).answer refl (rising cs (step c s).state (well_step c s w) (j + 1))

pub apart_law : LivesAreApart
unfolding AreRising
apart_law size limit h cs i j d l m =
    let s = start size limit in
    let ls = lives_of size limit cs in
    let w = well_start size limit h in
    apart cs s (slice_index_or ls i d) (slice_index_or ls j d) (shown cs s w 0 i d (omega arith)) (shown cs s w 0 j d m) ((rising cs s w 0).1 i j d l m)
