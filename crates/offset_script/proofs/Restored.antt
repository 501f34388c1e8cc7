-- A release after a grant, with a nest between them, restores the block that was split, as the newest of its class.
use Rattle.offset_script.proofs.Common.{◌≡◌, ℕ, ◌+◌, ◌-◌, ◌<◌, ◌≤◌, true, false, ◌&&◌, ◌||◌, ◌⊎◌, List, [], ◌∷◌, ◌++◌, Some, nat_eq, nat_lt, nat_le, refl, sym, ap, ap₂, subst, subst₂, ◌∙◌, inl, inr}
use Rattle.offset_script.proofs.Common.{arith, append_assoc, eqb-true, eq-eqb, lt-ltb, le-ltb, map-append, cases_eq, false≢true, and_parts, nat_tests, up, down, Tag, Live, Free, Block, block, is_free}
use Rattle.offset_script.proofs.Common.{has_number, stamp, Place, fits, place_of, free_part, coalesce, State, stamp_of_call, stamp_of_padding}
use Rattle.offset_allocator.proofs.Views.ViewApart.{left_false, right_false}
use Rattle.offset_script.proofs.Members.{IsIn, in_append, in_left, in_right, in_map, map_parts, map_first, in_parts}
use Rattle.offset_script.proofs.Pairs.{Kind, Lives, Frees, Pair, pair, left_tag, right_tag, left, right, lefts, rights, same_total, same_end, same_start, AreAgreed, AreAllAgreed, IsSameOrder}
use Rattle.offset_script.proofs.Lists.{whole, count, hit, hit_self, in_count, count-append, count_free_part, starts_free, ends_free, AreApart, apart_parts, IsEnd, IsStart, end_of, start_of}
use Rattle.offset_script.proofs.{Lists.coalesce_parts, Well.IsWell, Well.not_there, Well.free_part_is, Well.granted_blocks, Found.place_at, Found.IsBest, Similar.HasSameNumber, Similar.AreSimilar}

same_hit : (k : ℕ) (q : Kind) → HasSameNumber q → hit (Live k) (left_tag q) ≡ hit (Live k) (right_tag q)
same_hit k (Lives i j) e = ap (λ x. hit (Live k) (Live x)) e
same_hit k (Frees s u) e = refl

same_count : (k : ℕ) (p : List Pair) → ((q : Pair) → IsIn q p → HasSameNumber q.kind) → count (Live k) (lefts p) ≡ count (Live k) (rights p)
same_count k [] h = refl
same_count k (q ∷ p) h = ap₂ (λ m n. m + n) (same_hit k q.kind (h q (inl refl))) (same_count k p (λ x i. h x (inr i)))

-- the block that was split is the newest of its class
not_after : (x y s u : ℕ) → (nat_lt x y || (nat_eq x y && nat_lt u s)) ≡ false → nat_eq x y ≡ true → s ≤ u
not_after x y s u f e = grind (arith, nat_tests)

fits_too : (n : ℕ) (q : ℕ) (t : Tag) (b : Block) → is_free t ≡ true → nat_eq (down q) (down b.size) ≡ true → fits n b ≡ true → fits n (block q t) ≡ true
fits_too n q t b f e g = grind (arith, nat_tests)

older : (s : State) → IsWell s → (p : Place) (n u : ℕ) → s.blocks ≡ whole p → p.block.tag ≡ Free u → fits n p.block ≡ true → IsBest n s.blocks p.block
    → (z t : ℕ) → IsIn (block z (Free t)) p.before ⊎ IsIn (block z (Free t)) p.after → nat_eq (down z) (down p.block.size) ≡ true → t < u
older s w p n u e tag f best z t i same =
    let c : Block = block z (Free t) in
    let present : IsIn c s.blocks = subst (IsIn c) (sym e) (in_parts c p.before p.block p.after i) in
    let le = not_after (down z) (down p.block.size) t (stamp p.block.tag) (best c present (fits_too n z (Free t) p.block refl same f)) same in
    let there : 1 ≤ count (Free t) p.before + count (Free t) p.after =
    elim i [ inl h ↦ let l = in_count c p.before h in omega arith | inr h ↦ let l = in_count c p.after h in omega arith ] in
    elim (cases_eq t u) [
      | inl equal ↦
          let own : hit (Free t) p.block.tag ≡ 1 = ap (hit (Free t)) tag ∙ ap (λ x. hit (Free t) (Free x)) (sym equal) ∙ hit_self (Free t) in
          omega (arith, w.once (Free t), ap (count (Free t)) e, count-append (Free t) p.before (p.block ∷ p.after))
      | inr differ ↦ omega (arith, ap stamp tag)
    ]

rights_parts : (xs fs : List Pair) (l : Pair) (rs ys : List Pair) → rights (xs ++ (fs ++ (l ∷ (rs ++ ys)))) ≡ (rights xs ++ rights fs) ++ right l ∷ (rights rs ++ rights ys)
rights_parts xs fs l rs ys = search (arith, map-append, right, rights, append_assoc)

live_number : (q : Kind) (k : ℕ) → left_tag q ≡ Live k → HasSameNumber q → has_number k (right_tag q) ≡ true
live_number (Lives i j) k e m = search (arith, eq-eqb)
live_number (Frees s u) k e m = absurd (grind (arith, e))

-- The pairs before the grant and after the release: the others, and the block itself with its old stamp and its new
-- one.
similar_restored : (ps : List Pair) (before after : List Pair) (z u v : ℕ) → ((q : Pair) → IsIn q before ⊎ IsIn q after → IsIn q ps) → ((q : Pair) → IsIn q ps → HasSameNumber q.kind) → AreAllAgreed ps
    → ((q : Pair) (s t : ℕ) → IsIn q before ⊎ IsIn q after → q.kind ≡ Frees s t → nat_eq (down q.size) (down z) ≡ true → (s < u) × (t < v))
    → AreSimilar (lefts before ++ block z (Free u) ∷ lefts after) (rights before ++ block z (Free v) ∷ rights after)
similar_restored ps before after z u v old numbers agree newest = record {
  paired = record { pairs = before ++ pair z (Frees u v) ∷ after; left_blocks = sym (map-append left before _); right_blocks = sym (map-append right before _); numbers = λ q i. number q (which q i) };
  agree = λ a b i j. ordered a b (which a i) (which b j);
}
  where
    which : (q : Pair) → IsIn q (before ++ pair z (Frees u v) ∷ after) → (IsIn q before ⊎ IsIn q after) ⊎ (q ≡ pair z (Frees u v))
    which q i = elim (in_append q before _ i) [ inl h ↦ inl (inl h) | inr (inl e) ↦ inr e | inr (inr h) ↦ inl (inr h) ]

    number : (q : Pair) → (IsIn q before ⊎ IsIn q after) ⊎ (q ≡ pair z (Frees u v)) → HasSameNumber q.kind
    number q (inl h) = numbers q (old q h)
    number q (inr e) = subst (λ (x : Pair). HasSameNumber x.kind) (sym e) tt

    before_new : (q : Pair) (k : Kind) → q.kind ≡ k → IsIn q before ⊎ IsIn q after → nat_eq (down q.size) (down z) ≡ true → IsSameOrder k (Frees u v)
    before_new q (Lives i j) e h same = tt
    before_new q (Frees s t) e h same = let n = newest q s t h e same in lt-ltb s u n.0 ∙ sym (lt-ltb t v n.1)

    after_new : (q : Pair) (k : Kind) → q.kind ≡ k → IsIn q before ⊎ IsIn q after → nat_eq (down z) (down q.size) ≡ true → IsSameOrder (Frees u v) k
    after_new q (Lives i j) e h same = tt
    after_new q (Frees s t) e h same = let n = newest q s t h e (eq-eqb _ _ (sym (eqb-true _ _ same))) in le-ltb u s (omega (arith, n.0)) ∙ sym (le-ltb v t (omega (arith, n.1)))

    ordered : (a b : Pair) → (IsIn a before ⊎ IsIn a after) ⊎ (a ≡ pair z (Frees u v)) → (IsIn b before ⊎ IsIn b after) ⊎ (b ≡ pair z (Frees u v)) → AreAgreed a b
    ordered a b (inl h) (inl i) = agree a b (old a h) (old b i)
    ordered a b (inl h) (inr e) = subst (AreAgreed a) (sym e) (λ same. before_new a a.kind refl h same)
    ordered a b (inr e) (inl h) = subst (λ x. AreAgreed x b) (sym e) (λ same. after_new b b.kind refl h same)
    ordered a b (inr e) (inr f) = subst₂ AreAgreed (sym e) (sym f) (λ same. le-ltb u u (omega arith) ∙ sym (le-ltb v v (omega arith)))

-- The release finds the grant, and leaves a list like the one before the grant.
pub record IsRestored (s : State) (t : State) : Type 0 where
  pub place : Place
  pub found : place_of (s.grants + 1) t.blocks ≡ Some place
  pub similar : AreSimilar s.blocks (coalesce place.before place.block.size (stamp_of_call t) place.after)

free_stamp : (t : Tag) → is_free t ≡ true → t ≡ Free (stamp t)
free_stamp (Free s) e = refl
free_stamp (Live k) e = absurd (false≢true e)

none_in_all : (s : State) → IsWell s → (k : ℕ) (xs : List Block) (b : Block) (ys : List Block) → s.blocks ≡ xs ++ b ∷ ys → s.grants < k → (before padding_bit : List Pair) (padding front : ℕ)
    → lefts before ≡ xs → lefts padding_bit ≡ free_part padding front
    → ((q : Pair) → IsIn q before → HasSameNumber q.kind) → ((q : Pair) → IsIn q padding_bit → HasSameNumber q.kind) → count (Live k) (rights before ++ rights padding_bit) ≡ 0
none_in_all s w k xs b ys e l before padding_bit padding front on_before on_padding n m = search (arith, not_there, count, count_free_part, count-append, rights, same_count)

pub restored : (s : State) → IsWell s → (p : Place) (needed n padding : ℕ) → s.blocks ≡ whole p → fits needed p.block ≡ true → IsBest needed s.blocks p.block → padding + n ≤ p.block.size
    → (t : State) → IsWell t → AreSimilar (granted_blocks p n padding (stamp_of_padding s) (s.grants + 1) (stamp_of_call s)) t.blocks → IsRestored s t
restored s w p needed n padding e f best enough t v m =
    let z = p.block.size in
    let rest = free_part (z - (padding + n)) (stamp_of_call s) in
    -- the pairs after the grant, one part after the other
    let a = map_parts left m.pairs p.before (free_part padding (stamp_of_padding s) ++ (block n (Live (s.grants + 1)) ∷ (rest ++ p.after))) (sym m.left_blocks) in
    let b = map_parts left a.1 (free_part padding (stamp_of_padding s)) (block n (Live (s.grants + 1)) ∷ (rest ++ p.after)) a.4 in
    let c = map_first left b.1 (block n (Live (s.grants + 1))) (rest ++ p.after) b.4 in
    let d = map_parts left c.1 rest p.after c.4 in
    let parts_whole = a.2 ∙ ap (λ y. a.0 ++ y) (b.2 ∙ ap (λ y. b.0 ++ y) (c.2 ∙ ap (λ y. c.0 ∷ y) d.2)) in
    let blocks = m.right_blocks ∙ ap rights parts_whole ∙ rights_parts a.0 b.0 c.0 d.0 d.1 in
    let live_in = subst (IsIn c.0) (sym parts_whole) (in_right c.0 a.0 (b.0 ++ (c.0 ∷ (d.0 ++ d.1))) (in_right c.0 b.0 (c.0 ∷ (d.0 ++ d.1)) (inl refl))) in
    let old : (q : Pair) → IsIn q a.0 ⊎ IsIn q d.1 → IsIn q m.pairs = λ q i. subst (IsIn q) (sym parts_whole) (elim i [
      | inl h ↦ in_left q a.0 (b.0 ++ (c.0 ∷ (d.0 ++ d.1))) h
      | inr h ↦ in_right q a.0 (b.0 ++ (c.0 ∷ (d.0 ++ d.1))) (in_right q b.0 (c.0 ∷ (d.0 ++ d.1)) (inr (in_right q d.0 d.1 h)))
    ]) in
    let free = (and_parts (is_free p.block.tag) (nat_le (up needed) (down p.block.size)) f).0 in
    let tag = free_stamp p.block.tag free in
    let apart = apart_parts p.before (p.block ∷ p.after) (subst AreApart e w.apart) in
    let ends = same_end a.0 b.0 (subst₂ IsEnd (sym a.3) (sym b.3)
    (end_of p.before (free_part padding (stamp_of_padding s)) (free_part_is padding _).0 (free_part_is padding _).1 (left_false (ends_free p.before) (is_free p.block.tag) apart.2 free))) in
    let starts = same_start d.0 d.1 (subst₂ IsStart (sym d.3) (sym d.4)
    (start_of rest p.after (free_part_is _ _).0 (free_part_is _ _).1 (right_false (is_free p.block.tag) (starts_free p.after) apart.1.0 free))) in
    let right_side : coalesce (rights a.0 ++ rights b.0) c.0.size (stamp_of_call t) (rights d.0 ++ rights d.1) ≡ rights a.0 ++ block z (Free (stamp_of_call t)) ∷ rights d.1 =
    search (arith, coalesce_parts, rights, a, b, c, d, ends, starts, same_total, free_part_is) in
    let left_side = ap₂ (λ x y. x ++ block z (Free (stamp p.block.tag)) ∷ y) a.3 d.4 ∙ ap (λ x. p.before ++ block z x ∷ p.after) (sym tag) ∙ sym e in
    let none_before = none_in_all s w (s.grants + 1) p.before p.block p.after e (omega arith) a.0 b.0 padding (stamp_of_padding s) a.3 b.3
    (λ q i. m.numbers q (old q (inl i))) (λ q i. m.numbers q (subst (IsIn q) (sym parts_whole) (in_right q a.0 (b.0 ++ (c.0 ∷ (d.0 ++ d.1))) (in_left q b.0 (c.0 ∷ (d.0 ++ d.1)) i)))) in
    let below : (q : Pair) (y : ℕ) → IsIn q m.pairs → right_tag q.kind ≡ Free y → y < stamp_of_call t =
    λ q y i k. let there = subst (λ bs. 1 ≤ count (right_tag q.kind) bs) (sym m.right_blocks) (in_count (right q) (rights m.pairs) (in_map right q m.pairs i)) in
    let o = v.old (Free y) (subst (λ x. 1 ≤ count x t.blocks) k there) in omega arith in
    let newest : (q : Pair) (x y : ℕ) → IsIn q a.0 ⊎ IsIn q d.1 → q.kind ≡ Frees x y → nat_eq (down q.size) (down z) ≡ true → (x < stamp p.block.tag) × (y < stamp_of_call t) =
    λ q x y i k same.
    let own : left q ≡ block q.size (Free x) = ap (λ l. block q.size (left_tag l)) k in
    let list_is : IsIn (block q.size (Free x)) p.before ⊎ IsIn (block q.size (Free x)) p.after =
    elim i [ inl h ↦ inl (subst₂ (λ (c : Block) bs. IsIn c bs) own a.3 (in_map left q a.0 h)) | inr h ↦ inr (subst₂ (λ (c : Block) bs. IsIn c bs) own d.4 (in_map left q d.1 h)) ] in
    (older s w p needed (stamp p.block.tag) e tag f best q.size x list_is same, below q y (old q i) (ap right_tag k)) in
    record {
      place = record { before = rights a.0 ++ rights b.0; block = right c.0; after = rights d.0 ++ rights d.1 };
      found = ap (place_of (s.grants + 1)) blocks ∙ place_at (s.grants + 1) _ (right c.0) _ none_before (live_number c.0.kind (s.grants + 1) (ap (λ (b : Block). b.tag) c.3) (m.numbers c.0 live_in));
      similar = subst₂ AreSimilar left_side (sym right_side) (similar_restored m.pairs a.0 d.1 z (stamp p.block.tag) (stamp_of_call t) old m.numbers m.agree newest);
    }
