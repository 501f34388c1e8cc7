-- Lists of blocks that differ only in stamps of the same order in each class.
use Rattle.offset_script.proofs.Common.{◌≡◌, ℕ, zero, suc, true, List, [], ◌∷◌, Option, Some, is_none, nat_eq, nat_lt, get_or, refl, sym, ap, ap₂, subst, subst₂, ◌∙◌, inl, inr, arith, false≢true}
use Rattle.offset_script.proofs.Common.{down, Tag, Live, Free, Block, block, is_free, stamp, holder, outline}
use Rattle.offset_script.proofs.Pairs.{Kind, Lives, Frees, Pair, pair, left_tag, right_tag, left, right, lefts, rights, AreAgreed, AreAllAgreed, IsSameOrder}
use Rattle.offset_script.proofs.{Tests.same_some, Members.IsIn}
use Rattle.std.proofs.Math.ListN.{get_or-map}

-- a live pair has one number
abbrev pub HasSameNumber : Kind → Type 0
HasSameNumber (Lives i j) = i ≡ j
HasSameNumber (Frees s u) = Unit {0}

-- two lists of blocks of the same sizes and numbers
pub record ArePaired (bs cs : List Block) : Type 0 where
  pub pairs : List Pair
  pub left_blocks : bs ≡ lefts pairs
  pub right_blocks : cs ≡ rights pairs
  pub numbers : (q : Pair) → IsIn q pairs → HasSameNumber q.kind

paired_tag : (t u : Tag) → holder t ≡ holder u → (k : Kind) × (t ≡ left_tag k) × (u ≡ right_tag k) × HasSameNumber k
paired_tag (Live i) (Live j) e = (Lives i j, refl, refl, same_some i j e)
paired_tag (Free s) (Free u) e = (Frees s u, refl, refl, tt)
paired_tag t u e = absurd cc

paired_cons : (b c : Block) (bs cs : List Block) → ◌≡◌ {A = ℕ × Option ℕ} (b.size, holder b.tag) (c.size, holder c.tag) → ArePaired bs cs → ArePaired (b ∷ bs) (c ∷ cs)
paired_cons b c bs cs e p =
    let t = paired_tag b.tag c.tag (ap (λ (x : ℕ × Option ℕ). x.1) e) in
    record {
      pairs = pair b.size t.0 ∷ p.pairs;
      left_blocks = ap₂ (λ t l. block b.size t ∷ l) t.1 p.left_blocks;
      right_blocks = ap₂ (λ (x : Block) l. x ∷ l) (ap₂ block (ap (λ (x : ℕ × Option ℕ). x.0) (sym e)) t.2) p.right_blocks;
      numbers = λ q i. elim i [ inl h ↦ subst (λ (x : Pair). HasSameNumber x.kind) (sym h) t.3 | inr h ↦ p.numbers q h ];
    }

pub paired : (bs cs : List Block) → outline bs ≡ outline cs → ArePaired bs cs
paired [] [] e = record { pairs = []; left_blocks = refl; right_blocks = refl; numbers = λ q i. absurd i }
paired (b ∷ bs) (c ∷ cs) e = paired_cons b c bs cs (cc) (paired bs cs (cc))
paired bs cs e = absurd cc

-- two lists that differ only in stamps, which have the same order in each class
pub record AreSimilar (bs cs : List Block) : Type 0 where
  pub paired : ArePaired bs cs
  pub open paired use {pairs, left_blocks, right_blocks, numbers}
  pub agree : AreAllAgreed pairs

-- the block at a place, or a live one past the end
abbrev at : ℕ → List Block → Block
at i bs = get_or bs i (block 0 (Live 0))

-- the same, place by place: equal sizes and numbers, and stamps of free blocks of a class in the same order
record IsOrdered (bs cs : List Block) : Type 0 where
  same : outline bs ≡ outline cs
  order : (i j : ℕ) → is_free (at i bs).tag ≡ true → is_free (at j bs).tag ≡ true → nat_eq (down (at i bs).size) (down (at j bs).size) ≡ true
      → nat_lt (stamp (at i bs).tag) (stamp (at j bs).tag) ≡ nat_lt (stamp (at i cs).tag) (stamp (at j cs).tag)

module _ (bs cs : List Block) (e : outline bs ≡ outline cs) (i : ℕ) where
  shape_same : ◌≡◌ {A = ℕ × Option ℕ} ((at i bs).size, holder (at i bs).tag) ((at i cs).size, holder (at i cs).tag)
  shape_same = sym (get_or-map (λ (b : Block). (b.size, holder b.tag)) bs i (block 0 (Live 0))) ∙ ap (λ o. get_or o i (0, Some 0)) e
      ∙ get_or-map (λ (b : Block). (b.size, holder b.tag)) cs i (block 0 (Live 0))

  size_same : (at i bs).size ≡ (at i cs).size
  size_same = search (arith, shape_same)

  free_same : is_free (at i bs).tag ≡ is_free (at i cs).tag
  free_same = search (arith, is_none, shape_same)

-- pairs by their places
abbrev pair_at : ℕ → List Pair → Pair
pair_at i p = get_or p i (pair 0 (Lives 0 0))

in_at : (i : ℕ) (p : List Pair) → is_free (left_tag (pair_at i p).kind) ≡ true → IsIn (pair_at i p) p
in_at i [] f = absurd (false≢true f)
in_at zero (q ∷ p) f = inl refl
in_at (suc i) (q ∷ p) f = inr (in_at i p f)

at_in : (q : Pair) (p : List Pair) → IsIn q p → (i : ℕ) × (pair_at i p ≡ q)
at_in q [] h = absurd h
at_in q (x ∷ p) (inl e) = (0, sym e)
at_in q (x ∷ p) (inr h) = let r = at_in q p h in (suc r.0, r.1)

-- the order of stamps of two pairs
abbrev IsInOrder : Kind → Kind → Type 0
IsInOrder k l = nat_lt (stamp (left_tag k)) (stamp (left_tag l)) ≡ nat_lt (stamp (right_tag k)) (stamp (right_tag l))

in_order : (k l : Kind) → is_free (left_tag k) ≡ true → is_free (left_tag l) ≡ true → IsSameOrder k l → IsInOrder k l
in_order (Frees s u) (Frees t v) f g h = h
in_order k l f g h = absurd cc

same_order : (k l : Kind) → (is_free (left_tag k) ≡ true → is_free (left_tag l) ≡ true → IsInOrder k l) → IsSameOrder k l
same_order (Frees s u) (Frees t v) h = h refl refl
same_order k l h = tt

same_outline : (p : List Pair) → ((q : Pair) → IsIn q p → HasSameNumber q.kind) → outline (lefts p) ≡ outline (rights p)
same_outline [] h = refl
same_outline (q ∷ p) h = ap₂ (λ x (o : List (ℕ × Option ℕ)). (q.size, x) ∷ o) (held q.kind (h q (inl refl))) (same_outline p (λ x i. h x (inr i)))
  where
    held : (k : Kind) → HasSameNumber k → holder (left_tag k) ≡ holder (right_tag k)
    held (Lives i j) e = ap Some e
    held (Frees s u) e = refl

-- what the blocks at a place are, by their pair
module _ (bs cs : List Block) (p : List Pair) (l : bs ≡ lefts p) (r : cs ≡ rights p) where
  left_at : (i : ℕ) → at i bs ≡ left (pair_at i p)
  left_at i = ap (at i) l ∙ get_or-map left p i (pair 0 (Lives 0 0))

  right_at : (i : ℕ) → at i cs ≡ right (pair_at i p)
  right_at i = ap (at i) r ∙ get_or-map right p i (pair 0 (Lives 0 0))

ordered : (bs cs : List Block) → AreSimilar bs cs → IsOrdered bs cs
ordered bs cs m = record {
  same = ap outline m.left_blocks ∙ same_outline m.pairs m.numbers ∙ sym (ap outline m.right_blocks);
  order = λ i j f g e. search (arith, (left_at bs cs m.pairs m.left_blocks m.right_blocks), (right_at bs cs m.pairs m.left_blocks m.right_blocks), in_order, in_at, m.agree);
}

similar : (bs cs : List Block) → IsOrdered bs cs → AreSimilar bs cs
similar bs cs m =
    let p = paired bs cs m.same in
    let agreed : (i j : ℕ) → AreAgreed (pair_at i p.pairs) (pair_at j p.pairs) = λ i j e. same_order _ _
    (λ f g. search (arith, (left_at bs cs p.pairs p.left_blocks p.right_blocks), (right_at bs cs p.pairs p.left_blocks p.right_blocks), m.order)) in
    record { paired = p; agree = λ a b i j. let x = at_in a p.pairs i in let y = at_in b p.pairs j in subst₂ AreAgreed x.1 y.1 (agreed x.0 y.0) }

pub similar_refl : (bs : List Block) → AreSimilar bs bs
similar_refl bs = similar bs bs (record { same = refl; order = λ i j f g e. refl })

pub similar_sym : (bs cs : List Block) → AreSimilar bs cs → AreSimilar cs bs
similar_sym bs cs m =
    let o = ordered bs cs m in
    similar cs bs (record { same = sym o.same; order = λ i j f g e. search (arith, o.order, (size_same bs cs o.same), (free_same bs cs o.same)) })

pub similar_trans : (xs bs cs : List Block) → AreSimilar xs bs → AreSimilar bs cs → AreSimilar xs cs
similar_trans xs bs cs a b =
    let o = ordered xs bs a in
    let p = ordered bs cs b in
    similar xs cs (record { same = o.same ∙ p.same; order = λ i j f g e. search (arith, o.order, p.order, (size_same xs bs o.same), (free_same xs bs o.same)) })
