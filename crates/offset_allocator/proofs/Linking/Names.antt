-- The stack of unused names, and which names are taken from it and put back.
use Rattle.offset_allocator.proofs.{Saving.Alike.spare-with_spare, Linking.Places.at_place, Linking.Places.next_place, Linking.Places.placed, Linking.Places.previous_place, Linking.Ends.end_free}
use Rattle.offset_allocator.proofs.Common.{◌≡◌, ℕ, zero, suc, ◌+◌, ◌-◌, ◌<◌, ◌≤◌, List, [], ◌∷◌, ◌++◌, length, refl, sym, ap, ◌∙◌, inl, inr, arith, get_or, take, take_more_set, set}
use Rattle.offset_allocator.proofs.Common.{ap₂, map-append, Some, false, Block, Place, Node, Cells, ChainCells, HasPlace, node, free_end, free_part, free_start, with_spare}
use Rattle.offset_allocator.specs.{Names.AreTaken, Names.IsTaken, Names.names_of, Readies.AreReady, Readies.Readies}
use Rattle.std.proofs.lemmas.List.{take_more}

-- the name on top of the stack l is taken, and the stack stays
pub top_taken : (l m : List ℕ) (count y : ℕ) → 0 < count → count ≤ length l → y ≡ get_or l (count - 1) 0 → m ≡ l → take count l ≡ take (count - 1) m ++ y ∷ []
top_taken l m count y some few e same =
    let one_more : (count - 1) + 1 ≡ count = omega (arith, some) in
    ap (λ n. take n l) (sym one_more) ∙ take_more l (count - 1) 0 (omega (arith, few, some)) ∙ ap (λ n. take (count - 1) l ++ n ∷ []) (sym e)
    ∙ ap (λ s. take (count - 1) s ++ y ∷ []) (sym same)

-- a name is put on top
pub put_back : (l : List ℕ) (d e : ChainCells) (count y : ℕ) → count < length l → d.spare ≡ l → e ≡ with_spare d count y → take (count + 1) e.spare ≡ take count l ++ y ∷ []
put_back l d e count y room same new =
    ap (λ (t : ChainCells). take (count + 1) t.spare) new ∙ ap (take (count + 1)) (spare-with_spare d count y ∙ ap (λ s. set s count y) same) ∙ take_more_set l count y room

-- a change of the bins leaves it as it was
pub kept_unused : {c d : ChainCells} {l l' k k' : ℕ} → (d ≡ c) × (l' ≡ l) × (k' ≡ k) → take k' d.spare ≡ take k c.spare
kept_unused e = ap₂ (λ (n : ℕ) (t : ChainCells). take n t.spare) e.2 e.0

pub names-append : (xs ys : List Block) → names_of (xs ++ ys) ≡ names_of xs ++ names_of ys
names-append xs ys = map-append (λ (b : Block). b.name) xs ys

-- the name of the free block directly before a block, and of that after it
pub name_before : {c : ChainCells} {m last count x y : ℕ} {p : Place} → HasPlace c m last count x p → Some y ≡ (node c x).before → (node c y).used ≡ false → names_of (free_end p.before) ≡ y ∷ []
name_before h e u =
    let n = previous_place h e in
    let idle : n.block.used ≡ false = sym (ap (λ (v : Node). v.used) (at_place n.place)) ∙ u in
    ap names_of (ap free_end n.is ∙ (end_free n.front n.block idle).0) ∙ ap (λ i. i ∷ []) n.place.name

pub name_after : {c : ChainCells} {m last count x y : ℕ} {p : Place} → HasPlace c m last count x p → Some y ≡ (node c x).after → (node c y).used ≡ false → names_of (free_start p.after) ≡ y ∷ []
name_after h e u =
    let n = next_place h e in
    let idle : n.block.used ≡ false = sym (ap (λ (v : Node). v.used) (at_place n.place)) ∙ u in
    ap (λ l. names_of (free_start l)) n.is ∙ rw idle (ap (λ i. i ∷ []) n.place.name)

-- a part of a block takes a name where it has units
pub none_taken : (k x n : ℕ) (u : List ℕ) → n ≡ 0 → AreTaken k u (names_of (free_part x n)) u
none_taken k x zero u e = refl
none_taken k x (suc n) u e = absurd (omega (arith, e))

pub one_taken : (k x n : ℕ) (u left : List ℕ) → 0 < n → IsTaken k u x left → AreTaken k u (names_of (free_part x n)) left
one_taken k x zero u left some t = absurd (omega (arith, some))
one_taken k x (suc n) u left some t = (left, t, refl)

-- names are taken one after the other
pub more_taken : (xs ys : List ℕ) (k : ℕ) (u mid left : List ℕ) → AreTaken k u xs mid → AreTaken (k + length xs) mid ys left → AreTaken k u (xs ++ ys) left
more_taken [] ys k u mid left a b = let zero_more : k + 0 ≡ k = omega arith in rw (zero_more, a) at b
more_taken (x ∷ xs) ys k u mid left a b =
    let one_more : k + suc (length xs) ≡ suc k + length xs = omega arith in
    (a.0, a.1, more_taken xs ys (suc k) a.0 mid left a.2 (rw one_more at b))

-- a place stays where a node is made
pub ready_place : {max count count' m last x : ℕ} {c d : Cells} {p : Place} → Readies max c d count count' → HasPlace c.chain m last count x p → HasPlace d.chain m last count' x p
ready_place r h = placed (r.chain _ _ _ h.chain) h.name

-- the next name is taken, where a node was made if there was none
pub next_taken : {m last count x : ℕ} {c : ChainCells} {p : Place} (y : ℕ) (now left : List ℕ) → HasPlace c m last count x p → AreReady c count now → now ≡ left ++ y ∷ []
    → IsTaken (length (p.before ++ p.block ∷ p.after)) (take count c.spare) y left
next_taken {count = zero} {c = c} {p = p} y now left h made e =
    let one = sym made ∙ e in
    let nodes : length c.nodes ≡ length (p.before ++ p.block ∷ p.after) = omega (arith, h.chain.full) in
    go left one nodes
  where
    go : (l : List ℕ) → length c.nodes ∷ [] ≡ l ++ y ∷ [] → length c.nodes ≡ length (p.before ++ p.block ∷ p.after) → IsTaken (length (p.before ++ p.block ∷ p.after)) (take 0 c.spare) y l
    go [] q n = inr (refl, (let same : y ≡ length c.nodes = cc in same ∙ n), refl)
    go (z ∷ []) q n = absurd (cc)
    go (z ∷ w ∷ l) q n = absurd (cc)
next_taken {count = suc k} y now left h made e = inl (sym made ∙ e)

-- how many blocks a part is
pub part_length : (x n : ℕ) → (n ≡ 0 → length (free_part x n) ≡ 0) × (length (free_part x n) ≤ 1)
part_length x zero = (λ e. refl, omega arith)
part_length x (suc n) = (λ e. absurd (omega (arith, e)), omega arith)

pub names-length : (bs : List Block) → length (names_of bs) ≡ length bs
names-length [] = refl
names-length (b ∷ bs) = ap suc (names-length bs)

-- the number of blocks counts only where no name is unused
pub part_taken : (k k' x n : ℕ) (u left : List ℕ) → (u ≡ [] → k ≡ k') → AreTaken k u (names_of (free_part x n)) left → AreTaken k' u (names_of (free_part x n)) left
part_taken k k' x zero u left same t = t
part_taken k k' x (suc n) u left same t = (t.0, elim t.1 [ inl e ↦ inl e | inr e ↦ inr (e.0, e.1 ∙ same e.0, e.2) ], t.2)

pub none_in : (u : List ℕ) (bs : List Block) → u ++ names_of bs ≡ [] → bs ≡ []
none_in [] [] e = refl
none_in [] (b ∷ bs) e = absurd (cc)
none_in (x ∷ u) bs e = absurd (cc)
