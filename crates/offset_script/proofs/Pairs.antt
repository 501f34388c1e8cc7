-- Two lists of blocks of the same sizes, both live or both free at each place, seen as one list of pairs.
use Rattle.offset_script.proofs.Common.{◌≡◌, ℕ, zero, suc, ◌+◌, ◌-◌, true, not, ◌&&◌, ◌||◌, ◌⊎◌, List, [], ◌∷◌, ◌++◌, map, length, Option, Some, None, option_map, nat_eq, nat_lt, nat_le}
use Rattle.offset_script.proofs.Common.{if◌then◌else◌, refl, sym, ap, ap₂, subst, subst₂, ◌∙◌, inl, inr, arith, eq-eqb, eqb-true, map-append, length-map, and_parts, up, down, max_size, Tag, Live}
use Rattle.offset_script.proofs.Common.{Free, Block, block, is_free, has_number, stamp, total, free_sizes, Place, fits, is_taken_before, choose, chosen_place, prepend, place_of, free_part, ends_live}
use Rattle.offset_script.proofs.Common.{coalesce, State, is_short_of}
use Rattle.offset_script.proofs.Lists.{starts_free, ends_free, AreFree, IsEnd, IsStart, coalesced, coalesce_parts}
use Rattle.offset_script.proofs.{Members.IsIn, Members.in_append, Members.in_left, Members.in_right, Members.map_parts, Tests.same_and, Tests.if_same}

-- two blocks at one place: both live, with their numbers, or both free, with their stamps
pub data Kind : Type 0 where
  Lives : ℕ → ℕ → Kind
  Frees : ℕ → ℕ → Kind

-- two blocks of one size
pub record Pair : Type 0 where
  pub size : ℕ
  pub kind : Kind

-- two blocks of n units
abbrev pub pair : ℕ → Kind → Pair
pair n k = record { size = n; kind = k }

-- the tag of the first block of a pair
abbrev pub left_tag : Kind → Tag
left_tag (Lives j k) = Live j
left_tag (Frees s u) = Free s

-- the tag of the second block of a pair
abbrev pub right_tag : Kind → Tag
right_tag (Lives j k) = Live k
right_tag (Frees s u) = Free u

-- the first block of a pair
abbrev pub left : Pair → Block
left q = block q.size (left_tag q.kind)

-- the second block of a pair
abbrev pub right : Pair → Block
right q = block q.size (right_tag q.kind)

-- the first blocks of a list of pairs
abbrev pub lefts : List Pair → List Block
lefts p = map left p

-- the second blocks of a list of pairs
abbrev pub rights : List Pair → List Block
rights p = map right p

-- what is the same of both lists
pub same_free : (k : Kind) → is_free (left_tag k) ≡ is_free (right_tag k)
same_free (Lives j k) = refl
same_free (Frees s u) = refl

pub same_length : (p : List Pair) → length (lefts p) ≡ length (rights p)
same_length p = length-map p left ∙ sym (length-map p right)

pub same_total : (p : List Pair) → total (lefts p) ≡ total (rights p)
same_total [] = refl
same_total (q ∷ p) = ap (λ n. q.size + n) (same_total p)

pub same_sizes : (p : List Pair) → free_sizes (lefts p) ≡ free_sizes (rights p)
same_sizes [] = refl
same_sizes (q ∷ p) = ap₂ (λ b l. if b then q.size ∷ l else l) (same_free q.kind) (same_sizes p)

pub same_starts_free : (p : List Pair) → starts_free (lefts p) ≡ starts_free (rights p)
same_starts_free [] = refl
same_starts_free (q ∷ p) = same_free q.kind

pub same_ends_free : (p : List Pair) → ends_free (lefts p) ≡ ends_free (rights p)
same_ends_free [] = refl
same_ends_free (q ∷ []) = same_free q.kind
same_ends_free (q ∷ x ∷ p) = same_ends_free (x ∷ p)

same_all_free : (p : List Pair) → AreFree (lefts p) → AreFree (rights p)
same_all_free [] f = tt
same_all_free (q ∷ p) f = (sym (same_free q.kind) ∙ f.0, same_all_free p f.1)

pub same_ends_live : (p : List Pair) → ends_live (lefts p) ≡ ends_live (rights p)
same_ends_live [] = refl
same_ends_live (q ∷ []) = ap not (same_free q.kind)
same_ends_live (q ∷ x ∷ p) = same_ends_live (x ∷ p)

-- two states of such blocks
module _ (s t : State) (p : List Pair) (limit : s.limit ≡ t.limit) (l : s.blocks ≡ lefts p) (r : t.blocks ≡ rights p) where
  pub same_short : (n : ℕ) → is_short_of n s ≡ is_short_of n t
  same_short n = ap₂ (λ x y. nat_le x (y + n)) limit (ap length l ∙ same_length p ∙ ap length (sym r))

  pub same_units : total s.blocks ≡ total t.blocks
  same_units = ap total l ∙ same_total p ∙ ap total (sym r)

  pub same_free_sizes : free_sizes s.blocks ≡ free_sizes t.blocks
  same_free_sizes = ap free_sizes l ∙ same_sizes p ∙ ap free_sizes (sym r)

  pub same_refusal : (more : ℕ) → (nat_lt max_size (total s.blocks + more) || (ends_live s.blocks && is_short_of 1 s))
      ≡ (nat_lt max_size (total t.blocks + more) || (ends_live t.blocks && is_short_of 1 t))
  same_refusal more = ap₂ (λ x y. nat_lt max_size (x + more) || y) same_units (ap₂ (λ x y. x && y) (ap ends_live l ∙ same_ends_live p ∙ ap ends_live (sym r)) (same_short 1))

-- both lists end and start alike
pub same_end : (ps fs : List Pair) → IsEnd (lefts ps) (lefts fs) → IsEnd (rights ps) (rights fs)
same_end ps fs e =
    let same = ap ends_free (sym (map-append right ps fs)) ∙ sym (same_ends_free (ps ++ fs)) ∙ ap ends_free (map-append left ps fs) in
    record { few = omega (arith, same_length fs, e.few); free = same_all_free fs e.free; live = λ h. same ∙ e.live (same_length fs ∙ h) }

pub same_start : (gs ys : List Pair) → IsStart (lefts gs) (lefts ys) → IsStart (rights gs) (rights ys)
same_start gs ys e =
    let same = ap starts_free (sym (map-append right gs ys)) ∙ sym (same_starts_free (gs ++ ys)) ∙ ap starts_free (map-append left gs ys) in
    record { few = omega (arith, same_length gs, e.few); free = same_all_free gs e.free; live = λ h. same ∙ e.live (same_length gs ∙ h) }

-- units that become free and coalesce on both sides
pub record AreBothCoalesced (ps : List Pair) (n s u : ℕ) (qs : List Pair) : Type 0 where
  pub pairs : List Pair
  pub on_left : coalesce (lefts ps) n s (lefts qs) ≡ lefts pairs
  pub on_right : coalesce (rights ps) n u (rights qs) ≡ rights pairs
  pub old : (q : Pair) → IsIn q pairs → (IsIn q ps ⊎ IsIn q qs) ⊎ (q.kind ≡ Frees s u)

pub both_coalesced : (ps : List Pair) (n s u : ℕ) (qs : List Pair) → AreBothCoalesced ps n s u qs
both_coalesced ps n s u qs =
    let c = coalesced (lefts ps) n s (lefts qs) in
    let m = total c.last + n + total c.first in
    let a = map_parts left ps c.front c.last c.at_front in
    let b = map_parts left qs c.first c.back c.at_back in
    let ends = same_end a.0 a.1 (subst₂ IsEnd (sym a.3) (sym a.4) c.end) in
    let starts = same_start b.0 b.1 (subst₂ IsStart (sym b.3) (sym b.4) c.start) in
    record {
      pairs = a.0 ++ pair m (Frees s u) ∷ b.1;
      on_left = c.is ∙ ap₂ (λ x y. x ++ block m (Free s) ∷ y) (sym a.3) (sym b.4) ∙ sym (map-append left a.0 (pair m (Frees s u) ∷ b.1));
      on_right = search (arith, rights, map-append, a, b, coalesce_parts, ends, starts, same_total);
      old = λ q i. elim (in_append q a.0 _ i) [
        | inl h ↦ inl (inl (subst (IsIn q) (sym a.2) (in_left q a.0 a.1 h)))
        | inr (inl e) ↦ inr (ap (λ (z : Pair). z.kind) e)
        | inr (inr h) ↦ inl (inr (subst (IsIn q) (sym b.2) (in_right q b.0 b.1 h)))
      ];
    }

-- places on both sides: of the same pair, of which P holds, or none
pub data IsSamePlace (P : Pair → Type 0) (p : List Pair) : Option Place → Option Place → Type 0 where
  neither : IsSamePlace P p None None
  both : (xs : List Pair) (q : Pair) (ys : List Pair) → p ≡ xs ++ q ∷ ys → P q
      → IsSamePlace P p (Some (record { before = lefts xs; block = left q; after = lefts ys })) (Some (record { before = rights xs; block = right q; after = rights ys }))

same_later : (P : Pair → Type 0) (q : Pair) (p : List Pair) (o o' : Option Place) → IsSamePlace P p o o'
    → IsSamePlace P (q ∷ p) (option_map (prepend (left q)) o) (option_map (prepend (right q)) o')
same_later P q p None None neither = neither
same_later P q p o o' (both xs x ys e f) = both (q ∷ xs) x ys (ap (λ l. q ∷ l) e) f

-- the places of numbers that occur at the same pairs
pub same_place_of : (k k' : ℕ) (p : List Pair) → ((q : Pair) → IsIn q p → has_number k (left_tag q.kind) ≡ has_number k' (right_tag q.kind))
    → IsSamePlace (λ q. Unit {0}) p (place_of k (lefts p)) (place_of k' (rights p))
same_place_of k k' [] same = neither
same_place_of k k' (q ∷ p) same = if_same (IsSamePlace (λ q. Unit {0}) (q ∷ p)) _ _ _ _ _ _ (same q (inl refl)) (λ e. both [] q p refl tt)
    (same_later (λ q. Unit {0}) q p _ _ (same_place_of k k' p (λ x h. same x (inr h))))

-- of two free pairs of one class, the stamps have the same order on both sides
abbrev pub IsSameOrder : Kind → Kind → Type 0
IsSameOrder (Frees s u) (Frees t v) = nat_lt s t ≡ nat_lt u v
IsSameOrder (Frees s u) (Lives j k) = Unit {0}
IsSameOrder (Lives j k) y = Unit {0}

-- two pairs whose stamps have the same order, if they are of one class
abbrev pub AreAgreed : Pair → Pair → Type 0
AreAgreed a b = nat_eq (down a.size) (down b.size) ≡ true → IsSameOrder a.kind b.kind

-- any two of these pairs agree
abbrev pub AreAllAgreed : List Pair → Type 0
AreAllAgreed p = (a b : Pair) → IsIn a p → IsIn b p → AreAgreed a b

same_fits : (n : ℕ) (q : Pair) → fits n (left q) ≡ fits n (right q)
same_fits n q = ap (λ b. b && nat_le (up n) (down q.size)) (same_free q.kind)

pub same_tests : (x y : ℕ) (k l : Kind) → is_free (left_tag k) ≡ true → is_free (left_tag l) ≡ true → (nat_eq y x ≡ true → IsSameOrder l k)
    → (nat_lt x y || (nat_eq x y && nat_lt (stamp (left_tag l)) (stamp (left_tag k)))) ≡ (nat_lt x y || (nat_eq x y && nat_lt (stamp (right_tag l)) (stamp (right_tag k))))
same_tests x y (Frees s u) (Frees t v) f g h = ap (λ b. nat_lt x y || b) (same_and (nat_eq x y) _ _ (λ e. h (eq-eqb y x (sym (eqb-true x y e)))))
same_tests x y k l f g h = absurd cc

-- of two pairs that are free and agree, the same one is chosen over the other on both sides
same_test : (m : ℕ) (a b : Pair) → fits m (left a) ≡ true → fits m (left b) ≡ true → AreAgreed b a → is_taken_before (left a) (left b) ≡ is_taken_before (right a) (right b)
same_test m a b f g h = same_tests (down a.size) (down b.size) a.kind b.kind (and_parts _ _ f).0 (and_parts _ _ g).0 h

-- what is chosen, where any two pairs agree
choose_same : (n : ℕ) (q : Pair) (p : List Pair) (o o' : Option Place) → AreAllAgreed (q ∷ p) → IsSamePlace (λ x. fits n (left x) ≡ true) p o o'
    → IsSamePlace (λ x. fits n (left x) ≡ true) (q ∷ p) (choose n (left q) (lefts p) o) (choose n (right q) (rights p) o')
choose_same n q p None None agree neither = if_same (IsSamePlace _ (q ∷ p)) _ _ _ _ _ _ (same_fits n q) (λ e. both [] q p refl e) neither
choose_same n q p o o' agree (both xs x ys e f) = if_same (IsSamePlace (λ x. fits n (left x) ≡ true) (q ∷ p)) _ _ _ _ _ _
    (same_and (fits n (left q)) _ _ (λ g. same_test n q x g f (agree x q (inr (subst (IsIn x) (sym e) (in_right x xs (x ∷ ys) (inl refl)))) (inl refl)))
    ∙ ap (λ b. b && is_taken_before (right q) (right x)) (same_fits n q))
    (λ h. both [] q p refl (and_parts _ _ h).0) (both (q ∷ xs) x ys (ap (λ l. q ∷ l) e) f)

pub same_chosen : (n : ℕ) (p : List Pair) → AreAllAgreed p → IsSamePlace (λ x. fits n (left x) ≡ true) p (chosen_place n (lefts p)) (chosen_place n (rights p))
same_chosen n [] agree = neither
same_chosen n (q ∷ p) agree = choose_same n q p _ _ agree (same_chosen n p (λ a b x y. agree a b (inr x) (inr y)))

-- a free block of n units on both sides, or nothing where n is 0
abbrev pub pair_free_part : ℕ → Kind → List Pair
pair_free_part zero k = []
pair_free_part (suc n) k = pair (suc n) k ∷ []

pub lefts_free_part : (n s u : ℕ) → lefts (pair_free_part n (Frees s u)) ≡ free_part n s
lefts_free_part zero s u = refl
lefts_free_part (suc n) s u = refl

pub rights_free_part : (n s u : ℕ) → rights (pair_free_part n (Frees s u)) ≡ free_part n u
rights_free_part zero s u = refl
rights_free_part (suc n) s u = refl

pub in_free_part : (q : Pair) (n : ℕ) (k : Kind) → IsIn q (pair_free_part n k) → q.kind ≡ k
in_free_part q zero k h = absurd h
in_free_part q (suc n) k (inl e) = ap (λ (z : Pair). z.kind) e
in_free_part q (suc n) k (inr h) = absurd h

-- the pairs after a grant in the pair q
abbrev pub pairs_granted : List Pair → Pair → List Pair → ℕ → ℕ → Kind → Kind → Kind → List Pair
pairs_granted xs q ys n padding front live rest = xs ++ (pair_free_part padding front ++ (pair n live ∷ (pair_free_part (q.size - (padding + n)) rest ++ ys)))

pub in_granted : (x : Pair) (xs : List Pair) (q : Pair) (ys : List Pair) (n padding : ℕ) (front live rest : Kind) → IsIn x (pairs_granted xs q ys n padding front live rest)
    → IsIn x (xs ++ q ∷ ys) ⊎ ((x.kind ≡ front) ⊎ (x.kind ≡ live) ⊎ (x.kind ≡ rest))
in_granted x xs q ys n padding front live rest h = elim (in_append x xs (pair_free_part padding front ++ (pair n live ∷ (pair_free_part (q.size - (padding + n)) rest ++ ys))) h) [
  | inl a ↦ inl (in_left x xs _ a)
  | inr b ↦ elim (in_append x (pair_free_part padding front) (pair n live ∷ (pair_free_part (q.size - (padding + n)) rest ++ ys)) b) [
    | inl f ↦ inr (inl (in_free_part x padding front f))
    | inr (inl e) ↦ inr (inr (inl (ap (λ (z : Pair). z.kind) e)))
    | inr (inr g) ↦ elim (in_append x (pair_free_part (q.size - (padding + n)) rest) ys g) [
      | inl f ↦ inr (inr (inr (in_free_part x _ rest f)))
      | inr a ↦ inl (in_right x xs _ (inr a))
    ]
  ]
]

pub lefts_granted : (xs : List Pair) (q : Pair) (ys : List Pair) (n padding s u j j' t v : ℕ) → lefts (pairs_granted xs q ys n padding (Frees s u) (Lives j j') (Frees t v))
    ≡ lefts xs ++ (free_part padding s ++ (block n (Live j) ∷ (free_part (q.size - (padding + n)) t ++ lefts ys)))
lefts_granted xs q ys n padding s u j j' t v = simp (map-append, lefts_free_part)

pub rights_granted : (xs : List Pair) (q : Pair) (ys : List Pair) (n padding s u j j' t v : ℕ) → rights (pairs_granted xs q ys n padding (Frees s u) (Lives j j') (Frees t v))
    ≡ rights xs ++ (free_part padding u ++ (block n (Live j') ∷ (free_part (q.size - (padding + n)) v ++ rights ys)))
rights_granted xs q ys n padding s u j j' t v = simp (map-append, rights_free_part)
