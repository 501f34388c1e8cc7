-- Trees of maxima: a search from the top, and a change from below.
use Rattle.std.proofs.Common.{◌≡◌, ◌≢◌, ℕ, zero, suc, ◌+◌, ◌-◌, ◌*◌, ◌^◌, ◌/◌, ◌<◌, ◌≤◌, max, length, List, [], ◌∷◌, drop, slice_set, refl, sym, ap, ◌∙◌, subst, inl, inr, arith}
use Rattle.std.proofs.lemmas.Bool.{cases_eq, cases_lt}
use Rattle.std.proofs.lemmas.List.{get_or-set_same, get_or-set_other, get_or-drop, get_or_past, length-drop, length-set}
use Rattle.std.proofs.lemmas.Grind.{pow_more}
use Rattle.std.proofs.Math.Pow.{pow_mono}
use Rattle.offset_heaps.specs.Maxima.{AreBelow, IsTree, IsAbove, IsTreeBut, IsFirstInLevel, IsLastInLevel, cell}

pub cell_same : (cells : List ℕ) (k v : ℕ) → k < length cells → cell k (slice_set cells k v) ≡ v
cell_same cells k v l = get_or-set_same cells k v 0 l

pub cell_other : (cells : List ℕ) (k j v : ℕ) → j ≢ k → cell j (slice_set cells k v) ≡ cell j cells
cell_other cells k j v n = get_or-set_other cells k j v 0 n

-- no cell is above the topmost
pub below_top : (height fuel k : ℕ) (cells : List ℕ) → IsTree height cells → k ≤ fuel → 1 ≤ k → k < 2 * 2 ^ height → cell k cells ≤ cell 1 cells
below_top height zero k cells t f some small = absurd (omega arith)
below_top height (suc fuel) k cells t f some small = elim (cases_eq k 1) [
  | inl e ↦ rw e (omega arith)
  | inr n ↦
      let p = k / 2 in
      let up : cell p cells ≤ cell 1 cells = below_top height fuel (k / 2) cells t (omega arith) (omega arith) (omega arith) in
      let top : cell p cells ≡ max (cell (2 * p) cells) (cell (2 * p + 1) cells) = t.over p (omega arith) (omega arith) in
      elim (cases_eq k (2 * p)) [
        | inl e ↦ rw e (omega arith)
        | inr m ↦ let e : k ≡ 2 * p + 1 = omega arith in rw e (omega arith)
      ]
]

pub raised : (height place p v : ℕ) (cells : List ℕ) → IsTreeBut place height cells → p ≡ place / 2 → 1 ≤ p → p < 2 ^ height
    → v ≡ max (cell (2 * p) cells) (cell (2 * p + 1) cells) → IsTreeBut p height (slice_set cells p v)
raised height place p v cells t half some small is = record {
  wide = length-set cells p v ∙ t.wide;
  low = t.low;
  over = λ k some' small' l r. elim (cases_eq k p) [
    | inl e ↦ rw (e, cell_same cells p v (let w = t.wide in omega arith), cell_other cells p (2 * p) v (λ e. omega arith), cell_other cells p (2 * p + 1) v (λ e. omega arith)) is
    | inr n ↦ rw (cell_other cells p k v n, cell_other cells p (2 * k) v l, cell_other cells p (2 * k + 1) v r) (t.over k some' small' (λ e. n (omega arith)) (λ e. n (omega arith)))
  ];
}

-- the cells below a level are within the tree
pub in_width : (height level least place : ℕ) (cells : List ℕ) → IsTree height cells → level < height → IsFirstInLevel least level place cells → place * 2 < length cells
in_width height level least place cells t low is =
    let power : 2 ^ (level + 1) ≤ 2 ^ height = pow_mono (omega arith) in
    let next = pow_more 2 level in
    let to = is.to in
    let wide = t.wide in
    omega arith

-- the first cell of a level that is large enough is the larger of the two below it
step : (height level least place : ℕ) (cells : List ℕ) → IsTree height cells → level < height → IsFirstInLevel least level place cells
    → cell place cells ≡ max (cell (2 * place) cells) (cell (2 * place + 1) cells)
step height level least place cells t low is =
    let power : 2 ^ (level + 1) ≤ 2 ^ height = pow_mono (omega arith) in
    let next = pow_more 2 level in
    let to = is.to in
    let from = is.from in
    let some : 1 ≤ 2 ^ level = pow_mono {i = 0} (omega arith) in
    t.over place (omega arith) (omega arith)

-- a cell of the next level, left of those below this one
left_of : (height level least place j : ℕ) (cells : List ℕ) → IsTree height cells → level < height → IsFirstInLevel least level place cells
    → 2 ^ (level + 1) ≤ j → j < 2 * place → cell j cells < least
left_of height level least place j cells t low is from before =
    let power : 2 ^ (level + 1) ≤ 2 ^ height = pow_mono (omega arith) in
    let next = pow_more 2 level in
    let to = is.to in
    let some : 1 ≤ 2 ^ level = pow_mono {i = 0} (omega arith) in
    let p = j / 2 in
    let small : cell p cells < least = is.left p (omega arith) (omega arith) in
    let top : cell p cells ≡ max (cell (2 * p) cells) (cell (2 * p + 1) cells) = t.over p (omega arith) (omega arith) in
    elim (cases_eq j (2 * p)) [
      | inl e ↦ rw e (omega arith)
      | inr m ↦ let e : j ≡ 2 * p + 1 = omega arith in rw e (omega arith)
    ]

-- where the left one of these is large enough, it is the first of its level that is
pub step_left : (height level least place : ℕ) (cells : List ℕ) → IsTree height cells → level < height → IsFirstInLevel least level place cells
    → least ≤ cell (place * 2) cells → IsFirstInLevel least (level + 1) (place * 2) cells
step_left height level least place cells t low is enough =
    let next = pow_more 2 level in
    let from = is.from in
    let to = is.to in
    record {
      from = omega arith;
      to = omega arith;
      enough = enough;
      left = λ j above before. left_of height level least place j cells t low is above (omega arith);
    }

-- and else the right one is
pub step_right : (height level least place : ℕ) (cells : List ℕ) → IsTree height cells → level < height → IsFirstInLevel least level place cells
    → cell (place * 2) cells < least → IsFirstInLevel least (level + 1) (place * 2 + 1) cells
step_right height level least place cells t low is less =
    let next = pow_more 2 level in
    let from = is.from in
    let to = is.to in
    let top = step height level least place cells t low is in
    let had = is.enough in
    let two : place * 2 ≡ 2 * place = omega arith in
    let less : cell (2 * place) cells < least = subst (λ k. cell k cells < least) two less in
    record {
      from = omega arith;
      to = omega arith;
      enough = rw two (omega arith);
      left = λ j above before. elim (cases_eq j (2 * place)) [
        | inl e ↦ rw e less
        | inr n ↦ left_of height level least place j cells t low is above (omega arith)
      ];
    }

-- the same from the right: the cells below a level are within the tree
pub in_width_last : (height level least place : ℕ) (cells : List ℕ) → IsTree height cells → level < height → IsLastInLevel least level place cells → 2 * place + 1 < length cells
in_width_last height level least place cells t low is =
    let power : 2 ^ (level + 1) ≤ 2 ^ height = pow_mono (omega arith) in
    let next = pow_more 2 level in
    let to = is.to in
    let wide = t.wide in
    omega arith

-- a cell of the next level, right of those below this one
right_of : (height level least place j : ℕ) (cells : List ℕ) → IsTree height cells → level < height → IsLastInLevel least level place cells
    → 2 * place + 1 < j → j < 2 * 2 ^ (level + 1) → cell j cells < least
right_of height level least place j cells t low is behind to =
    let power : 2 ^ (level + 1) ≤ 2 ^ height = pow_mono (omega arith) in
    let next = pow_more 2 level in
    let p = j / 2 in
    let small : cell p cells < least = is.right p (omega arith) (omega arith) in
    let top : cell p cells ≡ max (cell (2 * p) cells) (cell (2 * p + 1) cells) = t.over p (omega arith) (omega arith) in
    elim (cases_eq j (2 * p)) [
      | inl e ↦ rw e (omega arith)
      | inr m ↦ let e : j ≡ 2 * p + 1 = omega arith in rw e (omega arith)
    ]

-- below the last cell of a level that is large enough, the right one is the last of its level, where it is large enough
pub last_right : (height level least place : ℕ) (cells : List ℕ) → IsTree height cells → level < height → IsLastInLevel least level place cells
    → least ≤ cell (2 * place + 1) cells → IsLastInLevel least (level + 1) (2 * place + 1) cells
last_right height level least place cells t low is enough =
    let next = pow_more 2 level in
    let from = is.from in
    let to = is.to in
    record {
      from = omega arith;
      to = omega arith;
      enough = enough;
      right = λ j behind before. right_of height level least place j cells t low is behind before;
    }

-- and else the left one is
pub last_left : (height level least place q : ℕ) (cells : List ℕ) → IsTree height cells → level < height → IsLastInLevel least level place cells
    → q ≡ 2 * place → cell (2 * place + 1) cells < least → IsLastInLevel least (level + 1) q cells
last_left height level least place q cells t low is e less =
    let power : 2 ^ (level + 1) ≤ 2 ^ height = pow_mono (omega arith) in
    let next = pow_more 2 level in
    let from = is.from in
    let to = is.to in
    let some : 1 ≤ 2 ^ level = pow_mono {i = 0} (omega arith) in
    let top : cell place cells ≡ max (cell (2 * place) cells) (cell (2 * place + 1) cells) = t.over place (omega arith) (omega arith) in
    let had = is.enough in
    rw e (record {
      from = omega arith;
      to = omega arith;
      enough = omega arith;
      right = λ j behind before. elim (cases_eq j (2 * place + 1)) [
        | inl e ↦ rw e less
        | inr n ↦ right_of height level least place j cells t low is (omega arith) before
      ];
    })

-- where the topmost cell is too small, so is each number
pub none_enough : (height least : ℕ) (cells : List ℕ) → IsTree height cells → 1 ≤ least → cell 1 cells < least → AreBelow least (drop (2 ^ height) cells)
none_enough height least cells t some low i = rw (get_or-drop (2 ^ height) cells i 0) (elim (cases_lt (2 ^ height + i) (length cells)) [
  | inl l ↦
      let wide = t.wide in
      let one : 1 ≤ 2 ^ height = pow_mono {i = 0} (omega arith) in
      let most = below_top height (2 ^ height + i) (2 ^ height + i) cells t (omega arith) (omega arith) (omega arith) in
      omega arith
  | inr past ↦ rw (get_or_past cells (2 ^ height + i) 0 past) (omega arith)
])

pub climbs : (height level place : ℕ) → level < height → IsAbove height level place → IsAbove height (level + 1) (place / 2)
climbs height level place low is =
    let from = is.from in
    let to = is.to in
    let m = height - (level + 1) in
    let e : height - level ≡ m + 1 = omega arith in
    let next : 2 ^ (height - level) ≡ 2 ^ m * 2 = ap (λ k. 2 ^ k) e ∙ pow_more 2 m in
    record { from = omega arith; to = omega arith }

pub climbs_within : (height level place : ℕ) → level < height → IsAbove height level place → (1 ≤ place / 2) × (place / 2 < 2 ^ height)
climbs_within height level place low is =
    let up = climbs height level place low is in
    let from = up.from in
    let to = up.to in
    let m = height - (level + 1) in
    let e : height - level ≡ m + 1 = omega arith in
    let some : 1 ≤ 2 ^ m = pow_mono {i = 0} (omega arith) in
    let next : 2 ^ (m + 1) ≡ 2 ^ m * 2 = pow_more 2 m in
    let power : 2 ^ (m + 1) ≤ 2 ^ height = pow_mono (omega arith) in
    (omega arith, omega arith)

-- the cell of a number
pub place_within : (height at len : ℕ) (cells : List ℕ) → IsTree height cells → len ≡ length cells → at < length (drop (2 ^ height) cells) → len / 2 + at < length cells
place_within height at len cells t e low =
    let wide = t.wide in
    let rest = length-drop (2 ^ height) cells in
    omega arith

-- its number, and how many there are
pub own_cell : (height at len : ℕ) (cells : List ℕ) → IsTree height cells → len ≡ length cells → cell (len / 2 + at) cells ≡ cell at (drop (2 ^ height) cells)
own_cell height at len cells t e =
    let wide = t.wide in
    let half : len / 2 + at ≡ 2 ^ height + at = omega arith in
    ap (λ k. cell k cells) half ∙ sym (get_or-drop (2 ^ height) cells at 0)

pub few_keys : (height : ℕ) (cells : List ℕ) → IsTree height cells → length (drop (2 ^ height) cells) ≤ 2 ^ 32
few_keys height cells t =
    let wide = t.wide in
    let power : 2 ^ height ≤ 2 ^ 32 = pow_mono t.low in
    let rest = length-drop (2 ^ height) cells in
    omega arith

set_kept : (keys : List ℕ) (at key : ℕ) → cell at keys ≡ key → keys ≡ slice_set keys at key
set_kept [] at key e = refl
set_kept (x ∷ keys) zero key e = ap (λ y. y ∷ keys) e
set_kept (x ∷ keys) (suc at) key e = ap (λ ks. x ∷ ks) (set_kept keys at key e)

pub kept : (height at len key : ℕ) (cells : List ℕ) → IsTree height cells → len ≡ length cells → cell (len / 2 + at) cells ≡ key
    → drop (2 ^ height) cells ≡ slice_set (drop (2 ^ height) cells) at key
kept height at len key cells t e is =
    let wide = t.wide in
    let half : len / 2 + at ≡ 2 ^ height + at = omega arith in
    set_kept (drop (2 ^ height) cells) at key (get_or-drop (2 ^ height) cells at 0 ∙ subst (λ k. cell k cells ≡ key) half is)

-- one more level is needed where the places are too few
pub one_more : (height places count : ℕ) → places ≡ 2 ^ height → places < count → ((bits : ℕ) → count ≤ 2 ^ bits → height ≤ bits)
    → (bits : ℕ) → count ≤ 2 ^ bits → height + 1 ≤ bits
one_more height places count power few least bits enough = elim (cases_lt height bits) [
  | inl l ↦ omega arith
  | inr l ↦ absurd (let le : 2 ^ bits ≤ 2 ^ height = pow_mono l in omega arith)
]
