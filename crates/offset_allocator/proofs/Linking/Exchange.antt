-- Blocks in the middle of a chain make room for others.
use Rattle.offset_allocator.proofs.Common.{◌≡◌, ◌≢◌, ℕ, ◌+◌, ◌-◌, ◌<◌, ◌≤◌, ◌^◌, false, Option, None, Some, MatchOption, List, [], ◌∷◌, ◌++◌, length, get_or, take, set, refl, sym, ◌∙◌, ap, arith, inl}
use Rattle.offset_allocator.proofs.Common.{inr, length-append, nat_eq, take_more, take_more_set, cases_eq, cases_lt, nat_tests, ChainCells, Node, node, put, first_or, last_or, IsRow, IsChain, Block}
use Rattle.offset_allocator.proofs.{Common.units, Common.count_named, Common.times, Common.one, Common.common_steps, Tallies.one-same, Tallies.times-join, Tallies.times-append, Tallies.units-append}
use Rattle.offset_allocator.proofs.Linking.Nodes.{node-put, node-put_other, length-put, spare-put, reserved-put}
use Rattle.offset_allocator.proofs.Linking.Rows.{times-first, times-end, first_or-append, last_or-append, IsRow-front, IsRow-back, IsRow-append, IsRow-kept, IsRow-moved, IsRow-aimed}

-- names
pub each-le : (c : ChainCells) (m last count : ℕ) (bs : List Block) → IsChain c m last count bs → (k : ℕ) → count_named k bs + times k (take count c.spare) ≤ 1
each-le c m last count bs h k = grind (arith, h.each k)

pub there-below : (c : ChainCells) (m last count x : ℕ) (bs : List Block) → IsChain c m last count bs → 1 ≤ count_named x bs → x < length c.nodes
there-below c m last count x bs h st = let e = h.each x in grind (arith, nat_tests)

-- the name on top of the stack
top_names : (c : ChainCells) (count : ℕ) → 0 < count → count ≤ length c.spare → (k : ℕ)
    → times k (take count c.spare) ≡ times k (take (count - 1) c.spare) + one (nat_eq k (get_or c.spare (count - 1) 0))
top_names c count some l k = grind (arith, common_steps, take_more, times-join)

-- what is true of an unused name
spare_new : (c : ChainCells) (m last count : ℕ) (bs : List Block) → IsChain c m last count bs → (y : ℕ) → 1 ≤ times y (take count c.spare) → (count_named y bs ≡ 0) × (y < length c.nodes)
spare_new c m last count bs h y l = let e = h.each y in (omega (arith, each-le c m last count bs h y), grind (arith, nat_tests))

pub record IsTop (c : ChainCells) (count y : ℕ) (bs : List Block) : Type 0 where
  pub below : y < length c.nodes
  pub absent : count_named y bs ≡ 0
  pub idle : (node c y).used ≡ false
  pub names : (k : ℕ) → times k (take count c.spare) ≡ times k (take (count - 1) c.spare) + one (nat_eq k y)

pub top : {c : ChainCells} {m last count : ℕ} {bs : List Block} (y : ℕ) → IsChain c m last count bs → 0 < count → y ≡ get_or c.spare (count - 1) 0 → IsTop c count y bs
top {c} {m} {last} {count} {bs} y h some e =
    let names : (k : ℕ) → times k (take count c.spare) ≡ times k (take (count - 1) c.spare) + one (nat_eq k y) = λ k. rw e (top_names c count some (omega (arith, h.stack)) k) in
    let new = spare_new c m last count bs h y (omega (arith, names y, one-same y)) in
    record { below = new.1; absent = new.0; idle = h.idle y new.0; names = names }

-- a name that no block has
pub unused : {c : ChainCells} {m last count : ℕ} {bs : List Block} → IsChain c m last count bs → length bs < m → (y : ℕ) × (y < m) × (count_named y bs ≡ 0)
unused {c} {m} {last} {count} {bs} h room = elim (cases_lt (length c.nodes) m) [
  | inl l ↦ (length c.nodes, l, grind (arith, nat_tests, h.each (length c.nodes)))
  | inr g ↦
      let t = top (get_or c.spare (count - 1) 0) h (omega (arith, h.full, room, g)) refl in
      (get_or c.spare (count - 1) 0, omega (arith, t.below, h.within), t.absent)
]

pub kept_names : (c e : ChainCells) (count : ℕ) → e.spare ≡ c.spare → (k : ℕ) → times k (take count e.spare) ≡ times k (take count c.spare)
kept_names c e count same k = ap (λ s. times k (take count s)) same

pub pushed_names : (c e : ChainCells) (count y : ℕ) → count < length c.spare → e.spare ≡ set c.spare count y → (k : ℕ)
    → times k (take (count + 1) e.spare) ≡ times k (take count c.spare) + one (nat_eq k y)
pushed_names c e count y l same k = grind (arith, take_more_set, times-join)

-- one write
pub record Wrote (c d : ChainCells) (x : ℕ) (n : Node) : Type 0 where
  pub here : node d x ≡ n
  pub other : (k : ℕ) → k ≢ x → node d k ≡ node c k
  pub cells : length d.nodes ≡ length c.nodes
  pub spare : d.spare ≡ c.spare
  pub memory : d.reserved ≡ c.reserved

pub wrote : {c d : ChainCells} {x : ℕ} {n : Node} → d ≡ put c x n → x < length c.nodes → Wrote c d x n
wrote {c} {d} {x} {n} e l = grind (arith, node-put, node-put_other, length-put, spare-put, reserved-put)

-- a node with another link
abbrev pub back_to : ℕ → Node → Node
back_to y n = record n { before = Some y }

abbrev pub on_to : ℕ → Node → Node
on_to y n = record n { after = Some y }

-- a write to the node that a link names, if it names one
abbrev pub IsRelinked : Option ℕ → (Node → Node) → ChainCells → ChainCells → Type 0
IsRelinked link f w d = MatchOption link (d ≡ w) (λ z. d ≡ put w z (f (node w z)))

module _ (f : Node → Node) (w d : ChainCells) where
  pub relinked_at : (link : Option ℕ) (z : ℕ) → IsRelinked link f w d → link ≡ Some z → z < length w.nodes → node d z ≡ f (node w z)
  relinked_at None z e q l = cc
  relinked_at (Some z') z e q l = let same : z' ≡ z = cc in rw (← same, e) (node-put w z' _ (rw same l))

  pub relinked_other : (link : Option ℕ) (k : ℕ) → IsRelinked link f w d → link ≢ Some k → node d k ≡ node w k
  relinked_other None k e ne = rw e
  relinked_other (Some z) k e ne = rw e (node-put_other w z _ k (λ q. ne (ap (λ v. Some v) (sym q))))

  pub relinked_length : (link : Option ℕ) → IsRelinked link f w d → length d.nodes ≡ length w.nodes
  relinked_length None e = rw e
  relinked_length (Some z) e = rw e (length-put w z _)

  pub relinked_spare : (link : Option ℕ) → IsRelinked link f w d → d.spare ≡ w.spare
  relinked_spare None e = rw e
  relinked_spare (Some z) e = rw e (spare-put w z _)

  pub relinked_memory : (link : Option ℕ) → IsRelinked link f w d → d.reserved ≡ w.reserved
  relinked_memory None e = rw e
  relinked_memory (Some z) e = rw e (reserved-put w z _)

pub node_same : (c d : ChainCells) (k : ℕ) → d.nodes ≡ c.nodes → node d k ≡ node c k
unfolding node
node_same c d k e = rw e

-- Between fs and cs, new takes the place of old. In w the new nodes are written; in d a neighbour may be linked to them
-- too; in e the stack is written.
pub record IsExchange (c w d e : ChainCells) (count count' : ℕ) (fs old new cs : List Block) : Type 0 where
  pub row : IsRow w (last_or None fs) (units fs) new (first_or None cs)
  pub others : (k : ℕ) → count_named k old ≡ 0 → count_named k new ≡ 0 → node w k ≡ node c k
  pub gone : (k : ℕ) → 1 ≤ count_named k old → count_named k new ≡ 0 → (node w k).used ≡ false
  pub cells : length w.nodes ≡ length c.nodes
  pub same : e.nodes ≡ d.nodes
  pub memory : e.reserved ≡ c.reserved
  pub stack : length e.spare ≡ length c.spare
  pub names : (k : ℕ) → count_named k new + times k (take count' e.spare) ≡ count_named k old + times k (take count c.spare)
  pub full : length new + count' ≡ length old + count

module _ {c w d e : ChainCells} {m last count count' : ℕ} {fs old new cs : List Block} (h : IsChain c m last count (fs ++ (old ++ cs))) (x : IsExchange c w d e count count' fs old new cs) where
  seen : (k : ℕ) → (count_named k fs + (count_named k old + count_named k cs)) + times k (take count c.spare) ≤ 1
  seen k = omega (arith, each-le c m last count _ h k, times-append k fs (old ++ cs), times-append k old cs)

  apart : (k : ℕ) → 1 ≤ count_named k fs + count_named k cs → (count_named k old ≡ 0) × (count_named k new ≡ 0) × (k < length w.nodes)
  apart k l = (omega (arith, seen k), omega (arith, seen k, x.names k), omega (arith, x.cells, there-below c m last count k _ h (omega (arith, times-append k fs (old ++ cs), times-append k old cs))))

  left : (k : ℕ) → 1 ≤ count_named k fs + count_named k cs → node w k ≡ node c k
  left k l = let a = apart k l in x.others k a.0 a.1

  front : IsRow w None 0 fs (first_or (first_or None cs) old)
  front = IsRow-kept c w None 0 fs _ (λ k l. left k (omega arith)) (rw first_or-append at (IsRow-front c None 0 fs (old ++ cs) None h.row))

  pub back : IsRow w (last_or (last_or None fs) old) (units fs + units old) cs None
  back =
      let zero_is : 0 + units fs ≡ units fs = omega arith in
      IsRow-kept c w _ _ cs None (λ k l. left k (omega arith)) (rw zero_is at (IsRow-back c (last_or None fs) (0 + units fs) old cs None (IsRow-back c None 0 fs (old ++ cs) None h.row)))

  ends_are : (bs : List Block) → last_or None (fs ++ (bs ++ cs)) ≡ last_or (last_or (last_or None fs) bs) cs
  ends_are bs = last_or-append None fs (bs ++ cs) ∙ last_or-append (last_or None fs) bs cs

  module _ (link : Option ℕ) (f : Node → Node) (linked : IsRelinked link f w d) (beside : (z : ℕ) → link ≡ Some z → 1 ≤ count_named z fs + count_named z cs) where
    finish : (last' : ℕ) → IsRow d None 0 fs (first_or (first_or None cs) new) → IsRow d (last_or (last_or None fs) new) (units fs + units new) cs None
        → last_or (last_or (last_or None fs) new) cs ≡ Some last' → units fs + (units new + units cs) < 2 ^ 32 → IsChain e m last' count' (fs ++ (new ++ cs))
    finish last' before after ends fits =
        let zero_is : 0 + units fs ≡ units fs = omega arith in
        let middle = IsRow-kept w d (last_or None fs) (units fs) new (first_or None cs) (λ k l. relinked_other f w d link k linked (λ q. omega (arith, (apart k (beside k q)).1))) x.row in
        let long = length-append fs (new ++ cs) in
        let was = length-append fs (old ++ cs) in
        let full = h.full in
        let cells : length e.nodes ≡ length c.nodes = ap (λ (l : List Node). length l) x.same ∙ relinked_length f w d link linked ∙ x.cells in
        record {
          memory = x.memory ∙ h.memory;
          within = omega (arith, cells, h.within);
          stack = x.stack ∙ h.stack ∙ sym cells;
          row = IsRow-kept d e None 0 _ None (λ k _. node_same d e k x.same)
              (IsRow-append d None 0 fs (new ++ cs) None (rw first_or-append before) (rw zero_is (IsRow-append d (last_or None fs) (units fs) new cs None middle after)));
          ends = ends_are new ∙ ends;
          each = λ k. rw cells (omega (arith, h.each k, x.names k, times-append k fs (old ++ cs), times-append k old cs, times-append k fs (new ++ cs), times-append k new cs));
          idle = λ k none.
              let no : (count_named k new ≡ 0) × (count_named k fs + count_named k cs ≡ 0) =
              (omega (arith, times-append k fs (new ++ cs), times-append k new cs), omega (arith, times-append k fs (new ++ cs), times-append k new cs)) in
              ap (λ (v : Node). v.used) (node_same d e k x.same ∙ relinked_other f w d link k linked (λ q. omega (arith, beside k q, no.1))) ∙ elim (cases_eq (count_named k old) 0) [
                | inl z ↦ ap (λ (v : Node). v.used) (x.others k z no.0) ∙ h.idle k (omega (arith, no.1, times-append k fs (old ++ cs), times-append k old cs))
                | inr z ↦ x.gone k (omega arith) no.0
              ];
          full = omega (arith, cells, x.full, length-append old cs, length-append new cs);
          fits = omega (arith, fits, units-append fs (new ++ cs), units-append new cs);
        }

  -- no neighbour is linked anew
  pub link_none : d ≡ w → first_or (first_or None cs) new ≡ first_or (first_or None cs) old → last_or (last_or None fs) new ≡ last_or (last_or None fs) old
      → IsRow w (last_or (last_or None fs) new) (units fs + units new) cs None → units fs + (units new + units cs) < 2 ^ 32 → IsChain e m last count' (fs ++ (new ++ cs))
  link_none q first final after fits = finish None (λ n. n) q (λ z k. absurd (cc)) last (rw (q, first) front) (rw q after) (rw final (sym (ends_are old) ∙ h.ends)) fits

  fits_still : units new ≡ units old → units fs + (units new + units cs) < 2 ^ 32
  fits_still even = omega (arith, h.fits, even, units-append fs (old ++ cs), units-append old cs)

  once : (k : ℕ) → count_named k fs + count_named k cs ≤ 1
  once k = omega (arith, seen k)

  -- the block after them is linked back to the last of the new ones, or this is the last of all
  pub link_back : (last' y : ℕ) → IsRelinked (first_or None cs) (back_to y) w d → last_or (last_or None fs) new ≡ Some y
      → first_or (first_or None cs) new ≡ first_or (first_or None cs) old → units new ≡ units old → MatchOption (first_or None cs) (last' ≡ y) (λ _. last' ≡ last)
      → IsChain e m last' count' (fs ++ (new ++ cs))
  link_back last' y linked final first even moved =
      let none : (k : ℕ) → 1 ≤ count_named k fs → first_or None cs ≢ Some k = λ k l q. omega (arith, once k, times-first k cs q) in
      finish (first_or None cs) (back_to y) linked (λ z q. omega (arith, times-first z cs q)) last'
      (rw first (IsRow-kept w d None 0 fs _ (λ k l. relinked_other (back_to y) w d (first_or None cs) k linked (none k l)) front))
      (rw (final, even) (IsRow-moved w d _ (Some y) _ cs None (λ k. omega (arith, once k))
      (λ z q. relinked_at (back_to y) w d (first_or None cs) z linked q (apart z (omega (arith, times-first z cs q))).2)
      (λ k l ne. relinked_other (back_to y) w d (first_or None cs) k linked ne) back))
      (rw final (go cs moved (sym (ends_are old) ∙ h.ends)))
      (fits_still even)
    where
      go : (l : List Block) → MatchOption (first_or None l) (last' ≡ y) (λ _. last' ≡ last) → last_or (last_or (last_or None fs) old) l ≡ Some last → last_or (Some y) l ≡ Some last'
      go [] e q = ap (λ v. Some v) (sym e)
      go (b ∷ l) e q = q ∙ ap (λ v. Some v) (sym e)

  -- the block before them is linked on to the first of the new ones
  pub link_on : (y : ℕ) → IsRelinked (last_or None fs) (on_to y) w d → first_or (first_or None cs) new ≡ Some y
      → last_or (last_or None fs) new ≡ last_or (last_or None fs) old → units new ≡ units old → IsChain e m last count' (fs ++ (new ++ cs))
  link_on y linked first final even =
      let none : (k : ℕ) → 1 ≤ count_named k cs → last_or None fs ≢ Some k = λ k l q. omega (arith, once k, times-end k fs q) in
      finish (last_or None fs) (on_to y) linked (λ z q. omega (arith, times-end z fs q)) last
      (rw first (IsRow-aimed w d None 0 fs _ (Some y) (λ k. omega (arith, once k)) (λ z q. relinked_at (on_to y) w d (last_or None fs) z linked q (apart z (omega (arith, times-end z fs q))).2)
      (λ k l ne. relinked_other (on_to y) w d (last_or None fs) k linked ne) front))
      (rw (final, even) (IsRow-kept w d _ _ cs None (λ k l. relinked_other (on_to y) w d (last_or None fs) k linked (none k l)) back))
      (rw final (sym (ends_are old) ∙ h.ends))
      (fits_still even)
