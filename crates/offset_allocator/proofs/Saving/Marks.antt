-- Names that are marked as used while a state is read.
use Rattle.offset_allocator.proofs.{Linking.Exchange.Wrote, Linking.Exchange.wrote, Linking.Rows.IsRow-kept, Tallies.one-same, Tallies.one-other, Tallies.times-join, Saving.Alike.spare-with_spare}
use Rattle.offset_allocator.proofs.{Saving.Alike.node-with_spare}
use Rattle.offset_allocator.proofs.Common.{◌≡◌, ◌≢◌, ℕ, suc, ◌+◌, ◌<◌, ◌≤◌, Bool, true, false, None, List, [], ◌∷◌, ◌++◌, length, take, drop, get_or, set, sym, ap, subst, ◌∙◌, arith, cases_eq, inl}
use Rattle.offset_allocator.proofs.Common.{inr, take_more_set, take-append-drop, Cells, ChainCells, Node, node, put, with_spare, Block, count_named, times, one, nat_eq}
use Rattle.offset_allocator.proofs.Linking.Nodes.{length-put, reserved-put, nodes-with_spare, reserved-with_spare}
use Rattle.offset_allocator.specs.Saving.Building.{HasBack, IsMade}
use Rattle.std.proofs.Math.Seq.{drop-cons}

pub one_small : (u : Bool) → one u ≤ 1
one_small true = omega arith
one_small false = omega arith

-- the use of one node is written: of its name, and of the others
module _ (c d : Cells) (x : ℕ) (u : Bool) (l : x < length c.chain.nodes) (e : d.chain ≡ put c.chain x (record (node c.chain x) { used = u })) where
  w : Wrote c.chain d.chain x (record (node c.chain x) { used = u })
  w = wrote e l

  pub use_here : (node d.chain x).used ≡ u
  use_here = ap (λ (n : Node). n.used) w.here

  pub use_other : (k : ℕ) → k ≢ x → node d.chain k ≡ node c.chain k
  use_other k ne = w.other k ne

  pub use_spare : d.chain.spare ≡ c.chain.spare
  use_spare = w.spare

  -- an unused name is marked
  pub mark_added : {o : ℕ} {bs : List Block} {xs : List ℕ} → u ≡ true → (node c.chain x).used ≡ false → HasBack c o bs xs → HasBack d o bs (xs ++ x ∷ [])
  mark_added {o} {bs} {xs} eu idle h =
      let none : count_named x bs + times x xs ≡ 0 = h.marks x ∙ ap one idle in
      record {
        row = IsRow-kept c.chain d.chain None o bs None (λ k s. use_other k (λ q. omega (arith, none, s, ap (λ i. count_named i bs) q))) h.row;
        used = h.used;
        marks = λ k. elim (cases_eq k x) [
          | inl q ↦ subst (λ i. count_named i bs + times i (xs ++ x ∷ []) ≡ one (node d.chain i).used) (sym q) (omega (arith, none, times-join x xs (x ∷ []), one-same x, ap one (use_here ∙ eu)))
          | inr q ↦ omega (arith, h.marks k, times-join k xs (x ∷ []), one-other k x q, ap (λ (n : Node). one n.used) (use_other k q))
        ];
      }

  -- the mark is taken away
  pub mark_removed : {o : ℕ} {bs : List Block} {xs : List ℕ} → u ≡ false → HasBack c o bs (x ∷ xs) → HasBack d o bs xs
  mark_removed {o} {bs} {xs} eu h =
      let once : count_named x bs + (one (nat_eq x x) + times x xs) ≤ 1 = subst (λ n. n ≤ 1) (sym (h.marks x)) (one_small (node c.chain x).used) in
      let none : count_named x bs + times x xs ≡ 0 = omega (arith, once, one-same x) in
      record {
        row = IsRow-kept c.chain d.chain None o bs None (λ k s. use_other k (λ q. omega (arith, none, s, ap (λ i. count_named i bs) q))) h.row;
        used = h.used;
        marks = λ k. elim (cases_eq k x) [
          | inl q ↦ subst (λ i. count_named i bs + times i xs ≡ one (node d.chain i).used) (sym q) (omega (arith, none, ap one (use_here ∙ eu)))
          | inr q ↦ omega (arith, h.marks k, one-other k x q, ap (λ (n : Node). one n.used) (use_other k q))
        ];
      }

-- a stack that is written leaves the row and the marks
pub stacked : (c d : Cells) (i v : ℕ) {o : ℕ} {bs : List Block} {xs : List ℕ} → d.chain ≡ with_spare c.chain i v → HasBack c o bs xs → HasBack d o bs xs
stacked c d i v {o} {bs} {xs} e h =
    let same : (k : ℕ) → node d.chain k ≡ node c.chain k = λ k. ap (λ t. node t k) e ∙ node-with_spare c.chain i v k in
    record {
      row = IsRow-kept c.chain d.chain None o bs None (λ k s. same k) h.row;
      used = h.used;
      marks = λ k. h.marks k ∙ ap (λ (n : Node). one n.used) (sym (same k));
    }

pub stack_top : (c d : ChainCells) (i v : ℕ) → d ≡ with_spare c i v → i < length c.spare → take (i + 1) d.spare ≡ take i c.spare ++ v ∷ []
stack_top c d i v e l = ap (λ (t : ChainCells). take (i + 1) t.spare) e ∙ ap (take (i + 1)) (spare-with_spare c i v) ∙ take_more_set c.spare i v l

-- a name at a place of a list, and those before it
pub times_at : (x i : ℕ) (ws : List ℕ) → i < length ws → x ≡ get_or ws i 0 → times x (take i ws) + 1 ≤ times x ws
times_at x i ws l e =
    let split : take i ws ++ get_or ws i 0 ∷ drop (suc i) ws ≡ ws = ap (λ k. take i ws ++ k) (sym (drop-cons ws i 0 l)) ∙ take-append-drop i ws in
    omega (arith, ap (times x) split, times-join x (take i ws) (get_or ws i 0 ∷ drop (suc i) ws), one-same x, ap (λ y. one (nat_eq x y)) e)

-- nothing else changes
pub made_kept : (x i v w : ℕ) (q : Node) {max n m : ℕ} {c d e : Cells} → IsMade max n m c → d ≡ record c { chain = with_spare c.chain i v }
    → e ≡ record d { chain = put d.chain x q; bins = record d.bins { newer = set d.bins.newer x w } } → IsMade max n m e
made_kept x i v w q {max} {n} {m} {c} {d} {e} h e₁ e₂ = grind (arith, length-put, reserved-put, nodes-with_spare, reserved-with_spare)

pub made_marked : (x w : ℕ) (q : Node) {max n m : ℕ} {c d : Cells} → IsMade max n m c → d ≡ record c { chain = put c.chain x q; bins = record c.bins { newer = set c.bins.newer x w } }
    → IsMade max n m d
made_marked x w q {max} {n} {m} {c} {d} h e = grind (arith, length-put, reserved-put)
