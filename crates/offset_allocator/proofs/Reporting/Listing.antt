-- The last of the first blocks of a space, and the list of what an iterator has left.
use Rattle.offset_allocator.proofs.{Linking.Exchange.there-below, Linking.Ends.Ended, Linking.Ends.ended, Linking.Ends.last_none, Linking.Rows.node_at, Sound.Fields, Sound.AreSound, Sound.shown}
use Rattle.offset_allocator.proofs.{Tallies.times-append, Tallies.one-eq}
use Rattle.offset_allocator.proofs.Common.{◌≡◌, ℕ, suc, ◌+◌, ◌-◌, ◌<◌, ◌≤◌, Bool, None, Some, List, [], ◌∷◌, ◌++◌, length, take, drop, reverse, refl, sym, ap, subst, ◌∙◌, arith, if◌then◌else◌}
use Rattle.offset_allocator.proofs.Common.{length_push, length-take-le, take-take, take-append-le, take_all, take-append-drop, append_assoc, reverse-append, length-reverse, ChainCells, Node, node}
use Rattle.offset_allocator.proofs.Common.{View, Block, units, count_named, last_or, IsRow, Placed, placed_at, placed, common_steps}

-- the first k blocks end in the block of a name
pub record EndsIn (bs : List Block) (k x : ℕ) : Type 0 where
  pub front : List Block
  pub block : Block
  pub after : List Block
  pub is : bs ≡ front ++ block ∷ after
  pub named : block.name ≡ x
  pub taken : take k bs ≡ front ++ block ∷ []
  pub before : take (k - 1) bs ≡ front
  pub some : 1 ≤ k

pub ends_in : (bs : List Block) (k x : ℕ) → k ≤ length bs → last_or None (take k bs) ≡ Some x → EndsIn bs k x
ends_in bs k x l e =
    let d : Ended x (take k bs) = ended (take k bs) x e in
    let n : length d.front + 1 ≡ k = sym (length_push d.front d.last) ∙ ap length (sym d.is) ∙ length-take-le k bs l in
    let m : k - 1 ≡ length d.front = omega (arith, n) in
    let fewer : length d.front ≤ k = omega (arith, n) in
    record {
      front = d.front;
      block = d.last;
      after = drop k bs;
      is = sym (take-append-drop k bs) ∙ ap (λ (l : List Block). l ++ drop k bs) d.is ∙ append_assoc d.front (d.last ∷ []) (drop k bs);
      named = d.name;
      taken = d.is;
      before =
          ap (λ (i : ℕ). take i bs) m ∙ sym (take-take (length d.front) k bs fewer) ∙ ap (take (length d.front)) d.is
          ∙ take-append-le (length d.front) d.front (d.last ∷ []) (omega arith) ∙ take_all (length d.front) d.front (omega arith);
      some = omega (arith, n);
    }

-- one block more at the end
pub placed-push : (o : ℕ) (fs : List Block) (b : Block) → placed o (fs ++ b ∷ []) ≡ placed o fs ++ placed_at (o + units fs) b ∷ []
placed-push o [] b = grind arith
placed-push o (a ∷ fs) b = grind (arith, placed-push (o + a.size) fs b)

pub length-placed : (o : ℕ) (bs : List Block) → length (placed o bs) ≡ length bs
length-placed o [] = refl
length-placed o (b ∷ bs) = ap suc (length-placed (o + b.size) bs)

-- the first k blocks, from the last one of them on
abbrev pub left : ℕ → List Block → List Placed
left k bs = reverse (placed 0 (take k bs))

pub length-left : (k : ℕ) (bs : List Block) → k ≤ length bs → length (left k bs) ≡ k
length-left k bs l = length-reverse (placed 0 (take k bs)) ∙ length-placed 0 (take k bs) ∙ length-take-le k bs l

pub none_left : (k : ℕ) (bs : List Block) → last_or None (take k bs) ≡ None → left k bs ≡ []
none_left k bs e = ap (λ (l : List Block). reverse (placed 0 l)) (last_none (take k bs) e)

-- a node as a block at its place
abbrev placed_node : ℕ → Node → Placed
placed_node x n = record { offset = n.offset; size = n.size; handle = if n.used then Some (record { name = x; offset = n.offset }) else None }

pub node_placed : (x : ℕ) (n : Node) (offset size : ℕ) (used : Bool) → offset ≡ n.offset → size ≡ n.size → used ≡ n.used
    → placed_node x n ≡ record { offset = offset; size = size; handle = if used then Some (record { name = x; offset = offset }) else None }
node_placed x n offset size used e f g = rw (e, f, g)

-- the last of the first k blocks is read from the node of x
pub record IsRead (c : ChainCells) (bs : List Block) (k x : ℕ) : Type 0 where
  pub below : x < length c.nodes
  pub some : 1 ≤ k
  pub block : left k bs ≡ placed_node x (node c x) ∷ left (k - 1) bs
  pub before : last_or None (take (k - 1) bs) ≡ (node c x).before

module _ (it : Fields) (s : AreSound it) (k x : ℕ) where
  read_shown : k ≤ length (shown it).blocks → last_or None (take k (shown it).blocks) ≡ Some x → IsRead it.cells.chain (shown it).blocks k x
  read_shown l e =
      let bs : List Block = (shown it).blocks in
      let c : ChainCells = it.cells.chain in
      let d : EndsIn bs k x = ends_in bs k x l e in
      let n = node_at c d.front d.block d.after x (subst (λ l. IsRow c None 0 l None) d.is s.space.row) d.named in
      let there : 1 ≤ count_named x bs = omega (arith, ap (count_named x) d.is, times-append x d.front (d.block ∷ d.after), one-eq x d.block.name d.named) in
      grind (arith, common_steps, there-below, placed-push, reverse-append)

  pub read_is : (v : View) → shown it ≡ v → k ≤ length v.blocks → last_or None (take k v.blocks) ≡ Some x → IsRead it.cells.chain v.blocks k x
  read_is v e = subst (λ (u : View). k ≤ length u.blocks → last_or None (take k u.blocks) ≡ Some x → IsRead it.cells.chain u.blocks k x) e read_shown
