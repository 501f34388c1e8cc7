-- Tables that are filled with the cells of others.
use Rattle.offset_allocator.proofs.Common.{◌≡◌, ℕ, ◌<◌, ◌-◌, true, Bool, Option, List, length, get_or, get_or-set_same, get_or-set_other, set, refl, sym, ap, ◌∙◌, arith, ext_get_or}
use Rattle.offset_allocator.proofs.Common.{slice_index, nat_tests, Cells, ChainCells, Node, blank, node, put, with_spare, AreShaped, mark_of}
use Rattle.offset_allocator.proofs.{Linking.Nodes.node-put, Linking.Nodes.node-put_other, Linking.Nodes.length-put, Linking.Nodes.spare-put, Linking.Nodes.reserved-put, Linking.Nodes.nodes-with_spare}
use Rattle.offset_allocator.proofs.{Linking.Nodes.reserved-with_spare}
use Rattle.offset_allocator.specs.Saving.Copying.{IsAlikeAt, IsFilled, KeepsOtherNames}

-- a node by its fields
pub node_is : {o z : ℕ} {u : Bool} {b a : Option ℕ} (n : Node) → o ≡ n.offset → z ≡ n.size → u ≡ n.used → b ≡ n.before → a ≡ n.after
    → record { offset = o; size = z; used = u; before = b; after = a } ≡ n
node_is n eo ez eu eb ea = rw (eo, ez, eu, eb, ea) refl

module _ {x max : ℕ} {f c d : Cells} (n : Node) (o : ℕ) (s : AreShaped max c) (l : x < length c.chain.nodes) (block : d ≡ record c { chain = put c.chain x n })
    (older : o ≡ slice_index f.bins.older x) where
  -- a used node
  pub used_filled : {e k : Cells} → e ≡ record d { bins = record d.bins { older = set d.bins.older x o } }
      → k ≡ record e { chain = put e.chain x (record (node e.chain x) { used = true }); bins = record e.bins { newer = set e.bins.newer x (mark_of max true) } }
      → record n { used = true } ≡ node f.chain x → slice_index f.bins.newer x ≡ max - 1 → IsFilled x f c k
  used_filled {e} {k} q r is mark =
      grind (arith, get_or-set_same, get_or-set_other, node-put, node-put_other, length-put, spare-put, reserved-put)

  -- one that is not
  pub idle_filled : {k : Cells} (w : ℕ) → k ≡ record d { bins = record d.bins { newer = set d.bins.newer x w; older = set d.bins.older x o } }
      → n ≡ node f.chain x → w ≡ slice_index f.bins.newer x → IsFilled x f c k
  idle_filled {k} w q is newer =
      grind (arith, get_or-set_same, get_or-set_other, node-put, node-put_other, length-put, spare-put, reserved-put)

pub spare-with_spare : (c : ChainCells) (i v : ℕ) → (with_spare c i v).spare ≡ set c.spare i v
unfolding with_spare
spare-with_spare c i v = refl

pub node-with_spare : (c : ChainCells) (i v y : ℕ) → node (with_spare c i v) y ≡ node c y
unfolding node with_spare
node-with_spare c i v y = refl

-- its entry of the stack too
module _ {x max : ℕ} {f c d e : Cells} (w : IsFilled x f c d) (s : AreShaped max c) (l : x < length c.chain.nodes) (v : ℕ) (at : v ≡ slice_index f.chain.spare x)
    (q : e ≡ record d { chain = with_spare d.chain x v }) where
  chain : e.chain ≡ with_spare d.chain x v
  chain = ap (λ (t : Cells). t.chain) q

  spare : e.chain.spare ≡ set d.chain.spare x v
  spare = ap (λ (t : ChainCells). t.spare) chain ∙ spare-with_spare d.chain x v

  same : (y : ℕ) → node e.chain y ≡ node d.chain y
  same y = ap (λ (t : ChainCells). node t y) chain ∙ node-with_spare d.chain x v y

  bins : e.bins ≡ d.bins
  bins = ap (λ (t : Cells). t.bins) q

  pub filled_alike : IsAlikeAt x f e
  filled_alike = record {
    node = same x ∙ w.here;
    newer = ap (λ t. slice_index t.newer x) bins ∙ w.newer;
    older = ap (λ t. slice_index t.older x) bins ∙ w.older;
    spare = ap (λ t. slice_index t x) spare ∙ get_or-set_same d.chain.spare x v 0 (omega (arith, l, s.spare, ap length w.spare)) ∙ at;
  }

  pub filled_others : KeepsOtherNames x c e
  filled_others = record {
    others = λ y ne. record {
      node = same y ∙ (w.others y ne).0;
      newer = ap (λ t. slice_index t.newer y) bins ∙ (w.others y ne).1;
      older = ap (λ t. slice_index t.older y) bins ∙ (w.others y ne).2;
      spare = ap (λ t. slice_index t y) spare ∙ get_or-set_other d.chain.spare x y v 0 ne ∙ ap (λ t. slice_index t y) w.spare;
    };
    nodes = ap (λ (t : ChainCells). length t.nodes) chain ∙ ap length (nodes-with_spare d.chain x v) ∙ w.nodes;
    reserved = ap (λ (t : ChainCells). t.reserved) chain ∙ reserved-with_spare d.chain x v ∙ w.reserved;
  }

-- the mark of a used node
pub marked : {max x : ℕ} {c : Cells} → AreShaped max c → x < length c.chain.nodes → (node c.chain x).used ≡ true → slice_index c.bins.newer x ≡ max - 1
marked {max} {x} {c} s l u = grind (arith, nat_tests)

-- cells by their parts
parts : (c d : Cells) → d.chain.nodes ≡ c.chain.nodes → d.chain.spare ≡ c.chain.spare → d.chain.reserved ≡ c.chain.reserved → d.bins.newer ≡ c.bins.newer → d.bins.older ≡ c.bins.older
    → d.bins.heads ≡ c.bins.heads → d.bins.masks ≡ c.bins.masks → d ≡ c
parts c d nodes spare reserved newer older heads masks =
    ap (λ (x : List Node). record d { chain = record d.chain { nodes = x } }) nodes
    ∙ ap (λ (x : List ℕ). record d { chain = record c.chain { spare = x; reserved = d.chain.reserved } }) spare
    ∙ ap (λ (x : ℕ). record d { chain = record c.chain { reserved = x } }) reserved
    ∙ ap (λ (x : List ℕ). record c { bins = record d.bins { newer = x } }) newer
    ∙ ap (λ (x : List ℕ). record c { bins = record d.bins { newer = c.bins.newer; older = x } }) older
    ∙ ap (λ (x : List ℕ). record c { bins = record c.bins { heads = x; masks = d.bins.masks } }) heads
    ∙ ap (λ (x : List ℕ). record c { bins = record c.bins { masks = x } }) masks

-- if the cells of two tables agree under each name, the tables are the same but for their reserved memory
pub same_cells : {max limit : ℕ} {c d e : Cells} → AreShaped max c → AreShaped max d → length d.chain.nodes ≡ length c.chain.nodes → d.chain.reserved ≡ limit
    → ((x : ℕ) → x < length c.chain.nodes → IsAlikeAt x c e) → d ≡ record e { bins = record e.bins { heads = c.bins.heads; masks = c.bins.masks } }
    → d ≡ record c { chain = record c.chain { reserved = limit } }
unfolding node
same_cells {max} {limit} {c} {d} {e} s t long memory alike q =
    let chain = ap (λ (k : Cells). k.chain) q in
    let bins = ap (λ (k : Cells). k.bins) q in
    let nodes = ext_get_or blank d.chain.nodes c.chain.nodes long (λ x l. ap (λ k. get_or k.nodes x blank) chain ∙ (alike x (omega (arith, l, long))).node) in
    let spare = ext_get_or 0 d.chain.spare c.chain.spare (t.spare ∙ long ∙ sym s.spare) (λ x l. ap (λ k. get_or k.spare x 0) chain ∙ (alike x (omega (arith, l, long, t.spare))).spare) in
    let newer = ext_get_or 0 d.bins.newer c.bins.newer (t.newer ∙ long ∙ sym s.newer) (λ x l. ap (λ k. get_or k.newer x 0) bins ∙ (alike x (omega (arith, l, long, t.newer))).newer) in
    let older = ext_get_or 0 d.bins.older c.bins.older (t.older ∙ long ∙ sym s.older) (λ x l. ap (λ k. get_or k.older x 0) bins ∙ (alike x (omega (arith, l, long, t.older))).older) in
    let heads : d.bins.heads ≡ c.bins.heads = ap (λ k. k.heads) bins in
    let masks : d.bins.masks ≡ c.bins.masks = ap (λ k. k.masks) bins in
    parts (record c { chain = record c.chain { reserved = limit } }) d nodes spare memory newer older heads masks
