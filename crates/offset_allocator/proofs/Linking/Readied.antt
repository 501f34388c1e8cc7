-- Nodes that are made before names are taken.
use Rattle.offset_allocator.proofs.Common.{◌≡◌, ◌<◌, ◌≤◌, ◌+◌, ℕ, zero, suc, List, [], ◌∷◌, ◌++◌, None, refl, ap, ◌∙◌, arith, length, length-append, length-set, get_or, take, set, cases_eq, nat_tests}
use Rattle.offset_allocator.proofs.Common.{take_more_set, Cells, ChainCells, Node, blank, node, with_node, AreShaped, Block, times, IsChain, common_steps}
use Rattle.offset_allocator.proofs.{Tallies.one-eq, Tallies.one-other, Tallies.times-join, Linking.Rows.IsRow-kept, Filing.Uses.binned_more}
use Rattle.offset_allocator.specs.Readies.{AreReady, Readies}

-- a blank node at the end is what is read of a node that is not made
blank_at : (ns : List Node) (x : ℕ) → get_or (ns ++ blank ∷ []) x blank ≡ get_or ns x blank
blank_at [] zero = refl
blank_at [] (suc x) = refl
blank_at (n ∷ ns) zero = refl
blank_at (n ∷ ns) (suc x) = blank_at ns x

module _ (c : ChainCells) (i : ℕ) where
  pub node-with_node : (x : ℕ) → node (with_node c i) x ≡ node c x
  unfolding node with_node
  node-with_node x = blank_at c.nodes x

  pub length-with_node : length (with_node c i).nodes ≡ length c.nodes + 1
  unfolding with_node
  length-with_node = length-append c.nodes (blank ∷ [])

  pub reserved-with_node : (with_node c i).reserved ≡ c.reserved
  unfolding with_node
  reserved-with_node = refl

  spare-with_node : (with_node c i).spare ≡ set (c.spare ++ length c.nodes ∷ []) i (length c.nodes)
  unfolding with_node
  spare-with_node = refl

take_left : (l : List ℕ) (v i : ℕ) → i ≤ length l → take i (l ++ v ∷ []) ≡ take i l
take_left l v zero h = refl
take_left [] v (suc i) h = absurd (omega (arith, h))
take_left (x ∷ l) v (suc i) h = ap (λ (k : List ℕ). x ∷ k) (take_left l v i (omega (arith, h)))

-- the names on the stack then
names-with_node : (c : ChainCells) (i k : ℕ) → i ≤ length c.spare → times k (take (i + 1) (with_node c i).spare) ≡ times k (take i c.spare) + times k (length c.nodes ∷ [])
names-with_node c i k h =
    let l : List ℕ = c.spare ++ length c.nodes ∷ [] in
    ap (λ s. times k (take (i + 1) s)) (spare-with_node c i) ∙ ap (times k) (take_more_set l i (length c.nodes) (omega (arith, h, length-append c.spare (length c.nodes ∷ []))))
    ∙ times-join k (take i l) (length c.nodes ∷ []) ∙ ap (λ s. times k s + times k (length c.nodes ∷ [])) (take_left c.spare (length c.nodes) i h)

pub chain_more : {c d : ChainCells} {m last count : ℕ} {bs : List Block} → IsChain c m last count bs → d ≡ with_node c count → length c.nodes < m → IsChain d m last (count + 1) bs
chain_more {c} {d} {m} {last} {count} {bs} h e room =
    let at : (k : ℕ) → node d k ≡ node c k = λ k. rw e (node-with_node c count k) in
    let long : length d.nodes ≡ length c.nodes + 1 = rw e (length-with_node c count) in
    let spare : length d.spare ≡ length c.spare + 1 =
    rw (e, spare-with_node) (length-set (c.spare ++ length c.nodes ∷ []) count (length c.nodes) ∙ length-append c.spare (length c.nodes ∷ [])) in
    record {
      memory = rw e (reserved-with_node c count) ∙ h.memory;
      within = omega (arith, long, room);
      stack = omega (arith, spare, long, h.stack);
      row = IsRow-kept c d None 0 bs None (λ k l. at k) h.row;
      ends = h.ends;
      each = grind (arith, common_steps, names-with_node, cases_eq, nat_tests, one-eq, one-other);
      idle = λ k gone. ap (λ (n : Node). n.used) (at k) ∙ h.idle k gone;
      full = omega (arith, long, h.full);
      fits = h.fits;
    }

-- there is memory for one more node where no name is unused
pub has_memory : {c : ChainCells} {m last count : ℕ} {bs : List Block} → IsChain c m last count bs → length bs < m → count ≡ 0 → length c.nodes < m
has_memory h l none = omega (arith, h.full, l, none)

-- its name is the unused one then
pub made_name : (c : ChainCells) (k : ℕ) → k ≡ 0 → AreReady c k (take 1 (with_node c 0).spare)
made_name c zero e = ap (take 1) (spare-with_node c 0) ∙ go c.spare
  where
    go : (l : List ℕ) → take 1 (set (l ++ length c.nodes ∷ []) 0 (length c.nodes)) ≡ length c.nodes ∷ []
    go [] = refl
    go (x ∷ l) = refl
made_name c (suc k) e = absurd (omega (arith, e))

pub not_made : (c : ChainCells) (k : ℕ) → 0 < k → AreReady c k (take k c.spare)
not_made c zero l = absurd (omega (arith, l))
not_made c (suc k) l = refl

-- one node was made
pub readied : {max count : ℕ} {c d : Cells} → AreShaped max c → length c.chain.nodes < c.chain.reserved → d.chain ≡ with_node c.chain count → d.bins.newer ≡ c.bins.newer ++ max ∷ []
    → d.bins.older ≡ c.bins.older ++ max ∷ [] → d.bins.heads ≡ c.bins.heads → d.bins.masks ≡ c.bins.masks
    → Readies max c d count (count + 1)
readied {max} {count} {c} {d} s room e newer older heads masks = record {
  chain = λ m last bs h. chain_more h e (omega (arith, room, h.memory));
  node = λ x. rw e (node-with_node c.chain count x);
  bins = λ top b. binned_more max max b (omega (arith, s.newer, s.within, s.limit)) newer older heads masks;
}

pub readied_first : {max count : ℕ} {c d : Cells} → count ≡ 0 → AreShaped max c → length c.chain.nodes < c.chain.reserved → d.chain ≡ with_node c.chain 0 → d.bins.newer ≡ c.bins.newer ++ max ∷ []
    → d.bins.older ≡ c.bins.older ++ max ∷ [] → d.bins.heads ≡ c.bins.heads → d.bins.masks ≡ c.bins.masks
    → Readies max c d count 1
readied_first {count = zero} none s room e newer older heads masks = readied s room e newer older heads masks
readied_first {count = suc k} none s room e newer older heads masks = absurd (omega (arith, none))

pub not_readied : {max count : ℕ} {c : Cells} → Readies max c c count count
not_readied = record { chain = λ m last bs h. h; node = λ x. refl; bins = λ top b. (b, refl) }
