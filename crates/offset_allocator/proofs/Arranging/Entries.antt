-- Entries as a list of nodes.
use Rattle.offset_allocator.proofs.Common.{◌≡◌, ◌≢◌, ℕ, zero, suc, ◌-◌, [], ◌∷◌, ◌++◌, ◌<◌, ◌≤◌, Bool, true, false, List, length, map, set, get_or, refl, sym, ◌∙◌, ap, arith, eqb, eq-eqb, ne_eqb}
use Rattle.offset_allocator.proofs.Common.{length-map, length-set, map-set, map-append, set-get_or, vec_len, vec_capacity, Cells, Node, blank, mark_of, node, put, AreShaped, node_of, nodes_of}
use Rattle.offset_allocator.proofs.Common.{cells_by_node, cells_of, AreEven, common_steps}
use Rattle.std.specs.Vec.{with_item}
use Rattle.std.proofs.Math.Seq.{map-set_same}
use Rattle.offset_allocator.specs.declared.layouts.by_node.Node.{Node as Entry}
use Rattle.offset_allocator.specs.declared.layouts.by_node.ByNode.TheInside.{Inside}

pub marked : (max : ℕ) (used : Bool) → 1 ≤ max → eqb (mark_of max used) (max - 1) ≡ used
marked max true l = eq-eqb (max - 1) (max - 1) refl
marked max false l = ne_eqb max (max - 1) (λ e. omega (arith, e, l))

-- what is read of a list, when one more is at its end
pub map_push : {A B : Type 0} (f : A → B) (ns ms : List A) (m : A) {ks : List B} {k : B} → ms ≡ ns ++ m ∷ [] → map f ns ≡ ks → f m ≡ k → map f ms ≡ ks ++ k ∷ []
map_push f ns ms m e l q = let a = map-append f ns (m ∷ []) in cc

module _ {A : Type 0} (max : ℕ) (number : A → ℕ) where
  pub length-nodes_of : (ns : List (Entry A)) → length (nodes_of max number ns) ≡ length ns
  unfolding nodes_of
  length-nodes_of ns = length-map ns (node_of max number)

  -- the node of an entry
  entry_at : (ns : List (Entry A)) (x : ℕ) (n : Entry A) → x < length ns → n ≡ get_or ns x n → get_or (nodes_of max number ns) x blank ≡ node_of max number n
  unfolding nodes_of
  entry_at [] x n l e = absurd (omega (arith, l))
  entry_at (a ∷ ns) zero n l e = ap (node_of max number) (sym e)
  entry_at (a ∷ ns) (suc x) n l e = entry_at ns x n (omega (arith, l)) e

  pub flag_at : (ns : List (Entry A)) (x : ℕ) → x < length ns → (get_or (nodes_of max number ns) x blank).used ≡ eqb (get_or (map (λ n. number n.newer) ns) x 0) (max - 1)
  unfolding nodes_of
  flag_at [] x l = absurd (omega (arith, l))
  flag_at (a ∷ ns) zero l = refl
  flag_at (a ∷ ns) (suc x) l = flag_at ns x (omega (arith, l))

  entry_set : (ns : List (Entry A)) (x : ℕ) (m : Entry A) → nodes_of max number (set ns x m) ≡ set (nodes_of max number ns) x (node_of max number m)
  unfolding nodes_of
  entry_set ns x m = map-set (node_of max number) ns x m

  pub entry_added : (ns : List (Entry A)) (m : Entry A) → nodes_of max number (ns ++ m ∷ []) ≡ nodes_of max number ns ++ node_of max number m ∷ []
  unfolding nodes_of
  entry_added ns m = map-append (node_of max number) ns (m ∷ [])

  pub first_node : (ns ms : List (Entry A)) (m : Entry A) → ms ≡ [] → ns ≡ ms ++ m ∷ [] → node_of max number m ≡ blank → nodes_of max number ns ≡ blank ∷ []
  unfolding nodes_of
  first_node ns ms m none e b = rw (e, none) (ap (λ (n : Node). n ∷ []) b)

-- the cells of entries, with a stack, memory, heads and masks
module _ {A : Type 0} (max : ℕ) (number : A → ℕ) (ns : List (Entry A)) {spare : List ℕ} {reserved : ℕ} {heads masks : List ℕ} {c : Cells}
    (e : cells_of max number ns spare reserved heads masks ≡ c) where
  -- a name below the number of nodes, or of links, is below that of entries
  pub below : (x : ℕ) → x < length c.chain.nodes → x < length ns
  below x l = omega (arith, l, ap (λ (v : Cells). length v.chain.nodes) e, length-nodes_of max number ns)

  pub below-newer : (x : ℕ) → x < length c.bins.newer → x < length ns
  below-newer x l = omega (arith, l, ap (λ (v : Cells). length v.bins.newer) e, length-map ns (λ (k : Entry A). number k.newer))

  pub below-older : (x : ℕ) → x < length c.bins.older → x < length ns
  below-older x l = omega (arith, l, ap (λ (v : Cells). length v.bins.older) e, length-map ns (λ (k : Entry A). number k.older))

  pub read : (x : ℕ) (n : Entry A) → x < length c.chain.nodes → n ≡ get_or ns x n → node c.chain x ≡ node_of max number n
  unfolding node
  read x n l at = rw (← e) (entry_at max number ns x n (below x l) at)

  -- an entry written in what the chain of blocks sees: f is the change of the node
  pub wrote-chain : (x : ℕ) (n m : Entry A) (f : Node → Node) → x < length c.chain.nodes → n ≡ get_or ns x n → node_of max number m ≡ f (node_of max number n)
      → number m.newer ≡ number n.newer → number m.older ≡ number n.older
      → cells_of max number (set ns x m) spare reserved heads masks ≡ record c { chain = put c.chain x (f (node c.chain x)) }
  unfolding node put
  wrote-chain x n m f l at q newer older =
      let was = entry_at max number ns x n (below x l) at in
      let nodes = entry_set max number ns x m ∙ ap (set (nodes_of max number ns) x) (q ∙ ap f (sym was)) in
      let same_newer = map-set_same (λ (k : Entry A). number k.newer) ns x m n (newer ∙ ap (λ (k : Entry A). number k.newer) at) in
      let same_older = map-set_same (λ (k : Entry A). number k.older) ns x m n (older ∙ ap (λ (k : Entry A). number k.older) at) in
      rw (← e) (rw (nodes, same_newer, same_older) refl)

  -- the use of a node written
  pub wrote-used : (x : ℕ) (n : Entry A) (link : A) (used : Bool) → 1 ≤ max → x < length c.chain.nodes → n ≡ get_or ns x n → number link ≡ mark_of max used
      → cells_of max number (set ns x (record n { newer = link })) spare reserved heads masks ≡ record c {
        chain = put c.chain x (record (node c.chain x) { used = used });
        bins = record c.bins { newer = set c.bins.newer x (mark_of max used) };
      }
  unfolding node put
  wrote-used x n link used some l at q =
      let m : Entry A = record n { newer = link } in
      let was = entry_at max number ns x n (below x l) at in
      let is : node_of max number m ≡ record (get_or (nodes_of max number ns) x blank) { used = used } = grind (arith, common_steps) in
      let nodes = entry_set max number ns x m ∙ ap (set (nodes_of max number ns) x) is in
      let newer = map-set (λ (k : Entry A). number k.newer) ns x m ∙ ap (set (map (λ (k : Entry A). number k.newer) ns) x) q in
      let older = map-set_same (λ (k : Entry A). number k.older) ns x m n (ap (λ (k : Entry A). number k.older) at) in
      rw (← e) (rw (nodes, newer, older) refl)

  -- the chain of blocks sees an entry's class links only where they say whether it is used
  kept : (x : ℕ) (n m : Entry A) → x < length ns → n ≡ get_or ns x n → node_of max number m ≡ node_of max number n → nodes_of max number (set ns x m) ≡ nodes_of max number ns
  kept x n m l at q =
      let was = entry_at max number ns x n l at in
      entry_set max number ns x m ∙ ap (set (nodes_of max number ns) x) (q ∙ sym was) ∙ set-get_or (nodes_of max number ns) x blank

  -- a link that is no mark, of a node that is not used
  idle_still : (x : ℕ) (n : Entry A) (link : A) → x < length ns → n ≡ get_or ns x n → (node c.chain x).used ≡ false → number link ≢ max - 1
      → eqb (number link) (max - 1) ≡ eqb (number n.newer) (max - 1)
  unfolding node
  idle_still x n link l at idle ne = ne_eqb _ _ ne ∙ sym (ap (λ (v : Node). v.used) (sym (entry_at max number ns x n l at) ∙ ap (λ (v : Cells). get_or v.chain.nodes x blank) e) ∙ idle)

  pub wrote-newer : (x : ℕ) (n : Entry A) (link : A) → x < length c.bins.newer → n ≡ get_or ns x n → (node c.chain x).used ≡ false → number link ≢ max - 1
      → cells_of max number (set ns x (record n { newer = link })) spare reserved heads masks ≡ record c { bins = record c.bins { newer = set c.bins.newer x (number link) } }
  wrote-newer x n link l at idle ne = grind (arith, common_steps, below-newer, kept, idle_still, map-set, map-set_same)

  pub wrote-older : (x : ℕ) (n : Entry A) (link : A) → x < length c.bins.older → n ≡ get_or ns x n
      → cells_of max number (set ns x (record n { older = link })) spare reserved heads masks ≡ record c { bins = record c.bins { older = set c.bins.older x (number link) } }
  wrote-older x n link l at = grind (arith, common_steps, below-older, kept, map-set_same, map-set)

  pub wrote-links : (x : ℕ) (n : Entry A) (newer older : A) → x < length c.bins.newer → n ≡ get_or ns x n → (node c.chain x).used ≡ false → number newer ≢ max - 1
      → cells_of max number (set ns x (record n { newer = newer; older = older })) spare reserved heads masks
      ≡ record c { bins = record c.bins { newer = set c.bins.newer x (number newer); older = set c.bins.older x (number older) } }
  wrote-links x n newer older l at idle ne = grind (arith, common_steps, below-newer, kept, idle_still, map-set)

module _ {A B : Type 0} (max : ℕ) (number : A → ℕ) (t : Inside A B) {c : Cells} (e : cells_by_node max number t ≡ c) where
  abbrev ns : List (Entry A)
  ns = t.nodes.items

  -- a name below the number of nodes is below the table's length
  pub within : (x : ℕ) → x < length c.chain.nodes → x < length ns
  within x l = below max number ns e x l

  pub within-links : (x : ℕ) → x < length c.bins.newer → x < length ns
  within-links x l = below-newer max number ns e x l

  pub within-older : (x : ℕ) → x < length c.bins.older → x < length ns
  within-older x l = below-older max number ns e x l

  -- the same as bounds of a read or a write
  pub bound : (x : ℕ) → x < length c.chain.nodes → x < vec_len t.nodes
  bound x l = omega (arith, within x l, t.nodes.ok.0)

  pub bound-newer : (x : ℕ) → x < length c.bins.newer → x < vec_len t.nodes
  bound-newer x l = omega (arith, within-links x l, t.nodes.ok.0)

  pub bound-older : (x : ℕ) → x < length c.bins.older → x < vec_len t.nodes
  bound-older x l = omega (arith, within-older x l, t.nodes.ok.0)

  pub bound-spare : (x : ℕ) → x < length c.chain.spare → x < vec_len t.spare
  bound-spare x l = omega (arith, l, ap (λ (v : Cells). length v.chain.spare) e, length-map t.spare.items number, t.spare.ok.0)

  -- one more node has room
  pub room_left : length c.chain.nodes < c.chain.reserved → vec_len t.nodes < vec_capacity t.nodes
  room_left l = omega (arith, l, ap (λ (v : Cells). length v.chain.nodes) e, ap (λ (v : Cells). v.chain.reserved) e, length-nodes_of max number ns, t.nodes.ok.0)

  pub spare_left : AreEven max t → length c.chain.nodes < c.chain.reserved → vec_len t.spare < vec_capacity t.spare
  spare_left h l = omega (arith, room_left l, h.spare, h.memory, t.nodes.ok.0, t.spare.ok.0)

pub shaped : {A B : Type 0} (max : ℕ) (number : A → ℕ) (t : Inside A B) → AreEven max t → max ≤ 4294967295 → AreShaped max (cells_by_node max number t)
unfolding node
shaped max number t h w =
    let n = length-nodes_of max number t.nodes.items in
    record {
      spare = length-map t.spare.items number ∙ h.spare ∙ sym n;
      newer = length-map t.nodes.items (λ k. number k.newer) ∙ sym n;
      older = length-map t.nodes.items (λ k. number k.older) ∙ sym n;
      heads = h.heads;
      masks = h.masks;
      within = rw n h.within;
      limit = h.limit;
      word = w;
      flags = λ x l. flag_at max number t.nodes.items x (omega (arith, l, n));
    }

-- an entry written keeps the lengths
pub even_set : {A B : Type 0} (max : ℕ) (t : Inside A B) → AreEven max t → (x : ℕ) (m : Entry A) → AreEven max (record t { nodes = with_item t.nodes x m })
even_set max t h x m = grind (arith, length-set)

-- what the functions of a table of nodes cite
pub ruleset cells = (length-nodes_of, within, within-links, bound-older, bound-spare, even_set, room_left, spare_left, length-set, shaped, first_node)
