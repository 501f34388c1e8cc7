-- A table for each field as a list of nodes.
use Rattle.offset_allocator.proofs.Common.{◌≡◌, ◌≢◌, ℕ, zero, suc, ◌+◌, ◌-◌, [], ◌∷◌, ◌++◌, ◌<◌, ◌≤◌, List, length, map, set, get_or, refl, sym, ◌∙◌, ap, ap₂, arith, Bool, false, eqb, eq-eqb, ne_eqb}
use Rattle.offset_allocator.proofs.Common.{get_or-set_same, get_or-set_other, length-map, length-append, map-append, map-set, set-get_or, vec_len, vec_capacity, Cells, Node, blank, mark_of, node, put}
use Rattle.offset_allocator.proofs.Common.{length-set, AreShaped, FieldTables, node_in, nodes_in, values, field_tables, cells_by_field, AreLevel, common_steps}
use Rattle.offset_allocator.proofs.Arranging.Entries.{marked}
use Rattle.offset_allocator.specs.declared.layouts.by_field.ByField.TheInside.{Inside}

module _ {X : Type 0} where
  pub length-values : (f : ℕ → X) (n : ℕ) → length (values f n) ≡ n
  length-values f zero = refl
  length-values f (suc n) = ap suc (length-values (λ i. f (suc i)) n)

  pub values_at : (f : ℕ → X) (n i : ℕ) (d : X) → i < n → get_or (values f n) i d ≡ f i
  values_at f zero i d l = absurd (omega (arith, l))
  values_at f (suc n) zero d l = refl
  values_at f (suc n) (suc i) d l = values_at (λ j. f (suc j)) n i d (omega (arith, l))

  pub values_same : (f g : ℕ → X) (n : ℕ) → ((i : ℕ) → i < n → g i ≡ f i) → values g n ≡ values f n
  values_same f g zero h = refl
  values_same f g (suc n) h = ap₂ (λ (x : X) (xs : List X). x ∷ xs) (h 0 (omega arith)) (values_same (λ i. f (suc i)) (λ i. g (suc i)) n (λ i l. h (suc i) (omega (arith, l))))

  -- other values where one is another
  pub values_set : (f g : ℕ → X) (n x : ℕ) → ((i : ℕ) → i ≢ x → g i ≡ f i) → values g n ≡ set (values f n) x (g x)
  values_set f g zero x h = refl
  values_set f g (suc n) zero h = ap (λ (xs : List X). g 0 ∷ xs) (values_same (λ i. f (suc i)) (λ i. g (suc i)) n (λ i l. h (suc i) (λ e. absurd (omega (arith, e)))))
  values_set f g (suc n) (suc x) h = ap₂ (λ (y : X) (xs : List X). y ∷ xs) (h 0 (λ e. absurd (omega (arith, e))))
      (values_set (λ i. f (suc i)) (λ i. g (suc i)) n x (λ i ne. h (suc i) (λ e. ne (omega (arith, e)))))

  pub values_more : (f : ℕ → X) (n : ℕ) → values f (suc n) ≡ values f n ++ f n ∷ []
  values_more f zero = refl
  values_more f (suc n) = ap (λ (xs : List X). f 0 ∷ xs) (values_more (λ i. f (suc i)) n)

module _ {A : Type 0} (number : A → ℕ) where
  pub other : (l : List A) (x : ℕ) (a : A) (i : ℕ) → i ≢ x → get_or (map number (set l x a)) i 0 ≡ get_or (map number l) i 0
  other l x a i ne = ap (λ (xs : List ℕ). get_or xs i 0) (map-set number l x a) ∙ get_or-set_other (map number l) x i (number a) 0 ne

  pub at : (l : List A) (x : ℕ) (a : A) → x < length l → get_or (map number (set l x a)) x 0 ≡ number a
  at l x a short = ap (λ (xs : List ℕ). get_or xs x 0) (map-set number l x a) ∙ get_or-set_same (map number l) x (number a) 0 (omega (arith, short, length-map l number))

-- a table with one more entry
pub kept : (l : List ℕ) (a i : ℕ) → i < length l → get_or (l ++ a ∷ []) i 0 ≡ get_or l i 0
kept [] a i short = absurd (omega (arith, short))
kept (b ∷ l) a zero short = refl
kept (b ∷ l) a (suc i) short = kept l a i (omega (arith, short))

pub added : (l : List ℕ) (a n : ℕ) → length l ≡ n → get_or (l ++ a ∷ []) n 0 ≡ a
added [] a zero e = refl
added [] a (suc n) e = absurd (omega (arith, e))
added (b ∷ l) a zero e = absurd (omega (arith, e))
added (b ∷ l) a (suc n) e = added l a n (omega (arith, e))

module _ (max : ℕ) where
  pub length-nodes_in : (t : FieldTables) → length (nodes_in max t) ≡ length t.offset
  unfolding nodes_in
  length-nodes_in t = length-values (node_in max t) (length t.offset)

  pub node_at : (t : FieldTables) (x : ℕ) → x < length t.offset → get_or (nodes_in max t) x blank ≡ node_in max t x
  unfolding nodes_in
  node_at t x l = values_at (node_in max t) (length t.offset) x blank l

  pub nodes_set : (t u : FieldTables) (x : ℕ) → length u.offset ≡ length t.offset → ((i : ℕ) → i ≢ x → node_in max u i ≡ node_in max t i)
      → nodes_in max u ≡ set (nodes_in max t) x (node_in max u x)
  unfolding nodes_in
  nodes_set t u x e h = ap (values (node_in max u)) e ∙ values_set (node_in max t) (node_in max u) (length t.offset) x h

  pub nodes_added : (t u : FieldTables) → length u.offset ≡ length t.offset + 1 → ((i : ℕ) → i < length t.offset → node_in max u i ≡ node_in max t i)
      → nodes_in max u ≡ nodes_in max t ++ node_in max u (length t.offset) ∷ []
  unfolding nodes_in
  nodes_added t u e h =
      let n = length t.offset in
      let one : length u.offset ≡ suc n = omega (arith, e) in
      ap (values (node_in max u)) one ∙ values_more (node_in max u) n ∙ ap (λ (xs : List Node). xs ++ node_in max u n ∷ []) (values_same (node_in max t) (node_in max u) n h)

  -- a blank node more
  pub pushed : (t u : FieldTables) → 1 ≤ max → length t.size ≡ length t.offset → length t.before ≡ length t.offset → length t.after ≡ length t.offset
      → length t.newer ≡ length t.offset
      → u.offset ≡ t.offset ++ 0 ∷ [] → u.size ≡ t.size ++ 0 ∷ [] → u.before ≡ t.before ++ max ∷ [] → u.after ≡ t.after ++ max ∷ [] → u.newer ≡ t.newer ++ max ∷ []
      → nodes_in max u ≡ nodes_in max t ++ blank ∷ []
  pushed t u some ls lb la ln o s b a n =
      let len : length u.offset ≡ length t.offset + 1 = ap (λ (l : List ℕ). length l) o ∙ length-append t.offset (0 ∷ []) in
      let old : (i : ℕ) → i < length t.offset → node_in max u i ≡ node_in max t i = grind (arith, common_steps, kept) in
      let used : eqb max (max - 1) ≡ false = ne_eqb max (max - 1) (λ e. omega (arith, e, some)) in
      let new : node_in max u (length t.offset) ≡ blank =
      rw (o, s, b, a, n, added t.offset 0 _ refl, added t.size 0 _ ls, added t.before max _ lb, added t.after max _ la, added t.newer max _ ln, used, eq-eqb) refl in
      nodes_added t u len old ∙ ap (λ (v : Node). nodes_in max t ++ v ∷ []) new

  pub first_node : (u : FieldTables) → 1 ≤ max → u.offset ≡ 0 ∷ [] → u.size ≡ 0 ∷ [] → u.before ≡ max ∷ [] → u.after ≡ max ∷ [] → u.newer ≡ max ∷ []
      → nodes_in max u ≡ blank ∷ []
  unfolding nodes_in
  first_node u some o s b a n = pushed (record { offset = []; size = []; before = []; after = []; newer = [] }) u some refl refl refl refl o s b a n

-- a link more in a table
pub linked : {A : Type 0} (number : A → ℕ) (l m : List A) (a : A) (k : ℕ) → m ≡ l ++ a ∷ [] → number a ≡ k → map number m ≡ map number l ++ k ∷ []
linked number l m a k e q = ap (map number) e ∙ map-append number l (a ∷ []) ∙ ap (λ (i : ℕ). map number l ++ i ∷ []) q

-- two tables with one entry more
pub longer : {A B : Type 0} (l m : List A) (a : A) (k n : List B) (b : B) → m ≡ l ++ a ∷ [] → n ≡ k ++ b ∷ [] → length l ≡ length k → length m ≡ length n
longer l m a k n b e q same = ap length e ∙ length-append l (a ∷ []) ∙ ap (λ (i : ℕ). i + 1) same ∙ sym (ap length q ∙ length-append k (b ∷ []))

-- a link alone in a table
pub alone : {A : Type 0} (number : A → ℕ) (l m : List A) (a : A) (k : ℕ) → m ≡ l ++ a ∷ [] → l ≡ [] → number a ≡ k → map number m ≡ k ∷ []
alone number l m a k e none q = linked number l m a k e q ∙ ap (λ i. map number i ++ k ∷ []) none

module _ {A B : Type 0} (max : ℕ) (number : A → ℕ) (t : Inside A B) {c : Cells} (e : cells_by_field max number t ≡ c) where
  abbrev fs : FieldTables
  fs = field_tables number t

  -- the cells with other tables
  abbrev seen : FieldTables → List ℕ → Cells
  seen u older = record (cells_by_field max number t) {
    chain = record (cells_by_field max number t).chain { nodes = nodes_in max u };
    bins = record (cells_by_field max number t).bins { newer = u.newer; older = older };
  }

  -- a name below the number of nodes is below the tables' length
  pub within : (x : ℕ) → x < length c.chain.nodes → x < length t.offset.items
  within x l = omega (arith, l, ap (λ (v : Cells). length v.chain.nodes) e, length-nodes_in max fs)

  -- the same as bounds of a read or a write of each table
  pub bound-newer : (x : ℕ) → x < length c.bins.newer → x < vec_len t.newer
  bound-newer x l = omega (arith, l, ap (λ (v : Cells). length v.bins.newer) e, length-map t.newer.items number, t.newer.ok.0)

  pub bound-older : (x : ℕ) → x < length c.bins.older → x < vec_len t.older
  bound-older x l = omega (arith, l, ap (λ (v : Cells). length v.bins.older) e, length-map t.older.items number, t.older.ok.0)

  pub bound-spare : (x : ℕ) → x < length c.chain.spare → x < vec_len t.spare
  bound-spare x l = omega (arith, l, ap (λ (v : Cells). length v.chain.spare) e, length-map t.spare.items number, t.spare.ok.0)

  -- one more node has room
  pub room_left : length c.chain.nodes < c.chain.reserved → vec_len t.offset < vec_capacity t.offset
  room_left l = omega (arith, l, ap (λ (v : Cells). length v.chain.nodes) e, ap (λ (v : Cells). v.chain.reserved) e, length-nodes_in max fs, t.offset.ok.0)

  pub read : (x : ℕ) → x < length c.chain.nodes → node c.chain x ≡ node_in max fs x
  unfolding node
  read x l = rw (← e) (node_at max fs x (within x l))

  -- a node written in what the chain of blocks sees: f is its change
  pub wrote-chain : (u : FieldTables) (x : ℕ) (f : Node → Node) → x < length c.chain.nodes → length u.offset ≡ length t.offset.items → u.newer ≡ map number t.newer.items
      → ((i : ℕ) → i ≢ x → node_in max u i ≡ node_in max fs i) → node_in max u x ≡ f (node_in max fs x)
      → seen u (map number t.older.items) ≡ record c { chain = put c.chain x (f (node c.chain x)) }
  unfolding node put
  wrote-chain u x f l len newer off is =
      let nodes = nodes_set max fs u x len off ∙ ap (set (nodes_in max fs) x) (is ∙ ap f (sym (node_at max fs x (within x l)))) in
      rw (← e) (rw (nodes, newer) refl)

  -- only the link to a newer node is written
  off-newer : (x link i : ℕ) → i ≢ x → node_in max (record fs { newer = set fs.newer x link }) i ≡ node_in max fs i
  off-newer x link i ne = ap (λ k. record (node_in max fs i) { used = eqb k (max - 1) }) (get_or-set_other fs.newer x i link 0 ne)

  at-newer : (x link : ℕ) → x < length fs.newer → node_in max (record fs { newer = set fs.newer x link }) x ≡ record (node_in max fs x) { used = eqb link (max - 1) }
  at-newer x link short = ap (λ k. record (node_in max fs x) { used = eqb k (max - 1) }) (get_or-set_same fs.newer x link 0 short)

  -- the use of a node written
  pub wrote-used : (x : ℕ) (used : Bool) → 1 ≤ max → x < length c.chain.nodes → length fs.newer ≡ length fs.offset
      → seen (record fs { newer = set fs.newer x (mark_of max used) }) (map number t.older.items)
      ≡ record c { chain = put c.chain x (record (node c.chain x) { used = used }); bins = record c.bins { newer = set c.bins.newer x (mark_of max used) } }
  unfolding node put
  wrote-used x used some l even =
      let short = within x l in
      let is = at-newer x (mark_of max used) (omega (arith, short, even)) ∙ ap (λ u. record (node_in max fs x) { used = u }) (marked max used some) in
      let nodes = nodes_set max fs (record fs { newer = set fs.newer x (mark_of max used) }) x refl (off-newer x (mark_of max used))
      ∙ ap (set (nodes_in max fs) x) (is ∙ ap (λ (n : Node). record n { used = used }) (sym (node_at max fs x short))) in
      rw (← e) (rw nodes refl)

  -- a link that is no mark, of a node that is not used: the chain of blocks does not see it
  pub wrote-newer : (x link : ℕ) (older : List ℕ) → x < length c.chain.nodes → length fs.newer ≡ length fs.offset → (node c.chain x).used ≡ false → link ≢ max - 1
      → seen (record fs { newer = set fs.newer x link }) older ≡ record c { bins = record c.bins { newer = set c.bins.newer x link; older = older } }
  wrote-newer x link older l even idle ne =
      let short : x < length fs.newer = omega (arith, within x l, even) in
      let was : eqb (get_or fs.newer x 0) (max - 1) ≡ false = ap (λ (n : Node). n.used) (sym (read x l)) ∙ idle in
      let nodes = nodes_set max fs (record fs { newer = set fs.newer x link }) x refl (off-newer x link)
      ∙ ap (set (nodes_in max fs) x) (at-newer x link short ∙ ap (λ u. record (node_in max fs x) { used = u }) (ne_eqb _ _ ne ∙ sym was) ∙ sym (node_at max fs x (within x l)))
      ∙ set-get_or (nodes_in max fs) x blank in
      rw (← e) (rw nodes refl)

-- other tables of the same lengths and memory
pub level_kept : {A B : Type 0} (max : ℕ) (t u : Inside A B) → AreLevel max t
    → length u.offset.items ≡ length t.offset.items → length u.size.items ≡ length t.size.items → length u.before.items ≡ length t.before.items
    → length u.after.items ≡ length t.after.items
    → length u.newer.items ≡ length t.newer.items → length u.older.items ≡ length t.older.items → length u.spare.items ≡ length t.spare.items
    → vec_capacity u.offset ≡ vec_capacity t.offset → vec_capacity u.size ≡ vec_capacity t.size → vec_capacity u.before ≡ vec_capacity t.before
    → vec_capacity u.after ≡ vec_capacity t.after
    → vec_capacity u.newer ≡ vec_capacity t.newer → vec_capacity u.older ≡ vec_capacity t.older → vec_capacity u.spare ≡ vec_capacity t.spare
    → length u.heads ≡ length t.heads → length u.masks ≡ length t.masks → AreLevel max u
level_kept max t u h o s b a n d p co cs cb ca cn cd cp hs ms = grind arith

pub shaped : {A B : Type 0} (max : ℕ) (number : A → ℕ) (t : Inside A B) → AreLevel max t → max ≤ 4294967295 → AreShaped max (cells_by_field max number t)
unfolding node
shaped max number t h w =
    let n = length-nodes_in max (field_tables number t) in
    record {
      spare = length-map t.spare.items number ∙ h.spare ∙ sym n;
      newer = length-map t.newer.items number ∙ h.newer ∙ sym n;
      older = length-map t.older.items number ∙ h.older ∙ sym n;
      heads = h.heads;
      masks = h.masks;
      within = rw n h.within;
      limit = h.limit;
      word = w;
      flags = λ x l. ap (λ (v : Node). v.used) (node_at max (field_tables number t) x (omega (arith, l, n)));
    }

-- what the functions of these tables cite
pub ruleset cells = (length-nodes_in, within, bound-newer, bound-older, bound-spare, room_left, level_kept, longer, shaped, first_node, alone, length-set)
