-- The same space under a larger node limit: it is sound, and calls that are not refused for nodes have the same answers.
use Rattle.offset_allocator.proofs.{AtOffset.at_decided, Decided.allocates_decided, Decided.aligns_decided, Decided.relocates_aligned_decided, Decided.relocates_decided, Decided.tight_decided, DecidedChanges.compacts_decided, DecidedChanges.extends_decided, DecidedChanges.frees_decided, DecidedChanges.grows_decided}
use Rattle.offset_allocator.proofs.{DecidedChanges.resets_decided, DecidedChanges.retracts_decided, DecidedChanges.shrinks_decided, Linking.Rows.IsRow-kept}
use Rattle.offset_allocator.proofs.Common.{◌≡◌, ℕ, zero, suc, ◌+◌, ◌<◌, ◌≤◌, Bool, true, false, List, [], ◌∷◌, length, Option, Some, None, refl, sym, ap, subst, ◌∙◌, inl, inr, arith}
use Rattle.offset_allocator.proofs.Common.{ChainCells, Cells, node, blocks, IsChain, IsSound, view_of, Block, View, Handle, IsWellFormed, IsNew, free_sizes, sum, AdmitsBlocks, blocks_needed}
use Rattle.offset_allocator.proofs.Common.{Splits, Allocates, Aligns, Frees, Adds, Extends, Resets, Resizes, Shrinks, Grows, Compacts, IsFresh, size_of}
use Rattle.offset_allocator.specs.Chain.{blocks_back}
use Rattle.offset_allocator.specs.AtOffset.{AllocatesAt}
use Rattle.offset_allocator.specs.Moving.Relocating.{Relocates, RelocatesAligned, WouldBegin}
use Rattle.offset_allocator.specs.Moving.Retracting.{Cuts, Retracts}
use Rattle.offset_allocator.specs.Relations.{FreesLast, IsRaised, SameUnder}
use Rattle.offset_allocator.specs.Tight.{AlignsTight}

-- ---- tables
-- the cells, with memory for this many nodes
abbrev pub with_memory : ℕ → Cells → Cells
with_memory limit c = record c { chain = record c.chain { reserved = limit } }

back_same : (c : ChainCells) (limit f : ℕ) (p : Option ℕ) (rest : List Block) → blocks_back (record c { reserved = limit }) f p rest ≡ blocks_back c f p rest
unfolding node
back_same c limit zero p rest = refl
back_same c limit (suc f) None rest = refl
back_same c limit (suc f) (Some k) rest = back_same c limit f (node c k).before (record { name = k; size = (node c k).size; used = (node c k).used } ∷ rest)

blocks_same : (c : ChainCells) (limit last : ℕ) → blocks (record c { reserved = limit }) last ≡ blocks c last
unfolding blocks
blocks_same c limit last = back_same c limit (length c.nodes) (Some last) []

node_same : (c : ChainCells) (limit k : ℕ) → node (record c { reserved = limit }) k ≡ node c k
unfolding node
node_same c limit k = refl

chain_same : (c : ChainCells) (m limit last count : ℕ) (bs : List Block) → length c.nodes ≤ limit → IsChain c m last count bs → IsChain (record c { reserved = limit }) limit last count bs
chain_same c m limit last count bs l h = record {
  memory = refl;
  within = l;
  stack = h.stack;
  row = IsRow-kept c (record c { reserved = limit }) None 0 bs None (λ k _. node_same c limit k) h.row;
  ends = h.ends;
  each = h.each;
  idle = λ k e. ap (λ n. n.used) (node_same c limit k) ∙ h.idle k e;
  full = h.full;
  fits = h.fits;
}

-- ---- views
-- the same under this limit
abbrev pub under : ℕ → View → View
under limit v = record v { max_allocs = limit }

pub well_under : (v : View) (limit : ℕ) → v.max_allocs ≤ limit → IsWellFormed v → IsWellFormed (under limit v)
well_under v limit l w = record {
  some = w.some;
  distinct = w.distinct;
  below = λ x h. w.below x (omega (arith, h, l));
  whole = w.whole;
  fits = w.fits;
  apart = w.apart;
  classes = w.classes;
  binned = w.binned;
  room = omega (arith, w.room, l);
  few_used = omega (arith, w.few_used, l);
}

-- the fields under a larger limit
module _ {max size m : ℕ} {c : Cells} {last count top free : ℕ} (s : IsSound max size m c last count top free) (limit : ℕ) where
  pub shown_under : (k : ℕ) → view_of max size limit (with_memory limit c) last count k ≡ under limit (view_of max size m c last count k)
  shown_under k = ap (λ (bs : List Block). record (under limit (view_of max size m c last count k)) { blocks = bs }) (blocks_same c.chain limit last)

  pub sound_under : m ≤ limit → limit + 1 < max → IsSound max size limit (with_memory limit c) last count top free
  sound_under l least = record {
    memory = refl;
    admitted = least;
    space = subst (λ bs. IsChain (record c.chain { reserved = limit }) limit last count bs) (sym (blocks_same c.chain limit last))
        (chain_same c.chain c.chain.reserved limit last count (blocks c.chain last) (omega (arith, s.space.within, s.memory, l)) s.space);
    bins = s.bins;
    well = subst IsWellFormed (sym (shown_under 0)) (well_under (view_of max size m c last count 0) limit l s.well);
    total = ap (λ (bs : List Block). sum (free_sizes bs)) (blocks_same c.chain limit last) ∙ s.total;
  }

-- ---- calls
new_under : (x : ℕ) (v : View) (limit : ℕ) → v.max_allocs ≤ limit → IsNew x v → IsNew x (under limit v)
new_under x v limit l n = record { below = omega (arith, n.below, l); absent = n.absent }

split_under : {needed n : ℕ} {padding_at : ℕ → ℕ} {v w : View} {g : Handle} (limit : ℕ) → v.max_allocs ≤ limit → Splits needed n padding_at v w g → Splits needed n padding_at (under limit v) (under limit w) g
split_under {v = v} limit l s = record {
  before = s.before;
  block = s.block;
  after = s.after;
  blocks = s.blocks;
  free = s.free;
  fits = s.fits;
  smallest = s.smallest;
  older = s.older;
  newest = s.newest;
  padding = s.padding;
  padded = s.padded;
  remainder = s.remainder;
  whole = s.whole;
  padding_name = s.padding_name;
  remainder_name = s.remainder_name;
  padding_new = λ h. new_under s.padding_name v limit l (s.padding_new h);
  remainder_new = λ h. new_under s.remainder_name v limit l (s.remainder_new h);
  differ = s.differ;
  grant = s.grant;
  parts = s.parts;
  made = s.made;
  names = s.names;
  view = ap (under limit) s.view;
}

frees_under : {x : ℕ} {v w : View} (limit : ℕ) → Frees x v w → Frees x (under limit v) (under limit w)
frees_under limit f = record {
  before = f.before;
  left = f.left;
  block = f.block;
  right = f.right;
  after = f.after;
  blocks = f.blocks;
  named = f.named;
  used = f.used;
  free = f.free;
  names = f.names;
  view = ap (under limit) f.view;
  apart = f.apart;
}

last_under : (limit k : ℕ) (v w : View) → FreesLast k v w → FreesLast k (under limit v) (under limit w)
last_under limit zero v w f = ap (under limit) f
last_under limit (suc k) v w f = (f.0, under limit f.1, f.2, frees_under limit f.3, last_under limit k f.1 w f.4)

adds_under : {more : ℕ} {v w : View} (limit : ℕ) → v.max_allocs ≤ limit → Adds more v w → Adds more (under limit v) (under limit w)
adds_under {v = v} limit l a = record {
  before = a.before;
  last = a.last;
  blocks = a.blocks;
  free = a.free;
  name = a.name;
  named = a.named;
  new = λ e. new_under a.name v limit l (a.new e);
  names = a.names;
  view = ap (under limit) a.view;
  apart = a.apart;
}

cuts_under : {less : ℕ} {v w : View} (limit : ℕ) → Cuts less v w → Cuts less (under limit v) (under limit w)
cuts_under limit a = record {
  before = a.before;
  last = a.last;
  blocks = a.blocks;
  free = a.free;
  enough = a.enough;
  names = a.names;
  view = ap (under limit) a.view;
}

-- where a request would begin
begins_under : {n : ℕ} {v : View} {o : ℕ} (limit : ℕ) → AdmitsBlocks 1 v → WouldBegin n (under limit v) o → WouldBegin n v o
begins_under limit room a = record {
  before = a.before;
  block = a.block;
  after = a.after;
  blocks = a.blocks;
  room = room;
  fits = a.fits;
  smallest = a.smallest;
  older = a.older;
  newest = a.newest;
  begins = a.begins;
}

resizes_under : {x n : ℕ} {v w : View} (limit : ℕ) → v.max_allocs ≤ limit → Resizes x n v w → Resizes x n (under limit v) (under limit w)
resizes_under {v = v} limit l a = record {
  before = a.before;
  block = a.block;
  next = a.next;
  after = a.after;
  blocks = a.blocks;
  named = a.named;
  used = a.used;
  free = a.free;
  left = a.left;
  whole = a.whole;
  name = a.name;
  new = λ h. elim (a.new h) [ inl o ↦ inl o | inr n ↦ inr (new_under a.name v limit l n) ];
  names = a.names;
  view = ap (under limit) a.view;
  apart = a.apart;
}

-- each call, with the room that it asks for, under a larger limit
module _ (limit : ℕ) (v w : View) (l : v.max_allocs ≤ limit) where
  allocates_under : (n : ℕ) → AdmitsBlocks 1 v → (r : Option Handle) → Allocates n v w r → Allocates n (under limit v) (under limit w) r
  allocates_under n room None a = (λ h. a.0 (room, h.1), ap (under limit) a.1)
  allocates_under n room (Some g) a = (omega (arith, room, l), split_under limit l a.1)

  aligns_under : (n align : ℕ) → AdmitsBlocks (blocks_needed align) v → (r : Option Handle) → Aligns n align v w r → Aligns n align (under limit v) (under limit w) r
  aligns_under n align room None a = (λ h. a.0 (room, h.1), ap (under limit) a.1)
  aligns_under n align room (Some g) a = (omega (arith, room, l), split_under limit l a.1)

  tight_under : (n align : ℕ) → AdmitsBlocks (blocks_needed align) v → (r : Option Handle) → AlignsTight n align v w r → AlignsTight n align (under limit v) (under limit w) r
  tight_under n align room None a = (λ h. a.0 (room, h.1), ap (under limit) a.1)
  tight_under n align room (Some g) (inl a) = inl (aligns_under n align room (Some g) a)
  tight_under n align room (Some g) (inr a) = inr (λ h. a.0 (room, h.1), (omega (arith, room, l), (a.1.1.0, a.1.1.1, a.1.1.2, split_under limit l a.1.1.3)))

  relocates_under : (x : ℕ) → AdmitsBlocks 1 v → (r : Option Handle) → Relocates x v w r → Relocates x (under limit v) (under limit w) r
  relocates_under x room None a = (λ o h. a.0 o (begins_under limit room h), ap (under limit) a.1)
  relocates_under x room (Some g) a = (allocates_under (size_of x v) room (Some g) a.0, a.1)

  relocates_aligned_under : (x align : ℕ) → 1 ≤ align → AdmitsBlocks (blocks_needed align) v → (r : Option Handle) → RelocatesAligned x align v w r → RelocatesAligned x align (under limit v) (under limit w) r
  unfolding aligns_under split_under
  relocates_aligned_under x align some room None a = (λ o _ h. a.0 o room (begins_under limit (omega (arith, some, room)) h), ap (under limit) a.1)
  relocates_aligned_under x align some room (Some g) a = (aligns_under (size_of x v) align room (Some g) a.0, a.1)

  at_under : (offset n : ℕ) → AdmitsBlocks 2 v → (r : Option Handle) → AllocatesAt offset n v w r → AllocatesAt offset n (under limit v) (under limit w) r
  at_under offset n room None a = (
    λ h. a.0 (record { at = record { place = h.at.place; there = h.at.there; free = h.at.free; holds = h.at.holds }; room = omega (arith, room) }),
    ap (under limit) a.1,
  )
  at_under offset n room (Some g) a = record {
    at = record { place = a.at.place; there = a.at.there; free = a.at.free; holds = a.at.holds };
    room = omega (arith, a.room, l);
    last = a.last;
    split = split_under limit l a.split;
  }

  retracts_under : (less : ℕ) (r : Bool) → Retracts less v w r → Retracts less (under limit v) (under limit w) r
  retracts_under less true (inl a) = inl (a.0, ap (under limit) a.1)
  retracts_under less true (inr a) = inr (a.0, cuts_under limit a.1)
  retracts_under less false a = (a.0, a.1, ap (under limit) a.2)

  compacts_under : Compacts v w → Compacts (under limit v) (under limit w)
  compacts_under a = record { name = a.name; below = omega (arith, a.below, l); first = a.first; names = a.names; absent = a.absent; view = ap (under limit) a.view }

  extends_under : (more : ℕ) → AdmitsBlocks 1 v → (r : Bool) → Extends more v w r → Extends more (under limit v) (under limit w) r
  extends_under more room true (inl a) = inl (a.0, ap (under limit) a.1)
  extends_under more room true (inr a) = inr (a.0, (a.1.0, inl (omega (arith, room, l))), adds_under limit l a.2)
  extends_under more room false a = (a.0, λ h. a.1 (h.0, inl room), ap (under limit) a.2)

  shrinks_under : (x n : ℕ) → AdmitsBlocks 1 v → (r : Bool) → Shrinks x n v w r → Shrinks x n (under limit v) (under limit w) r
  shrinks_under x n room true (inl a) = inl (a.0, ap (under limit) a.1)
  shrinks_under x n room true (inr a) = inr (a.0, (a.1.0, λ h. inr (omega (arith, room, l))), resizes_under limit l a.2)
  shrinks_under x n room false a = (λ h. a.0 (h.0, λ _. inr room), ap (under limit) a.1)

  grows_under : (x n : ℕ) → (r : Bool) → Grows x n v w r → Grows x n (under limit v) (under limit w) r
  grows_under x n true (inl a) = inl (a.0, ap (under limit) a.1)
  grows_under x n true (inr a) = inr (a.0, a.1, resizes_under limit l a.2)
  grows_under x n false a = (a.0, ap (under limit) a.1)

  resets_under : Resets v w → Resets (under limit v) (under limit w)
  resets_under a = record {
    name = a.name;
    below = omega (arith, a.below, l);
    few = λ h. last_under limit _ v w (a.few h);
    many = a.many;
    view = ap (under limit) a.view;
  }

-- the answers, since the view and the call decide them
module _ (limit : ℕ) (v v' w w' : View) (known : IsWellFormed v) (l : v.max_allocs ≤ limit) (same : SameUnder limit v v') where
  pub allocates_raised : (n : ℕ) → AdmitsBlocks 1 v → (r r' : Option Handle) → Allocates n v w r → Allocates n v' w' r' → (r ≡ r') × SameUnder limit w w'
  allocates_raised n room r r' a b = allocates_decided n (under limit v) v' (under limit w) w' (well_under v limit l known) same r r' (allocates_under limit v w l n room r a) b

  pub aligns_raised : (n align : ℕ) → AdmitsBlocks (blocks_needed align) v → (r r' : Option Handle) → Aligns n align v w r → Aligns n align v' w' r' → (r ≡ r') × SameUnder limit w w'
  aligns_raised n align room r r' a b = aligns_decided n align (under limit v) v' (under limit w) w' (well_under v limit l known) same r r' (aligns_under limit v w l n align room r a) b

  pub tight_raised : (n align : ℕ) → AdmitsBlocks (blocks_needed align) v → (r r' : Option Handle) → AlignsTight n align v w r → AlignsTight n align v' w' r' → (r ≡ r') × SameUnder limit w w'
  tight_raised n align room r r' a b = tight_decided n align (under limit v) v' (under limit w) w' (well_under v limit l known) same r r' (tight_under limit v w l n align room r a) b

  pub relocates_raised : (x : ℕ) → AdmitsBlocks 1 v → (r r' : Option Handle) → Relocates x v w r → Relocates x v' w' r' → (r ≡ r') × SameUnder limit w w'
  relocates_raised x room r r' a b = relocates_decided x (under limit v) v' (under limit w) w' (well_under v limit l known) same r r' (relocates_under limit v w l x room r a) b

  pub relocates_aligned_raised : (x align : ℕ) → 1 ≤ align → AdmitsBlocks (blocks_needed align) v → (r r' : Option Handle) → RelocatesAligned x align v w r → RelocatesAligned x align v' w' r'
      → (r ≡ r') × SameUnder limit w w'
  relocates_aligned_raised x align some room r r' a b =
      relocates_aligned_decided x align (under limit v) v' (under limit w) w' some (well_under v limit l known) same r r' (relocates_aligned_under limit v w l x align some room r a) b

  pub at_raised : (offset n : ℕ) → AdmitsBlocks 2 v → (r r' : Option Handle) → AllocatesAt offset n v w r → AllocatesAt offset n v' w' r' → (r ≡ r') × SameUnder limit w w'
  at_raised offset n room r r' a b = at_decided offset n (under limit v) v' (under limit w) w' (well_under v limit l known) same r r' (at_under limit v w l offset n room r a) b

  pub retracts_raised : (less : ℕ) → (r r' : Bool) → Retracts less v w r → Retracts less v' w' r' → (r ≡ r') × SameUnder limit w w'
  retracts_raised less r r' a b = retracts_decided less (under limit v) v' (under limit w) w' same r r' (retracts_under limit v w l less r a) b

  pub compacts_raised : Compacts v w → Compacts v' w' → SameUnder limit w w'
  compacts_raised a b = compacts_decided (under limit v) v' (under limit w) w' same (compacts_under limit v w l a) b

  pub frees_raised : (x : ℕ) → Frees x v w → Frees x v' w' → SameUnder limit w w'
  frees_raised x a b = frees_decided x (under limit v) v' (under limit w) w' (well_under v limit l known) same (frees_under limit a) b

  pub resets_raised : Resets v w → Resets v' w' → SameUnder limit w w'
  resets_raised a b = resets_decided (under limit v) v' (under limit w) w' (well_under v limit l known) same (resets_under limit v w l a) b

  pub extends_raised : (more : ℕ) → AdmitsBlocks 1 v → (r r' : Bool) → Extends more v w r → Extends more v' w' r' → (r ≡ r') × SameUnder limit w w'
  extends_raised more room r r' a b = extends_decided more (under limit v) v' (under limit w) w' (well_under v limit l known) same r r' (extends_under limit v w l more room r a) b

  pub shrinks_raised : (x n : ℕ) → AdmitsBlocks 1 v → (r r' : Bool) → Shrinks x n v w r → Shrinks x n v' w' r' → (r ≡ r') × SameUnder limit w w'
  shrinks_raised x n room r r' a b = shrinks_decided x n (under limit v) v' (under limit w) w' (well_under v limit l known) same r r' (shrinks_under limit v w l x n room r a) b

  pub grows_raised : (x n : ℕ) → (r r' : Bool) → Grows x n v w r → Grows x n v' w' r' → (r ≡ r') × SameUnder limit w w'
  grows_raised x n r r' a b = grows_decided x n (under limit v) v' (under limit w) w' (well_under v limit l known) same r r' (grows_under limit v w l x n r a) b

-- a fresh space under a larger limit is the fresh one with that limit
pub fresh_raised : (size m limit : ℕ) (v w : View) → m ≤ limit → IsFresh size m v → IsRaised limit v w → IsFresh size limit w
fresh_raised size m limit v w l f e = record {
  name = f.name;
  first = f.first;
  below = omega (arith, f.below, l);
  view = e ∙ ap (λ (u : View). record u { max_allocs = limit; accesses = 0 }) f.view;
}

-- what is raised has counted no access
pub same_raised : (limit : ℕ) (v w : View) → IsRaised limit v w → SameUnder limit v w
same_raised limit v w e = e ∙ ap (λ k. record v { max_allocs = limit; accesses = k }) (sym (ap (λ (u : View). u.accesses) e))
