use Rattle.offset_allocator.proofs.Common.{◌≡◌, ℕ, suc, ◌+◌, ◌-◌, ◌<◌, ◌≤◌, false, List, [], ◌∷◌, ◌++◌, length, drop, unwrap_or, refl, sym, ap, subst, ◌∙◌, inl, inr, arith, append-nil, append_assoc}
use Rattle.offset_allocator.proofs.Common.{length-append, cases_lt, bin_at, bins_in, blocks, Block, Node, Place, units, down, count_named, AreMasks}
use Rattle.offset_allocator.specs.Moving.Compacting.{IsStart, newest, first_among}
use Rattle.offset_allocator.proofs.{Linking.Exchange.each-le, Linking.Places.placed, Linking.Places.at_place, Moving.Starts.head_name, Moving.Starts.start_listed, Moving.Starts.start_free}
use Rattle.offset_allocator.proofs.{Moving.Starts.start_last, Classes.down_itself}
use Rattle.offset_allocator.proofs.Moving.Nearest.{BeginsAt, begins, earlier_at, later_at, newest_next, newest_none}
use Rattle.offset_allocator.proofs.moves.compact.search_start.Goals as goal
use Rattle.offset_allocator.proofs.moves.compact.search_start.{Goals.After-masks-masks, Goals.After-head-name, Goals.then-offset-lowest, Goals.else-offset-lowest, Given.Over}

masked : (g : Over) (c : After-masks-masks g) → AreMasks (bins_in g.T.Index.NodeIndex.MAX (g.T.Tables.cells c.args.tables.now).bins) c.masks-masks.result c.args.top_mask
masked g c = rw c.masks-masks.ensures.cells c.requires.binned.masked

-- nothing is left to be seen
module _ (all seen rest : List ℕ) (is : all ≡ seen ++ rest) (none : rest ≡ []) where
  all_seen : all ≡ seen
  all_seen = is ∙ ap (λ l. seen ++ l) none ∙ append-nil seen

  first_seen : (bs : List Block) (last start lowest : ℕ) → BeginsAt seen bs last start lowest → start ≡ unwrap_or (first_among all bs) last
  first_seen bs last start lowest b = begins seen bs last start lowest b ∙ ap (λ xs. unwrap_or (first_among xs bs) last) (sym all_seen)

pub loop-init : goal.loop-init
loop-init g c = record {
  seen = [];
  is = refl;
  long = refl;
  begins = inl (refl, refl, omega arith);
  start = start_last _ _ c.requires.space.1.ends;
  class = omega arith;
  later = λ l. absurd (omega arith);
  accesses = omega arith;
}

pub returns-then-class-gt255-clause-first : goal.returns-then-class-gt255-clause-first
returns-then-class-gt255-clause-first g c =
    let i = c.loop.invariant in
    let long = c.requires.binned.linked.lists_len in
    first_seen _ i.seen _ i.is (newest_none (32 - c.loop.counter) _ c.loop.class (λ e a b. absurd (omega (arith, long, c.if-class-gt255.true)))) _ _ _ _ i.begins

pub returns-then-class-gt255-clause-accesses : goal.returns-then-class-gt255-clause-accesses
returns-then-class-gt255-clause-accesses g c =
    let i = c.loop.invariant in
    let long = c.requires.binned.linked.lists_len in
    let all = all_seen _ i.seen _ i.is (newest_none (32 - c.loop.counter) _ c.loop.class (λ e a b. absurd (omega (arith, long, c.if-class-gt255.true)))) in
    omega (arith, ap (λ (l : List ℕ). length l) all, i.long, i.accesses, c.masks-masks.ensures.accesses)

pub returns-in_default-clause-first : goal.returns-in_default-clause-first
returns-in_default-clause-first g c =
    let i = c.loop.invariant in
    let long = c.requires.binned.linked.lists_len in
    let m = masked g (goal.at.returns-in_default-clause-first g c).After-masks-masks in
    first_seen _ i.seen _ i.is (newest_none (32 - c.loop.counter) _ c.loop.class (λ e a b. c.in_default.ensures.smallest _ m e a (omega (arith, long)))) _ _ _ _ i.begins

pub returns-in_default-clause-accesses : goal.returns-in_default-clause-accesses
returns-in_default-clause-accesses g c =
    let i = c.loop.invariant in
    let long = c.requires.binned.linked.lists_len in
    let m = masked g (goal.at.returns-in_default-clause-accesses g c).After-masks-masks in
    let all = all_seen _ i.seen _ i.is (newest_none (32 - c.loop.counter) _ c.loop.class (λ e a b. c.in_default.ensures.smallest _ m e a (omega (arith, long)))) in
    omega (arith, ap (λ (l : List ℕ). length l) all, i.long, i.accesses, c.masks-masks.ensures.accesses)

-- after the last of the bins
pub returns-clause-first : goal.returns-clause-first
returns-clause-first g c =
    let i = c.loop.invariant in
    let k : 32 - c.loop.counter ≡ 0 = omega (arith, c.loop-test.false) in
    first_seen _ i.seen _ i.is (ap (λ n. newest n (drop c.loop.class (bins_in g.T.Index.NodeIndex.MAX (g.T.Tables.cells c.args.tables.now).bins))) k) _ _ _ _ i.begins

pub returns-clause-accesses : goal.returns-clause-accesses
returns-clause-accesses g c =
    let i = c.loop.invariant in
    let k : 32 - c.loop.counter ≡ 0 = omega (arith, c.loop-test.false) in
    let all = all_seen _ i.seen _ i.is (ap (λ n. newest n (drop c.loop.class (bins_in g.T.Index.NodeIndex.MAX (g.T.Tables.cells c.args.tables.now).bins))) k) in
    omega (arith, ap (λ (l : List ℕ). length l) all, i.long, i.accesses, c.masks-masks.ensures.accesses)

-- the newest name of the bin that was found is that of a free block of its class
record Met (g : Over) (c : After-head-name g) : Type 0 where
  place : Place
  is : blocks (g.T.Tables.cells c.args.tables.now).chain c.args.last ≡ place.before ++ (place.block ∷ place.after)
  name : place.block.name ≡ c.head-name.result
  idle : place.block.used ≡ false
  class : c.in-Some.found ≡ down place.block.size
  names : List ℕ
  bin : bin_at (bins_in g.T.Index.NodeIndex.MAX (g.T.Tables.cells c.args.tables.now).bins) c.in-Some.found ≡ c.head-name.result ∷ names
  above : c.loop.class ≤ c.in-Some.found
  below : c.in-Some.found < 256
  none : (d : ℕ) → c.loop.class ≤ d → d < c.in-Some.found → bin_at (bins_in g.T.Index.NodeIndex.MAX (g.T.Tables.cells c.args.tables.now).bins) d ≡ []

met : (g : Over) (c : After-head-name g) → Met g c
met g c =
    let ls : List (List ℕ) = bins_in g.T.Index.NodeIndex.MAX (g.T.Tables.cells c.args.tables.now).bins in
    let m : AreMasks ls c.masks-masks.result c.args.top_mask = rw c.masks-masks.ensures.cells c.requires.binned.masked in
    let s = c.in-Some.ensures.smallest ls m in
    let h = head_name g.T.Index.NodeIndex.MAX (bin_at ls c.in-Some.found) s.2 in
    let space = c.requires.space.1 in
    let bin : bin_at ls c.in-Some.found ≡ c.head-name.result ∷ h.0 = h.1 ∙ ap (λ x. x ∷ h.0) (sym (c.head-name.ensures.cell ∙ c.requires.binned.linked.heads c.in-Some.found s.1)) in
    let b = start_listed _ ls c.requires.filed (λ x. let e = each-le _ _ _ _ _ space x in (omega (arith, e))) c.in-Some.found c.head-name.result h.0 bin in
    record { place = b.0; is = b.1; name = b.2; idle = b.3; class = b.4; names = h.0; bin = bin; above = s.0; below = s.1; none = s.3 }

pub offset-offset-requires : goal.offset-offset-requires
offset-offset-requires g c =
    let b = met g (goal.at.offset-offset-requires g c).After-head-name in
    (placed (rw b.is at c.requires.space.1) b.name).below

pub loop-preserved : goal.loop-preserved
loop-preserved g c =
    let i = c.loop.invariant in
    let ls : List (List ℕ) = bins_in g.T.Index.NodeIndex.MAX (g.T.Tables.cells c.args.tables.now).bins in
    let bs : List Block = blocks (g.T.Tables.cells c.args.tables.now).chain c.args.last in
    let b = met g (goal.at.loop-preserved g c).After-head-name in
    let p : Place = b.place in
    let space = c.requires.space.1 in
    let distinct : (x : ℕ) → count_named x bs ≤ 1 = λ x. let e = each-le _ _ _ _ _ space x in (omega (arith, e)) in
    let s : IsStart bs c.head-name.result = subst (IsStart bs) b.name (start_free _ p.before p.after p.block b.is b.idle) in
    let at : c.offset-offset.result ≡ units p.before = c.offset-offset.ensures.cell ∙ ap (λ (n : Node). n.offset) (at_place (placed (rw b.is at space) b.name)) in
    let k : 32 - c.loop.counter ≡ suc (32 - (c.loop.counter + 1)) = omega (arith, c.loop-test.true) in
    let long = c.requires.binned.linked.lists_len in
    let more = ap (λ n. newest n (drop c.loop.class ls)) k
    ∙ newest_next (32 - (c.loop.counter + 1)) ls c.loop.class c.in-Some.found c.head-name.result b.names b.above (omega (arith, b.below, long)) b.none b.bin in
    let some : 1 ≤ length i.seen → 1 ≤ p.block.size = λ l. elim (cases_lt p.block.size 1) [
      | inl z ↦ absurd (let n : p.block.size ≡ 0 = omega arith in omega (arith, i.later (omega (arith, l, i.long)), b.above, b.class, ap down n, down_itself 0 (omega arith)))
      | inr z ↦ omega arith
    ] in
    record {
      seen = i.seen ++ c.head-name.result ∷ [];
      is = i.is ∙ ap (λ l. i.seen ++ l) more ∙ sym (append_assoc i.seen (c.head-name.result ∷ []) _);
      long = omega (arith, i.long, length-append i.seen (c.head-name.result ∷ []));
      begins = elim c.if-offset-lowest.branch [
        | then-offset-lowest w ↦
            earlier_at i.seen bs c.args.last c.loop.start c.loop.lowest distinct p b.is i.begins c.head-name.result c.offset-offset.result c.if-offset-lowest.start c.if-offset-lowest.lowest b.name at
            w.start-is w.lowest-is (omega (arith, w.if-offset-lowest))
        | else-offset-lowest w ↦
            later_at i.seen bs c.args.last c.loop.start c.loop.lowest distinct p b.is i.begins c.head-name.result c.offset-offset.result c.if-offset-lowest.start c.if-offset-lowest.lowest b.name at
            w.start-is w.lowest-is (omega (arith, w.if-offset-lowest)) space.fits some
      ];
      start = elim c.if-offset-lowest.branch [
        | then-offset-lowest w ↦ subst (IsStart bs) (sym w.start-is) s
        | else-offset-lowest w ↦ subst (IsStart bs) (sym w.start-is) i.start
      ];
      class = omega (arith, b.below);
      later = λ l. omega arith;
      accesses = omega (arith, i.accesses, c.head-name.ensures.accesses, c.offset-offset.ensures.accesses);
    }
