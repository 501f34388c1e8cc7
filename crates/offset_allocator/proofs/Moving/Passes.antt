-- A pass of compactions within a budget: each call goes on behind the ranges that the one before it moved. By steps of one
-- unit none is refused.
use Rattle.offset_allocator.proofs.Common.{◌≡◌, ◌≢◌, ℕ, ◌+◌, ◌<◌, ◌≤◌, Bool, true, false, not, ◌&&◌, nat_le, Some, None, List, [], ◌∷◌, ◌++◌, refl, sym, ap, ap₂, subst, ◌∙◌, inl, inr, arith}
use Rattle.offset_allocator.proofs.Common.{append_assoc, true≢false, le-leb, Block, View, free_block, units, count_used, count_named, one, starts_free, IsWellFormed, AreCoalesced}
use Rattle.offset_allocator.proofs.{Tallies.tally_append, Tallies.units-append, Views.ViewApart.apart_parts}
use Rattle.offset_allocator.proofs.Moving.{Budgeted.begun, Budgeted.from_here, Budgeted.from_past, DecidedBudget.same_named, Done.given_enough, Stepped.IsWhole, Stepped.stepped_units, Stepped.whole_is, Stepping.freed_now, Stepping.given_free}
use Rattle.offset_allocator.specs.Moving.BySteps.{CompactsBy, run_by, stepped, given_up, used_up}
use Rattle.offset_allocator.specs.{Chain.first_or, Moving.Compacting.Move}
use Rattle.std.proofs.Math.Nat.{mod-one}
use Rattle.offset_allocator.specs.Moving.Budget.{CompactsWithin, IsRunWithin, SlidesWithin, StopsAt, first_from, start_of}
use Rattle.offset_allocator.specs.declared.moves.over_frames.Progress.{Progress}

-- the next call begins where blocks are left
pub started_at : (o : ℕ) (bs : List Block) (k : ℕ) → start_of o bs ≡ Some k → (bs ≢ []) × (o ≡ k)
started_at o [] k e = absurd (cc)
started_at o (b ∷ bs) k e = ((λ q. absurd (cc)), cc)

module _ (s from u r : ℕ) (some : 1 ≤ s) (v : View) (known : IsWellFormed v) (front : List Block) (first : Block) (rest back : List Block) (k : IsRunWithin s from u r v front first rest back) where
  first_found : (first.used ≡ false) × (s ≤ first.size)
  first_found =
      let i = begun s from 0 v.blocks first.name k.begins in
      let same = same_named i.front front i.first first i.rest (rest ++ back) (sym i.is ∙ k.is) (λ x. subst (λ (l : List Block). count_named x l ≤ 1) i.is (known.distinct x)) i.name in
      subst (λ (b : Block). (b.used ≡ false) × (s ≤ b.size)) same.1 (i.free, i.whole)

  -- at least one range moves
  one_moves : rest ++ back ≢ [] → 1 ≤ count_used rest
  one_moves more = go rest refl back refl
    where
      go : (l : List Block) → rest ≡ l → (b : List Block) → back ≡ b → 1 ≤ count_used l
      go [] e [] f = absurd (more (ap₂ (λ x y. x ++ y) e f))
      go [] e (b ∷ bs) f =
          let stops : StopsAt u r [] (b ∷ bs) = subst (λ l. StopsAt u r l (b ∷ bs)) e (subst (StopsAt u r rest) f k.stops) in
          absurd (stops.1 (inl (omega (arith, ap one stops.0))))
      go (c ∷ l) e b f =
          let apart = (apart_parts front (first ∷ (rest ++ back)) (subst AreCoalesced k.is known.apart)).1 in
          let next : (not first.used && starts_free (rest ++ back)) ≡ false = apart.0 in
          let live : c.used ≡ true = used c.used (sym (ap (λ l. not first.used && starts_free (l ++ back)) e) ∙ next) in
          omega (arith, ap one live)
        where
          used : (t : Bool) → (not first.used && not t) ≡ false → t ≡ true
          used true q = refl
          used false q = absurd (true≢false (sym (ap (λ x. not x && true) first_found.0) ∙ q))

module _ (s from u r : ℕ) (some : 1 ≤ s) (v w : View) (known : IsWellFormed v) (left : IsWellFormed w) (p : Progress) (o : ℕ) (k : SlidesWithin s from u r v w p) (next : p.next ≡ Some o) where
  pub at : (k.back ≢ []) × (units (k.front ++ k.first ∷ k.rest) ≡ o)
  at = started_at (units (k.front ++ k.first ∷ k.rest)) k.back o (sym (ap (λ (q : Progress). q.next) k.progress) ∙ next)

  abbrev run : List Block
  run = k.first ∷ k.rest

  abbrev pub hole : Block
  hole = free_block k.name (given_up s run)

  abbrev pub before : List Block
  before = k.front ++ stepped s run

  pub left_is : w.blocks ≡ before ++ hole ∷ k.back
  left_is = ap (λ (x : View). x.blocks) k.view ∙ ap (λ l. k.front ++ l) (append_assoc (stepped s run) (hole ∷ []) k.back) ∙ sym (append_assoc k.front (stepped s run) (hole ∷ k.back))

  first : (k.first.used ≡ false) × (s ≤ k.first.size)
  first = first_found s from u r some v known k.front k.first k.rest k.back k.reached

  enough : s ≤ given_up s run
  enough = go k.rest
    where
      go : (l : List Block) → s ≤ given_up s (k.first ∷ l)
      go [] = omega (arith, given_free s k.first [] first.0, first.1)
      go (c ∷ cs) = given_enough s some k.first (c ∷ cs) first.0 first.1 (λ q. absurd (cc))

  ends : units before + given_up s run ≡ o
  ends = omega (arith, at.1, units-append k.front run, units-append k.front (stepped s run), stepped_units s run)

  pub begins : first_from s o 0 w.blocks ≡ Some k.name
  begins =
      let most : 0 + units before < o = omega (arith, ends, enough, some) in
      let more : hole ∷ k.back ≢ [] = λ q. absurd (cc) in
      let test : (nat_le s (given_up s run) && nat_le o (0 + units before + given_up s run)) ≡ true =
      ap₂ (λ (x y : Bool). x && y) (le-leb s (given_up s run) enough) (le-leb o (0 + units before + given_up s run) (omega (arith, ends))) in
      ap (first_from s o 0) left_is ∙ from_past s o 0 before (hole ∷ k.back) more most
      ∙ from_here s o (0 + units before) hole k.back at.0 true (sym test)

  -- so it does something
  pub goes_on : first_from s o 0 w.blocks ≢ None
  goes_on e = let q = sym begins ∙ e in absurd (cc)

  -- it slides the blocks behind
  module _ (x : View) (q : Progress) (n m : ℕ) (l : SlidesWithin s o n m w x q) where
    behind : (before ≡ l.front) × (hole ≡ l.first) × (k.back ≡ l.rest ++ l.back)
    behind = same_named before l.front hole l.first k.back (l.rest ++ l.back) (sym left_is ∙ l.reached.is) (λ y. subst (λ (bs : List Block). count_named y bs ≤ 1) left_is (left.distinct y))
        (let h : Some k.name ≡ Some l.first.name = sym begins ∙ l.reached.begins in cc)

    pub comes_further : (k.back ≡ l.rest ++ l.back) × (1 ≤ q.ranges) × (count_used l.back + q.ranges ≡ count_used k.back)
    comes_further =
        let moved = ap (λ (r : Progress). r.ranges) l.progress in (
          behind.2,
          omega (arith, moved, one_moves s o n m some w left l.front l.first l.rest l.back l.reached (λ e. at.0 (behind.2 ∙ e))),
          omega (arith, moved, ap count_used behind.2, tally_append (λ (b : Block). one b.used) l.rest l.back),
        )

-- by steps of one unit each free block is used up
unit_freed : (b : Block) (bs : List Block) → b.used ≡ false → used_up 1 (b ∷ bs) ≢ []
unit_freed b bs u = freed_now 1 b bs u (mod-one b.size)

pub units_done : (v w : View) → CompactsBy 1 v w false → ⊥
units_done v w h = go (run_by 1 v.blocks) refl
  where
    go : (l : List Block) → run_by 1 v.blocks ≡ l → ⊥
    go [] e = h.0 e
    go (b ∷ bs) e =
        let o : IsWhole 1 v.blocks b.name = whole_is 1 v.blocks b.name (ap (first_or None) e) in
        h.1 (inr (subst (λ l. used_up 1 l ≢ []) (sym o.run) (unit_freed o.first o.rest o.free)))

pub units_within : {F : Type 0} (R : F → Move → F → Type 0) (from u r : ℕ) (v w : View) (f g : F) → IsWellFormed v → CompactsWithin R 1 from u r v f None w g → ⊥
units_within R from u r v w f g known m =
    let free = (first_found 1 from u r (omega arith) v known m.2.0 m.2.1 m.2.2 m.2.3 m.2.4).0 in
    m.2.5 (inr (unit_freed m.2.1 m.2.2 free))
