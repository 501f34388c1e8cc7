use Rattle.offset_allocator.proofs.Common.{◌≡◌, ◌≢◌, ◌↔◌, ◌⊎◌, ◌+◌, ◌-◌, ◌*◌, ◌<◌, ◌≤◌, ◌^◌, ◌∙◌, ℕ, Bool, true, if◌then◌else◌, List, [], ◌∷◌, ◌++◌, Some, None, length, sym, ap, ap₂, subst, arith, inl, inr, append-nil, append_assoc, length-append, Node, Block}
use Rattle.offset_allocator.proofs.Common.{HasPlace, IsSpace, blocks, first_or, one, count_used, used_units, units}
use Rattle.offset_allocator.proofs.{Linking.Places.at_place, Tallies.units-append}
use Rattle.offset_allocator.proofs.Moving.Budgeted.{Started, started, none_left, used_fit}
use Rattle.offset_allocator.proofs.Moving.CompactCosts.{emptied_on, left_place}
use Rattle.offset_allocator.proofs.Moving.Runs.{used_few}
use Rattle.offset_allocator.proofs.Moving.Stepped.{stepped_units}
use Rattle.offset_allocator.specs.Moving.BySteps.{given_up, kept, used_up}
use Rattle.offset_allocator.proofs.moves.compact_cost.sums_from.Given.{Over}
use Rattle.offset_allocator.proofs.moves.compact_cost.sums_from.Goals.{After-kept}
use Rattle.offset_allocator.proofs.moves.compact_cost.sums_from.Goals as goal

-- the block that is looked at
record Met (g : Over) (c : After-kept g) (last spare : ℕ) (front run : List Block) : Type 0 where
  passed : List Block
  next : Block
  left : List Block
  is : run ≡ passed ++ next ∷ left
  place : HasPlace (g.T.Tables.cells c.args.tables.now).chain (g.T.Tables.cells c.args.tables.now).chain.reserved last spare c.in-Some.name (record { before = front ++ passed; block = next; after = left })
  units : c.loop-at.sums.units + used_units (next ∷ left) ≡ used_units run
  ranges : c.loop-at.sums.ranges + count_used (next ∷ left) ≡ count_used run
  given : c.loop-at.sums.given + given_up c.args.step (next ∷ left) ≡ given_up c.args.step run
  emptied : ((c.loop-at.sums.empties ≡ true) ⊎ (used_up c.args.step (next ∷ left) ≢ [])) ↔ (used_up c.args.step run ≢ [])
  counted : c.loop-at.count ≤ c.args.count.now + 3 * length passed

met : (g : Over) (c : After-kept g) (last spare : ℕ) (front run : List Block) → IsSpace (g.T.Tables.cells c.args.tables.now).chain last spare
    → blocks (g.T.Tables.cells c.args.tables.now).chain last ≡ front ++ run → first_or None run ≡ Some c.args.first → Met g c last spare front run
met g c last spare front run space is first =
    let i = c.loop-at.invariant.at last spare front run space is first in
    let s : Started i.1 c.in-Some.name = started i.1 c.in-Some.name (i.3 ∙ c.in-Some.is) in
    record {
      passed = i.0;
      next = s.first;
      left = s.rest;
      is = i.2 ∙ ap (λ (l : List Block). i.0 ++ l) s.is;
      place = left_place space front i.0 i.1 (is ∙ ap (λ (l : List Block). front ++ l) i.2) s;
      units = ap (λ (l : List Block). c.loop-at.sums.units + used_units l) (sym s.is) ∙ i.4;
      ranges = ap (λ (l : List Block). c.loop-at.sums.ranges + count_used l) (sym s.is) ∙ i.5;
      given = ap (λ (l : List Block). c.loop-at.sums.given + given_up c.args.step l) (sym s.is) ∙ i.6;
      emptied = subst (λ (l : List Block). ((c.loop-at.sums.empties ≡ true) ⊎ (used_up c.args.step l ≢ [])) ↔ (used_up c.args.step run ≢ [])) s.is i.7;
      counted = i.8;
    }

-- what the tables say of it
record Read (g : Over) (c : After-kept g) (next : Block) (left : List Block) : Type 0 where
  size : c.size-size.result ≡ next.size
  used : c.is_used-used.result ≡ next.used
  link : c.linked-at.result ≡ first_or None left
  keep : c.kept.result ≡ kept c.args.step next.size left
  live : (if c.is_used-used.result then c.size-size.result else 0) ≡ (if next.used then next.size else 0)
  idle : (if c.is_used-used.result then 0 else c.size-size.result - c.kept.result) ≡ (if next.used then 0 else next.size - kept c.args.step next.size left)

read : (g : Over) (c : After-kept g) (last spare : ℕ) (front run : List Block) (space : IsSpace (g.T.Tables.cells c.args.tables.now).chain last spare)
    (is : blocks (g.T.Tables.cells c.args.tables.now).chain last ≡ front ++ run) (first : first_or None run ≡ Some c.args.first)
    → Read g c (met g c last spare front run space is first).next (met g c last spare front run space is first).left
read g c last spare front run space is first =
    let m = met g c last spare front run space is first in
    let size : c.size-size.result ≡ m.next.size = c.size-size.ensures.cell ∙ ap (λ (n : Node). n.size) (at_place m.place) in
    let used : c.is_used-used.result ≡ m.next.used = c.is_used-used.ensures.cell ∙ ap (λ (n : Node). n.used) (at_place m.place) in
    let link : c.linked-at.result ≡ first_or None m.left = c.linked-at.ensures ∙ c.after.ensures.cell ∙ ap (λ (n : Node). n.after) (at_place m.place) in
    let keep : c.kept.result ≡ kept c.args.step m.next.size m.left = c.kept.ensures.kept m.left link ∙ ap (λ n. kept c.args.step n m.left) size in
    record {
      size = size;
      used = used;
      link = link;
      keep = keep;
      live = ap₂ (λ (t : Bool) (n : ℕ). if t then n else 0) used size;
      idle = ap₂ (λ (t : Bool) (n : ℕ). if t then 0 else n) used (ap₂ (λ (n k : ℕ). n - k) size keep);
    }

pub size-size-requires : goal.size-size-requires
size-size-requires g c =
    let r = c.requires.place in
    let i = c.loop-at.invariant.at r.0 r.1 r.2 r.3 r.4 r.5 r.6 in
    (left_place r.4 r.2 i.0 i.1 (r.5 ∙ ap (λ (l : List Block). r.2 ++ l) i.2) (started i.1 c.in-Some.name (i.3 ∙ c.in-Some.is))).below

pub is_used-used-requires : goal.is_used-used-requires
is_used-used-requires g c =
    let r = c.requires.place in
    let i = c.loop-at.invariant.at r.0 r.1 r.2 r.3 r.4 r.5 r.6 in
    (left_place r.4 r.2 i.0 i.1 (r.5 ∙ ap (λ (l : List Block). r.2 ++ l) i.2) (started i.1 c.in-Some.name (i.3 ∙ c.in-Some.is))).below

pub after-requires : goal.after-requires
after-requires g c =
    let r = c.requires.place in
    let i = c.loop-at.invariant.at r.0 r.1 r.2 r.3 r.4 r.5 r.6 in
    (left_place r.4 r.2 i.0 i.1 (r.5 ∙ ap (λ (l : List Block). r.2 ++ l) i.2) (started i.1 c.in-Some.name (i.3 ∙ c.in-Some.is))).below

pub and-sums-requires-clause-fits : goal.and-sums-requires-clause-fits
and-sums-requires-clause-fits g c =
    let r = c.requires.place in
    let at = (goal.at.and-sums-requires-clause-fits g c).After-kept in
    let m = met g at r.0 r.1 r.2 r.3 r.4 r.5 r.6 in
    let d = read g at r.0 r.1 r.2 r.3 r.4 r.5 r.6 in
    let whole : units r.3 < 2 ^ 32 = omega (arith, r.4.fits, ap units r.5, units-append r.2 r.3) in
    let few : length r.3 < 2 ^ 32 =
    omega (arith, r.4.full, ap (λ (l : List Block). length l) r.5, length-append r.2 r.3, c.shape.ensures.within, c.shape.ensures.limit, c.shape.ensures.word) in (
      omega (arith, d.live, m.units, used_fit r.3, whole),
      omega (arith, ap one d.used, m.ranges, used_few r.3, few),
      omega (arith, d.idle, m.given, stepped_units c.args.step r.3, whole),
    )

pub loop-at-smaller : goal.loop-at-smaller
loop-at-smaller g c =
    let r = c.requires.place in
    let m = met g (goal.at.loop-at-smaller g c).After-kept r.0 r.1 r.2 r.3 r.4 r.5 r.6 in
    omega (
      arith,
      m.counted,
      m.place.chain.full,
      length-append (r.2 ++ m.passed) (m.next ∷ m.left),
      length-append r.2 m.passed,
      c.loop-at.invariant.grows,
      c.size-size.ensures.accesses,
      c.is_used-used.ensures.accesses,
      c.after.ensures.accesses,
    )

pub loop-at-preserved : goal.loop-at-preserved
loop-at-preserved g c = record {
  grows = omega (arith, c.loop-at.invariant.grows, c.size-size.ensures.accesses, c.is_used-used.ensures.accesses, c.after.ensures.accesses);
  at = λ last spare front run space is first.
      let at = (goal.at.loop-at-preserved g c).After-kept in
      let m = met g at last spare front run space is first in
      let d = read g at last spare front run space is first in
      let on = emptied_on c.args.step m.next m.left c.loop-at.sums.empties c.and-sums.result.empties c.kept.result d.keep (
        λ e. elim (c.and-sums.ensures.empties.0 e) [ inl w ↦ inl w | inr z ↦ inr (sym d.used ∙ z.0, z.1) ],
        λ e. c.and-sums.ensures.empties.1 (elim e [ inl w ↦ inl w | inr z ↦ inr (d.used ∙ z.0, z.1) ]),
      ) in (
        m.passed ++ m.next ∷ [],
        m.left,
        m.is ∙ sym (append_assoc m.passed (m.next ∷ []) m.left),
        sym d.link,
        omega (arith, c.and-sums.ensures.units, d.live, m.units),
        omega (arith, c.and-sums.ensures.ranges, ap one d.used, m.ranges),
        omega (arith, c.and-sums.ensures.given, d.idle, m.given),
        (λ e. m.emptied.0 (on.0 e), λ e. on.1 (m.emptied.1 e)),
        omega (arith, m.counted, c.size-size.ensures.accesses, c.is_used-used.ensures.accesses, c.after.ensures.accesses, length-append m.passed (m.next ∷ [])),
      );
}

pub returns : goal.returns
returns g c = record {
  sums = λ last spare front run space is first.
      let i = c.loop-at.invariant.at last spare front run space is first in
      let none = none_left i.1 (i.3 ∙ c.in_default.is) in
      let all : run ≡ i.0 = i.2 ∙ ap (λ (l : List Block). i.0 ++ l) none ∙ append-nil i.0 in (
        omega (arith, i.4, ap used_units none),
        omega (arith, i.5, ap count_used none),
        omega (arith, i.6, ap (given_up c.args.step) none),
        (
          λ e. i.7.0 (inl e),
          λ e. elim (i.7.1 e) [ inl t ↦ t | inr l ↦ absurd (l (ap (used_up c.args.step) none)) ],
        ),
        c.loop-at.invariant.grows,
        omega (arith, i.8, ap (λ (l : List Block). length l) all),
      );
}
