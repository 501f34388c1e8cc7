use Rattle.offset_allocator.proofs.{Linking.Ends.Ended, Linking.Ends.ended, Linking.Ends.last_none, Linking.Places.at_place, Moving.Sliding.walked, Reporting.Foremost.name_of}
use Rattle.offset_allocator.proofs.{Reporting.Foremost.met_used, Reporting.Foremost.met_free}
use Rattle.offset_allocator.proofs.Common.{◌≡◌, List, [], ◌∷◌, ◌++◌, Some, None, length, refl, sym, ap, ◌∙◌, arith, append-nil, append_assoc, Node, Block, blocks, last_or, units, placed}
use Rattle.offset_allocator.specs.Reporting.Walking.{first_handle}
use Rattle.offset_allocator.proofs.reports.walks.first_used.Goals as goal
use Rattle.offset_allocator.proofs.reports.walks.first_used.Goals.{then-is_used, else-is_used}

pub is_used-requires : goal.is_used-requires
is_used-requires g c = let i = c.loop-at.invariant in (walked c.requires.space.1 i.front i.met i.is (i.ends ∙ c.in-Some.is)).below

pub before-at-requires : goal.before-at-requires
before-at-requires g c = let i = c.loop-at.invariant in (walked c.requires.space.1 i.front i.met i.is (i.ends ∙ c.in-Some.is)).below

pub loop-at-init : goal.loop-at-init
loop-at-init g c = record {
  front = blocks (g.T.Tables.cells c.args.tables.now).chain c.args.last;
  met = [];
  is = sym (append-nil _);
  ends = c.requires.space.1.ends;
  first = refl;
  accesses = omega arith;
}

pub loop-at-preserved : goal.loop-at-preserved
loop-at-preserved g c =
    let i = c.loop-at.invariant in
    let e : last_or None i.front ≡ Some c.in-Some.name = i.ends ∙ c.in-Some.is in
    let f : Ended c.in-Some.name i.front = ended i.front c.in-Some.name e in
    let h = walked c.requires.space.1 i.front i.met i.is e in
    let used : c.is_used.result ≡ f.last.used = c.is_used.ensures.cell ∙ ap (λ (n : Node). n.used) (at_place h) in
    let before : c.loop-at.first ≡ name_of (first_handle (placed (units (f.front ++ f.last ∷ [])) i.met)) = i.first ∙ ap (λ (l : List Block). name_of (first_handle (placed (units l) i.met))) f.is in
    record {
      front = f.front;
      met = f.last ∷ i.met;
      is = i.is ∙ ap (λ (l : List Block). l ++ i.met) f.is ∙ append_assoc f.front (f.last ∷ []) i.met;
      ends = sym (c.before-at.ensures.before ∙ ap (λ (n : Node). n.before) (at_place h));
      first = elim c.if-is_used.branch [
        | then-is_used w ↦ w.first-is ∙ ap Some (sym f.name) ∙ met_used f.front f.last i.met (sym used ∙ w.if-is_used.true)
        | else-is_used w ↦ w.first-is ∙ met_free f.front f.last i.met c.loop-at.first (sym used ∙ w.if-is_used.false) before
      ];
      accesses = omega (arith, i.accesses, c.is_used.ensures.accesses, c.before-at.ensures.accesses);
    }

pub returns : goal.returns
returns g c =
    let i = c.loop-at.invariant in
    let none = last_none i.front (i.ends ∙ c.in_default.is) in
    record {
      first =
          i.first ∙ ap (λ (l : List Block). name_of (first_handle (placed (units l) i.met))) none
          ∙ sym (ap (λ (l : List Block). name_of (first_handle (placed 0 l))) (i.is ∙ ap (λ (l : List Block). l ++ i.met) none));
      accesses = omega (arith, i.accesses, ap (λ (l : List Block). length l) (i.is ∙ ap (λ (l : List Block). l ++ i.met) none));
    }
