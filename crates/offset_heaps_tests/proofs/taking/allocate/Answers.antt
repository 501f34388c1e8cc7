use Rattle.std.proofs.Common.{◌≡◌, true, false, IfOk, sym, subst}
use Rattle.offset_heaps.specs.Heaps.{IsFirstFit, IsNext, NoneFits}
use Rattle.offset_heaps.proofs.Grants.{plain}
use Rattle.offset_heaps_tests.proofs.taking.allocate.Goals as goal

pub returns : goal.returns
returns c =
    let is = c.allocate.ensures in
    let old = c.args.heaps.now in
    record {
      empty = is.empty;
      why = is.why;
      same = is.same;
      found = subst (λ n. IfOk c.allocate.result (λ g. g.is_new ≡ false → IsFirstFit 1 n g.place.heap old)) (sym (plain c.args.size)) is.found;
      made = subst (λ n. IfOk c.allocate.result (λ g. g.is_new ≡ true → NoneFits 1 n old × IsNext c.args.size g.place.heap old)) (sym (plain c.args.size)) is.made;
      grants = is.grants;
    }
