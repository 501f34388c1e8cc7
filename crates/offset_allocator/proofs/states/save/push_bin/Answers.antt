use Rattle.offset_allocator.proofs.{Common.ℕ, Common.List, Common.◌++◌, Common.◌∷◌, Common.[], Common.◌∙◌, Common.ap, Common.sym, Common.arith, Common.length, Common.length-append, Common.append_assoc, Common.append-nil}
use Rattle.offset_allocator.proofs.Reporting.Largest.{walk_begins, walk_next, walk_ends}
use Rattle.offset_allocator.proofs.states.save.push_bin.Goals as goal

pub older-requires : goal.older-requires
older-requires g c = omega (arith, (walk_next c.loop-name.invariant.walked (λ e. c.loop-name-test.true (e ∙ sym c.MAX.ensures))).0)

pub loop-name-init : goal.loop-name-init
loop-name-init g c = record { met = []; walked = walk_begins c.requires.linked c.requires.classed c.head-name.ensures.cell; items = sym (append-nil c.args.names.now.items) }

pub loop-name-smaller : goal.loop-name-smaller
loop-name-smaller g c =
    let i = c.loop-name.invariant in
    let next = walk_next i.walked (λ e. c.loop-name-test.true (e ∙ sym c.MAX.ensures)) in
    omega (arith, next.1, ap length c.in_ok-push.ensures.items, ap length i.items, length-append c.loop-name.names.items (c.loop-name.name ∷ []), length-append c.args.names.now.items i.met)

pub returns : goal.returns
returns g c =
    let i = c.loop-name.invariant in
    i.items ∙ ap (λ l. c.args.names.now.items ++ l) (sym (walk_ends c.requires.linked.names_small i.walked (c.loop-name-test.false ∙ c.MAX.ensures)))

pub loop-name-preserved : goal.loop-name-preserved
loop-name-preserved g c =
    let i = c.loop-name.invariant in
    let next = walk_next i.walked (λ e. c.loop-name-test.true (e ∙ sym c.MAX.ensures)) in
    let names : List ℕ = c.args.names.now.items in
    record {
      met = i.met ++ c.loop-name.name ∷ [];
      walked = rw (c.number-name.ensures.number, c.older.ensures.cell) next.2;
      items = c.in_ok-push.ensures.items ∙ ap (λ l. l ++ c.loop-name.name ∷ []) i.items ∙ append_assoc names i.met (c.loop-name.name ∷ []);
    }
