use Rattle.offset_allocator.proofs.{Common.sym, Common.ap, Common.◌∙◌, Common.arith, Common.View, Common.count_used, Emptied.freed_first, Emptied.freed_none, Emptied.freed_one}
use Rattle.offset_allocator.proofs.AllocatorOf.free_all.Goals as goal

pub loop-name-init : goal.loop-name-init
loop-name-init g c = record { freed = λ w f. f; least = omega arith; most = omega arith }

pub loop-name-smaller : goal.loop-name-smaller
loop-name-smaller g c =
    let was : View = c.last_used.new.self in
    omega (arith, freed_one c.in-Some.name was c.release.new.self c.release.ensures.step, ap (λ (u : View). count_used u.blocks) c.last_used.ensures.same)

pub loop-name-preserved : goal.loop-name-preserved
loop-name-preserved g c =
    record {
      freed = λ w rest.
          c.loop-name.invariant.freed w
          (freed_first c.in-Some.name c.loop-name.self c.last_used.new.self c.release.new.self w c.last_used.ensures.same (sym c.last_used.ensures.last ∙ c.in-Some.is) c.release.ensures.step rest);
      least = omega (arith, c.release.ensures.accesses.0, c.last_used.ensures.accesses.0, c.loop-name.invariant.least);
      most =
          let fewer = freed_one c.in-Some.name c.last_used.new.self c.release.new.self c.release.ensures.step in
          omega (arith, fewer, ap (λ (u : View). count_used u.blocks) c.last_used.ensures.same, c.release.ensures.accesses.1, c.last_used.ensures.accesses.1, c.loop-name.invariant.most);
    }

pub returns-clause-freed : goal.returns-clause-freed
returns-clause-freed g c =
    c.loop-name.invariant.freed c.last_used.new.self (freed_none c.loop-name.self c.last_used.new.self c.last_used.ensures.same (c.last_used.ensures.none c.in_default.is))
