use Rattle.offset_allocator.proofs.Common.{ap, arith, refl, sym, ◌∙◌, length, largest, free_sizes, node, View}
use Rattle.offset_allocator.proofs.{Sound.shown, Sound.Fields, Sound.fields_of, Sound.known_sound, Reporting.Counting.largest_none, Reporting.Counting.largest_some, Reporting.Counting.names_few}
use Rattle.offset_allocator.proofs.{Reporting.Largest.largest_names, Reporting.Largest.node_sized, Reporting.Largest.block_small, Reporting.Largest.greatest_none, Always.adds_up}
use Rattle.offset_allocator.specs.Reporting.Statistics.{greatest}
use Rattle.offset_allocator.proofs.reports.statistics.largest_free.Goals as goal

pub returns-in-None-clause-region : goal.returns-in-None-clause-region
returns-in-None-clause-region g c =
    let f : Fields = fields_of g.T.Tables.cells g.T.Index.NodeIndex.MAX c.allocator.inside in
    let known = known_sound f c.allocator.invariant (shown f) refl in
    sym (largest_none (shown f) known.0 c.in-None.ensures.largest) ∙ ap (λ (v : View). largest (free_sizes v.blocks)) c.allocator.view_is

pub returns-in-Some : goal.returns-in-Some
returns-in-Some g c =
    let f : Fields = fields_of g.T.Tables.cells g.T.Index.NodeIndex.MAX c.allocator.inside in
    let known = known_sound f c.allocator.invariant (shown f) refl in
    record {
      block =
          c.largest_of_class.ensures.largest
          ∙ largest_names (shown f) known.0 (λ x. (node f.cells.chain x).size) (node_sized f c.allocator.invariant) (block_small (shown f) known.0) c.in-Some.class c.in-Some.ensures.largest
          ∙ ap (λ (v : View). greatest (free_sizes v.blocks)) c.allocator.view_is;
      region =
          let l = largest_some (shown f) known.0 c.in-Some.class c.in-Some.ensures.largest in
          omega (arith, l.0, l.1, adds_up (shown f) known.0, known.0.fits, c.float_to_uint.ensures.is, ap (λ (v : View). largest (free_sizes v.blocks)) c.allocator.view_is);
      accesses =
          let few = names_few (shown f) known.0 c.in-Some.class in
          let same = ap (λ (v : View). length (free_sizes v.blocks)) c.allocator.view_is in
          (omega (arith, c.largest_of_class.ensures.accesses, c.in-Some.ensures.accesses), omega (arith, c.largest_of_class.ensures.accesses, c.in-Some.ensures.accesses, few, same));
    }

pub returns-in-None-clause-block : goal.returns-in-None-clause-block
returns-in-None-clause-block g c =
    let v = c.args.allocator.now in
    let known = known_sound (fields_of g.T.Tables.cells g.T.Index.NodeIndex.MAX c.allocator.inside) c.allocator.invariant v c.allocator.view_is in
    sym (greatest_none (free_sizes v.blocks) (omega (arith, adds_up v known.0, known.0.fits)) (sym (returns-in-None-clause-region g c)))
