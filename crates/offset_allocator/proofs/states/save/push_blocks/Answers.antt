use Rattle.offset_allocator.proofs.Common.{◌≡◌, ◌∙◌, ◌+◌, ◌-◌, ◌∷◌, ◌++◌, [], ap, ap₂, sym, None, Some, take, drop, arith, ℕ, List, Block, last_or, append_assoc}
use Rattle.offset_allocator.proofs.Saving.Surveys.{next_back, name_next}
use Rattle.offset_allocator.specs.Chain.{blocks as blocks_in}
use Rattle.offset_allocator.specs.Saving.State.{block_words}
use Rattle.offset_allocator.proofs.states.save.push_blocks.Goals as goal
use Rattle.offset_allocator.proofs.states.save.push_blocks.Goals.{in-Some, in_default}

pub size-requires : goal.size-requires
size-requires g c =
    let bs : List Block = blocks_in (g.T.Tables.cells c.args.tables.now).chain c.args.last in
    let k : ℕ = c.args.blocks - c.loop-i.i in
    let r = next_back bs k c.loop-i.name c.requires.space.1 (omega (arith, c.requires.all)) (c.loop-i.invariant.at (omega (arith, c.loop-i-test.true))) in
    r.below

pub before-requires : goal.before-requires
before-requires g c =
    let bs : List Block = blocks_in (g.T.Tables.cells c.args.tables.now).chain c.args.last in
    let k : ℕ = c.args.blocks - c.loop-i.i in
    let r = next_back bs k c.loop-i.name c.requires.space.1 (omega (arith, c.requires.all)) (c.loop-i.invariant.at (omega (arith, c.loop-i-test.true))) in
    r.below

pub loop-i-preserved : goal.loop-i-preserved
loop-i-preserved g c =
    let bs : List Block = blocks_in (g.T.Tables.cells c.args.tables.now).chain c.args.last in
    let k : ℕ = c.args.blocks - c.loop-i.i in
    let r = next_back bs k c.loop-i.name c.requires.space.1 (omega (arith, c.requires.all)) (c.loop-i.invariant.at (omega (arith, c.loop-i-test.true))) in
    let i = c.loop-i.invariant in
    let next : c.args.blocks - (c.loop-i.i + 1) ≡ k - 1 = omega arith in
    let passed : drop (c.args.blocks - (c.loop-i.i + 1)) bs ≡ r.block ∷ drop k bs = ap (λ n. drop n bs) next ∙ r.passed in
    let old : List ℕ = c.args.words.now.items in
    let size : c.size.result ≡ r.block.size = c.size.ensures.cell ∙ r.size in
    record {
      at = λ more. ap (λ n. last_or None (take n bs)) next ∙ elim c.match-linked.branch [
        | in-Some w ↦ sym r.before ∙ sym c.before-in-loop-i.ensures.cell ∙ sym c.linked.ensures ∙ w.in-Some.is ∙ ap (λ n. Some n) (sym w.name-is)
        | in_default w ↦ absurd (name_next bs (k - 1) (sym r.before ∙ sym c.before-in-loop-i.ensures.cell ∙ sym c.linked.ensures
            ∙ w.in_default.is) (omega (arith, more)) (omega (arith, c.requires.all)))
      ];
      items =
          c.in_ok-push-2.ensures.items ∙ ap (λ l. l ++ c.size.result ∷ []) c.in_ok-push.ensures.items ∙ append_assoc c.loop-i.words.items (c.loop-i.name ∷ []) (c.size.result ∷ [])
          ∙ ap (λ l. l ++ c.loop-i.name ∷ c.size.result ∷ []) i.items ∙ append_assoc old (block_words (drop k bs)) (c.loop-i.name ∷ c.size.result ∷ [])
          ∙ ap (λ l. old ++ (block_words (drop k bs) ++ l)) (ap₂ (λ (x y : ℕ). x ∷ y ∷ []) (sym r.named) size) ∙ ap (λ l. old ++ block_words l) (sym passed);
    }
