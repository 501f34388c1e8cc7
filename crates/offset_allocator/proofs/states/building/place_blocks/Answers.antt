use Rattle.offset_allocator.proofs.{Saving.Backwards.last_case, Tallies.one-same, Saving.Firsts.count_read, Saving.Firsts.last_read}
use Rattle.offset_allocator.proofs.Common.{◌≡◌, ◌∙◌, ◌+◌, ◌*◌, ap, sym, refl, ℕ, ◌<◌, List, [], ◌∷◌, Block, used_block, length, take, take_all, get_or, arith, one, inl, inr}
use Rattle.offset_allocator.proofs.Saving.StateWords.{words_next, some_of, same_units, length-words}
use Rattle.offset_allocator.specs.Saving.State.{block_words}
use Rattle.offset_allocator.proofs.states.building.place_blocks.Goals as goal
use Rattle.offset_allocator.proofs.states.building.place_blocks.Goals.{then-name-nodes-via-then-name-nodes, then-name-nodes-via-else-name-nodes+then-used}

pub loop-i-init : goal.loop-i-init
loop-i-init g c = record {
  blocks = [];
  back = record { row = tt; used = refl; marks = λ x. sym (ap one (c.requires.idle x)) };
  words = refl;
  next = sym c.no_link-next.ensures.link;
  last = λ n. absurd (n refl);
  whole = omega arith;
  made = λ n m h. h;
  nodes = refl;
}

-- the words of one block more, and the blocks that they are of
more : (ws : List ℕ) (bs : List Block) (i : ℕ) → block_words bs ≡ take (2 * i) ws → 2 * i + 1 < length ws
    → block_words (used_block (get_or ws (2 * i) 0) (get_or ws (2 * i + 1) 0) ∷ bs) ≡ take (2 * (i + 1)) ws
more ws bs i e l = words_next bs ws i _ _ e l refl refl

pub returns-then-name-nodes-clause-wrong : goal.returns-then-name-nodes-clause-wrong
returns-then-name-nodes-clause-wrong g c _ vs words whole once below =
    let i = c.loop-i.invariant in
    let ws : List ℕ = c.args.words.now in
    let name : ℕ = get_or ws (2 * c.loop-i.i) 0 in
    let long = length-words vs in
    let inside : 2 * c.loop-i.i + 1 < length ws = omega (arith, c.loop-i-test.true) in
    let some = some_of name (c.loop-i.i + 1) (used_block name (get_or ws (2 * c.loop-i.i + 1) 0) ∷ i.blocks) vs (more ws i.blocks c.loop-i.i i.words inside
    ∙ ap (take (2 * (c.loop-i.i + 1))) (sym words)) (omega (arith, long, ap length words, inside)) in
    elim c.then-name-nodes.branch [
      | then-name-nodes-via-then-name-nodes w ↦ omega (arith, some.0, one-same name, below name (omega (arith, w.if-name-nodes.true, c.len-nodes.ensures)))
      | then-name-nodes-via-else-name-nodes+then-used w ↦
          omega (arith, some.0, one-same name, once name, i.back.marks name, ap one (sym w.used.ensures.cell ∙ w.if-used.true))
    ]

pub returns-then-units-left-clause-wrong : goal.returns-then-units-left-clause-wrong
returns-then-units-left-clause-wrong g c _ vs words whole once below =
    let i = c.loop-i.invariant in
    let ws : List ℕ = c.args.words.now in
    let inside : 2 * c.loop-i.i + 1 < length ws = omega (arith, c.loop-i-test.true) in
    let some = some_of 0 (c.loop-i.i + 1) (used_block (get_or ws (2 * c.loop-i.i) 0) (get_or ws (2 * c.loop-i.i + 1) 0) ∷ i.blocks) vs (more ws i.blocks c.loop-i.i i.words inside
    ∙ ap (take (2 * (c.loop-i.i + 1))) (sym words)) (omega (arith, length-words vs, ap length words, inside)) in
    omega (arith, some.1, i.whole, whole, c.if-units-left.true)

pub loop-i-preserved : goal.loop-i-preserved
loop-i-preserved g c =
    let i = c.loop-i.invariant in
    let ws : List ℕ = c.args.words.now in
    let name : ℕ = get_or ws (2 * c.loop-i.i) 0 in
    let units : ℕ = get_or ws (2 * c.loop-i.i + 1) 0 in
    let inside : 2 * c.loop-i.i + 1 < length ws = omega (arith, c.loop-i-test.true) in
    record {
      blocks = used_block name units ∷ i.blocks;
      back = c.prepend.ensures.back c.loop-i.left i.blocks i.back i.next (omega (arith, c.if-units-left.false));
      words = more ws i.blocks c.loop-i.i i.words inside;
      next = sym c.link_to-next.ensures;
      last = λ n. last_case _ name c.loop-i.last _ (used_block name units) i.blocks i.next c.prepend.ensures.only (c.prepend.ensures.last i.blocks i.next) i.last refl;
      whole = omega (arith, i.whole, c.if-units-left.false);
      made = λ n m h. c.prepend.ensures.made n m (i.made n m h);
      nodes = c.prepend.ensures.nodes ∙ i.nodes;
    }

pub returns-then-left-ne0-clause-wrong : goal.returns-then-left-ne0-clause-wrong
returns-then-left-ne0-clause-wrong g c _ vs words whole once below =
    let i = c.loop-i.invariant in
    let all : block_words i.blocks ≡ block_words vs = i.words ∙ take_all (2 * c.loop-i.i) c.args.words.now (omega (arith, c.loop-i-test.false, c.requires.even)) ∙ sym words in
    absurd (omega (arith, i.whole, whole, same_units i.blocks vs all, c.if-left-ne0.true))

pub returns-then-name-nodes-clause-fault : goal.returns-then-name-nodes-clause-fault
returns-then-name-nodes-clause-fault g c =
    let i = c.loop-i.invariant in
    let ws : List ℕ = c.args.words.now in
    let name : ℕ = get_or ws (2 * c.loop-i.i) 0 in
    let inside : 2 * c.loop-i.i + 1 < length ws = omega (arith, c.loop-i-test.true) in
    let long = count_read i.blocks ws c.loop-i.i i.words (omega (arith, inside)) in (
      i.blocks,
      last_read _ c.args.size c.loop-i.i ws i.back (sym i.nodes) long i.words (omega (arith, i.whole)),
      inl (
        omega (arith, long),
        omega (arith, inside),
        elim c.then-name-nodes.branch [
          | then-name-nodes-via-then-name-nodes w ↦ inl (omega (arith, w.if-name-nodes.true, c.len-nodes.ensures))
          | then-name-nodes-via-else-name-nodes+then-used w ↦ inr (omega (arith, i.back.marks name, ap one (sym w.used.ensures.cell ∙ w.if-used.true)))
        ],
      ),
    )

pub returns-then-units-left-clause-fault : goal.returns-then-units-left-clause-fault
returns-then-units-left-clause-fault g c =
    let i = c.loop-i.invariant in
    let ws : List ℕ = c.args.words.now in
    let name : ℕ = get_or ws (2 * c.loop-i.i) 0 in
    let inside : 2 * c.loop-i.i + 1 < length ws = omega (arith, c.loop-i-test.true) in
    let long = count_read i.blocks ws c.loop-i.i i.words (omega (arith, inside)) in (
      i.blocks,
      last_read _ c.args.size c.loop-i.i ws i.back (sym i.nodes) long i.words (omega (arith, i.whole)),
      inr (inl (
        omega (arith, long),
        inside,
        λ taken. elim (rw long at taken) [
          | inl far ↦ omega (arith, far, c.if-name-nodes.false, c.len-nodes.ensures)
          | inr there ↦ omega (arith, there, i.back.marks name, ap one (sym c.used.ensures.cell ∙ c.if-used.false))
        ],
        omega (arith, i.whole, c.if-units-left.true),
      )),
    )

pub returns-then-left-ne0-clause-fault : goal.returns-then-left-ne0-clause-fault
returns-then-left-ne0-clause-fault g c =
    let i = c.loop-i.invariant in
    let ws : List ℕ = c.args.words.now in
    let end : 2 * c.loop-i.i ≡ length ws = omega (arith, c.loop-i-test.false, c.requires.even) in
    let long = count_read i.blocks ws c.loop-i.i i.words (omega (arith, end)) in (
      i.blocks,
      last_read _ c.args.size c.loop-i.i ws i.back (sym i.nodes) long i.words (omega (arith, i.whole)),
      inr (inr (omega (arith, c.requires.some), omega (arith, long, end), omega (arith, i.whole, c.if-left-ne0.true))),
    )
