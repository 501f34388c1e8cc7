use Rattle.offset_allocator.proofs.Common.{◌≡◌, ◌∙◌, ◌∷◌, ◌++◌, [], ap, sym, take, take_more, take_all, get_or, arith, List, ℕ}
use Rattle.offset_allocator.proofs.Saving.Bytes.{length-in, word_at}
use Rattle.offset_allocator.specs.Saving.State.{words_in}
use Rattle.offset_allocator.proofs.states.state.words_of.Goals as goal

pub loop-i-preserved : goal.loop-i-preserved
loop-i-preserved c =
    let bs : List ℕ = c.args.bytes.now in
    let i : ℕ = c.loop-i.i in
    let h = length-in bs in
    let word : c.from_le_bytes-word.result ≡ get_or (words_in bs) i 0 = c.from_le_bytes-word.ensures ∙ sym (word_at bs i (omega (arith, c.loop-i-test.true))) in
    c.in_ok-push.ensures.items ∙ ap (λ l. l ++ c.from_le_bytes-word.result ∷ []) c.loop-i.invariant ∙ ap (λ w. take i (words_in bs) ++ w ∷ []) word
    ∙ sym (take_more (words_in bs) i 0 (omega (arith, h.1, c.loop-i-test.true)))

pub returns : goal.returns
returns c = c.loop-i.invariant ∙ take_all c.loop-i.i (words_in c.args.bytes.now) (omega (arith, (length-in c.args.bytes.now).0, c.loop-i-test.false))
