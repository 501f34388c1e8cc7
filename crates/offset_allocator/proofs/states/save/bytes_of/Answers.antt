use Rattle.offset_allocator.proofs.Common.{◌≡◌, ◌++◌, ◌∷◌, [], ◌∙◌, ℕ, List, ap, sym, take, take_more, get_or, arith, w32}
use Rattle.std.specs.Int.{to_le_bytes}
use Rattle.offset_allocator.proofs.Saving.Bytes.{four_pushed, word_added}
use Rattle.offset_allocator.proofs.states.save.bytes_of.Goals as goal

pub loop-word-preserved : goal.loop-word-preserved
loop-word-preserved c =
    let i = c.loop-word.invariant in
    let ws : List ℕ = c.args.words.now in
    let n : ℕ = get_or ws c.loop-word.word-index 0 in
    let b : List ℕ = c.to_le_bytes.result in
    let pushed : c.push-in-loop-word-3.new.self.items ≡ c.loop-word.bytes.items ++ to_le_bytes w32 n =
    c.in_ok-push-4.ensures.items
    ∙ ap (λ l. l ++ get_or b 3 0 ∷ []) (c.in_ok-push-3.ensures.items ∙ ap (λ l. l ++ get_or b 2 0 ∷ []) (c.in_ok-push-2.ensures.items ∙ ap (λ l. l ++ get_or b 1 0 ∷ []) c.in_ok-push.ensures.items))
    ∙ four_pushed c.loop-word.bytes.items (get_or b 0 0) (get_or b 1 0) (get_or b 2 0) (get_or b 3 0)
    ∙ ap (λ (k : List ℕ). c.loop-word.bytes.items ++ get_or k 0 0 ∷ get_or k 1 0 ∷ get_or k 2 0 ∷ get_or k 3 0 ∷ []) c.to_le_bytes.ensures in
    let r = word_added c.loop-word.word-index n c.loop-word.bytes.items (take c.loop-word.word-index ws) c.push-in-loop-word-3.new.self.items i.long i.words (omega (
      arith,
      c.type_inv.words c.loop-word.word-index,
    )) pushed in
    record { words = r.0 ∙ sym (take_more ws c.loop-word.word-index 0 (omega arith)); long = r.1 }
