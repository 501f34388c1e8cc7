use Rattle.offset_script.proofs.Common.{◌≡◌, ◌++◌, map, take, flat_map, answer_view, text_of}
use Rattle.offset_script.proofs.answer_text.Pieces.pieces.Given as goal

-- the text so far
abbrev pub invariant-loop-answer : goal.invariant-loop-answer
invariant-loop-answer l =
    flat_map (λ piece. piece.items) l.closed.items ++ l.last.items ≡ flat_map (λ piece. piece.items) l.initial.closed.items ++ l.initial.last.items
    ++ text_of (map answer_view (take l.answer-index l.answer-items))
