use Rattle.std.proofs.Common.{◌≡◌, ◌≤◌, ◌∙◌, ℕ, List, [], ap, arith, length}
use Rattle.std.proofs.Math.ListN.{replicate}
use Rattle.std.proofs.lemmas.List.{drop_all, length-replicate}
use Rattle.std.proofs.lemmas.Str.{IsUtf8-nil, is_utf8-from_IsUtf8}
use Rattle.std.specs.Str.{is_utf8}
use Rattle.offset_script.proofs.buffer.TextBuffer.new.Goals as goal

pub invariant_of-result : goal.invariant_of-result
invariant_of-result g c =
    let zeros : List ℕ = replicate g.row.ROOM 0 in
    let all : length zeros ≡ g.row.ROOM = length-replicate g.row.ROOM 0 in
    let end : length zeros ≤ g.row.ROOM = omega (arith, all) in
    (omega arith, all, ap is_utf8 (drop_all g.row.ROOM zeros end) ∙ is_utf8-from_IsUtf8 [] IsUtf8-nil)
