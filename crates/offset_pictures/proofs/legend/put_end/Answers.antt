use Rattle.std.proofs.Common.{◌≡◌, ◌++◌, ◌∙◌, Bool, List, [], ◌∷◌, ℕ, codes, ap, lt-ltb, le-ltb, nat_lt, if◌then◌else◌}
use Rattle.std.specs.Prelude.{string_bytes}
use Rattle.offset_pictures.specs.declared.figures.Figures.{Figures}
use Rattle.offset_pictures.specs.Numerals.{grouped_text, pixels_text}
use Rattle.offset_pictures.proofs.Texts.{is_begun, goes_on, is_ended, is_put, is_left_out}
use Rattle.offset_pictures.proofs.legend.put_end.Goals as goal
use Rattle.offset_pictures.proofs.legend.put_end.Goals.{then-figures-end+in_ok-write+in_ok-writeln-2, else-figures-end}

pub returns : goal.returns
returns c =
    let f : Figures = c.args.figures.now in
    let old : List ℕ = string_bytes c.args.out.now in
    let mid : List ℕ = string_bytes c.writeln.new.self in
    let t : List ℕ = codes "<text class='end' x='112' y='139'>unit</text>\n" in
    let a : List ℕ = codes "<path class='out' d='M120 127h16v14h-16z'/>" in
    let b : List ℕ = codes "<text x='142' y='139'>not in the space yet</text>\n" in
    let begun : mid ≡ old ++ t = is_begun t [] old mid c.in_ok-writeln.ensures.bytes in
    let later : Bool = nat_lt f.first_size c.args.end in
    let keyed : string_bytes c.if-figures-end.out ≡ old ++ (t ++ (if later then a ++ b else [])) =
    elim c.if-figures-end.branch [
      | then-figures-end+in_ok-write+in_ok-writeln-2 w ↦ is_put later t (a ++ b) old mid _ (lt-ltb _ _ w.if-figures-end.true) begun
          (ap string_bytes w.out-is ∙ goes_on a b [] mid _ _ w.in_ok-write.ensures.bytes w.in_ok-writeln-2.ensures.bytes)
      | else-figures-end w ↦ is_left_out later t (a ++ b) old mid _ (le-ltb _ _ w.if-figures-end.false) begun (ap string_bytes w.out-is)
    ] in
    is_ended c.writeln-2.result (t ++ (if later then a ++ b else [])) (codes "<text class='end' x='") (pixels_text 117000 ∷ codes "' y='139'>the space ends at " ∷ grouped_text f.largest_size
    ∷ codes "</text>\n" ∷ []) old
    (string_bytes c.if-figures-end.out) (string_bytes c.writeln-2.new.self) keyed c.writeln-2.ensures.bytes
