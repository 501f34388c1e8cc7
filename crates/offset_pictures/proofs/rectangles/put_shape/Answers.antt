use Rattle.std.proofs.Common.{◌≡◌, ◌++◌, ◌&&◌, Bool, [], codes, nat_le, if◌then◌else◌, ap, ◌∙◌, sym}
use Rattle.offset_pictures.specs.declared.rectangles.Frame.{Frame}
use Rattle.offset_pictures.specs.{Numerals.pixels_text, Rectangles.rectangle_text}
use Rattle.offset_pictures.proofs.Pieces.{both_tests, ten_pieces}
use Rattle.offset_pictures.proofs.rectangles.put_shape.Goals as goal
use Rattle.offset_pictures.proofs.rectangles.put_shape.Goals.{then-has_edge, else-has_edge}

pub returns : goal.returns
returns c =
    let f : Frame = c.frame_of-frame.result in
    let test = both_tests 300 f.width f.height c.has_edge.result c.has_edge.ensures in
    let edge = λ (b : Bool). if b then codes " class='edge'" else [] in
    let first : c.if-has_edge.line ≡ edge (nat_le 300 f.width && nat_le 300 f.height) ++ c.args.line.now =
    elim c.if-has_edge.branch [
      | then-has_edge w ↦ w.line-is ∙ w.prepend.ensures ∙ ap (λ b. edge b ++ c.args.line.now) (sym (test ∙ w.if-has_edge.true))
      | else-has_edge w ↦ w.line-is ∙ ap (λ b. edge b ++ c.args.line.now) (sym (test ∙ w.if-has_edge.false))
    ] in
    ten_pieces (edge (nat_le 300 f.width && nat_le 300 f.height)) (codes "'") (pixels_text f.height) (codes "' height='") (pixels_text f.width) (codes "' width='") (pixels_text f.y) (codes "' y='")
    (pixels_text f.x) (codes "<rect x='")
    _ _ _ _ _ _ _ _ _ _ _
    first c.prepend-2.ensures c.prepend_pixels.ensures.text c.prepend-3.ensures c.prepend_pixels-2.ensures.text c.prepend-4.ensures c.prepend_pixels-3.ensures.text
    c.prepend-5.ensures c.prepend_pixels-4.ensures.text c.prepend-6.ensures
    ∙ ap (λ (g : Frame). rectangle_text g ++ c.args.line.now) c.frame_of-frame.ensures
