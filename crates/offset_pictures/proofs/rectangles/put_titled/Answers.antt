use Rattle.std.proofs.Common.{ℕ, ◌<◌, List, eq-eqb, length, nat_eq, ne_eqb, arith}
use Rattle.std.proofs.lemmas.List.{length_push}
use Rattle.std.proofs.lemmas.Slice.Zip.{length-zip, zip_turn, zip_end}
use Rattle.std.specs.{Prelude.string_bytes, List.zip}
use Rattle.offset_pictures.specs.declared.living.Life.{Life}
use Rattle.offset_pictures.specs.declared.shapes.Shape.{Shape}
use Rattle.offset_pictures.specs.Rectangles.{titled_text}
use Rattle.offset_pictures.proofs.Held.{none_to_come, one_is_left_out, one_is_put, pair_of_zip, titled_is_put}
use Rattle.offset_pictures.proofs.rectangles.put_titled.Goals as goal

pub loop-shape-preserved : goal.loop-shape-preserved
loop-shape-preserved c =
    let shapes : List Shape = c.args.shapes.now in
    let lives : List Life = c.args.lives.now in
    let i : ℕ = length c.loop-shape.yielded in
    let t = zip_turn shapes lives c.loop-shape.yielded _ _ c.next.new.self _ (cc) (cc) c.loop-shape.yielded_by (c.in-Some.shape, c.in-Some.life) c.in-Some.is c.next.ensures.steps in
    let n = length_push c.loop-shape.yielded (c.in-Some.shape, c.in-Some.life) in
    let less : i < length (zip shapes lives) = omega (arith, length-zip shapes lives, t.0, t.1) in
    let is = pair_of_zip shapes lives i c.in-Some.shape.now c.in-Some.life.now t.0 t.1 t.2 t.3 in
    rw n (one_is_left_out (λ (r : Shape × Life). nat_eq r.0.age c.args.age) (titled_text c.args.calls) i _ (c.in-Some.shape.now, c.in-Some.life.now) (zip shapes lives) _ _ less is
    (ne_eqb _ _ c.if-shape-age.false) c.loop-shape.invariant)

pub loop-shape-preserved-in-Continue-branch-2 : goal.loop-shape-preserved-in-Continue-branch-2
loop-shape-preserved-in-Continue-branch-2 c =
    let shapes : List Shape = c.args.shapes.now in
    let lives : List Life = c.args.lives.now in
    let i : ℕ = length c.loop-shape.yielded in
    let t = zip_turn shapes lives c.loop-shape.yielded _ _ c.next.new.self _ (cc) (cc) c.loop-shape.yielded_by (c.in-Some.shape, c.in-Some.life) c.in-Some.is c.next.ensures.steps in
    let n = length_push c.loop-shape.yielded (c.in-Some.shape, c.in-Some.life) in
    let less : i < length (zip shapes lives) = omega (arith, length-zip shapes lives, t.0, t.1) in
    let is = pair_of_zip shapes lives i c.in-Some.shape.now c.in-Some.life.now t.0 t.1 t.2 t.3 in
    let put = titled_is_put c.in-Some.shape.now c.in-Some.life.now c.args.calls (string_bytes c.loop-shape.out) _ _ _ _ _
    c.new-line.ensures c.prepend.ensures c.put_shape.ensures c.in_ok-put_piece.ensures
    c.in_ok-put_title.ensures in
    rw n (one_is_put (λ (r : Shape × Life). nat_eq r.0.age c.args.age) (titled_text c.args.calls) i _ (c.in-Some.shape.now, c.in-Some.life.now) (zip shapes lives) _ _ _ less is
    (eq-eqb _ _ c.if-shape-age.true) put c.loop-shape.invariant)

pub returns : goal.returns
returns c =
    let shapes : List Shape = c.args.shapes.now in
    let lives : List Life = c.args.lives.now in
    let end = zip_end shapes lives c.loop-shape.yielded _ _ c.next.new.self _ (cc) (cc) c.loop-shape.yielded_by c.in-None.is c.next.ensures.steps in
    none_to_come (λ (r : Shape × Life). nat_eq r.0.age c.args.age) (titled_text c.args.calls) (length c.loop-shape.yielded) (zip shapes lives) _ _
    (omega (arith, length-zip shapes lives, end)) c.loop-shape.invariant
