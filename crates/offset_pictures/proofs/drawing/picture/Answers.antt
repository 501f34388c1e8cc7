use Rattle.std.specs.Prelude.{string_bytes}
use Rattle.offset_pictures.specs.Picture.{IsPicture, IsPictureOf}
use Rattle.offset_script.specs.Running.{as_plan}
use Rattle.offset_pictures.proofs.Drawn.{ok_more}
use Rattle.offset_pictures.proofs.drawing.picture.Goals as goal

pub returns : goal.returns
returns c =
    ok_more c.picture_of.result (λ text. IsPictureOf c.args.title.now c.in_ok-course_of.field-0 (string_bytes text))
    (λ text. IsPicture c.args.title.now (as_plan c.args.script.now) (string_bytes text))
    (λ text h. record {
      course = c.in_ok-course_of.field-0;
      is_course = c.in_ok-course_of.ensures.course;
      is_picture = h;
    }) c.picture_of.ensures
