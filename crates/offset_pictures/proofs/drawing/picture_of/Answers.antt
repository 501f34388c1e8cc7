use Rattle.std.proofs.Common.{codes}
use Rattle.offset_pictures.specs.{Picture.opening, Picture.style, Titles.escaped, Titles.heading_text}
use Rattle.offset_pictures.proofs.Drawn.{has_title}
use Rattle.offset_pictures.proofs.drawing.picture_of.Goals as goal

pub returns : goal.returns
returns c = record {
  body = c.in_ok-put_body.ensures.0;
  is_body = c.in_ok-put_body.ensures.2;
  is =
      has_title opening (escaped c.args.title.now) (codes "</title>\n") style (heading_text c.args.title.now) c.in_ok-put_body.ensures.0
      (codes "</svg>\n") _ _ _ _ _ _ _
      c.in_ok-out.ensures.ok c.in_ok-put_escaped.ensures c.in_ok-push_str.ensures.bytes c.in_ok-push_str-2.ensures.bytes c.in_ok-put_heading.ensures c.in_ok-put_body.ensures.1
      c.in_ok-push_str-3.ensures.bytes;
}
