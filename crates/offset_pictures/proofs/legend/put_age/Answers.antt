use Rattle.std.proofs.Common.{◌++◌, ◌+◌, ◌*◌, List, [], ◌∷◌, ℕ, codes}
use Rattle.std.specs.{Prelude.string_bytes, Fmt.decimal}
use Rattle.offset_pictures.specs.Numerals.{pixels_text}
use Rattle.offset_pictures.proofs.Texts.{is_begun, is_ended}
use Rattle.offset_pictures.proofs.legend.put_age.Goals as goal

pub returns : goal.returns
returns c =
    let age : ℕ = c.args.age in
    let a : List ℕ = codes "<path class='age" in
    let begun = is_begun a (decimal (age + 1) ∷ codes "' d='M" ∷ pixels_text (12000 + age * 11500) ∷ codes " 101h16v14h-16z'/>" ∷ []) (string_bytes c.args.out.now) (string_bytes c.write.new.self)
    c.in_ok-write.ensures.bytes in
    is_ended c.writeln.result (a ++ decimal (age + 1) ++ codes "' d='M" ++ pixels_text (12000 + age * 11500) ++ codes " 101h16v14h-16z'/>") (codes "<text x='")
    (pixels_text (12000 + age * 11500 + 2200) ∷ codes "' y='113'>" ∷ c.args.name.now ∷ codes "</text>\n" ∷ []) (string_bytes c.args.out.now) (string_bytes c.write.new.self)
    (string_bytes c.writeln.new.self) begun
    c.writeln.ensures.bytes
