use Rattle.std.proofs.Common.{◌≡◌, ℕ, ◌++◌, ◌∙◌, List, [], ap, chars, codes}
use Rattle.std.specs.Prelude.{string_bytes}
use Rattle.offset_pictures.specs.Titles.{escaped, heading_tag, quarters, size_of}
use Rattle.offset_pictures.proofs.Texts.{goes_on, is_begun, is_ended}
use Rattle.offset_pictures.proofs.titles.put_heading.Goals as goal

pub returns : goal.returns
returns c =
    let old : List ℕ = string_bytes c.args.out.now in
    let title : List ℕ = c.args.title.now in
    let t : List ℕ = codes "<text class='big' x='24' y='28'" in
    let size : List ℕ = size_of (quarters (chars title)) in
    let end : List ℕ = codes "</text>\n" in
    let begun = is_begun t [] old (string_bytes c.write.new.self) c.in_ok-write.ensures.bytes in
    let sized : string_bytes c.put_size.new.out ≡ string_bytes c.write.new.self ++ size = c.in_ok-put_size.ensures ∙ ap (λ (n : ℕ). string_bytes c.write.new.self ++ size_of n) c.quarters.ensures in
    let e₁ : string_bytes c.put_size.new.out ≡ old ++ (t ++ size) = goes_on t size [] old _ _ begun sized in
    let e₂ : string_bytes c.write-2.new.self ≡ old ++ heading_tag title = goes_on (t ++ size) (codes ">") [] old _ _ e₁ c.in_ok-write-2.ensures.bytes in
    let e₃ : string_bytes c.put_escaped.new.out ≡ old ++ (heading_tag title ++ escaped title) = goes_on (heading_tag title) (escaped title) [] old _ _ e₂ c.in_ok-put_escaped.ensures in
    is_ended c.writeln.result (heading_tag title ++ escaped title) end [] old _ (string_bytes c.writeln.new.self) e₃ c.writeln.ensures.bytes
