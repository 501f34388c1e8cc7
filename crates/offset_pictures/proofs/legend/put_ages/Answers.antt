use Rattle.std.proofs.Common.{[], codes}
use Rattle.std.specs.Prelude.{string_bytes}
use Rattle.offset_pictures.specs.Legend.{age_key}
use Rattle.offset_pictures.proofs.Texts.{is_begun, goes_on, is_ended}
use Rattle.offset_pictures.proofs.legend.put_ages.Goals as goal

pub returns : goal.returns
returns c =
    let e₀ = is_begun (codes "<text class='end' x='112' y='113'>live for</text>\n") [] (string_bytes c.args.out.now) (string_bytes c.writeln.new.self) c.in_ok-writeln.ensures.bytes in
    let e₁ = goes_on _ (age_key 0 (codes "to 10 calls")) [] (string_bytes c.args.out.now) _ (string_bytes c.put_age.new.out) e₀ c.in_ok-put_age.ensures in
    let e₂ = goes_on _ (age_key 1 (codes "to 30")) [] (string_bytes c.args.out.now) _ (string_bytes c.put_age-2.new.out) e₁ c.in_ok-put_age-2.ensures in
    let e₃ = goes_on _ (age_key 2 (codes "to 100")) [] (string_bytes c.args.out.now) _ (string_bytes c.put_age-3.new.out) e₂ c.in_ok-put_age-3.ensures in
    let e₄ = goes_on _ (age_key 3 (codes "to 300")) [] (string_bytes c.args.out.now) _ (string_bytes c.put_age-4.new.out) e₃ c.in_ok-put_age-4.ensures in
    let e₅ = goes_on _ (age_key 4 (codes "to 1,000")) [] (string_bytes c.args.out.now) _ (string_bytes c.put_age-5.new.out) e₄ c.in_ok-put_age-5.ensures in
    let e₆ = goes_on _ (age_key 5 (codes "to 3,000")) [] (string_bytes c.args.out.now) _ (string_bytes c.put_age-6.new.out) e₅ c.in_ok-put_age-6.ensures in
    let e₇ = goes_on _ (age_key 6 (codes "to 10,000")) [] (string_bytes c.args.out.now) _ (string_bytes c.put_age-7.new.out) e₆ c.in_ok-put_age-7.ensures in
    let e₈ = goes_on _ (age_key 7 (codes "longer")) [] (string_bytes c.args.out.now) _ (string_bytes c.put_age-8.new.out) e₇ c.in_ok-put_age-8.ensures in
    let e₉ = goes_on _ (codes "<path class='refusal' d='M1048 102v12'/>") [] (string_bytes c.args.out.now) _ (string_bytes c.write.new.self) e₈ c.in_ok-write.ensures.bytes in
    is_ended c.writeln-2.result _ (codes "<text x='1062' y='113'>refusal</text>\n") [] (string_bytes c.args.out.now) _ (string_bytes c.writeln-2.new.self) e₉ c.writeln-2.ensures.bytes
