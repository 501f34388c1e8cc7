use Rattle.std.proofs.Common.{◌≡◌, ◌++◌, ◌<◌, List, ℕ, ◌≤◌, Bool, true, false, codes, nat_lt, if◌then◌else◌, arith, ap, ap₂, ◌∙◌, sym, subst, lt-ltb}
use Rattle.std.proofs.lemmas.Bool.Decides.{nat_tests}
use Rattle.std.specs.{Prelude.OnOk, Prelude.string_bytes, Fmt.decimal}
use Rattle.offset_pictures.specs.declared.living.Life.{Life}
use Rattle.offset_pictures.specs.Numerals.{counted_from_1}
use Rattle.offset_pictures.proofs.Pieces.{ten_pieces}
use Rattle.offset_pictures.proofs.rectangles.put_title.Goals as goal
use Rattle.offset_pictures.proofs.rectangles.put_title.Goals.{then-last-calls, else-last-calls}

is_less : (calls m n : ℕ) → m ≡ n → calls < m → nat_lt calls n ≡ true
is_less calls m n is h = lt-ltb calls n (omega arith)

is_more : (calls m n : ℕ) → m ≡ n → m ≤ calls → nat_lt calls n ≡ false
is_more calls m n is h = grind (arith, nat_tests)

then_piece : (b : Bool) (x y e p l : List ℕ) → l ≡ x ++ p → p ≡ e → b ≡ true → l ≡ (if b then x else y) ++ e
then_piece b x y e p l put was is = put ∙ ap₂ (λ (c : Bool) (t : List ℕ). (if c then x else y) ++ t) (sym is) was

else_piece : (b : Bool) (x y e p l : List ℕ) → l ≡ y ++ p → p ≡ e → b ≡ false → l ≡ (if b then x else y) ++ e
else_piece b x y e p l put was is = put ∙ ap₂ (λ (c : Bool) (t : List ℕ). (if c then x else y) ++ t) (sym is) was

pub returns : goal.returns
returns c =
    let life : Life = c.args.life.now in
    let n = counted_from_1 life.last in
    let end = codes "</title></rect>\n" in
    let at_end : c.prepend.new.self ≡ end = c.prepend.ensures ∙ ap (λ (t : List ℕ). end ++ t) c.new-line.ensures in
    let is : c.saturating_add-last.result ≡ n = c.saturating_add-last.ensures in
    let first : c.saturating_add.result ≡ counted_from_1 life.first = c.saturating_add.ensures in
    let last = λ (b : Bool). if b then codes "end" else decimal n in
    let line : c.if-last-calls.line ≡ last (nat_lt c.args.calls n) ++ end =
    elim c.if-last-calls.branch [
      | then-last-calls w ↦ then_piece _ (codes "end") (decimal n) end _ _ (w.line-is ∙ w.prepend-then-last-calls.ensures) at_end (is_less c.args.calls _ _ is w.if-last-calls.true)
      | else-last-calls w ↦ else_piece _ (codes "end") (decimal n) end _ _ (w.line-is ∙ w.prepend_number.ensures.text ∙ ap (λ (x : ℕ). decimal x ++ c.prepend.new.self) is) at_end
          (is_more c.args.calls _ _ is w.if-last-calls.false)
    ] in
    let text = ten_pieces (last (nat_lt c.args.calls n)) (codes "-") (decimal (counted_from_1 life.first)) (codes ", calls ") (decimal life.size) (codes ", size ") (decimal life.offset)
    (codes ", offset ") (decimal life.number) (codes "<title>grant ")
    end _ _ _ _ _ _ _ _ _ _
    line c.prepend-2.ensures (c.prepend_number-2.ensures.text ∙ ap (λ x. decimal x ++ c.prepend-2.new.self) first) c.prepend-3.ensures (c.prepend_number-3.ensures.text
    ∙ ap (λ x. decimal x ++ c.prepend-3.new.self) c.from.ensures)
    c.prepend-4.ensures (c.prepend_number-4.ensures.text ∙ ap (λ x. decimal x ++ c.prepend-4.new.self) c.from-2.ensures) c.prepend-5.ensures c.prepend_number-5.ensures.text c.prepend-6.ensures in
    subst (λ (t : List ℕ). OnOk c.put_piece.result (string_bytes c.put_piece.new.out ≡ string_bytes c.args.out.now ++ t)) text c.put_piece.ensures
