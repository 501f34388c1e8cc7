use Rattle.std.proofs.Common.{arith, ◌≡◌, ◌≤◌, ◌∙◌, ◌-◌, length, length-drop, drop, ap, sym, rules}
use Rattle.std.proofs.lemmas.Slice.{overwrites}
use Rattle.std.specs.Str.{is_utf8}
use Rattle.offset_script.proofs.Written.{text_before, pasted}
use Rattle.offset_script.proofs.buffer.TextBuffer.prepend.Goals as goal

pub invariant_of-self : goal.invariant_of-self
invariant_of-self g c =
    let view : length (drop c.self.inside.start c.self.inside.room) ≡ length c.args.self.now = ap length c.self.view_is in
    let room : length c.args.text.now ≤ c.self.inside.start = omega (arith, view, c.requires, c.self.invariant.0, c.self.invariant.1, length-drop c.self.inside.start c.self.inside.room) in
    let new : c.copy_from_slice.new.self ≡ c.args.text.now = c.copy_from_slice.ensures.after ∙ c.as_bytes.ensures.value in (
      omega (arith, c.self.invariant.0),
      search (rules, overwrites),
      text_before c.args.text.now c.args.self.now _
          (pasted (c.self.inside.start - length c.args.text.now) c.self.inside.start _ c.self.inside.room c.copy_from_slice.new.self c.args.text.now c.args.self.now new
          (omega arith) (omega (arith, c.self.invariant.0, c.self.invariant.1))
          c.self.view_is)
          c.utf8.text (sym (ap is_utf8 c.self.view_is) ∙ c.self.invariant.2),
    )
