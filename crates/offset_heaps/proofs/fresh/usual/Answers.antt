use Rattle.std.proofs.Common.{◌≡◌, ◌++◌, ℕ, List, [], ◌∷◌, Some, ap, arith, length, length-append, refl, subst, sym, ◌∙◌}
use Rattle.offset_allocator.specs.{Relations.Aligns, Relations.IsFresh, View.Block, View.Handle, View.View, View.units}
use Rattle.offset_guarded.specs.Guard.{Guard, handle_in}
use Rattle.offset_heaps.proofs.Rooms.{some_same}
use Rattle.offset_heaps.proofs.fresh.usual.Goals as goal

no_units : (bs : List Block) → length bs ≡ 0 → units bs ≡ 0
no_units [] e = refl
no_units (b ∷ bs) e = absurd (omega (arith, e))

-- the first range of a fresh space begins at 0
first_at : (n size max : ℕ) (v w : View) (h : Handle) → IsFresh size max v → Aligns n 1 v w (Some h) → h.offset ≡ 0
first_at n size max v w h f a =
    let s = a.1 in
    let one : length (s.before ++ s.block ∷ s.after) ≡ 1 = ap length (sym s.blocks) ∙ ap (λ (v : View). length v.blocks) f.view in
    let start = no_units s.before (omega (arith, one, length-append s.before (s.block ∷ s.after))) in
    ap (λ (z : Handle). z.offset) s.grant ∙ omega (arith, start, s.padded)

pub returns-clause-start : goal.returns-clause-start
returns-clause-start g c =
    let by = c.grant_first_in-ticket.ensures in
    first_at c.args.size _ _ by.before.space by.by.0.space (handle_in c.grant_first_in-ticket.result) (subst (λ (z : Guard). IsFresh c.usual_size.result c.args.limits.first_allocs z.space) (some_same _ _ by.was) c.in_ok-with_realm.ensures.space)
    (by.by.1.step (by.by.1.can_grant.0 refl).0)
