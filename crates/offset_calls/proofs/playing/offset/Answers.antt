use Rattle.offset_calls.proofs.Common.{◌≡◌, ℕ, Option, Some, option_map, unwrap_or, false≢true, arith, refl, sym, ap, ◌∙◌, Handle, Range, View}
use Rattle.offset_allocator.specs.{Ranges.IsLive, Ranges.range_of}
use Rattle.offset_script.proofs.Simulation.{if_some}
use Rattle.offset_calls.proofs.playing.offset.Goals as goal

-- where a live name begins
offset_is : (x o : ℕ) (v : View) (r : Option ℕ) → IsLive x v → r ≡ option_map (λ (q : Range). q.offset) (range_of x v) → o ≡ unwrap_or r 0
    → option_map (λ (q : Range). q.offset) (range_of x v) ≡ Some o
offset_is x o v r l e f = search (arith, option_map, false≢true, unwrap_or)

pub returns-in-Some : goal.returns-in-Some
returns-in-Some g c =
    let e = sym c.handle.ensures.name ∙ ap (option_map (λ (h : Handle). h.name)) c.in-Some.is in
    ((refl, refl), if_some _ _ _ _ e (_, offset_is _ _ c.args.player.now.space _ (c.requires _ _ e) c.allocation_offset.ensures c.unwrap_or.ensures, refl))
