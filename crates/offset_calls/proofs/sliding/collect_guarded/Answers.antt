use Rattle.offset_calls.proofs.{Common.◌≡◌, Common.◌++◌, Common.◌∷◌, Common.[], Common.false, Common.map, Common.rules, Common.ap, Common.sym, Common.subst, Collected.given, Collected.all_seen}
use Rattle.offset_calls.specs.Slides.{IsSlid, named_move}
use Rattle.offset_calls.proofs.sliding.collect_guarded.Goals as goal

pub returns-clause-step : goal.returns-clause-step
returns-clause-step g c =
    let t = c.slide_guarded.ensures.step in
    given
    (all_seen _ (λ q. q.0.now) (λ q. q.0.ghost_name) (λ m. m.is_refused) (λ m. map named_move m.found.items)
    (λ p x q k.
    let s : q.0.now.is_refused ≡ false → (p.0.now.is_refused ≡ false)
    × (map named_move q.0.now.found.items ≡ map named_move p.0.now.found.items ++ record { name = g.NI.NonMax.NodeIndexNonMax.number k.0.name; from = k.0.from; to = k.0.to; size = k.0.size } ∷ []) =
    search rules in
    let n : q.0.ghost_name ≡ p.0.ghost_name = search rules in
    ((λ h. let r = s h in (r.0, _, k.1, r.1)), n)) t.0 _ _ t.1 (ap (map named_move) c.requires.none)) (λ ran.
    let f : c.slide_guarded.new.report.0.now.is_refused ≡ false
    → IsSlid c.args.call c.args.space.now.space c.slide_guarded.result c.slide_guarded.new.space.space (map named_move c.slide_guarded.new.report.0.now.found.items) =
    λ h. subst (IsSlid c.args.call c.args.space.now.space c.slide_guarded.result c.slide_guarded.new.space.space) (sym (ran.0 h)) t.2 in
    search (rules, ran.1, f))
