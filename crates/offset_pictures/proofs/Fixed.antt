-- A course fixes its figures.
use Rattle.std.proofs.Common.{◌≡◌, ℕ, ◌<◌, ◌∙◌, sym, ap, arith}
use Rattle.offset_pictures.specs.declared.figures.Figures.{Figures}
use Rattle.offset_pictures.specs.Figures.{IsFirstLargest, IsFirstSmallest, counted, free_after, live_after, region_after, size_after, states, used_after}
use Rattle.offset_pictures.specs.Picture.{FiguresAreFixed}

-- there is one first state with the largest value, and one with the smallest
none_before : (v : ℕ → ℕ) (n s t : ℕ) → IsFirstLargest v n s → IsFirstLargest v n t → s < t → ⊥
none_before v n s t a b l = let last = b.0 in let least = a.1 t (omega arith) in let less = b.2 s l in omega arith

one_largest : (v : ℕ → ℕ) (n s t : ℕ) → IsFirstLargest v n s → IsFirstLargest v n t → s ≡ t
one_largest v n s t a b = let x : s < t → ⊥ = none_before v n s t a b in let y : t < s → ⊥ = none_before v n t s b a in omega arith

none_below : (v : ℕ → ℕ) (n s t : ℕ) → IsFirstSmallest v n s → IsFirstSmallest v n t → s < t → ⊥
none_below v n s t a b l = let last = b.0 in let most = a.1 t (omega arith) in let more = b.2 s l in omega arith

one_smallest : (v : ℕ → ℕ) (n s t : ℕ) → IsFirstSmallest v n s → IsFirstSmallest v n t → s ≡ t
one_smallest v n s t a b = let x : s < t → ⊥ = none_below v n s t a b in let y : t < s → ⊥ = none_below v n t s b a in omega arith

abbrev figures_with : ℕ → ℕ → ℕ → ℕ → ℕ → ℕ → ℕ → ℕ → ℕ → ℕ → ℕ → ℕ → ℕ → Figures
figures_with n0 n1 n2 n3 n4 n5 n6 n7 n8 n9 n10 n11 n12 =
    record {
      calls = n0;
      grants = n1;
      refusals = n2;
      most_live = n3;
      most_used = n4;
      size_then = n5;
      first_size = n6;
      largest_size = n7;
      highest = n8;
      worst = n9;
      worst_region = n10;
      worst_free =
          n11;
      full_states = n12;
    }

same_figures : (f g : Figures) → f.calls ≡ g.calls → f.grants ≡ g.grants → f.refusals ≡ g.refusals → f.most_live ≡ g.most_live → f.most_used ≡ g.most_used → f.size_then ≡ g.size_then → f.first_size
    ≡ g.first_size → f.largest_size ≡ g.largest_size → f.highest ≡ g.highest → f.worst ≡ g.worst → f.worst_region ≡ g.worst_region → f.worst_free ≡ g.worst_free → f.full_states ≡ g.full_states → f ≡ g
same_figures f g e0 e1 e2 e3 e4 e5 e6 e7 e8 e9 e10 e11 e12 =
    ap (λ (x : ℕ). figures_with x f.grants f.refusals f.most_live f.most_used f.size_then f.first_size f.largest_size f.highest f.worst f.worst_region f.worst_free f.full_states) e0
    ∙ ap (λ (x : ℕ). figures_with g.calls x f.refusals f.most_live f.most_used f.size_then f.first_size f.largest_size f.highest f.worst f.worst_region f.worst_free f.full_states) e1
    ∙ ap (λ (x : ℕ). figures_with g.calls g.grants x f.most_live f.most_used f.size_then f.first_size f.largest_size f.highest f.worst f.worst_region f.worst_free f.full_states) e2
    ∙ ap (λ (x : ℕ). figures_with g.calls g.grants g.refusals x f.most_used f.size_then f.first_size f.largest_size f.highest f.worst f.worst_region f.worst_free f.full_states) e3
    ∙ ap (λ (x : ℕ). figures_with g.calls g.grants g.refusals g.most_live x f.size_then f.first_size f.largest_size f.highest f.worst f.worst_region f.worst_free f.full_states) e4
    ∙ ap (λ (x : ℕ). figures_with g.calls g.grants g.refusals g.most_live g.most_used x f.first_size f.largest_size f.highest f.worst f.worst_region f.worst_free f.full_states) e5
    ∙ ap (λ (x : ℕ). figures_with g.calls g.grants g.refusals g.most_live g.most_used g.size_then x f.largest_size f.highest f.worst f.worst_region f.worst_free f.full_states) e6
    ∙ ap (λ (x : ℕ). figures_with g.calls g.grants g.refusals g.most_live g.most_used g.size_then g.first_size x f.highest f.worst f.worst_region f.worst_free f.full_states) e7
    ∙ ap (λ (x : ℕ). figures_with g.calls g.grants g.refusals g.most_live g.most_used g.size_then g.first_size g.largest_size x f.worst f.worst_region f.worst_free f.full_states) e8
    ∙ ap (λ (x : ℕ). figures_with g.calls g.grants g.refusals g.most_live g.most_used g.size_then g.first_size g.largest_size g.highest x f.worst_region f.worst_free f.full_states) e9
    ∙ ap (λ (x : ℕ). figures_with g.calls g.grants g.refusals g.most_live g.most_used g.size_then g.first_size g.largest_size g.highest g.worst x f.worst_free f.full_states) e10
    ∙ ap (λ (x : ℕ). figures_with g.calls g.grants g.refusals g.most_live g.most_used g.size_then g.first_size g.largest_size g.highest g.worst g.worst_region x f.full_states) e11
    ∙ ap (λ (x : ℕ). figures_with g.calls g.grants g.refusals g.most_live g.most_used g.size_then g.first_size g.largest_size g.highest g.worst g.worst_region g.worst_free x) e12

pub figures_law : FiguresAreFixed
figures_law c f g a b =
    let la = a.live in
    let lb = b.live in
    let ua = a.used in
    let ub = b.used in
    let sa = a.size in
    let sb = b.size in
    let wa = a.worst in
    let wb = b.worst in
    let live : la.0 ≡ lb.0 = one_largest (live_after c) (states c) la.0 lb.0 la.1 lb.1 in
    let used : ua.0 ≡ ub.0 = one_largest (used_after c) (states c) ua.0 ub.0 ua.1 ub.1 in
    let size : sa.0 ≡ sb.0 = one_largest (size_after c) (states c) sa.0 sb.0 sa.1 sb.1 in
    let worst : wa.0 ≡ wb.0 = one_smallest (region_after c) (states c) wa.0 wb.0 wa.1 wb.1 in
    same_figures f g (a.totals.calls ∙ sym b.totals.calls) (a.totals.grants ∙ sym b.totals.grants) (a.totals.refusals ∙ sym b.totals.refusals) (la.2 ∙ ap (live_after c) live ∙ sym lb.2)
    (ua.2 ∙ ap (used_after c) used ∙ sym ub.2) (ua.3 ∙ ap (size_after c) used ∙ sym ub.3) (a.totals.first_size ∙ sym b.totals.first_size) (sa.2 ∙ ap (size_after c) size ∙ sym sb.2)
    (a.totals.highest ∙ sym b.totals.highest) (wa.2 ∙ ap counted worst ∙ sym wb.2) (wa.3 ∙ ap (region_after c) worst ∙ sym wb.3) (wa.4 ∙ ap (free_after c) worst ∙ sym wb.4) (a.full ∙ sym b.full)
